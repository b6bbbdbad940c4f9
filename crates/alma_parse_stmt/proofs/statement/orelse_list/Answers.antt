use Rattle.std.proofs.Common.{◌∷◌, refl}
use Rattle.alma_tree.specs.declared.kind.Kind.TheVariants as kinds
use Rattle.alma_tree.specs.Numbers.{number_stmts}
use Rattle.alma_grammar.specs.Parts.{one, stmts_parts}
use Rattle.alma_parse_cursor.proofs.Loops as loops
use Rattle.alma_parse_cursor.proofs.Steps.{passed}
use Rattle.alma_parse_expr.proofs.Stopped.{stopped}
use Rattle.alma_parse_expr.proofs.Heads as heads
use Rattle.alma_parse_expr.proofs.Lists as lists
use Rattle.alma_parse_expr.proofs.Values.{some_stmts}
use Rattle.alma_parse_expr.proofs.Fronts.{part, both, one_more, no_more}
use Rattle.alma_parse_stmt.proofs.statement.orelse_list.Goals as goal

pub loop-after-init : goal.loop-after-init
loop-after-init g c = rw c.new-more.ensures.items loops.loops_start

pub loop-after-preserved : goal.loop-after-preserved
loop-after-preserved g c = one_more lists.orelses (λ o. one kinds.Orelse ∷ stmts_parts o) _ _ c.loop-after.invariant
    (heads.begins_orelses c.in-Some.ensures.passes) c.nested.result _ c.in_ok-at.ensures.pushed
    (both some_stmts number_stmts (part (passed refl refl c.in-Some.ensures.passes)) _ _ c.nested.result c.nested.ensures.read)

pub returns : goal.returns
returns g c = record { read = loops.ended c.loop-after.invariant (heads.skips_orelses _ c.in_default.ensures.passes) }

pub returns-in_err-at : goal.returns-in_err-at
returns-in_err-at g c = record {
  read = stopped _ _ _ _ c.from_residual.ensures.1
      (no_more lists.orelses (λ o. one kinds.Orelse ∷ stmts_parts o) _ _ c.loop-after.invariant
      (heads.begins_orelses c.in-Some.ensures.passes) c.nested.result _ c.in_err-at.ensures.pushed
      (both some_stmts number_stmts (part (passed refl refl c.in-Some.ensures.passes)) _ _ c.nested.result c.nested.ensures.read));
}
