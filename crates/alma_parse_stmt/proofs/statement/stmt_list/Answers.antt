use Rattle.std.proofs.Common.{◌∷◌, refl}
use Rattle.alma_tree.specs.declared.kind.Kind.TheVariants as kinds
use Rattle.alma_tree.specs.Numbers.{number_stmt}
use Rattle.alma_grammar.specs.Parts.{one, stmt_part}
use Rattle.alma_parse_cursor.proofs.Loops as loops
use Rattle.alma_parse_cursor.proofs.Steps.{passed}
use Rattle.alma_parse_expr.proofs.Stopped.{stopped}
use Rattle.alma_parse_expr.proofs.Heads as heads
use Rattle.alma_parse_expr.proofs.Lists as lists
use Rattle.alma_parse_expr.proofs.Values.{a_stmt}
use Rattle.alma_parse_expr.proofs.Fronts.{part, both, one_more, no_more}
use Rattle.alma_parse_stmt.proofs.statement.stmt_list.Goals as goal

pub loop-after-init : goal.loop-after-init
loop-after-init g c = rw c.new-more.ensures.items loops.loops_start

pub loop-after-preserved : goal.loop-after-preserved
loop-after-preserved g c = one_more lists.stmts (λ o. one kinds.Semicolon ∷ stmt_part ∷ o) _ _ c.loop-after.invariant
    (heads.begins_stmts c.in-Some.ensures.passes) c.stmt.result _ c.in_ok-at.ensures.pushed
    (both a_stmt number_stmt (part (passed refl refl c.in-Some.ensures.passes)) _ _ c.stmt.result c.stmt.ensures.read)

pub returns : goal.returns
returns g c = record { read = loops.ended c.loop-after.invariant (heads.skips_stmts _ c.in_default.ensures.passes) }

pub returns-in_err-at : goal.returns-in_err-at
returns-in_err-at g c = record {
  read = stopped _ _ _ _ c.from_residual.ensures.1
      (no_more lists.stmts (λ o. one kinds.Semicolon ∷ stmt_part ∷ o) _ _ c.loop-after.invariant
      (heads.begins_stmts c.in-Some.ensures.passes)
      c.stmt.result _ c.in_err-at.ensures.pushed
      (both a_stmt number_stmt (part (passed refl refl c.in-Some.ensures.passes)) _ _ c.stmt.result c.stmt.ensures.read));
}
