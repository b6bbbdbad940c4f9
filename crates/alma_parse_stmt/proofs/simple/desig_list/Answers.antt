use Rattle.std.proofs.Common.{◌∷◌, refl}
use Rattle.alma_tree.specs.declared.kind.Kind.TheVariants as kinds
use Rattle.alma_tree.specs.Numbers.{number_desig}
use Rattle.alma_grammar.specs.Parts.{one}
use Rattle.alma_grammar.specs.Parts.{desig_parts}
use Rattle.alma_parse_cursor.proofs.Loops as loops
use Rattle.alma_parse_cursor.proofs.Steps.{passed}
use Rattle.alma_parse_expr.proofs.Stopped.{stopped}
use Rattle.alma_parse_expr.proofs.Heads as heads
use Rattle.alma_parse_expr.proofs.Lists as lists
use Rattle.alma_parse_expr.proofs.Values.{a_desig}
use Rattle.alma_parse_expr.proofs.Fronts.{part, both, one_more, no_more}
use Rattle.alma_parse_stmt.proofs.simple.desig_list.Goals as goal

pub loop-after-init : goal.loop-after-init
loop-after-init g c = rw c.new-more.ensures.items loops.loops_start

pub loop-after-preserved : goal.loop-after-preserved
loop-after-preserved g c = one_more lists.desigs (λ o. one kinds.Comma ∷ desig_parts o) _ _ c.loop-after.invariant
    (heads.begins_desigs c.in-Some.ensures.passes) c.desig.result _ c.in_ok-at.ensures.pushed
    (both a_desig number_desig (part (passed refl refl c.in-Some.ensures.passes)) _ _ c.desig.result c.desig.ensures.read)

pub returns : goal.returns
returns g c = record { read = loops.ended c.loop-after.invariant (heads.skips_desigs _ c.in_default.ensures.passes) }

pub returns-in_err-at : goal.returns-in_err-at
returns-in_err-at g c = record {
  read = stopped _ _ _ _ c.from_residual.ensures.1
      (no_more lists.desigs (λ o. one kinds.Comma ∷ desig_parts o) _ _ c.loop-after.invariant (heads.begins_desigs c.in-Some.ensures.passes)
      c.desig.result _ c.in_err-at.ensures.pushed
      (both a_desig number_desig (part (passed refl refl c.in-Some.ensures.passes)) _ _ c.desig.result c.desig.ensures.read));
}
