use Rattle.std.proofs.Common.{◌∷◌, refl}
use Rattle.alma_tree.specs.declared.kind.Kind.TheVariants as kinds
use Rattle.alma_tree.specs.Numbers.{number_arm}
use Rattle.alma_grammar.specs.Parts.{one, arm_part}
use Rattle.alma_parse_cursor.proofs.Loops as loops
use Rattle.alma_parse_cursor.proofs.Steps.{passed}
use Rattle.alma_parse_expr.proofs.Stopped.{stopped}
use Rattle.alma_parse_expr.proofs.Heads as heads
use Rattle.alma_parse_expr.proofs.Lists as lists
use Rattle.alma_parse_expr.proofs.Values.{an_arm}
use Rattle.alma_parse_expr.proofs.Fronts.{part, both, one_more, no_more}
use Rattle.alma_parse_stmt.proofs.control.arm_list.Goals as goal

pub loop-after-init : goal.loop-after-init
loop-after-init g c = rw c.new-more.ensures.items loops.loops_start

pub loop-after-preserved : goal.loop-after-preserved
loop-after-preserved g c = one_more lists.arms (λ o. one kinds.Bar ∷ arm_part ∷ o) _ _ c.loop-after.invariant
    (heads.begins_arms c.in-Some.ensures.passes) c.arm.result _ c.in_ok-at.ensures.pushed
    (both an_arm number_arm (part (passed refl refl c.in-Some.ensures.passes)) _ _ c.arm.result c.arm.ensures.read)

pub returns : goal.returns
returns g c = record { read = loops.ended c.loop-after.invariant (heads.skips_arms _ c.in_default.ensures.passes) }

pub returns-in_err-at : goal.returns-in_err-at
returns-in_err-at g c = record {
  read = stopped _ _ _ _ c.from_residual.ensures.1
      (no_more lists.arms (λ o. one kinds.Bar ∷ arm_part ∷ o) _ _ c.loop-after.invariant (heads.begins_arms c.in-Some.ensures.passes)
      c.arm.result _ c.in_err-at.ensures.pushed
      (both an_arm number_arm (part (passed refl refl c.in-Some.ensures.passes)) _ _ c.arm.result c.arm.ensures.read));
}
