use Rattle.std.proofs.Common.{◌≡◌, ◌∙◌, ℕ, ◌<◌, true, false, ap, sym, arith}
use Rattle.std.specs.Prelude.{◌==◌}
use Rattle.std.proofs.lemmas.Bool.Decides.{nat_tests}
use Rattle.std.proofs.Math.ListN.{drop_of_length-le}
use Rattle.alma_ir.specs.View.{cases_list}
use Rattle.alma_lower_parts.proofs.CaseForms.{dead_here, dead_behind}
use Rattle.alma_lower_parts.proofs.case.has_dead.Goals as goal
use Rattle.alma_lower_templates.specs.Pieces.{has_dead}

none : (n : ℕ) → true ≡ (n == 0) → n ≡ 0
none n h = grind (arith, nat_tests)

some : (n : ℕ) → false ≡ (n == 0) → 0 < n
some n h = grind (arith, nat_tests)

pub returns-then-is_empty : goal.returns-then-is_empty
returns-then-is_empty c =
    let arm = c.arm-item.result in
    sym (dead_here c.args.arms.now c.loop-arm.arm-index arm c.loop-arm-test.true c.arm-item.is
    (omega (arith, none _ c.if-is_empty.ensures, arm.labels.ok.0))) ∙ c.loop-arm.invariant

pub loop-arm-preserved : goal.loop-arm-preserved
loop-arm-preserved c =
    let arm = c.arm-item.result in
    dead_behind c.args.arms.now c.loop-arm.arm-index arm c.loop-arm-test.true c.arm-item.is
    (omega (arith, some _ c.if-is_empty.ensures, arm.labels.ok.0)) ∙ c.loop-arm.invariant

pub returns : goal.returns
returns c = sym (ap (λ xs. has_dead (cases_list xs)) (drop_of_length-le c.args.arms.now (omega (arith, c.loop-arm-test.false))))
    ∙ c.loop-arm.invariant
