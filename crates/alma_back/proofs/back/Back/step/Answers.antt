use Rattle.std.proofs.Common.{◌∙◌, ◌++◌, ◌∷◌, [], List, ap, arith}
use Rattle.alma_verify.specs.Verified.{code_of_verified}
use Rattle.alma_back.specs.declared.back.Old.{Old}
use Rattle.alma_back.specs.Standing.{runs}
use Rattle.alma_back.proofs.Keeping.{keeps_step}
use Rattle.alma_back.proofs.back.Back.step.Goals as goal

pub invariant_of-self-2 : goal.invariant_of-self-2
invariant_of-self-2 c =
    let b = c.self.inside in (
      c.self.invariant.0,
      keeps_step (code_of_verified b.code) b.input.now _ b.registers b.olds.items b.printed c.self.invariant.1 c.step_on.new.registers
          c.in_ok-step.step _
          (ap runs c.self.view_is ∙ c.requires.running)
          c.in_ok-step.ensures.step c.in_ok-step.ensures.counted c.in_ok-step.ensures.choices c.in_ok-step.ensures.fails
          c.in_ok-step.ensures.past _ _
          (c.push_reserved.ensures.items ∙ ap (λ (x : List Old). x ++ c.old_of-old.result ∷ []) c.in_ok-reserve.ensures.items
          ∙ ap (λ (o : Old). b.olds.items ++ o ∷ []) c.old_of-old.ensures)
          (omega (arith, c.len.ensures, c.step_on.new.text.ok)),
    )
