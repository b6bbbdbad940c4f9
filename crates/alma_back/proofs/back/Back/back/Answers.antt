use Rattle.alma_verify.specs.Verified.{code_of_verified}
use Rattle.alma_back.proofs.Keeping.{keeps_back}
use Rattle.alma_back.proofs.back.Back.back.Goals as goal

pub invariant_of-self-2 : goal.invariant_of-self-2
invariant_of-self-2 c =
    let b = c.self.inside in (
      c.self.invariant.0,
      keeps_back (code_of_verified b.code) b.input.now _ b.registers b.olds.items b.printed c.self.invariant.1 c.step_back.new.registers
          c.pop.new.self.items
          c.in-Some.old c.in-Some.ensures.items c.step_back.ensures.scene c.step_back.ensures.state,
    )
