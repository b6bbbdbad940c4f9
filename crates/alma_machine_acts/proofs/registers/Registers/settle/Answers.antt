use Rattle.std.proofs.Common.{refl}
use Rattle.alma_machine_acts.proofs.Meetings.{equates_as}
use Rattle.alma_machine_acts.proofs.registers.Registers.settle.Goals as goal

pub returns-in-Some-None-clause-equates : goal.returns-in-Some-None-clause-equates
returns-in-Some-None-clause-equates g c =
    equates_as _ _ _ _ _ _ c.give.ensures.equates (λ k. rw (c.in-Some-None.is-0, c.in-Some-None.is-1) refl)
