use Rattle.std.proofs.Common.{refl, sym}
use Rattle.alma_code.specs.Machine.{keep}
use Rattle.alma_machine_acts.specs.Rows.{state_of}
use Rattle.alma_machine_acts.proofs.Words.{acts_is}
use Rattle.alma_machine_acts.proofs.choices.keep.Goals as goal

pub returns-in-Ok : goal.returns-in-Ok
returns-in-Ok g c =
    let s = state_of g.M.MachineMemory.picture c.args.registers.now in
    acts_is _ _ _ _ c.keep_at.ensures (sym (c.in-Ok.ensures s (λ h. keep s h) refl))
