use Rattle.std.proofs.Common.{rules, refl, sym}
use Rattle.alma_code.specs.Machine.{quiet_step}
use Rattle.alma_machine_acts.specs.Rows.{state_of}
use Rattle.alma_machine_acts.proofs.Words.{makes_is}
use Rattle.alma_machine_acts.proofs.registers.Registers.in_range.Goals as goal

pub returns-in-Ok : goal.returns-in-Ok
returns-in-Ok g c =
    let s = state_of g.M.MachineMemory.picture c.args.self.now in
    record { step = sym (c.in-Ok.ensures.number s (λ v. quiet_step s) refl); kept = search rules; past = search rules }

pub returns-in-Err : goal.returns-in-Err
returns-in-Err g c =
    let s = state_of g.M.MachineMemory.picture c.args.self.now in
    makes_is c.end.ensures.made (sym (c.in-Err.ensures.number s (λ v. quiet_step s) refl))
