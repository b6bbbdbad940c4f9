use Rattle.std.proofs.Common.{rules, refl, sym, ap, ◌∙◌, w64}
use Rattle.std.proofs.lemmas.Int.{to_z-of_z}
use Rattle.alma_code.specs.Machine.{goes_to, put_number}
use Rattle.alma_machine_acts.specs.Rows.{state_of, next_or}
use Rattle.alma_machine_acts.proofs.Words.{makes_is, acts_is}
use Rattle.alma_machine_acts.proofs.registers.Registers.count.Goals as goal

pub returns-in-Ok-Some : goal.returns-in-Ok-Some
returns-in-Ok-Some g c =
    let s = state_of g.M.MachineMemory.picture c.args.self.now in
    let a = c.args in
    let v = c.in-Ok-Some.next in
    acts_is _ _ _ _ c.put.ensures
    (ap (put_number s a.counter) (to_z-of_z w64 v (search rules))
    ∙ sym (c.in-Ok-Some.ensures s (goes_to a.out s) (put_number s a.counter) refl
    ∙ ap (next_or (goes_to a.out s) (put_number s a.counter)) c.in-Ok-Some.field-0-is))

pub returns-in-Ok-None : goal.returns-in-Ok-None
returns-in-Ok-None g c =
    let s = state_of g.M.MachineMemory.picture c.args.self.now in
    let a = c.args in
    makes_is c.jump.ensures.made (sym (c.in-Ok-None.ensures s (goes_to a.out s) (put_number s a.counter) refl
    ∙ ap (next_or (goes_to a.out s) (put_number s a.counter)) c.in-Ok-None.field-0-is))

pub returns-in-Err : goal.returns-in-Err
returns-in-Err g c =
    let s = state_of g.M.MachineMemory.picture c.args.self.now in
    let a = c.args in
    makes_is c.end.ensures.made (sym (c.in-Err.ensures s (goes_to a.out s) (put_number s a.counter) refl))
