use Rattle.std.proofs.Common.{◌∙◌, refl, sym, ap}
use Rattle.alma_base.specs.Reading.{number_from}
use Rattle.alma_code.specs.Machine.{position, takes_read}
use Rattle.alma_machine_acts.specs.Rows.{state_of}
use Rattle.alma_machine_acts.proofs.Words.{makes_is, acts_is}
use Rattle.alma_machine_acts.proofs.input.read_number.Goals as goal

pub returns-in-Err : goal.returns-in-Err
returns-in-Err g c =
    let s = state_of g.M.MachineMemory.picture c.args.registers.now in
    makes_is c.end.ensures.made (sym
    (c.in-Err.ensures s (λ p. position s (λ n. takes_read s c.args.range.now p (number_from c.args.input.now n)))
    refl))

pub returns-in-Ok : goal.returns-in-Ok
returns-in-Ok g c =
    let s = state_of g.M.MachineMemory.picture c.args.registers.now in
    let range = c.args.range.now in
    let input = c.args.input.now in
    acts_is _ _ _ _ c.take.ensures
    (sym (c.in-Ok.ensures.1 s (λ p. position s (λ n. takes_read s range p (number_from input n))) refl
    ∙ c.position-from.ensures s (λ n. takes_read s range c.in-Ok.place (number_from input n)) refl
    ∙ ap (takes_read s range c.in-Ok.place) (sym c.find_number.ensures.found)))
