use Rattle.std.proofs.Common.{◌∙◌, refl, sym}
use Rattle.std.specs.Prelude.{slice_get}
use Rattle.alma_code.specs.Machine.{position, byte_or_failure}
use Rattle.alma_machine_acts.specs.Rows.{state_of}
use Rattle.alma_machine_acts.proofs.Words.{makes_is, acts_is}
use Rattle.alma_machine_acts.proofs.input.read_char.Goals as goal

pub returns-in-Ok : goal.returns-in-Ok
returns-in-Ok g c =
    let s = state_of g.M.MachineMemory.picture c.args.registers.now in
    let range = c.args.range.now in
    acts_is _ _ _ _ c.take.ensures
    (sym (c.in-Ok.ensures.1 s (λ p. position s (λ n. byte_or_failure s range p n (slice_get c.args.input.now n))) refl
    ∙ c.position-from.ensures s (λ n. byte_or_failure s range c.in-Ok.place n (slice_get c.args.input.now n)) refl
    ∙ c.find_char.ensures.found s range c.in-Ok.place))

pub returns-in-Err : goal.returns-in-Err
returns-in-Err g c =
    let s = state_of g.M.MachineMemory.picture c.args.registers.now in
    makes_is c.end.ensures.made (sym (c.in-Err.ensures s
    (λ p. position s (λ n. byte_or_failure s c.args.range.now p n (slice_get c.args.input.now n))) refl))
