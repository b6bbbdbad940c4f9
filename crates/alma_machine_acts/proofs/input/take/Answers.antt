use Rattle.std.proofs.Common.{rules, ◌≡◌, sym, ap, ◌∙◌}
use Rattle.std.specs.Prelude.{true, false}
use Rattle.std.proofs.lemmas.Int.{ints}
use Rattle.alma_base.specs.Numbers.{within}
use Rattle.alma_code.specs.Machine.{takes_read}
use Rattle.alma_machine_acts.specs.Rows.{state_of}
use Rattle.alma_machine_acts.proofs.Reading.{took_is, took_out}
use Rattle.alma_machine_acts.proofs.Words.{makes_is, ranges, within_is}
use Rattle.alma_machine_acts.proofs.input.take.Goals as goal

pub returns-in-NoNumber : goal.returns-in-NoNumber
returns-in-NoNumber g c =
    let s = state_of g.M.MachineMemory.picture c.args.registers.now in
    makes_is c.fail.ensures.made (sym (ap (takes_read s c.args.range.now c.args.place) c.in-NoNumber.is))

pub returns-in-TooLarge : goal.returns-in-TooLarge
returns-in-TooLarge g c =
    let s = state_of g.M.MachineMemory.picture c.args.registers.now in
    makes_is c.end.ensures.made (sym (ap (takes_read s c.args.range.now c.args.place) c.in-TooLarge.is))

pub returns-then-number-range : goal.returns-then-number-range
returns-then-number-range g c =
    let s = state_of g.M.MachineMemory.picture c.args.registers.now in
    let r = c.args.range.now in
    let v = c.in-Number.number in
    let out : within r v ≡ false = search (rules, ranges) in
    makes_is c.end-then-number-range.ensures.made (sym (ap (takes_read s r c.args.place) c.in-Number.is
    ∙ took_out s r c.args.place v c.in-Number.behind out))

pub returns-in-Ok-write : goal.returns-in-Ok-write
returns-in-Ok-write g c =
    let s = state_of g.M.MachineMemory.picture c.args.registers.now in
    let r = c.args.range.now in
    let v = c.in-Number.number in
    let inside : within r v ≡ true = within_is r v (search (rules, ints)) (search (rules, ints)) in
    let took = took_is s r c.args.place v c.in-Number.behind inside c.requires.position c.requires.place in
    search (rules, took, ints)
