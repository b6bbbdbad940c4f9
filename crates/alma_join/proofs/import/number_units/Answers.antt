use Rattle.std.proofs.Common.{◌∙◌, ap, map}
use Rattle.std.proofs.lemmas.List.{map-append}
use Rattle.alma_ir.specs.View.{program_of}
use Rattle.alma_join.specs.Numbers.{numbers_in}
use Rattle.alma_join.proofs.Numbering.{handed_on}
use Rattle.alma_join.proofs.Units.{numbered_no_unit, units_numbered_more, unit_fault_first, units_numbers, units_sound, stands_at}
use Rattle.alma_join.proofs.Units.{program_there, within_units, past_units}
use Rattle.alma_join.proofs.import.number_units.Goals as goal

pub loop-i-init : goal.loop-i-init
loop-i-init c = numbered_no_unit _ _ c.new-tables.ensures.items

pub loop-i-preserved : goal.loop-i-preserved
loop-i-preserved c =
    let us = c.args.units.now in
    let there = program_there us c.loop-i.i _ c.loop-i-test.true c.index-units-i.is in
    let within = within_units us _ c.loop-i-test.true in
    units_numbered_more (map program_of us) c.loop-i.i _ within there c.loop-i.next _ c.loop-i.invariant _ _ _
    (ap (map numbers_in) c.in_ok-push.ensures.items ∙ map-append numbers_in _ _)
    (c.in_ok-number_unit.ensures.numbers _ c.requires.holds
    (stands_at (map program_of us) c.loop-i.i _ within there _ c.loop-i.invariant.next_is))
    (c.in_ok-number_unit.ensures.sound _ c.requires.holds) c.in_ok-number_unit.ensures.next

pub returns-in_err-number_unit-clause-fault : goal.returns-in_err-number_unit-clause-fault
returns-in_err-number_unit-clause-fault c =
    let us = c.args.units.now in
    handed_on _ _ _ c.from_residual.ensures.1
    (unit_fault_first (map program_of us) c.loop-i.i _ (within_units us _ c.loop-i-test.true)
    (program_there us c.loop-i.i _ c.loop-i-test.true c.index-units-i.is) c.loop-i.next _ c.loop-i.invariant _
    (c.in_err-number_unit.ensures.fault _ c.requires.holds))

pub returns-clause-numbers : goal.returns-clause-numbers
returns-clause-numbers c = units_numbers _ c.loop-i.i c.loop-i.next _ (past_units c.args.units.now _ c.loop-i-test.false) c.loop-i.invariant

pub returns-clause-sound : goal.returns-clause-sound
returns-clause-sound c = units_sound _ c.loop-i.i c.loop-i.next _ (past_units c.args.units.now _ c.loop-i-test.false) c.loop-i.invariant
