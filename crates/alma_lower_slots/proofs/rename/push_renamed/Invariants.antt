-- The instructions so far.
use Rattle.std.proofs.Common.{◌≡◌, ◌++◌, map, take}
use Rattle.alma_lower_slots.specs.Slots.{rename_slots}
use Rattle.alma_lower_slots.specs.Inner.Shared.{slot_in}
use Rattle.alma_lower_slots.proofs.rename.push_renamed.Given as goal

abbrev pub invariant-loop-instr : goal.invariant-loop-instr
invariant-loop-instr l = l.instrs.items ≡ l.fn.instrs.items ++ map (rename_slots (slot_in l.stretches)) (take l.instr-index l.code)
