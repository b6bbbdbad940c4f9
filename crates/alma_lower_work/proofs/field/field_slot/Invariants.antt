-- The fields so far lead to a slot, and those that are left on from it.
use Rattle.std.proofs.Common.{◌≡◌, drop}
use Rattle.alma_ir.specs.View.{sels_list}
use Rattle.alma_lower_templates.specs.Slots.{fields_from}
use Rattle.alma_lower_work.proofs.field.field_slot.Given as goal

abbrev pub invariant-loop-sel : goal.invariant-loop-sel
invariant-loop-sel l = fields_from l.slot (sels_list (drop l.sel-index l.sels)) ≡ fields_from l.from (sels_list l.sels)
