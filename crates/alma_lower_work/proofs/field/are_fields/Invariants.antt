-- Whether those that are left are fields is whether all are.
use Rattle.std.proofs.Common.{◌≡◌, ℕ, drop}
use Rattle.alma_ir.specs.View.{sels_list}
use Rattle.alma_lower_templates.specs.Slots.{fields_from, is_given}
use Rattle.alma_lower_work.proofs.field.are_fields.Given as goal

abbrev pub invariant-loop-sel : goal.invariant-loop-sel
invariant-loop-sel l = (from : ℕ)
    → is_given (fields_from from (sels_list l.sels)) ≡ is_given (fields_from from (sels_list (drop l.sel-index l.sels)))
