use Rattle.std.proofs.Common.{◌+◌, drop, sym, ap, ◌∙◌}
use Rattle.alma_ir.specs.View.{sels_list}
use Rattle.alma_lower_templates.specs.Slots.{is_given}
use Rattle.alma_lower_work.proofs.Fields.{field_on, index_ends, from_any}
use Rattle.alma_lower_work.proofs.field.are_fields.Goals as goal

pub returns-in-Index : goal.returns-in-Index
returns-in-Index c from = sym (c.loop-sel.invariant from
    ∙ ap is_given (index_ends _ _ _ _ _ _ _ c.loop-sel-test.true c.sel-item.is c.in-Index.is))

pub loop-sel-preserved : goal.loop-sel-preserved
loop-sel-preserved c from =
    c.loop-sel.invariant from ∙ ap is_given (field_on _ _ _ _ _ _ c.loop-sel-test.true c.sel-item.is c.in-Field.is)
    ∙ from_any (sels_list (drop (c.loop-sel.sel-index + 1) c.args.sels.now)) (from + c.in-Field.field-0) from
