use Rattle.std.proofs.Common.{rules, ◌≡◌, ◌+◌, drop, sym, ap, ◌∙◌}
use Rattle.alma_ir.specs.View.{sels_list}
use Rattle.alma_lower_templates.specs.Slots.{fields_from}
use Rattle.alma_lower_work.proofs.Fields.{field_on, index_ends}
use Rattle.alma_lower_work.proofs.field.field_slot.Goals as goal

pub returns-in-Index : goal.returns-in-Index
returns-in-Index c = sym (index_ends _ _ _ _ _ _ _ c.loop-sel-test.true c.sel-item.is c.in-Index.is) ∙ c.loop-sel.invariant

pub loop-sel-preserved : goal.loop-sel-preserved
loop-sel-preserved c =
    let sum : c.in_ok-slot-in-Field.slot ≡ c.loop-sel.slot + c.in-Field.offset = search (rules) in
    ap (λ n. fields_from n (sels_list (drop (c.loop-sel.sel-index + 1) c.args.sels.now))) sum
    ∙ sym (field_on _ _ _ _ _ _ c.loop-sel-test.true c.sel-item.is c.in-Field.is) ∙ c.loop-sel.invariant
