use Rattle.std.proofs.Common.{◌≡◌}
use Rattle.alma_check_type.specs.Told.{fault_of}
use Rattle.alma_check_type.specs.Inner.Tables.{fields_view}
use Rattle.alma_check_type.specs.Inner.Fields.{told_fields, told_list}
use Rattle.alma_check_type.proofs.FieldSteps.{opened, record_bad, record_fine}
use Rattle.alma_check_type.proofs.field.join_record.Goals as goal

pub returns-then-fields : goal.returns-then-fields
returns-then-fields c t h =
    record_bad (fault_of c.in_ok-fields.fields.fault) c.in_ok-fields.fields.is_bad (fields_view c.in_ok-fields.fields.names.entries)
    c.args.reader.now t
    (opened (λ x. t ≡ told_list (told_fields x) c.args.reader.now) _ _ c.in_ok-fields.was h) c.if-fields.true

pub returns : goal.returns
returns c t h =
    record_fine (fault_of c.in_ok-fields.fields.fault) c.in_ok-fields.fields.is_bad (fields_view c.in_ok-fields.fields.names.entries)
    c.args.reader.now t
    (opened (λ x. t ≡ told_list (told_fields x) c.args.reader.now) _ _ c.in_ok-fields.was h) _ c.if-fields.false c.in_ok-formed.ensures
