use Rattle.alma_names.proofs.Fields.{name_is_new}
use Rattle.alma_names.proofs.index.index_of_fields.Goals as goal

pub push-requires : goal.push-requires
push-requires c =
    rw c.loop-field.invariant
    (name_is_new c.args.fields.now c.loop-field.field-index c.field-item.result c.loop-field-test.true c.field-item.is c.requires)
