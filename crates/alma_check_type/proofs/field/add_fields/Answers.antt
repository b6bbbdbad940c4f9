use Rattle.std.proofs.Common.{get_or}
use Rattle.std.proofs.lemmas.List.{get_or_default}
use Rattle.alma_tree.specs.declared.leaf.Name.{Name}
use Rattle.alma_rules.specs.View.{names_of}
use Rattle.alma_check_type.specs.Inner.Fields.{told_fields}
use Rattle.alma_check_type.proofs.FieldSteps.{goes_begin, goes_next, goes_stop}
use Rattle.alma_check_type.proofs.field.add_fields.Goals as goal

abbrev some_name : Name
some_name = record { node = 0; token = 0 }

pub loop-name-init : goal.loop-name-init
loop-name-init c before k = goes_begin c.args.reader.now.tokens c.args.shape before (names_of c.args.names.now) (told_fields c.args.begun)
    c.args.begun.names.entries k

pub loop-name-preserved : goal.loop-name-preserved
loop-name-preserved c before k =
    goes_next c.args.reader.now.tokens c.args.shape before (names_of c.args.names.now) c.args.names.now c.loop-name.name-index
    (told_fields c.args.begun) (told_fields c.loop-name.fields) c.loop-name.fields.names.entries
    (get_or c.args.names.now c.loop-name.name-index some_name) (told_fields c.in_ok-fields.fields) c.in_ok-fields.fields.names.entries
    c.loop-name-test.true
    (get_or_default c.args.names.now c.loop-name.name-index some_name (get_or c.args.names.now c.loop-name.name-index some_name)
    c.loop-name-test.true)
    (c.loop-name.invariant before k) (λ done known. c.in_ok-fields.ensures done known)

pub returns : goal.returns
returns c before k =
    goes_stop c.args.reader.now.tokens c.args.shape before (names_of c.args.names.now) c.args.names.now c.loop-name.name-index
    (told_fields c.args.begun) (told_fields c.loop-name.fields) c.loop-name.fields.names.entries
    c.loop-name-test.false (c.loop-name.invariant before k)
