use Rattle.std.proofs.Common.{List, drop}
use Rattle.alma_rules.specs.Numbered as tree
use Rattle.alma_rules.specs.View.{names_of}
use Rattle.alma_check_type.specs.Inner.Fields as spec
use Rattle.alma_check_type.proofs.FieldSteps.{Goes}
use Rattle.alma_check_type.proofs.field.add_fields.Given as goal

abbrev pub invariant-loop-name : goal.invariant-loop-name
invariant-loop-name l =
    (before : List tree.Name) → spec.Knows l.reader.tokens l.fn.begun.names.entries before
    → Goes l.reader.tokens l.shape before (names_of l.names) (names_of (drop l.name-index l.names)) (spec.told_fields l.fn.begun)
    (spec.told_fields l.fields) l.fields.names.entries
