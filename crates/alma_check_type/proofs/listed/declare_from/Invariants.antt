use Rattle.std.proofs.Common.{◌≡◌, drop}
use Rattle.alma_rules.specs.View.{names_of}
use Rattle.alma_rules.specs.Types.{declare_values}
use Rattle.alma_check_type.proofs.listed.declare_from.Given as goal

abbrev pub invariant-loop-name : goal.invariant-loop-name
invariant-loop-name l =
    declare_values l.reader l.from l.shape l.next (names_of (drop l.name-index l.names)) ≡ declare_values l.fn.reader l.from l.shape
    l.number (names_of l.names)
