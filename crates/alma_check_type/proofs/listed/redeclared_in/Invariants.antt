use Rattle.std.proofs.Common.{◌≡◌, drop}
use Rattle.alma_rules.specs.View.{names_of}
use Rattle.alma_rules.specs.Answers.{first}
use Rattle.alma_rules.specs.Types.{redeclared_all}
use Rattle.alma_check_type.proofs.listed.redeclared_in.Given as goal

abbrev pub invariant-loop-name : goal.invariant-loop-name
invariant-loop-name l = first (redeclared_all l.reader (names_of (drop l.name-index l.names))) ≡ first
    (redeclared_all l.reader (names_of l.names))
