use Rattle.std.proofs.Common.{◌≡◌, drop}
use Rattle.alma_rules.specs.View.{names_of}
use Rattle.alma_check_type.proofs.ListedSteps.{last_of}
use Rattle.alma_check_type.proofs.listed.last_token.Given as goal

abbrev pub invariant-loop-name : goal.invariant-loop-name
invariant-loop-name l = last_of l.token (names_of (drop l.name-index l.names.more.items)) ≡ last_of l.names.first.token
    (names_of l.names.more.items)
