use Rattle.std.proofs.Common.{◌≡◌, ◌++◌, drop}
use Rattle.alma_rules.specs.Parts as parts
use Rattle.alma_check_rules.specs.Views.{spans_view}
use Rattle.alma_check_build_stmt.proofs.case.ranges.Given as goal

abbrev pub invariant-loop-label : goal.invariant-loop-label
invariant-loop-label l = l.ranges.items ++ parts.ranges_of (spans_view (drop l.label-index l.labels)) ≡ parts.ranges_of
    (spans_view l.labels)
