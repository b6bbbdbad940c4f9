use Rattle.std.proofs.Common.{◌≡◌, drop}
use Rattle.alma_rules.specs.StmtRules.{shares_value}
use Rattle.alma_check_rules.specs.Views.{span_view, spans_view}
use Rattle.alma_check_rules.proofs.labels.shares_value.Given as goal

abbrev pub invariant-loop-other : goal.invariant-loop-other
invariant-loop-other l = shares_value (span_view l.span) (spans_view (drop l.other-index l.earlier)) ≡ shares_value (span_view l.span)
    (spans_view l.earlier)
