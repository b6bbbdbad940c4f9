use Rattle.std.proofs.Common.{rules, w64}
use Rattle.std.proofs.lemmas.Int.{to_z-of_z}
use Rattle.alma_check_rules.specs.Views.{span_view}
use Rattle.alma_check_rules.proofs.Covered.{may_share_as}
use Rattle.alma_check_rules.proofs.labels.may_share.Goals as goal

pub returns : goal.returns
returns c = may_share_as c.args.ends.now (span_view c.args.span) c.is_reached.result
    (rw (to_z-of_z w64 c.args.span.range.low (search rules), to_z-of_z w64 c.args.span.range.high (search rules)) at c.is_reached.ensures)
