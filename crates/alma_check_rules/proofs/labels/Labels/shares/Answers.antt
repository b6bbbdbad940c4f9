use Rattle.std.proofs.Common.{rules, ◌≡◌, sym, false}
use Rattle.alma_check_rules.specs.Views.{span_view}
use Rattle.alma_check_rules.proofs.Covered.{none_in_parts, none_of}
use Rattle.alma_check_rules.proofs.labels.Labels.shares.Goals as goal

pub returns-then-not-may_share-2 : goal.returns-then-not-may_share-2
returns-then-not-may_share-2 c =
    let first : c.may_share.result ≡ false = search rules in
    let second : c.may_share-then-not-may_share.result ≡ false = search rules in
    rw (← c.self.view_is) (sym (none_in_parts c.self.inside.settled c.self.inside.spans.items (span_view c.args.span)
    (none_of c.self.inside.before (span_view c.args.span) _ c.self.invariant.before_covers (c.may_share.ensures first))
    (none_of c.self.inside.arm (span_view c.args.span) _ c.self.invariant.arm_covers (c.may_share-then-not-may_share.ensures second))))
