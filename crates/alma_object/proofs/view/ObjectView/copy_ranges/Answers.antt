use Rattle.std.proofs.Common.{◌+◌, ◌*◌, ◌∙◌, ap}
use Rattle.alma_object_format.specs.Header.{ranges_at}
use Rattle.alma_object_format.specs.Reading.{range_in}
use Rattle.alma_object.proofs.Items.{copied_plain}
use Rattle.alma_object.proofs.view.ObjectView.copy_ranges.Goals as goal

pub loop-i-preserved : goal.loop-i-preserved
loop-i-preserved c =
    let bytes = c.args.self.now.bytes.now in
    let at = ranges_at c.args.self.now.header in
    copied_plain (λ k. range_in bytes (at + 16 * k)) c.args.self.now.header.ranges c.loop-i.i _ _ c.range_in.result
    c.loop-i-test.true c.loop-i.invariant c.in_ok-push.ensures.items
    (c.range_in.ensures ∙ ap (λ o. range_in bytes (o + 16 * c.loop-i.i)) c.ranges_at-ranges_at.ensures.offset)
