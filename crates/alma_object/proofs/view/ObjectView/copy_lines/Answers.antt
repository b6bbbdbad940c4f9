use Rattle.std.proofs.Common.{◌+◌, ◌*◌, ◌∙◌, ap}
use Rattle.alma_object_format.specs.Header.{lines_at}
use Rattle.alma_object_format.specs.Reading.{line_in}
use Rattle.alma_object.proofs.Items.{copied_plain}
use Rattle.alma_object.proofs.view.ObjectView.copy_lines.Goals as goal

pub loop-i-preserved : goal.loop-i-preserved
loop-i-preserved c =
    let bytes = c.args.self.now.bytes.now in
    let at = lines_at c.args.self.now.header in
    copied_plain (λ k. line_in bytes (at + 8 * k)) c.args.self.now.header.lines c.loop-i.i _ _ c.line_in.result
    c.loop-i-test.true c.loop-i.invariant c.in_ok-push.ensures.items
    (c.line_in.ensures ∙ ap (λ o. line_in bytes (o + 8 * c.loop-i.i)) c.lines_at-lines_at.ensures.offset)
