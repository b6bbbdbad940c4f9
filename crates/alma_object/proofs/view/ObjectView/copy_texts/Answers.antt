use Rattle.std.proofs.Common.{◌∙◌}
use Rattle.alma_object_format.specs.Reading.{text_in}
use Rattle.alma_object.proofs.Items.{copied}
use Rattle.alma_object.proofs.view.ObjectView.copy_texts.Goals as goal

pub loop-i-preserved : goal.loop-i-preserved
loop-i-preserved c =
    copied (λ t. t.items) (text_in c.args.self.now.bytes.now c.args.self.now.header) c.args.self.now.header.texts c.loop-i.i _ _
    c.in_ok-text.text
    c.loop-i-test.true c.loop-i.invariant c.in_ok-push.ensures.items (c.in_ok-text.ensures.items ∙ c.text_view.ensures)
