use Rattle.std.proofs.Common.{◌∙◌}
use Rattle.alma_code.specs.Plain.{global_of}
use Rattle.alma_object_format.specs.Reading.{global_in}
use Rattle.alma_object.proofs.Items.{copied}
use Rattle.alma_object.proofs.view.ObjectView.copy_globals.Goals as goal

pub loop-i-preserved : goal.loop-i-preserved
loop-i-preserved c =
    copied global_of (global_in c.args.self.now.bytes.now c.args.self.now.header) c.args.self.now.header.globals c.loop-i.i _ _
    c.in_ok-global.global
    c.loop-i-test.true c.loop-i.invariant c.in_ok-push.ensures.items (c.in_ok-global.ensures ∙ c.global_view.ensures)
