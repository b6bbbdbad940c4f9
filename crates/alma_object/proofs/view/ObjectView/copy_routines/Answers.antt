use Rattle.std.proofs.Common.{◌∙◌}
use Rattle.alma_code.specs.Plain.{routine_of}
use Rattle.alma_object_format.specs.Reading.{routine_in}
use Rattle.alma_object.proofs.Items.{copied}
use Rattle.alma_object.proofs.view.ObjectView.copy_routines.Goals as goal

pub loop-i-preserved : goal.loop-i-preserved
loop-i-preserved c =
    copied routine_of (routine_in c.args.self.now.bytes.now c.args.self.now.header) c.args.self.now.header.routines c.loop-i.i _ _
    c.in_ok-routine.routine
    c.loop-i-test.true c.loop-i.invariant c.in_ok-push.ensures.items (c.in_ok-routine.ensures ∙ c.routine_view.ensures.routine)
