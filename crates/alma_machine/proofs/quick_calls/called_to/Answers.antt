use Rattle.std.proofs.Common.{◌∙◌}
use Rattle.std.specs.Prelude.{slice_get}
use Rattle.alma_machine.proofs.Forms.{call_slot}
use Rattle.alma_machine.proofs.quick_calls.called_to.Goals as goal

pub returns : goal.returns
returns g c = λ routine first to is.
    c.third.ensures ∙ call_slot c.record.result (slice_get (g.V.CodeView.code c.args.view.now).instrs c.args.at) routine first to
    c.record.ensures is
