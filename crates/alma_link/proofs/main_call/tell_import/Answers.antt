use Rattle.std.proofs.Common.{◌∙◌, List, ℕ, subst}
use Rattle.alma_plan.specs.Plan.{ending_of}
use Rattle.alma_plan.specs.Course.{Reports}
use Rattle.alma_link.proofs.TextLemmas.{import_parts}
use Rattle.alma_link.proofs.main_call.tell_import.Goals as goal

pub returns : goal.returns
returns g c =
    let same = import_parts _ c.args.fault.now _ _ _ _ _ c.args.unit c.as_slice-front.ensures
    (c.as_bytes-number.ensures.value ∙ c.format.ensures.text)
    c.as_slice-space.ensures c.routine_name-name.ensures c.as_slice-end.ensures in
    subst (λ (bytes : List ℕ). Reports (ending_of 13 bytes) (g.E.Sink.side c.args.err.now) (g.E.Sink.side c.report.new.err)
    c.report.result.0) same c.report.ensures
