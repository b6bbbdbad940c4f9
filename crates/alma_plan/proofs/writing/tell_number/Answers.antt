use Rattle.std.proofs.Common.{◌∙◌, List, ℕ, subst}
use Rattle.alma_plan.specs.Plan.{ending_of}
use Rattle.alma_plan.specs.Course.{Reports}
use Rattle.alma_plan.proofs.RefusalLemmas.{number_parts}
use Rattle.alma_plan.proofs.writing.tell_number.Goals as goal

pub returns : goal.returns
returns g c =
    let same = number_parts c.args.program.now _ c.args.text.now _ _ c.args.number c.as_slice-front.ensures
    (c.as_bytes-digits.ensures.value ∙ c.format.ensures.text) c.as_slice-end.ensures in
    subst (λ (bytes : List ℕ). Reports (ending_of c.args.status bytes) (g.E.Sink.side c.args.err.now) (g.E.Sink.side c.report.new.err)
    c.report.result.0) same c.report.ensures
