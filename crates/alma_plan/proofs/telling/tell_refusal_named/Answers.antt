use Rattle.std.proofs.Common.{◌∙◌, List, ℕ, subst}
use Rattle.alma_plan.specs.Plan.{ending_of}
use Rattle.alma_plan.specs.Course.{Reports}
use Rattle.alma_plan.proofs.TextLemmas.{refusal_parts}
use Rattle.alma_plan.proofs.telling.tell_refusal_named.Goals as goal

pub returns : goal.returns
returns g c =
    let same = refusal_parts c.args.file.now _ _ _ _ c.args.name.now _ c.args.place c.as_slice-colon.ensures
    (c.as_bytes-line.ensures.value ∙ c.format.ensures.text)
    (c.as_bytes-column.ensures.value ∙ c.format-2.ensures.text) c.as_slice-middle.ensures c.as_slice-end.ensures in
    subst (λ (bytes : List ℕ). Reports (ending_of 3 bytes) (g.E.Sink.side c.args.err.now) (g.E.Sink.side c.report.new.err)
    c.report.result.0) same c.report.ensures
