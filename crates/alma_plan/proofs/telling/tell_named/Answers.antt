use Rattle.std.proofs.Common.{◌∙◌, List, ℕ, subst}
use Rattle.alma_plan.specs.Plan.{ending_of}
use Rattle.alma_plan.specs.Course.{Reports}
use Rattle.alma_plan.proofs.TextLemmas.{unknown_parts, known_parts}
use Rattle.alma_plan.proofs.telling.tell_named.Goals as goal

pub returns-then-line-eq0 : goal.returns-then-line-eq0
returns-then-line-eq0 g c =
    let same = unknown_parts c.args.program.now _ c.args.name.now _ c.args.line c.if-line-eq0.true c.as_slice-front.ensures
    c.as_slice-end.ensures in
    subst (λ (bytes : List ℕ). Reports (ending_of 4 bytes) (g.E.Sink.side c.args.err.now) (g.E.Sink.side c.report.new.err)
    c.report.result.0) same c.report.ensures

pub returns : goal.returns
returns g c =
    let same = known_parts c.args.program.now _ c.args.name.now _ _ _ c.args.line c.if-line-eq0.false c.as_slice-front.ensures
    c.as_slice-middle.ensures
    (c.as_bytes-number.ensures.value ∙ c.format.ensures.text) c.as_slice-end.ensures in
    subst (λ (bytes : List ℕ). Reports (ending_of 4 bytes) (g.E.Sink.side c.args.err.now) (g.E.Sink.side c.report-2.new.err)
    c.report-2.result.0) same c.report-2.ensures
