use Rattle.std.proofs.Common.{◌∙◌, List, ℕ, refl, subst}
use Rattle.alma_plan.specs.Plan.{ending_of}
use Rattle.alma_plan.specs.Course.{Reports}
use Rattle.alma_plan.proofs.RefusalLemmas.{numberless_parts, numbered_parts}
use Rattle.alma_plan.proofs.refusal.refuse_named.Goals as goal

pub returns-in-None : goal.returns-in-None
returns-in-None g c =
    let same = numberless_parts c.args.program.now _ _ _ c.args.name.now c.args.number c.in-None.is c.as_slice-front.ensures refl
    c.as_slice-end.ensures in
    subst (λ (bytes : List ℕ). Reports (ending_of 9 bytes) (g.E.Sink.side c.args.err.now) (g.E.Sink.side c.report.new.err)
    c.report.result.0) same c.report.ensures

pub returns-in-Some : goal.returns-in-Some
returns-in-Some g c =
    let same = numbered_parts c.args.program.now _ _ _ _ _ c.args.name.now c.args.number c.in-Some.number c.in-Some.is
    c.as_slice-front.ensures refl
    c.as_slice.ensures (c.as_bytes-number.ensures.value ∙ c.format.ensures.text) c.as_slice-end.ensures in
    subst (λ (bytes : List ℕ). Reports (ending_of 9 bytes) (g.E.Sink.side c.args.err.now) (g.E.Sink.side c.report-in-Some.new.err)
    c.report-in-Some.result.0) same c.report-in-Some.ensures
