use Rattle.std.proofs.Common.{List, ℕ, refl, subst}
use Rattle.alma_plan.specs.Plan.{ending_of}
use Rattle.alma_plan.specs.Course.{Reports}
use Rattle.alma_plan.proofs.RefusalLemmas.{stop_parts}
use Rattle.alma_plan.proofs.writing.tell_line.Goals as goal

pub returns : goal.returns
returns g c =
    let same = stop_parts c.args.program.now _ _ _ c.args.text.now c.as_slice-front.ensures refl c.as_slice-end.ensures in
    subst (λ (bytes : List ℕ). Reports (ending_of c.args.status bytes) (g.E.Sink.side c.args.err.now) (g.E.Sink.side c.report.new.err)
    c.report.result.0) same c.report.ensures
