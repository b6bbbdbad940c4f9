use Rattle.std.proofs.Common.{◌∙◌, List, ℕ, subst}
use Rattle.alma_plan.specs.Plan.{ending_of}
use Rattle.alma_plan.specs.Course.{Reports}
use Rattle.alma_plan.proofs.RefusalLemmas.{rule_parts}
use Rattle.alma_plan.proofs.refusal.refuse_code.Goals as goal

pub returns : goal.returns
returns g c =
    let same = rule_parts c.args.program.now _ _ _ _ _ c.args.fault.rule c.args.fault.at c.as_slice-front.ensures
    (c.as_bytes-rule.ensures.value ∙ c.format.ensures.text)
    c.as_slice-middle.ensures (c.as_bytes-at.ensures.value ∙ c.format-2.ensures.text) c.as_slice-end.ensures in
    subst (λ (bytes : List ℕ). Reports (ending_of 9 bytes) (g.E.Sink.side c.args.err.now) (g.E.Sink.side c.report.new.err)
    c.report.result.0) same c.report.ensures
