use Rattle.std.proofs.Common.{◌∙◌, List, ℕ, subst}
use Rattle.std.specs.Prelude.{decimal}
use Rattle.alma_plan.specs.Course.{Reports}
use Rattle.alma_plan.specs.Plan.{ending_of}
use Rattle.alma_source.specs.Texts.{refusal_line}
use Rattle.alma_plan.proofs.telling.tell_refusal.Goals as goal

pub returns : goal.returns
returns g c =
    subst (λ (name : List ℕ). Reports (ending_of 3
    (refusal_line c.args.file.now (decimal c.args.place.line) (decimal c.args.place.column) name)) (g.E.Sink.side c.args.err.now)
    (g.E.Sink.side c.tell_refusal_named.new.err) c.tell_refusal_named.result.0)
    (c.as_bytes.ensures.value ∙ c.text.ensures) c.tell_refusal_named.ensures
