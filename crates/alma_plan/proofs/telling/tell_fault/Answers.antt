use Rattle.std.proofs.Common.{◌∙◌, List, ℕ, subst}
use Rattle.alma_plan.specs.Course.{Reports}
use Rattle.alma_plan.specs.Plan.{tells}
use Rattle.alma_plan.specs.Programs.{named_words}
use Rattle.alma_plan.proofs.telling.tell_fault.Goals as goal

pub returns : goal.returns
returns g c =
    subst (λ (name : List ℕ). Reports (tells c.args.program.now 4 (named_words name c.args.line)) (g.E.Sink.side c.args.err.now)
    (g.E.Sink.side c.tell_named.new.err) c.tell_named.result.0)
    (c.as_bytes.ensures.value ∙ c.text.ensures) c.tell_named.ensures
