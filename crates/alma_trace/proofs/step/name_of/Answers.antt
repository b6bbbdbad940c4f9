use Rattle.std.proofs.Common.{◌∙◌, ap}
use Rattle.std.specs.Prelude.{unwrap_or}
use Rattle.std.proofs.lemmas.Option.{unwrap_or-slice_get}
use Rattle.alma_code.specs.Plain.{PlainRoutine, no_routine}
use Rattle.alma_object.specs.View.{code_of_view}
use Rattle.alma_trace.proofs.step.name_of.Goals as goal

pub returns-in-None : goal.returns-in-None
returns-in-None c =
    ap (λ o. (unwrap_or o no_routine).name) c.in-None.ensures.routine
    ∙ ap (λ (r : PlainRoutine). r.name) (unwrap_or-slice_get (code_of_view c.args.view.now).routines c.args.routine no_routine)
