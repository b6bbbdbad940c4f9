use Rattle.alma_plan.specs.Plan.{plain}
use Rattle.alma_plan.specs.Programs.{sense}
use Rattle.alma_plan.proofs.UndisturbedLemmas.{call_shows_due}
use Rattle.alma_plan.proofs.laws.an_undisturbed_call_shows_what_is_due.Goals as goal

pub returns : goal.returns
returns c = record { shown = λ program failed. call_shows_due (sense program failed) program; plain = call_shows_due plain }
