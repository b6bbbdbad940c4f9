use Rattle.std.proofs.Common.{ap}
use Rattle.alma_object.specs.View.{code_of_view}
use Rattle.alma_plan.specs.Objects.{rule_refusal}
use Rattle.alma_plan.proofs.open.verify_view.Goals as goal

pub returns-in-Ok-clause-sound : goal.returns-in-Ok-clause-sound
returns-in-Ok-clause-sound c = λ program. ap (rule_refusal program) c.in-Ok.ensures.fault

pub returns-in-Ok-clause-code : goal.returns-in-Ok-clause-code
returns-in-Ok-clause-code c = ap code_of_view c.in-Ok.ensures.view

pub returns-in-Err-clause-refused : goal.returns-in-Err-clause-refused
returns-in-Err-clause-refused c = λ program. ap (rule_refusal program) c.in-Err.ensures.fault
