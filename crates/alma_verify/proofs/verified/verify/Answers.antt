use Rattle.alma_code_laws.proofs.Verdicts.{sound_from, no_fault}
use Rattle.alma_object.specs.View.{code_of_view}
use Rattle.alma_verify.proofs.verified.verify.Goals as goal

pub returns-clause-sound : goal.returns-clause-sound
returns-clause-sound c = sound_from (code_of_view c.args.view) c.keeps_object.ensures.table c.in_ok-code_fault.ensures

pub returns-in_err-code_fault-clause-complete : goal.returns-in_err-code_fault-clause-complete
returns-in_err-code_fault-clause-complete c sound =
    let clean = no_fault (code_of_view c.args.view) sound in
    let broken = c.in_err-code_fault.ensures in
    absurd cc
