use Rattle.alma_code_laws.proofs.Verdicts.{sound_from}
use Rattle.alma_object.specs.View.{code_of_view}
use Rattle.alma_verify.proofs.verified.Verified.view.Goals as goal

pub returns-clause-sound : goal.returns-clause-sound
returns-clause-sound c = sound_from (code_of_view c.args.self.now.view) c.keeps_object.ensures.table c.args.self.now.clean
