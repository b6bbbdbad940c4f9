use Rattle.alma_driver_words.specs.Words.{texts}
use Rattle.alma_plan.proofs.CauseLemmas.{causes_of, plain_has_one}
use Rattle.alma_plan.specs.Plan.{plain}
use Rattle.alma_back.specs.Due.{program, back_plan}
use Rattle.alma_plan.specs.Refusals.{end_by}
use Rattle.alma_back.specs.Ends.{back_end}
use Rattle.alma_back.proofs.Plans.{own_plan}
use Rattle.alma_back.proofs.main_call.back_main.Goals as goal

pub returns-clause-answer : goal.returns-clause-answer
returns-clause-answer g c =
    record { end = end_by back_end c.perform-outcome.result; course = c.perform-outcome.ensures; reported = c.tell.ensures }

pub returns-clause-causes : goal.returns-clause-causes
returns-clause-causes g c =
    causes_of plain program (back_plan (texts c.args.words.now)) plain_has_one (own_plan (texts c.args.words.now)) _ _ _
    (record { end = end_by back_end c.perform-outcome.result; course = c.perform-outcome.ensures; reported = c.tell.ensures })
