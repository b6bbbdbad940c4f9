use Rattle.alma_driver_words.specs.Words.{texts}
use Rattle.alma_plan.proofs.CauseLemmas.{causes_of}
use Rattle.alma_source.proofs.Verdicts.{one_verdict}
use Rattle.alma_all.specs.All.{program, all_sense, all_plan}
use Rattle.alma_all.specs.Ends.{all_end}
use Rattle.alma_all.proofs.Plans.{own_plan}
use Rattle.alma_all.proofs.main_call.all.Goals as goal

pub returns-clause-answer : goal.returns-clause-answer
returns-clause-answer g c =
    record { end = all_end c.perform-end.result; course = c.perform-end.ensures; reported = c.tell.ensures }

pub returns-clause-causes : goal.returns-clause-causes
returns-clause-causes g c =
    causes_of all_sense program (all_plan (texts c.args.words.now)) one_verdict (own_plan (texts c.args.words.now)) _ _ _
    (record { end = all_end c.perform-end.result; course = c.perform-end.ensures; reported = c.tell.ensures })
