use Rattle.alma_driver_words.specs.Words.{texts}
use Rattle.alma_plan.proofs.CauseLemmas.{causes_of, plain_has_one}
use Rattle.alma_plan.specs.Plan.{plain}
use Rattle.alma_plan.specs.Refusals.{end_by}
use Rattle.alma_pool.specs.Due.{program, pool_plan}
use Rattle.alma_pool.specs.Ends.{pool_end}
use Rattle.alma_pool.proofs.Plans.{own_plan}
use Rattle.alma_pool.proofs.main_call.pool_main.Goals as goal

pub returns-clause-answer : goal.returns-clause-answer
returns-clause-answer g c = record {
  end = end_by pool_end c.perform-ended.result;
  course = c.perform-ended.ensures;
  reported =
      c.tell.ensures;
}

pub returns-clause-causes : goal.returns-clause-causes
returns-clause-causes g c =
    causes_of plain program (pool_plan (texts c.args.words.now)) plain_has_one (own_plan (texts c.args.words.now)) _ _ _
    (record { end = end_by pool_end c.perform-ended.result; course = c.perform-ended.ensures; reported = c.tell.ensures })
