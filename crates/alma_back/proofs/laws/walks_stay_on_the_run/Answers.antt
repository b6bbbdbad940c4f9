use Rattle.alma_back.proofs.Walks.{back_undoes_step, walks_are_runs}
use Rattle.alma_back.proofs.laws.walks_stay_on_the_run.Goals as goal

pub returns-clause-undone : goal.returns-clause-undone
returns-clause-undone c = back_undoes_step

pub returns-clause-runs : goal.returns-clause-runs
returns-clause-runs c = walks_are_runs
