use Rattle.alma_pool.proofs.Alone.{stands_alone, run_alone, prints_front}
use Rattle.alma_pool.proofs.laws.programs_run_alone.Goals as goal

pub returns : goal.returns
returns c = record { state = stands_alone; alone = run_alone; front = prints_front }
