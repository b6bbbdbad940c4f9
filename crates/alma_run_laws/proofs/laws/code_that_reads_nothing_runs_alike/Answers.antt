use Rattle.alma_code.specs.Machine.{start}
use Rattle.alma_run_laws.proofs.Unread.{after_alike, prints_alike}
use Rattle.alma_run_laws.proofs.laws.code_that_reads_nothing_runs_alike.Goals as goal

pub returns : goal.returns
returns c = record {
  state = λ code one other steps quiet. after_alike code one other steps (start code) quiet;
  prints = λ code one other steps quiet. prints_alike code one other steps (start code) quiet;
}
