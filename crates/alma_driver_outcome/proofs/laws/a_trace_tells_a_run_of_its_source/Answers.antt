use Rattle.alma_driver_outcome.proofs.CommandLemmas.{trace_ends}
use Rattle.alma_driver_outcome.proofs.laws.a_trace_tells_a_run_of_its_source.Goals as goal

pub returns : goal.returns
returns c = record {
  shown = λ words name source input steps watch before after status.
      trace_ends words before after status name source input steps watch;
}
