use Rattle.alma_driver_outcome.specs.Outcome.{SampleOutcome}
use Rattle.alma_driver_outcome.proofs.CourseLemmas.{goes_starved}
use Rattle.alma_driver_serve.proofs.SampleLemmas.{goes_summed}
use Rattle.alma_driver_serve.proofs.sample.sum_up.Goals as goal

pub returns-in-Ok : goal.returns-in-Ok
returns-in-Ok g c =
    goes_summed c.args.lines c.args.source.now c.in-Ok.told.printed c.in-Ok.told.status (g.O.Sink.side c.args.out.now)
    (g.O.Sink.side c.show_summary.new.out) c.show_summary.result c.requires.text c.in-Ok.ensures c.show_summary.ensures

pub returns-in-Err : goal.returns-in-Err
returns-in-Err g c = goes_starved (SampleOutcome c.args.lines) (g.O.Sink.side c.args.out.now)
