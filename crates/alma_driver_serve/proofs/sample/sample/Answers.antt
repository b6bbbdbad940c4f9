use Rattle.std.proofs.Common.{◌∙◌}
use Rattle.alma_driver_outcome.specs.Outcome.{SampleOutcome}
use Rattle.alma_driver_outcome.proofs.CourseLemmas.{goes_starved}
use Rattle.alma_driver_serve.proofs.sample.sample.Goals as goal

pub sum_up-requires-clause-text : goal.sum_up-requires-clause-text
sum_up-requires-clause-text g c = c.deref.ensures.value ∙ c.in-Ok.ensures.text

pub sum_up-requires-clause-short : goal.sum_up-requires-clause-short
sum_up-requires-clause-short g c = rw (c.deref.ensures.value, c.in-Ok.ensures.text) c.in-Ok.ensures.short

pub returns-in-Err : goal.returns-in-Err
returns-in-Err g c = goes_starved (SampleOutcome c.args.lines) (g.O.Sink.side c.args.out.now)
