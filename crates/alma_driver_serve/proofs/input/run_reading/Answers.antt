use Rattle.std.proofs.Common.{◌∙◌, ap}
use Rattle.alma_verify.specs.Verified.{code_of_verified}
use Rattle.alma_driver_outcome.specs.Ends.{end_of_stop}
use Rattle.alma_driver_outcome.specs.Showing.{shown_of}
use Rattle.alma_driver_outcome.proofs.DriverLemmas.{runs_taken, runs_lost}
use Rattle.alma_driver_serve.proofs.input.run_reading.Goals as goal

pub run_on-requires-clause-lawful : goal.run_on-requires-clause-lawful
run_on-requires-clause-lawful g c = rw c.deref.ensures.value c.in-Ok.ensures.within

pub returns-in-Ok : goal.returns-in-Ok
returns-in-Ok g c =
    runs_taken (code_of_verified c.args.code) c.args.steps (shown_of c.args.showing) (g.I.Source.side c.args.input.now)
    (g.I.Source.side c.read_all.new.source) c.in-Ok.bytes.items (g.O.Sink.side c.args.out.now)
    (g.O.Sink.side c.run_on.new.out) c.run_on.result c.requires.reads
    c.in-Ok.ensures.all.0 c.in-Ok.ensures.all.1 c.in-Ok.ensures.within c.in-Ok.ensures.cause (rw c.deref.ensures.value at c.run_on.ensures)

pub returns-in-Err : goal.returns-in-Err
returns-in-Err g c =
    rw (c.from-in-Err.ensures ∙ ap end_of_stop c.from.ensures)
    (runs_lost (code_of_verified c.args.code) c.args.steps (shown_of c.args.showing) (g.I.Source.side c.args.input.now)
    (g.I.Source.side c.read_all.new.source) c.in-Err.error (g.O.Sink.side c.args.out.now) c.requires.reads
    c.in-Err.ensures.prefix c.in-Err.ensures.cause c.in-Err.ensures.too_long c.in-Err.ensures.one_past)
