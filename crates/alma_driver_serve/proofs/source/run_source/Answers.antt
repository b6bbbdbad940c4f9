use Rattle.alma_ir.specs.View.{program_of}
use Rattle.alma_driver_outcome.specs.Outcome.{ProgramOutcome}
use Rattle.alma_driver_outcome.specs.Showing.{shown_of}
use Rattle.alma_driver_outcome.proofs.DriverLemmas.{runs_read, runs_stopped}
use Rattle.alma_driver_serve.proofs.source.run_source.Goals as goal

pub run_program-requires-clause-checked : goal.run_program-requires-clause-checked
run_program-requires-clause-checked g c = c.in-Ok.ensures.checked

pub returns-in-Ok : goal.returns-in-Ok
returns-in-Ok g c =
    runs_read c.args.source.now (λ p. ProgramOutcome (g.I.Source.side c.args.input.now).left p c.args.steps (shown_of c.args.showing))
    (program_of c.in-Ok.program) (g.I.Source.side c.args.input.now)
    (g.I.Source.side c.run_program.new.input) (g.O.Sink.side c.args.out.now)
    (g.O.Sink.side c.run_program.new.out) c.run_program.result c.in-Ok.ensures.program c.run_program.ensures

pub returns-in-Err : goal.returns-in-Err
returns-in-Err g c =
    runs_stopped c.args.source.now (λ p. ProgramOutcome (g.I.Source.side c.args.input.now).left p c.args.steps (shown_of c.args.showing))
    (g.I.Source.side c.args.input.now) (g.O.Sink.side c.args.out.now) c.in-Err.end c.in-Err.ensures.stop
