use Rattle.alma_code.specs.Plain.{code_of}
use Rattle.alma_ir.specs.View.{program_of}
use Rattle.alma_driver_outcome.specs.Showing.{shown_of}
use Rattle.alma_driver_outcome.proofs.DriverLemmas.{unlowered, runs_compiled, runs_refused}
use Rattle.alma_run_laws.proofs.Sizes.{compiled_within}
use Rattle.alma_driver_serve.proofs.source.run_program.Goals as goal

pub returns-in-Ok : goal.returns-in-Ok
returns-in-Ok g c =
    let p = program_of c.args.program.now in
    runs_compiled p (code_of c.in-Ok.code) c.args.steps (shown_of c.args.showing) (g.I.Source.side c.args.input.now)
    (g.I.Source.side c.run_code.new.input) (g.O.Sink.side c.args.out.now)
    (g.O.Sink.side c.run_code.new.out) c.run_code.result
    c.in-Ok.ensures.code
    (compiled_within p c.in-Ok.code c.in-Ok.ensures.too_much) c.run_code.ensures

pub returns-in-Err : goal.returns-in-Err
returns-in-Err g c =
    let p = program_of c.args.program.now in
    rw c.from.ensures (runs_refused p c.args.steps (shown_of c.args.showing) c.in-Err.error (g.I.Source.side c.args.input.now)
    (g.O.Sink.side c.args.out.now)
    (unlowered p c.in-Err.error c.in-Err.ensures.too_much c.in-Err.ensures.within))
