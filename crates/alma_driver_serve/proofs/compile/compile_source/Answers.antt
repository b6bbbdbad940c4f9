use Rattle.alma_ir.specs.View.{program_of}
use Rattle.alma_driver_outcome.specs.Ends.{end_of_program, program}
use Rattle.alma_driver_outcome.specs.Outcome.{CompileOutcome}
use Rattle.alma_driver_outcome.proofs.DriverLemmas.{failure, works_program, works_read, works_stopped}
use Rattle.alma_driver_serve.proofs.compile.compile_source.Goals as goal

pub store_program-requires : goal.store_program-requires
store_program-requires g c = record { checked = c.in-Ok.ensures.checked }

pub returns-in-Ok : goal.returns-in-Ok
returns-in-Ok g c =
    let p = program_of c.in-Ok.program in
    rw c.from.ensures (works_read c.args.source.now (λ p. CompileOutcome p c.args.object.now) p
    (g.F.Files.side c.args.files.now) (g.F.Files.side c.store_program.new.files) (end_of_program c.store_program.result)
    c.in-Ok.ensures.program
    (works_program p c.args.object.now (g.F.Files.side c.args.files.now) (g.F.Files.side c.store_program.new.files) c.store_program.result
    (c.store_program.ensures program failure)))

pub returns-in-Err : goal.returns-in-Err
returns-in-Err g c =
    works_stopped c.args.source.now (λ p. CompileOutcome p c.args.object.now) (g.F.Files.side c.args.files.now) c.in-Err.end
    c.in-Err.ensures.stop
