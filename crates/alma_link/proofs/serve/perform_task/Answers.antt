use Rattle.alma_link.specs.Link.{failure, program}
use Rattle.alma_link.proofs.serve.perform_task.Goals as goal

pub returns-in-Run : goal.returns-in-Run
returns-in-Run g c = rw c.in-Run.is (c.run_program.ensures program failure (g.F.Files.side c.args.files.now))

pub returns-in-Compile : goal.returns-in-Compile
returns-in-Compile g c = rw c.in-Compile.is
    (c.store_program.ensures program failure (g.I.Source.side c.args.input.now) (g.O.Sink.side c.args.out.now))
