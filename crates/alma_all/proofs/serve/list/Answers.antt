use Rattle.std.proofs.Common.{ap}
use Rattle.std.proofs.lemmas.Result.{err_from_is_err_and}
use Rattle.std.specs.Prelude.{Err}
use Rattle.alma_ir.specs.View.{program_of}
use Rattle.alma_plan.specs.Plan.{success}
use Rattle.alma_all.specs.All.{program}
use Rattle.alma_all.proofs.Returns.{course_listed, course_unlisted}
use Rattle.alma_all.proofs.serve.list.Goals as goal

pub returns-in_err-lister : goal.returns-in_err-lister
returns-in_err-lister g c = λ files.
    let p = err_from_is_err_and c.from_residual.result c.from_residual.ensures.1 in
    rw (p.1, p.2) (course_unlisted (program_of c.args.program.now) c.args.steps files _ _ c.in_err-lister.field-0.0
    (λ e. c.in_err-lister.ensures.refused (ap Err e)))

pub returns : goal.returns
returns g c = λ files.
    course_listed (program_of c.args.program.now) (program_of c.in_ok-lister.lister) c.args.steps files
    (g.I.Source.side c.args.input.now) (g.I.Source.side c.run_program.new.input) (g.O.Sink.side c.args.out.now)
    (g.O.Sink.side c.run_program.new.out) _
    c.in_ok-lister.ensures.taken c.in_ok-lister.ensures.program (c.run_program.ensures program success files)
