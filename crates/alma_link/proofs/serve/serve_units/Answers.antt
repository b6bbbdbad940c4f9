use Rattle.std.proofs.lemmas.Result.{err_from_is_err_and}
use Rattle.std.specs.Prelude.{map}
use Rattle.alma_ir.specs.View.{program_of}
use Rattle.alma_link.specs.Ends.{task_of}
use Rattle.alma_link.proofs.Plans.{course_joined, course_unjoined}
use Rattle.alma_link.proofs.serve.serve_units.Goals as goal

pub returns-in_err-joined : goal.returns-in_err-joined
returns-in_err-joined g c =
    let p = err_from_is_err_and c.from_residual.result c.from_residual.ensures.1 in
    rw (p.1, p.2) (course_unjoined (task_of c.args.task) (map program_of c.args.units.now) c.in_err-joined.field-0.0 _ _ _
    c.in_err-joined.ensures.refused)

pub returns : goal.returns
returns g c =
    course_joined (task_of c.args.task) (map program_of c.args.units.now) _ _ _ _ _ _ _ c.in_ok-joined.ensures.sound
    (rw c.in_ok-joined.ensures.joined at c.perform_task.ensures)
