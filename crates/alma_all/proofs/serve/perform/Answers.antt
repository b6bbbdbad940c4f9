use Rattle.std.proofs.lemmas.Result.{err_from_is_err_and}
use Rattle.alma_plan.specs.Refusals.{refusal_end}
use Rattle.alma_all.specs.All.{program}
use Rattle.alma_all.proofs.WordCourses.{course_end}
use Rattle.alma_all.proofs.serve.perform.Goals as goal

pub returns-in_err-file : goal.returns-in_err-file
returns-in_err-file g c =
    let p = err_from_is_err_and c.from_residual.result c.from_residual.ensures.1 in
    rw (c.in_err-file.ensures.request, p.1, p.2) (course_end (refusal_end program c.in_err-file.field-0.0) _ _ _)

pub returns : goal.returns
returns g c = rw c.in_ok-file.ensures.request c.list_file.ensures
