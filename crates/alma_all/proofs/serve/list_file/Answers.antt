use Rattle.alma_plan.specs.Plan.{success}
use Rattle.alma_plan.proofs.Sources.{course_read_source, course_unread_source}
use Rattle.alma_all.specs.All.{program, list_plan}
use Rattle.alma_all.proofs.serve.list_file.Goals as goal

pub returns-in-Ok : goal.returns-in-Ok
returns-in-Ok g c =
    let e = c.in-Ok.ensures in
    course_read_source program success c.args.file.now (λ p. list_plan p c.args.steps) c.in-Ok.program _ _ _ _ _ _ _ _
    (e.same, e.store_count) e.answer (c.list.ensures (g.F.Files.side c.read_unit.new.files))

pub returns-in-Err : goal.returns-in-Err
returns-in-Err g c =
    let e = c.in-Err.ensures in
    rw c.from.ensures (course_unread_source program success c.args.file.now (λ p. list_plan p c.args.steps) c.in-Err.error _ _ _ _
    (e.same, e.store_count) e.answer)
