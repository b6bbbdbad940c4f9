use Rattle.std.proofs.lemmas.Result.{err_from_is_err_and}
use Rattle.alma_base.specs.Limits.{object_limit}
use Rattle.alma_plan.proofs.Courses.{course_fetched, course_unfetched}
use Rattle.alma_plan.specs.Plan.{Fetches, plain}
use Rattle.alma_back.specs.Due.{program, walk_files_plan, script_limit}
use Rattle.alma_back.proofs.serve.serve.Goals as goal

pub returns-in_err-bytes : goal.returns-in_err-bytes
returns-in_err-bytes g c =
    let p = err_from_is_err_and c.from_residual.result c.from_residual.ensures.1 in
    rw (p.1, p.2) (course_unfetched plain program c.args.object.now object_limit
    (λ bytes. Fetches c.args.script.now script_limit (λ lines. walk_files_plan bytes lines))
    c.in_err-bytes.field-0.0 _ _ _ _ (c.in_err-bytes.ensures.same, c.in_err-bytes.ensures.store_count) c.in_err-bytes.ensures.answer)

pub returns : goal.returns
returns g c =
    let got = c.in_ok-bytes.ensures.answer in
    course_fetched plain program c.args.object.now object_limit
    (λ bytes. Fetches c.args.script.now script_limit (λ lines. walk_files_plan bytes lines)) c.in_ok-bytes.bytes.items
    _ _ _ _ _ _ _ _ (c.in_ok-bytes.ensures.same, c.in_ok-bytes.ensures.store_count) got.2 got.0 got.1
    (rw c.deref.ensures.value at c.serve_script.ensures)
