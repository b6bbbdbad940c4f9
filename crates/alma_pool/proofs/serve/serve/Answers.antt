use Rattle.std.proofs.Common.{[], refl}
use Rattle.std.proofs.lemmas.Result.{err_from_is_err_and}
use Rattle.alma_plan.proofs.Courses.{course_ends, course_fetched, course_unfetched, gains_none}
use Rattle.alma_plan.specs.Course.{whole}
use Rattle.alma_plan.specs.Plan.{silent, bad_word, plain}
use Rattle.alma_driver_words.specs.Words.{texts}
use Rattle.alma_pool.specs.Due.{program, objects_plan, turns_limit}
use Rattle.alma_pool.proofs.serve.serve.Goals as goal

pub serve_objects-requires : goal.serve_objects-requires
serve_objects-requires g c = rw c.deref.ensures.value c.in_ok-bytes.ensures.answer.1

pub returns-in_default : goal.returns-in_default
returns-in_default g c =
    rw c.in_default.ensures (course_ends plain program (silent (bad_word program 1)) _ _ _ _ _
    (whole (silent (bad_word program 1)) refl refl refl (gains_none _)))

pub returns : goal.returns
returns g c =
    let got = c.in_ok-bytes.ensures.answer in
    rw c.in-Some.ensures (course_fetched plain program c.in-Some.turns.now turns_limit
    (λ bytes. objects_plan bytes [] (texts c.in-Some.objects.now)) c.in_ok-bytes.bytes.items
    _ _ _ _ _ _ _ _ (c.in_ok-bytes.ensures.same, c.in_ok-bytes.ensures.store_count) got.2 got.0 got.1
    (rw (c.deref.ensures.value, c.new-got.ensures.items) at c.serve_objects.ensures))

pub returns-in_err-bytes : goal.returns-in_err-bytes
returns-in_err-bytes g c =
    let p = err_from_is_err_and c.from_residual.result c.from_residual.ensures.1 in
    rw (c.in-Some.ensures, p.1, p.2) (course_unfetched plain program c.in-Some.turns.now turns_limit
    (λ bytes. objects_plan bytes [] (texts c.in-Some.objects.now))
    _ _ _ _ _ (c.in_err-bytes.ensures.same, c.in_err-bytes.ensures.store_count) c.in_err-bytes.ensures.answer)
