use Rattle.std.proofs.Common.{ℕ, ◌++◌, ◌∷◌, []}
use Rattle.std.proofs.lemmas.Result.{err_from_is_err_and}
use Rattle.std.proofs.lemmas.List.{map-append}
use Rattle.std.specs.Global.{Vec}
use Rattle.alma_base.specs.Limits.{object_limit}
use Rattle.alma_plan.proofs.Courses.{course_fetched, course_unfetched}
use Rattle.alma_driver_words.specs.Words.{texts}
use Rattle.alma_plan.specs.Plan.{plain}
use Rattle.alma_pool.specs.Due.{program, objects_plan}
use Rattle.alma_pool.specs.Inner.{all_bytes}
use Rattle.alma_pool.proofs.serve.+serve_objects.Goals as goal

pub returns-in_default : goal.returns-in_default
returns-in_default g t c = rw c.in_default.ensures (rw c.as_slice.ensures.value at (c.play_files.ensures (g.F.Files.side c.args.files.now)))

pub returns-in_err-bytes : goal.returns-in_err-bytes
returns-in_err-bytes g t c =
    let p = err_from_is_err_and c.from_residual.result c.from_residual.ensures.1 in
    rw (c.in-Some.ensures, p.1, p.2) (course_unfetched plain program c.in-Some.name.now object_limit
    (λ bytes. objects_plan c.args.turns.now (all_bytes c.args.got.now.items ++ bytes ∷ []) (texts c.in-Some.rest.now))
    _ _ _ _ _ (c.in_err-bytes.ensures.same, c.in_err-bytes.ensures.store_count) c.in_err-bytes.ensures.answer)

pub returns : goal.returns
returns g t c =
    let got = c.in_ok-bytes.ensures.answer in
    let more = c.in_ok-push.ensures.items in
    rw c.in-Some.ensures (course_fetched plain program c.in-Some.name.now object_limit
    (λ bytes. objects_plan c.args.turns.now (all_bytes c.args.got.now.items ++ bytes ∷ []) (texts c.in-Some.rest.now))
    c.in_ok-bytes.bytes.items
    _ _ _ _ _ _ _ _ (c.in_ok-bytes.ensures.same, c.in_ok-bytes.ensures.store_count) got.2 got.0 got.1
    (rw (more, map-append (λ (file : Vec ℕ). file.items) c.args.got.now.items (c.in_ok-bytes.bytes ∷ [])) at c.serve_objects.ensures))
