use Rattle.std.proofs.Common.{rules, [], ◌∷◌, ◌++◌, arith}
use Rattle.std.proofs.lemmas.List.{length-map, map-append}
use Rattle.std.proofs.lemmas.Result.{err_from_is_err_and}
use Rattle.std.specs.Prelude.{map}
use Rattle.std.specs.String.{string_bytes}
use Rattle.alma_ir.specs.View.{program_of}
use Rattle.alma_plan.proofs.Courses.{course_starved}
use Rattle.alma_driver_words.specs.Words.{texts}
use Rattle.alma_plan.proofs.Sources.{course_read_source, course_unread_source}
use Rattle.alma_link.specs.Ends.{task_of}
use Rattle.alma_link.specs.Link.{program, failure, files_plan}
use Rattle.alma_link.proofs.UnitLemmas.{one_more}
use Rattle.alma_link.proofs.WordLemmas.{same_count}
use Rattle.alma_link.proofs.serve.+serve_files.Goals as goal

pub returns-in_default : goal.returns-in_default
returns-in_default g t c = rw c.in_default.ensures (rw c.as_slice.ensures.value at c.serve_units.ensures)

pub serve_files-requires : goal.serve_files-requires
serve_files-requires g t c κs within =
    let more = c.in_ok-push-in-Ok.ensures.items in
    let units = one_more c.args.units.now.items c.in-Ok.unit c.push.new.self.items more c.requires.checked c.in-Ok.ensures.checked in
    let names = same_count c.args.names.now (c.in-Some.name.now ∷ texts c.in-Some.rest.now) c.in-Some.ensures in
    let rest = length-map c.in-Some.rest.now (λ word. string_bytes word) in (
      omega (arith, names, rest),
      (
        search rules,
        (
          search rules,
          (
            search rules,
            (
              units.0,
              (omega (arith, names, rest, units.1, c.requires.some), omega (arith, names, rest, units.1, c.requires.few)),
            ),
          ),
        ),
      ),
    )

pub returns-in_err-push-in-Ok : goal.returns-in_err-push-in-Ok
returns-in_err-push-in-Ok g t c =
    let p = err_from_is_err_and c.from_residual.result c.from_residual.ensures.1 in
    rw (c.in-Some.ensures, p.1, p.2) (course_read_source program failure c.in-Some.name.now
    (λ p. files_plan (task_of c.args.task) (map program_of c.args.units.now.items ++ p ∷ []) (texts c.in-Some.rest.now)) c.in-Ok.unit
    _ _ _ _ _ _ _ _ (c.in-Ok.ensures.same, c.in-Ok.ensures.store_count) c.in-Ok.ensures.answer (course_starved program _ _ _ _ _))

pub returns-in_ok-push-in-Ok : goal.returns-in_ok-push-in-Ok
returns-in_ok-push-in-Ok g t c =
    let more = c.in_ok-push-in-Ok.ensures.items in
    rw c.in-Some.ensures (course_read_source program failure c.in-Some.name.now
    (λ p. files_plan (task_of c.args.task) (map program_of c.args.units.now.items ++ p ∷ []) (texts c.in-Some.rest.now)) c.in-Ok.unit
    _ _ _ _ _ _ _ _ (c.in-Ok.ensures.same, c.in-Ok.ensures.store_count) c.in-Ok.ensures.answer
    (rw (more, map-append program_of c.args.units.now.items (c.in-Ok.unit ∷ [])) at c.serve_files.ensures))

pub returns-in-Err : goal.returns-in-Err
returns-in-Err g t c =
    rw (c.in-Some.ensures, c.from.ensures) (course_unread_source program failure c.in-Some.name.now
    (λ p. files_plan (task_of c.args.task) (map program_of c.args.units.now.items ++ p ∷ []) (texts c.in-Some.rest.now)) c.in-Err.error
    _ _ _ _ (c.in-Err.ensures.same, c.in-Err.ensures.store_count) c.in-Err.ensures.answer)
