use Rattle.std.proofs.lemmas.Result.{err_from_is_err_and}
use Rattle.alma_driver_words.specs.Words.{texts}
use Rattle.alma_link.proofs.Mapped.{mapped_err, mapped_ok}
use Rattle.alma_link.proofs.Plans.{course_bad}
use Rattle.alma_link.proofs.serve.perform.Goals as goal

pub returns-in_err-request : goal.returns-in_err-request
returns-in_err-request g c =
    let p = err_from_is_err_and c.from_residual.result c.from_residual.ensures.1 in
    let word = mapped_err c.request_of.result c.map_err.result _ _ c.map_err.ensures.cases c.in_err-request.was in
    rw (p.1, p.2) (course_bad (texts c.args.words.now) word.0 c.in_err-request.field-0.0 _ _ _
    (rw word.1 at c.request_of.ensures.request) word.2)

pub returns : goal.returns
returns g c =
    let read = mapped_ok c.request_of.result c.map_err.result _ c.in_ok-request.request c.map_err.ensures.cases c.in_ok-request.was in
    let request = rw read at c.request_of.ensures.request in
    rw request (rw c.requires.none at c.serve_files.ensures)
