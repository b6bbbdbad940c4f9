use Rattle.std.proofs.lemmas.Result.{err_from_is_err_and}
use Rattle.alma_plan.specs.Plan.{prints, plain}
use Rattle.alma_plan.proofs.Courses.{course_read, course_unread}
use Rattle.alma_pool.specs.Due.{program, pool_text, turns_in}
use Rattle.alma_pool.specs.Inner.{codes_of}
use Rattle.alma_plan.proofs.PlainEnds.{is_due}
use Rattle.alma_pool.proofs.play.play_reading.Goals as goal

pub play_on-requires-clause-lawful : goal.play_on-requires-clause-lawful
play_on-requires-clause-lawful g c = rw c.deref.ensures.value c.in_ok-bytes.ensures.within

pub returns : goal.returns
returns g c = λ files.
    course_read plain program (λ bytes. prints (pool_text 0 (codes_of c.args.verified.now) bytes (turns_in c.args.turns.now)))
    (is_due (λ bytes. prints (pool_text 0 (codes_of c.args.verified.now) bytes (turns_in c.args.turns.now)))) c.in_ok-bytes.bytes.items
    files
    (g.I.Source.side c.args.input.now) (g.I.Source.side c.read_all.new.source) (g.O.Sink.side c.args.out.now)
    (g.O.Sink.side c.play_on.new.out) _
    c.in_ok-bytes.ensures.all.0 c.in_ok-bytes.ensures.all.1 c.in_ok-bytes.ensures.within c.in_ok-bytes.ensures.cause (rw
    c.deref.ensures.value at c.play_on.ensures)

pub returns-in_err-bytes : goal.returns-in_err-bytes
returns-in_err-bytes g c = λ files.
    let p = err_from_is_err_and c.from_residual.result c.from_residual.ensures.1 in
    rw (p.1, p.2) (course_unread plain program
    (λ bytes. prints (pool_text 0 (codes_of c.args.verified.now) bytes (turns_in c.args.turns.now)))
    (is_due (λ bytes. prints (pool_text 0 (codes_of c.args.verified.now) bytes (turns_in c.args.turns.now)))) _ files
    (g.I.Source.side c.args.input.now) (g.I.Source.side c.read_all.new.source) (g.O.Sink.side c.args.out.now)
    c.in_err-bytes.ensures.prefix c.in_err-bytes.ensures.cause c.in_err-bytes.ensures.too_long c.in_err-bytes.ensures.one_past)
