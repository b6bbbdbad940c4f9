use Rattle.std.proofs.Common.{◌≡◌, ◌∙◌, [], ap, sym}
use Rattle.std.specs.Prelude.{true, false}
use Rattle.alma_code.specs.Reads.{code_reads}
use Rattle.alma_object.specs.View.{code_of_view}
use Rattle.alma_plan.proofs.Courses.{course_ends, course_read, course_unread}
use Rattle.alma_verify.specs.Verified.{code_of_verified}
use Rattle.alma_plan.specs.Programs.{Runs, sense}
use Rattle.alma_plan.proofs.Running.{goes_program, run_is_due}
use Rattle.alma_plan.proofs.run.run_verified.Goals as goal

pub returns-then-not-has_read : goal.returns-then-not-has_read
returns-then-not-has_read g c = λ p is program failed files.
    let quiet : code_reads (code_of_verified c.args.code) ≡ false = ap (λ v. code_reads (code_of_view v)) (sym c.view.ensures.view)
    ∙ sym c.has_read.ensures ∙ c.if-not-has_read.true in
    rw (sym is.reads ∙ quiet) (course_ends (sense program failed) program (Runs p [] c.args.steps) files (g.I.Source.side c.args.input.now)
    _ _ _
    (goes_program program failed p (code_of_verified c.args.code) [] c.args.steps _ _ _ is (c.run_on.ensures program failed)))

pub returns-in-Ok : goal.returns-in-Ok
returns-in-Ok g c = λ p is program failed files.
    let reads : code_reads (code_of_verified c.args.code) ≡ true = ap (λ v. code_reads (code_of_view v)) (sym c.view.ensures.view)
    ∙ sym c.has_read.ensures ∙ c.if-not-has_read.false in
    rw (sym is.reads ∙ reads) (course_read (sense program failed) program (λ input. Runs p input c.args.steps)
    (run_is_due program failed p (code_of_verified c.args.code) c.args.steps is)
    c.in-Ok.bytes.items files (g.I.Source.side c.args.input.now) (g.I.Source.side c.read_all.new.source) (g.O.Sink.side c.args.out.now)
    (g.O.Sink.side c.run_on-in-Ok.new.out) _
    c.in-Ok.ensures.all.0 c.in-Ok.ensures.all.1 c.in-Ok.ensures.within c.in-Ok.ensures.cause
    (goes_program program failed p (code_of_verified c.args.code) c.in-Ok.bytes.items c.args.steps _ _ _ is
    (rw c.deref.ensures.value at c.run_on-in-Ok.ensures program failed)))

pub returns-in-Err : goal.returns-in-Err
returns-in-Err g c = λ p is program failed files.
    let reads : code_reads (code_of_verified c.args.code) ≡ true = ap (λ v. code_reads (code_of_view v)) (sym c.view.ensures.view)
    ∙ sym c.has_read.ensures ∙ c.if-not-has_read.false in
    rw (sym is.reads ∙ reads, c.from.ensures)
    (course_unread (sense program failed) program (λ input. Runs p input c.args.steps)
    (run_is_due program failed p (code_of_verified c.args.code) c.args.steps is) c.in-Err.error files
    (g.I.Source.side c.args.input.now) (g.I.Source.side c.read_all.new.source) (g.O.Sink.side c.args.out.now)
    c.in-Err.ensures.prefix c.in-Err.ensures.cause c.in-Err.ensures.too_long c.in-Err.ensures.one_past)
