use Rattle.std.proofs.Common.{◌≡◌, ◌∙◌, [], sym, ap, true, false}
use Rattle.alma_code.specs.Reads.{code_reads}
use Rattle.alma_object.specs.View.{code_of_view}
use Rattle.alma_verify.specs.Verified.{code_of_verified}
use Rattle.alma_plan.specs.Plan.{prints, plain}
use Rattle.alma_plan.proofs.Courses.{course_ends}
use Rattle.alma_back.specs.Due.{program}
use Rattle.alma_back.specs.Inner.{lines_of}
use Rattle.alma_back.specs.Session.{session}
use Rattle.alma_back.proofs.walk.walk.Goals as goal

pub returns-then-has_read : goal.returns-then-has_read
returns-then-has_read g c = λ files.
    let reads : code_reads (code_of_verified c.args.code) ≡ true =
    ap (λ v. code_reads (code_of_view v)) (sym c.view.ensures.view) ∙ sym c.has_read.ensures ∙ c.if-has_read.true in
    rw reads (c.walk_reading.ensures files)

pub returns-else-has_read : goal.returns-else-has_read
returns-else-has_read g c = λ files.
    let reads : code_reads (code_of_verified c.args.code) ≡ false =
    ap (λ v. code_reads (code_of_view v)) (sym c.view.ensures.view) ∙ sym c.has_read.ensures ∙ c.if-has_read.false in
    rw reads (course_ends plain program
    (prints (session (code_of_verified c.args.code) [] (lines_of c.args.lines.now))) files _ _ _ _ c.walk_on.ensures)
