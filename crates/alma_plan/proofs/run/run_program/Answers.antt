use Rattle.alma_ir.specs.View.{program_of}
use Rattle.alma_plan.proofs.Courses.{course_starved}
use Rattle.alma_plan.proofs.Sizes.{course_within, course_large}
use Rattle.alma_run_laws.proofs.Sizes.{compiled_within, refused_large}
use Rattle.alma_plan.proofs.run.run_program.Goals as goal

pub returns-in-Ok : goal.returns-in-Ok
returns-in-Ok g c = λ program failed files.
    let p = program_of c.args.program.now in
    let e = c.in-Ok.ensures in
    course_within program failed p _ files _ _ _ _ _ _ (compiled_within p c.in-Ok.code e.too_much)
    (c.run_code.ensures p e.code program failed files)

pub returns-in-Err-TooMuchCode : goal.returns-in-Err-TooMuchCode
returns-in-Err-TooMuchCode g c = λ program failed files.
    let p = program_of c.args.program.now in
    let e = c.in-Err-TooMuchCode.ensures in
    let r = refused_large p c.in-Err-TooMuchCode.size (rw c.in-Err-TooMuchCode.field-0-is at e.too_much)
    (rw c.in-Err-TooMuchCode.field-0-is at e.within) in
    rw c.in-Err-TooMuchCode.size-is (course_large program failed p _ files _ _ c.in-Err-TooMuchCode.size r.0 r.1)

pub returns-in-Err-Memory : goal.returns-in-Err-Memory
returns-in-Err-Memory g c = λ program failed files. course_starved program _ _ files _ _
