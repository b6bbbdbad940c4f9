use Rattle.std.proofs.Common.{◌∙◌, [], sym}
use Rattle.alma_plan.specs.Plan.{prints, plain}
use Rattle.alma_plan.proofs.Courses.{course_ends}
use Rattle.alma_pool.specs.Due.{program, pool_text, turns_in}
use Rattle.alma_pool.specs.Inner.{codes_of}
use Rattle.alma_pool.proofs.play.play.Goals as goal

pub returns-then-any_reads : goal.returns-then-any_reads
returns-then-any_reads g c = λ files. rw (sym c.any_reads.ensures ∙ c.if-any_reads.true) (c.play_reading.ensures files)

pub returns-else-any_reads : goal.returns-else-any_reads
returns-else-any_reads g c = λ files.
    rw (sym c.any_reads.ensures ∙ c.if-any_reads.false)
    (course_ends plain program (prints (pool_text 0 (codes_of c.args.verified.now) [] (turns_in c.args.turns.now))) files _ _ _ _
    c.play_on.ensures)
