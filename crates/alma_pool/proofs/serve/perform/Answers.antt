use Rattle.std.proofs.Common.{◌∙◌, sym, refl}
use Rattle.alma_plan.proofs.Courses.{course_ends, gains_none}
use Rattle.alma_plan.specs.Course.{whole}
use Rattle.alma_plan.specs.Plan.{silent, bad_word, plain}
use Rattle.alma_pool.specs.Due.{program}
use Rattle.alma_pool.proofs.serve.perform.Goals as goal

pub returns-in-Some : goal.returns-in-Some
returns-in-Some g c =
    rw (sym c.bad_file.ensures ∙ c.in-Some.is) (course_ends plain program (silent (bad_word program c.in-Some.word)) _ _ _ _ _
    (whole (silent (bad_word program c.in-Some.word)) refl refl refl (gains_none _)))

pub returns-in-None : goal.returns-in-None
returns-in-None g c = rw (sym c.bad_file.ensures ∙ c.in-None.is) c.serve.ensures
