use Rattle.std.proofs.Common.{sym, subst, ◌∙◌}
use Rattle.alma_plan.proofs.Courses.{course_starved}
use Rattle.alma_lower.specs.CodeFor.{IsCodeFor}
use Rattle.alma_plan.proofs.run.run_code.Goals as goal

pub open_encoded-verified-requires-clause-object : goal.open_encoded-verified-requires-clause-object
open_encoded-verified-requires-clause-object g c = record {
  version = c.requires.version;
  counts = c.requires.counts;
  records = c.requires.records;
  table = c.requires.sound.table;
  spelled = sym (c.deref.ensures.value ∙ c.in-Ok.ensures);
}

pub returns-in-Ok : goal.returns-in-Ok
returns-in-Ok g c = λ p is program failed files.
    c.run_verified.ensures p (subst (IsCodeFor p) (sym c.open_encoded-verified.ensures) is) program failed files

pub returns-in-Err : goal.returns-in-Err
returns-in-Err g c = λ p is program failed files. course_starved program _ _ files _ _
