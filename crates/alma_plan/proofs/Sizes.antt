-- Programs within their limit of size, and those past it, as parts of a plan.
use Rattle.std.proofs.Common.{◌≡◌, ◌≤◌, ◌<◌, ℕ, List, ap, refl, subst, sym}
use Rattle.std.proofs.lemmas.Bool.{lt-ltb, le-ltb}
use Rattle.std.specs.Prelude.{◌++◌, Bool, codes, decimal}
use Rattle.alma_base.specs.Limits.{size_limit}
use Rattle.alma_io.specs.Sides.{SinkSide, SourceSide, FilesSide}
use Rattle.alma_ir.specs.Tree.{Program}
use Rattle.alma_plan.specs.Course.{Follows, whole}
use Rattle.alma_plan.specs.Plan.{Ending, Plan, silent, tells, too_much_code}
use Rattle.alma_plan.proofs.Courses.{course_ends, gains_none}
use Rattle.alma_run_laws.specs.Shown.{size_of}
use Rattle.alma_source.specs.Verdict.{Verdict}
use Rattle.alma_plan.specs.Programs.{Last, Tells, sense, unless_large, within_size}

module _ (program : List ℕ) (failed : Ending) (p : Program) (next : Plan Verdict Last) where
  -- a program within its limit goes on
  pub course_within : (f g : FilesSide) (i j : SourceSide) (o q : SinkSide) (end : Ending) → size_of p ≤ size_limit
      → Follows (sense program failed) program next f g i j o q end
      → Follows (sense program failed) program (within_size program p next) f g i j o q end
  course_within f g i j o q end small course =
      subst (λ (large : Bool). Follows (sense program failed) program (unless_large large program p next) f g i j o q end)
      (sym (le-ltb size_limit (size_of p) small)) course

  -- one past it is refused
  pub course_large : (f : FilesSide) (i : SourceSide) (o : SinkSide) (n : ℕ) → size_limit < size_of p → n ≡ size_of p
      → Follows (sense program failed) program (within_size program p next) f f i i o o
      (tells program 11 (codes "too much code " ++ decimal n))
  course_large f i o n large is =
      subst (λ (b : Bool). Follows (sense program failed) program (unless_large b program p next) f f i i o o
      (tells program 11 (codes "too much code " ++ decimal n))) (sym (lt-ltb size_limit (size_of p) large))
      (course_ends (sense program failed) program (Tells (silent (too_much_code program (size_of p)))) f i o o _
      (whole (silent (too_much_code program (size_of p))) refl (ap (λ k. tells program 11 (codes "too much code " ++ decimal k)) (sym
      is)) refl
      (gains_none o)))
