-- What stands round a phrase.
use Rattle.std.proofs.Common.{◌≡◌, ℕ, zero, suc, ◌<◌, ◌≤◌, List, [], ◌∷◌, length, map, get_or, refl, sym, ap, ◌∙◌, arith}
use Rattle.std.proofs.lemmas.List.{get_or-map}
use Rattle.alma_ir.specs.declared.program.Routine.{Routine}
use Rattle.alma_ir.specs.Tree.{no_routine, routine_at}
use Rattle.alma_ir.specs.View.{routine_of}
use Rattle.alma_lower_work.specs.declared.scene.Scene.{Scene}
use Rattle.alma_lower_work.specs.Front.{around}

-- a routine that the program has
pub routine_found : (s : Scene) (rs : List Routine) (r : ℕ) (x : Routine) → rs ≡ s.program.now.routines.items → r < length rs
    → x ≡ get_or rs r x
    → routine_of x ≡ routine_at (around s).program r
unfolding around
routine_found s rs r x are lt is =
    ap routine_of is ∙ sym (get_or-map routine_of rs r x no_routine lt) ∙ ap (λ l. get_or (map routine_of l) r no_routine) are

-- no routine has a number past those of the program
past_all : (rs : List Routine) (r : ℕ) → length rs ≤ r → no_routine ≡ get_or (map routine_of rs) r no_routine
past_all [] r le = refl
past_all (y ∷ rs) zero le = absurd (omega (arith, le))
past_all (y ∷ rs) (suc r) le = past_all rs r (omega (arith, le))

-- a routine that the program has not
pub routine_past : (s : Scene) (rs : List Routine) (r : ℕ) → rs ≡ s.program.now.routines.items → length rs ≤ r
    → no_routine ≡ routine_at (around s).program r
unfolding around
routine_past s rs r are le = past_all rs r le ∙ ap (λ l. get_or (map routine_of l) r no_routine) are
