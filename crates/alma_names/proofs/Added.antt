-- The entries of a map, after an insertion of a key that it did not have.
use Rattle.std.proofs.Common.{◌≡◌, List, [], ◌∷◌, ◌++◌, Some, None, Bool, true, false, cond, if◌then◌else◌, Vec, Global, refl, ap}
use Rattle.std.specs.Prelude.{ℕ}
use Rattle.std.specs.Map.{lookup}
use Rattle.indexmap.specs.IndexMap.{insert_entry}

-- a new name goes last
pub added : {X : Type 0} (eq : Vec ℕ Global → Vec ℕ Global → Bool) (key : Vec ℕ Global) (x : X) (es : List (Vec ℕ Global × X))
    → lookup (eq key) es ≡ None → insert_entry eq es key x ≡ es ++ (key, x) ∷ []
added eq key x [] h = refl
added eq key x (e ∷ es) h = elim (eq key e.0)
    as (λ b. cond b (Some e.1) (lookup (eq key) es) ≡ None
    → (if b then (e.0, x) ∷ es else e ∷ insert_entry eq es key x) ≡ e ∷ (es ++ (key, x) ∷ []))
    [ true ↦ λ n. absurd (cc) | false ↦ λ n. ap (λ r. e ∷ r) (added eq key x es n) ] h
