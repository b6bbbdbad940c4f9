-- Opcodes that no form has.
use Rattle.std.proofs.Common.{◌≡◌, ℕ, zero, suc, ◌<◌, ◌≤◌, List, ◌∷◌, length, get_or, refl, sym, arith}
use Rattle.std.proofs.lemmas.List.{get_or_past}

-- the default stands at 0 and past the end
pub at_no_form : {A : Type 0} (d : A) (xs : List A) (n : ℕ) → (0 < n → length xs < n) → d ≡ get_or (d ∷ xs) n d
at_no_form d xs zero h = refl
at_no_form d xs (suc n) h = let le : length xs ≤ n = omega (arith, h (omega arith)) in sym (get_or_past xs n d le)
