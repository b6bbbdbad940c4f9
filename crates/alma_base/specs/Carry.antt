-- The carry of a FORALL: a finite map from places of one cell to cells, of any type C.
-- Each map has one form: a list in the order of frame and slot, with one change a place.
use Rattle.std.specs.Prelude.{ℕ, Bool, ◌&&◌, ◌||◌, nat_lt, nat_eq, List, [], ◌∷◌, Option, None, Some}
use Rattle.alma_base.specs.Choice.{if_true}

-- a place of one cell, and the cell that it is to have
pub record Change (C : Type 0) : Type 0 where
  pub frame : ℕ
  pub slot : ℕ
  pub cell : C

-- the changes that a FORALL lays over the frames for its next alternative
abbrev pub Carry : Type 0 → Type 0
Carry C = List (Change C)

-- the first place is before the second: in an older frame, or in an earlier slot of the same
abbrev pub is_before : (frame slot frame' slot' : ℕ) → Bool
is_before frame slot frame' slot' = nat_lt frame frame' || (nat_eq frame frame' && nat_lt slot slot')

-- the two places are one
abbrev pub is_same_place : (frame slot frame' slot' : ℕ) → Bool
is_same_place frame slot frame' slot' = nat_eq frame frame' && nat_eq slot slot'

-- the carry with one place set, whether it had it or not
abbrev pub with_change : {C : Type 0} → Change C → Carry C → Carry C
with_change x [] = x ∷ []
with_change x (y ∷ rest) =
    if_true (is_before x.frame x.slot y.frame y.slot) (λ _. x ∷ y ∷ rest)
    (λ _. if_true (is_same_place x.frame x.slot y.frame y.slot) (λ _. x ∷ rest)
    (λ _. y ∷ with_change x rest))

-- the carry with each of these places set, in their order
abbrev pub with_changes : {C : Type 0} → List (Change C) → Carry C → Carry C
with_changes [] carry = carry
with_changes (x ∷ xs) carry = with_changes xs (with_change x carry)

-- the cell that the carry has for a place
abbrev pub carried_at : {C : Type 0} → (frame slot : ℕ) → Carry C → Option C
carried_at frame slot [] = None
carried_at frame slot (x ∷ rest) =
    if_true (is_same_place x.frame x.slot frame slot) (λ _. Some x.cell) (λ _. carried_at frame slot rest)
