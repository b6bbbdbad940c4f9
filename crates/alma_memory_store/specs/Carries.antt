-- A map from slots to cells, as the carry that it is.
use Rattle.std.specs.Prelude.{◌≡◌, ℕ, true, List, [], ◌∷◌, map, Option, Some, None}
use Rattle.alma_base.specs.Carry.{Change, Carry, is_before, is_same_place, carried_at, with_change}
use Rattle.alma_base.specs.Choice.{if_true}
use Rattle.alma_code.specs.declared.cell.Cell.{Cell}
use Rattle.alma_memory_store.specs.declared.carry.SlotPlace.{SlotPlace}

-- the place, with a cell for it
abbrev pub change_of : SlotPlace → Cell → Change Cell
change_of place cell = record { frame = place.frame; slot = place.slot; cell = cell }

-- the entries of a map as a carry
abbrev pub carry_of_entries : List (SlotPlace × Cell) → Carry Cell
carry_of_entries entries = map (λ entry. change_of entry.0 entry.1) entries

-- each place of the carry comes after this one
abbrev pub IsAbove : (frame slot : ℕ) → Carry Cell → Type 0
IsAbove frame slot [] = Unit {0}
IsAbove frame slot (x ∷ rest) = (is_before frame slot x.frame x.slot ≡ true) × IsAbove frame slot rest

-- the places of the carry are in order, one change a place
abbrev pub IsRising : Carry Cell → Type 0
IsRising [] = Unit {0}
IsRising (x ∷ rest) = IsAbove x.frame x.slot rest × IsRising rest

-- the carry without the cell that it has for a place
abbrev pub without_place : (frame slot : ℕ) → Carry Cell → Carry Cell
without_place frame slot [] = []
without_place frame slot (x ∷ rest) =
    if_true (is_same_place x.frame x.slot frame slot) (λ _. rest) (λ _. x ∷ without_place frame slot rest)

-- the carry with another cell for a place that it has
abbrev pub with_cell : (frame slot : ℕ) → Cell → Carry Cell → Carry Cell
with_cell frame slot cell [] = []
with_cell frame slot cell (x ∷ rest) =
    if_true (is_same_place x.frame x.slot frame slot) (λ _. record x { cell = cell } ∷ rest) (λ _. x ∷ with_cell frame slot cell rest)

-- the carry in which a place has again what it had, if anything
abbrev pub put_back : SlotPlace → Option Cell → Carry Cell → Carry Cell
put_back place (Some cell) carry = with_cell place.frame place.slot cell carry
put_back place None carry = without_place place.frame place.slot carry

-- the carry in which the first places have again what they had
abbrev pub all_put_back : List (SlotPlace × Cell) → List (Option Cell) → Carry Cell → Carry Cell
all_put_back [] had carry = carry
all_put_back (entry ∷ entries) [] carry = carry
all_put_back (entry ∷ entries) (cell ∷ had) carry = put_back entry.0 cell (all_put_back entries had carry)

-- what the places of these changes had, each before it was set
abbrev pub cells_before_setting : List (SlotPlace × Cell) → Carry Cell → List (Option Cell)
cells_before_setting [] carry = []
cells_before_setting (entry ∷ entries) carry = carried_at entry.0.frame entry.0.slot carry
    ∷ cells_before_setting entries (with_change (change_of entry.0 entry.1) carry)
