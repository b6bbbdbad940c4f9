-- Tests of the kind of a slot, where there is such a slot.
use Rattle.std.specs.Prelude.{ℕ, zero, suc, Bool, true, false, ◌&&◌, nat_eq, List, Option, Some, None, slice_get}
use Rattle.alma_code.specs.declared.cell.SlotKind.{SlotKind}
use Rattle.alma_code.specs.declared.cell.SlotKind.TheVariants as slot

-- a number slot
abbrev pub is_number : Option SlotKind → Bool
is_number (Some slot.Number) = true
is_number (Some (slot.Place n)) = false
is_number (Some slot.Mark) = false
is_number (Some (slot.Link q)) = false
is_number None = false

-- a place slot
abbrev pub is_place : Option SlotKind → Bool
is_place (Some (slot.Place n)) = true
is_place (Some slot.Number) = false
is_place (Some slot.Mark) = false
is_place (Some (slot.Link q)) = false
is_place None = false

-- a place slot for places of n cells
abbrev pub is_place_of : ℕ → Option SlotKind → Bool
is_place_of n (Some (slot.Place m)) = nat_eq m n
is_place_of n (Some slot.Number) = false
is_place_of n (Some slot.Mark) = false
is_place_of n (Some (slot.Link q)) = false
is_place_of n None = false

-- a mark slot
abbrev pub is_mark : Option SlotKind → Bool
is_mark (Some slot.Mark) = true
is_mark (Some slot.Number) = false
is_mark (Some (slot.Place n)) = false
is_mark (Some (slot.Link q)) = false
is_mark None = false

-- a link slot
abbrev pub is_link : Option SlotKind → Bool
is_link (Some (slot.Link q)) = true
is_link (Some slot.Number) = false
is_link (Some (slot.Place n)) = false
is_link (Some slot.Mark) = false
is_link None = false

-- a link slot for links to frames of routine r
abbrev pub is_link_of : ℕ → Option SlotKind → Bool
is_link_of r (Some (slot.Link q)) = nat_eq q r
is_link_of r (Some slot.Number) = false
is_link_of r (Some (slot.Place n)) = false
is_link_of r (Some slot.Mark) = false
is_link_of r None = false

-- n number slots from the slot i on
abbrev pub numbers_from : ℕ → List SlotKind → (i : ℕ) → Bool
numbers_from zero kinds i = true
numbers_from (suc n) kinds i = is_number (slice_get kinds i) && numbers_from n kinds (suc i)
