-- Frames as regions of one list of slots.
use Rattle.std.specs.Prelude.{◌≡◌, ℕ, ◌≤◌, ◌<◌, ◌+◌, List, [], ◌∷◌, map, sum, take, drop, length, get_or, Option, Some, None, if◌then◌else◌}
use Rattle.alma_code.specs.declared.cell.Cell.{Cell}
use Rattle.alma_code.specs.declared.cell.Cell.TheVariants.{Unknown}
use Rattle.alma_code.specs.declared.cell.SlotKind.{SlotKind}
use Rattle.alma_code.specs.declared.cell.SlotKind.TheVariants.{Number}
use Rattle.alma_code.specs.Kinds.{is_number}
use Rattle.alma_code.specs.Layout.{blank_of}
use Rattle.alma_code.specs.Picture.{PlainFrame}
use Rattle.alma_memory_store.specs.declared.store.Region.{Region}
use Rattle.alma_memory_store.specs.declared.store.Slot.{Slot}

-- what stands for a region that is not there
abbrev pub no_region : Region
no_region = record { routine = 0; back = 0; declared = 0; total = 0; base = 0; slots = 0 }

-- what stands for a slot that is not there
abbrev pub no_slot : Slot
no_slot = record { kind = Number; cell = Unknown }

-- the slots of a region
abbrev pub part_of : List Slot → Region → List Slot
part_of slots r = take r.slots (drop r.base slots)

-- the kinds of slots
abbrev pub kinds_in : List Slot → List SlotKind
kinds_in slots = map (λ (s : Slot). s.kind) slots

-- what slots hold
abbrev pub cells_in : List Slot → List Cell
cells_in slots = map (λ (s : Slot). s.cell) slots

-- the frame of a region with these slots
abbrev pub frame_with_slots : Region → List Slot → PlainFrame
frame_with_slots r slots = record {
  routine = r.routine;
  back = r.back;
  declared = r.declared;
  kinds = kinds_in slots;
  cells = cells_in slots;
}

-- the frame of a region
abbrev pub frame_of : List Slot → Region → PlainFrame
frame_of slots r = frame_with_slots r (part_of slots r)

-- the frames of regions
abbrev pub frames_of : List Slot → List Region → List PlainFrame
frames_of slots regions = map (frame_of slots) regions

-- the regions stand one above another, from low on, and end at or below top
abbrev pub AreLaid : (low : ℕ) → List Region → (top : ℕ) → Type 0
AreLaid low [] top = low ≤ top
AreLaid low (r ∷ regions) top = (low ≤ r.base) × AreLaid (r.base + r.slots) regions top

-- where the last region ends
abbrev pub end_of : (low : ℕ) → List Region → ℕ
end_of low [] = low
end_of low (r ∷ regions) = end_of (r.base + r.slots) regions

-- the declared cells of all regions together
abbrev pub declared_in : List Region → ℕ
declared_in regions = sum (map (λ (r : Region). r.declared) regions)

-- each region knows the declared cells of itself and of those below it
pub record AreTotaled (regions : List Region) : Type 0 where
  pub total : (k : ℕ) → k < length regions → (get_or regions k no_region).total ≡ declared_in (take (k + 1) regions)

-- a slot of this kind before anything is written
abbrev pub blank_slot : SlotKind → Slot
blank_slot kind = record { kind = kind; cell = blank_of kind }

-- the cell of a slot that is a number slot
abbrev pub slot_number : Option Slot → Option Cell
slot_number None = None
slot_number (Some slot) = if is_number (Some slot.kind) then Some slot.cell else None
