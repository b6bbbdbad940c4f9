-- The frames of now and those of the top copy, and lists of changes between them.
use Rattle.std.specs.Prelude.{◌≡◌, ◌⊎◌, ◌+◌, ◌<◌, ◌||◌, ℕ, Bool, true, false, List, [], ◌∷◌, length, get_or, Option, Some, None, IsSome}
use Rattle.std.specs.Prelude.{if◌then◌else◌}
use Rattle.std.specs.BTreeMap.{get, is_at}
use Rattle.std.specs.Map.{lookup}
use Rattle.std.specs.Ordering.{nat_cmp}
use Rattle.alma_base.specs.Carry.{Change, Carry, is_same_place, with_changes}
use Rattle.alma_code.specs.declared.cell.Cell.{Cell}
use Rattle.alma_code.specs.declared.cell.Cell.TheVariants.{Unknown}
use Rattle.alma_code.specs.Picture.{PlainFrame, cell_at}
use Rattle.alma_code.specs.Carries.{same_cell, differs}
use Rattle.alma_memory_rewind.specs.PlainRewind.{top_copy, IsOlds}
use Rattle.alma_memory_store.specs.declared.past.Past.TheInside.{Inside}
use Rattle.alma_memory_store.specs.declared.store.Region.{Region}
use Rattle.alma_memory_store.specs.declared.store.Slot.{Slot}
use Rattle.alma_memory_store.specs.Carries.{IsRising}
use Rattle.alma_memory_store.specs.Regions.{no_region}
use Rattle.alma_memory_store.specs.PlainStore.{IsState}

-- the frames of now and their regions, the frames of the top copy, and the slots and regions of the copy where
-- they may be others
pub record PlainPast : Type 0 where
  pub now : List PlainFrame
  pub regions : List Region
  pub before : List PlainFrame
  pub old_slots : List (ℕ × Slot)
  pub old_regions : List (ℕ × Region)

-- the fields speak of the top copy
pub record IsPast (p : Inside) : Type 0 where
  pub now : IsState p.slots.now.now p.regions.now.now p.live
  pub before : IsState (top_copy p.slots.now.held) (top_copy p.regions.now.held) p.old_live
  pub slots : IsOlds p.slots.now.now p.slots.now.held (get nat_cmp p.old_slots)
  pub regions : IsOlds p.regions.now.now p.regions.now.held (get nat_cmp p.old_regions)

-- the second cell, where both are there and differ
abbrev pub change_between : Option Cell → Option Cell → Option Cell
change_between None after = None
change_between (Some cell) None = None
change_between (Some cell) (Some after) = if same_cell cell after then None else Some after

-- one of the changes is of this place
abbrev pub has_place : (frame slot : ℕ) → List (Change Cell) → Bool
has_place f s [] = false
has_place f s (x ∷ xs) = is_same_place x.frame x.slot f s || has_place f s xs

-- each of the changes is at a place that differs, and has its cell of now
abbrev pub AllChanged : (before now : List PlainFrame) → List (Change Cell) → Type 0
AllChanged before now [] = Unit {0}
AllChanged before now (x ∷ xs) = ((differs before now x.frame x.slot ≡ true) × (x.cell ≡ cell_at now x.frame x.slot Unknown))
    × AllChanged before now xs

-- more changes: each is one, none is lost, and of the places that are named each that differs is there or left
pub record Gains (before now : List PlainFrame) (named left : ℕ → ℕ → Type 0) (old new : List (Change Cell)) : Type 0 where
  pub changed : AllChanged before now old → AllChanged before now new
  pub kept : (f s : ℕ) → has_place f s old ≡ true → has_place f s new ≡ true
  pub all : (f s : ℕ) → named f s → differs before now f s ≡ true → left f s ⊎ (has_place f s new ≡ true)

-- no place
abbrev pub IsNone : ℕ → ℕ → Type 0
IsNone f s = ⊥

-- the slot s of the frame f stands there
pub record IsAt (regions : List Region) (at : ℕ) (f s : ℕ) : Type 0 where
  pub live : f < length regions
  pub own : s < (get_or regions f no_region).slots
  pub there : (get_or regions f no_region).base + s ≡ at

-- the slot s of the frame f stands at one of the keys
pub record IsKept (regions : List Region) (old : List (ℕ × Slot)) (f s : ℕ) : Type 0 where
  pub live : f < length regions
  pub own : s < (get_or regions f no_region).slots
  pub there : IsSome (lookup (is_at (nat_cmp ((get_or regions f no_region).base + s))) old)

-- the frame f is one of the keys
abbrev pub IsReplaced : (old : List (ℕ × Region)) → (f s : ℕ) → Type 0
IsReplaced old f s = IsSome (lookup (is_at (nat_cmp f)) old)

-- each carry gains the same from both lists of changes
abbrev pub SameGain : Carry Cell → Carry Cell → Type 0
SameGain xs ys = (carry : Carry Cell) → IsRising carry → with_changes xs carry ≡ with_changes ys carry
