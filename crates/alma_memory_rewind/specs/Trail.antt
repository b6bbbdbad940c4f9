-- The trail: notes of what was written, from which each copy follows.
use Rattle.std.specs.Prelude.{ℕ, suc, ◌-◌, Bool, true, nat_le, nat_eq, ◌||◌, Option, None, Some, if◌then◌else◌, List, [], ◌∷◌, map, take}
use Rattle.std.specs.Prelude.{drop, length, get_or, set}
use Rattle.alma_memory_rewind.specs.declared.rewind.Note.{Note}
use Rattle.alma_memory_rewind.specs.declared.rewind.Mark.{Mark}

module _ {T : Type 0} where
  -- the items from before the notes, of which the last is undone first
  abbrev pub before : List (Note T) → List T → List T
  before [] items = items
  before (note ∷ notes) items = set (before notes items) note.at note.old

  -- the copy of a mark: what stood below its top before the notes above it
  abbrev pub copy_of : List (Note T) → List T → Mark → List T
  copy_of trail items m = take m.top (before (drop m.mark trail) items)

  -- the copies of all marks, from the bottom
  abbrev pub held_of : List (Note T) → List T → List Mark → List (List T)
  held_of trail items marks = map (copy_of trail items) marks

  -- what the first note of a place holds
  abbrev pub first_of : List (Note T) → (at : ℕ) → Option T
  first_of [] at = None
  first_of (note ∷ notes) at = if nat_eq note.at at then Some note.old else first_of notes at

  -- the place of the note that stands at p in the trail, or 0
  abbrev pub at_of : List (Note T) → (p : ℕ) → ℕ
  at_of trail p = get_or (map (λ (n : Note T). n.at) trail) p 0

  -- the stamp that the note at p holds, or 0
  abbrev pub stamp_of : List (Note T) → (p : ℕ) → ℕ
  stamp_of trail p = get_or (map (λ (n : Note T). n.stamp) trail) p 0

-- what stands for a mark that is not there
abbrev pub no_mark : Mark
no_mark = record { mark = 0; top = 0; serial = 0 }

-- the mark of the top copy
abbrev pub last_mark : List Mark → Mark
last_mark marks = get_or marks (length marks - 1) no_mark

-- whether a write at a place with this stamp needs no note: no copy is held, none reaches so high, or the
-- stamp is the top copy's serial or a later one
abbrev pub is_free : List Mark → (at stamp : ℕ) → Bool
is_free [] at stamp = true
is_free (m ∷ ms) at stamp = nat_le (last_mark (m ∷ ms)).top at || nat_le (last_mark (m ∷ ms)).serial stamp

-- for each place from `at` on, with these stamps: whether a write there needs no note
abbrev pub free_from : List Mark → (at : ℕ) → List ℕ → List Bool
free_from marks at [] = []
free_from marks at (stamp ∷ stamps) = is_free marks at stamp ∷ free_from marks (suc at) stamps

-- the same for the first n places: stamps may stand above the items
abbrev pub noted_to : List Mark → (n : ℕ) → List ℕ → List Bool
noted_to marks n stamps = take n (free_from marks 0 stamps)

module _ {T : Type 0} where
  -- the trail once marks are dropped: where none is left, no note is kept
  abbrev pub trail_for : List Mark → List (Note T) → List (Note T)
  trail_for [] trail = []
  trail_for (m ∷ ms) trail = trail
