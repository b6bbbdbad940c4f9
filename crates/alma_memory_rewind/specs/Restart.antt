-- Serials that start anew.
use Rattle.std.specs.Prelude.{◌≡◌, ℕ, suc, zero, List, [], ◌∷◌}
use Rattle.alma_memory_rewind.specs.declared.rewind.Note.{Note}
use Rattle.alma_memory_rewind.specs.declared.rewind.Mark.{Mark}
use Rattle.alma_memory_rewind.specs.Trail.{held_of}
use Rattle.alma_memory_rewind.specs.Sound.{IsSound}

-- the first so many marks have the serials from n on
abbrev pub with_serials : (count n : ℕ) → List Mark → List Mark
with_serials zero n ms = ms
with_serials (suc count) n [] = []
with_serials (suc count) n (m ∷ ms) = (record { mark = m.mark; top = m.top; serial = n }) ∷ with_serials count (suc n) ms

module _ {T : Type 0} where
  -- the first so many notes hold the stamp 0
  abbrev pub with_zero_stamps : (count : ℕ) → List (Note T) → List (Note T)
  with_zero_stamps zero ns = ns
  with_zero_stamps (suc count) [] = []
  with_zero_stamps (suc count) (n ∷ ns) = (record { at = n.at; stamp = 0; old = n.old }) ∷ with_zero_stamps count ns

  -- new serials: the copies are as they were, and the fields sound
  pub record Anew (marks marks' : List Mark) (trail trail' : List (Note T)) (items : List T) (stamps' : List ℕ) (counter' : ℕ) : Type 0
    where
      pub held : held_of trail' items marks' ≡ held_of trail items marks
      pub sound : IsSound marks' trail' items stamps' counter'

  -- the same over any items for which the fields were sound
  pub record Renews (marks marks' : List Mark) (trail trail' : List (Note T)) (stamps stamps' : List ℕ) (counter counter' : ℕ) : Type 0
    where
      pub keeps : (items : List T) → IsSound marks trail items stamps counter
          → Anew marks marks' trail trail' items stamps' counter'
