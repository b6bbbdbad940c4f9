-- What is true of the fields of a Rewind.
use Rattle.std.specs.Prelude.{true, false, ◌≡◌, ℕ, ◌≤◌, ◌<◌, List, [], ◌∷◌, length, get_or}
use Rattle.alma_memory_rewind.specs.declared.rewind.Note.{Note}
use Rattle.alma_memory_rewind.specs.declared.rewind.Mark.{Mark}
use Rattle.alma_memory_rewind.specs.Trail.{held_of, at_of, stamp_of, noted_to, no_mark}

-- marks and tops rise, up to the length of the trail and of the items
abbrev pub Rises : (mark top : ℕ) → List Mark → (notes items : ℕ) → Type 0
Rises mark top [] notes items = (mark ≤ notes) × (top ≤ items)
Rises mark top (m ∷ ms) notes items = (mark ≤ m.mark) × (top ≤ m.top) × Rises m.mark m.top ms notes items

module _ {T : Type 0} where
  -- a note of the place `at` stands in the trail from low on, below high
  pub record HasNote (trail : List (Note T)) (low high at : ℕ) : Type 0 where
    pub place : ℕ
    pub above : low ≤ place
    pub below : place < high
    pub there : at_of trail place ≡ at

  -- a stamp of the place `at` after n notes: each copy whose serial it reaches, and that reaches the place,
  -- has a note of it
  abbrev pub IsStamp : List Mark → List (Note T) → (n at stamp : ℕ) → Type 0
  IsStamp marks trail n at stamp =
      (i : ℕ) → i < length marks → (get_or marks i no_mark).mark ≤ n → (get_or marks i no_mark).serial ≤ stamp
      → at < (get_or marks i no_mark).top →
      HasNote trail (get_or marks i no_mark).mark n at

  -- each stamp is right, that of an item and that which a note holds
  pub record AreStamps (marks : List Mark) (trail : List (Note T)) (stamps : List ℕ) : Type 0 where
    pub now : (k : ℕ) → IsStamp marks trail (length trail) k (get_or stamps k 0)
    pub older : (p : ℕ) → p < length trail → IsStamp marks trail p (at_of trail p) (stamp_of trail p)

  -- no stamp and no serial is above the counter, and no serial is 0
  pub record AreOld (marks : List Mark) (trail : List (Note T)) (stamps : List ℕ) (counter : ℕ) : Type 0 where
    pub now : (k : ℕ) → get_or stamps k 0 ≤ counter
    pub older : (p : ℕ) → p < length trail → stamp_of trail p ≤ counter
    pub serials : (i : ℕ) → i < length marks → (get_or marks i no_mark).serial ≤ counter
    pub some : (i : ℕ) → i < length marks → 1 ≤ (get_or marks i no_mark).serial

  -- each item has a stamp, stamps and serials are right, marks rise, and no note is kept where no copy is
  pub record IsSound (marks : List Mark) (trail : List (Note T)) (items : List T) (stamps : List ℕ) (counter : ℕ) : Type 0 where
    pub wide : length items ≤ length stamps
    pub stamped : AreStamps marks trail stamps
    pub old : AreOld marks trail stamps counter
    pub rises : Rises 0 0 marks (length trail) (length items)
    pub idle : length marks ≡ 0 → trail ≡ []

  -- what a change keeps: all copies, and soundness
  pub record Keeps (marks : List Mark) (trail trail' : List (Note T)) (items items' : List T) (stamps' : List ℕ) (counter : ℕ) : Type 0
    where
      pub held : held_of trail' items' marks ≡ held_of trail items marks
      pub sound : IsSound marks trail' items' stamps' counter

  -- a trail with fewer notes that does as well
  pub record Sweeps (marks : List Mark) (trail trail' : List (Note T)) : Type 0 where
    pub keeps : (items : List T) (stamps : List ℕ) (counter : ℕ) → IsSound marks trail items stamps counter
        → Keeps marks trail trail' items items stamps counter

  -- what does as well as the first does as well as the second
  pub record SweepsOn (marks : List Mark) (old new : List (Note T)) : Type 0 where
    pub keeps : (trail : List (Note T)) → Sweeps marks trail old → Sweeps marks trail new

-- a write adds its place to those that need no note, and drops none, of n items
pub record AddsNoted (marks : List Mark) (n : ℕ) (stamps stamps' : List ℕ) (at : ℕ) : Type 0 where
  pub noted : get_or (noted_to marks n stamps') at false ≡ true
  pub kept : (p : ℕ) → get_or (noted_to marks n stamps) p false ≡ true → get_or (noted_to marks n stamps') p false ≡ true
