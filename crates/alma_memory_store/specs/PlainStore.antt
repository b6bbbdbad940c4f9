-- What a Store stands for, and what is true of its fields.
use Rattle.std.specs.Prelude.{◌≡◌, ℕ, ◌≤◌, Bool, true, false, List, [], ◌∷◌, map, take, drop, length, get_or}
use Rattle.alma_base.specs.Limits.{cell_limit, frame_limit}
use Rattle.alma_code.specs.Picture.{PlainFrame}
use Rattle.alma_memory_store.specs.declared.store.Region.{Region}
use Rattle.alma_memory_store.specs.declared.store.Slot.{Slot}
use Rattle.alma_memory_store.specs.Regions.{frames_of, AreLaid, AreTotaled, declared_in}

-- the live frames, the whole copies from the bottom, for each slot of each live frame whether a write to it
-- needs no note, and the free places
pub record PlainStore : Type 0 where
  pub now : List PlainFrame
  pub held : List (List PlainFrame)
  pub noted : List (List Bool)
  pub choice_room : ℕ
  pub trail_room : ℕ

-- the copies: of the slots and of the regions, of which so many were live
abbrev pub copies_of : (slots : List (List Slot)) → (regions : List (List Region)) → (live : List ℕ) → List (List PlainFrame)
copies_of [] regions live = []
copies_of (c ∷ slots) [] live = []
copies_of (c ∷ slots) (r ∷ regions) [] = []
copies_of (c ∷ slots) (r ∷ regions) (n ∷ live) = frames_of c (take n r) ∷ copies_of slots regions live

-- so many regions are live, stand one above another in the slots, and count their declared cells
pub record IsState (slots : List Slot) (regions : List Region) (n : ℕ) : Type 0 where
  pub some : 1 ≤ n
  pub few : n ≤ frame_limit
  pub live : n ≤ length regions
  pub laid : AreLaid 0 (take n regions) (length slots)
  pub totals : AreTotaled (take n regions)
  pub limit : declared_in (take n regions) ≤ cell_limit

-- each copy is a state
abbrev pub AreStates : (slots : List (List Slot)) → (regions : List (List Region)) → (live : List ℕ) → Type 0
AreStates [] [] [] = Unit {0}
AreStates (c ∷ slots) (r ∷ regions) (n ∷ live) = IsState c r n × AreStates slots regions live
AreStates _ _ _ = ⊥

-- the flags of the slots of each region
abbrev pub flags_of : List Bool → List Region → List (List Bool)
flags_of flags regions = map (λ (r : Region). take r.slots (drop r.base flags)) regions

-- a write to this slot needs no note
abbrev pub IsNoted : List (List Bool) → (frame slot : ℕ) → Type 0
IsNoted noted frame slot = get_or (get_or noted frame []) slot false ≡ true
