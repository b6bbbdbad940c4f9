-- The rows of expressions and designators: each is what its code does, given what its parts do.
use Rattle.std.proofs.Common.{◌≡◌, ℕ, suc, ◌+◌, ◌<◌, ◌≤◌, List, ◌∷◌, ◌++◌, length, Some, sym, ap, ◌∙◌, subst, arith}
use Rattle.std.proofs.Common.{length-append}
use Rattle.std.specs.Prelude.{slice_get}
use Rattle.std.proofs.lemmas.List.{get_or_append_left, get_or-append-add}
use Rattle.std.proofs.lemmas.Option.{slice_get-get_or, slice_get_within}
use Rattle.alma_code.specs.declared.cell.SlotKind.{SlotKind}
use Rattle.alma_code.specs.declared.cell.SlotKind.TheVariants as slot
use Rattle.alma_code.specs.Picture.{PlainFrame, PlainEntry, last_frame}
use Rattle.alma_code.specs.Plain.{PlainCode, kinds_at}
use Rattle.alma_code.specs.Machine.{State}
use Rattle.alma_ir.specs.Tree.{Program, routine_at}
use Rattle.alma_mean.specs.Store.{Store, top_frame}
use Rattle.alma_mean.specs.Events.{Events, Flow}
use Rattle.alma_lower_implements.proofs.Goes.{Silently, Goes, before}
use Rattle.alma_lower_implements.proofs.Frames.{shift, own_end, StandFor, Fits, HasSlots}
use Rattle.alma_lower_implements.proofs.FrameLemmas.{top_same, fits_on}
use Rattle.alma_lower_implements.proofs.Steps.{HasKind}

module _ (p : Program) (code : PlainCode) (input : List ℕ) where
  -- ---- where a phrase leaves off

  -- at this address, with frames that stand for the store, and the phrase's own slots from lo on
  pub record Left (exit lo r : ℕ) (before : List PlainFrame) (v : Store) (t : State) : Type 0 where
    pub here : t.at ≡ exit
    pub fits : Fits p code lo before v t.now
    pub routine : (top_frame v).routine ≡ r

  -- the store, the frames and the entries at the start of a phrase
  pub record Begun : Type 0 where
    pub store : Store
    pub frames : List PlainFrame
    pub entries : List PlainEntry

  -- a phrase that has changed nothing of the store and has left no entry
  pub record Stays (b : Begun) (v : Store) (t : State) : Type 0 where
    pub same : v ≡ b.store
    pub none : t.held ≡ b.entries

  abbrev pub begun : Store → List PlainFrame → List PlainEntry → Begun
  begun v now held = record { store = v; frames = now; entries = held }

  -- ---- slots

  -- the first slot of a phrase is of the first kind
  pub first_kind : (r lo : ℕ) (k : SlotKind) (rest : List SlotKind) → HasSlots p code r lo (k ∷ rest)
      → slice_get (kinds_at code r) lo ≡ Some k
  first_kind r lo k rest h =
      let at : lo + 0 ≡ lo = omega arith in
      subst (λ n. slice_get (kinds_at code r) n ≡ Some k) at (h.each 0 (omega arith))

  -- the slots of a part that stands first, and of one that stands behind it
  pub slots_first : (r lo : ℕ) (a b : List SlotKind) → HasSlots p code r lo (a ++ b) → HasSlots p code r lo a
  slots_first r lo a b h = record {
    each = λ i lt. h.each i (omega (arith, lt, length-append a b)) ∙ in_first i lt;
    behind = h.behind;
  }
    where
      in_first : (i : ℕ) → i < length a → slice_get (a ++ b) i ≡ slice_get a i
      in_first i lt =
          slice_get-get_or (a ++ b) i slot.Mark (omega (arith, lt, length-append a b)) ∙ ap Some (get_or_append_left a b slot.Mark i lt)
          ∙ sym (slice_get-get_or a i slot.Mark lt)

  pub slots_behind : (r lo : ℕ) (a b : List SlotKind) → HasSlots p code r lo (a ++ b) → HasSlots p code r (lo + length a) b
  slots_behind r lo a b h = record {
    each = λ i lt. at i ∙ h.each (length a + i) (omega (arith, lt, length-append a b)) ∙ in_second i lt;
    behind = omega (arith, h.behind);
  }
    where
      at : (i : ℕ) → slice_get (kinds_at code r) (lo + length a + i) ≡ slice_get (kinds_at code r) (lo + (length a + i))
      at i = let e : lo + length a + i ≡ lo + (length a + i) = omega arith in ap (slice_get (kinds_at code r)) e

      in_second : (i : ℕ) → i < length b → slice_get (a ++ b) (length a + i) ≡ slice_get b i
      in_second i lt =
          slice_get-get_or (a ++ b) (length a + i) slot.Mark (omega (arith, lt, length-append a b))
          ∙ ap Some (get_or-append-add a b i slot.Mark) ∙ sym (slice_get-get_or b i slot.Mark lt)

  module _ (v : Store) (now : List PlainFrame) (r : ℕ) (stand : StandFor p code v now) (routine : (top_frame v).routine ≡ r) where
    -- the kinds of the top frame are those of its routine
    pub kinds_are : (last_frame now).kinds ≡ kinds_at code r
    kinds_are = let same = top_same p code v now stand in same.kinds ∙ ap (kinds_at code) (sym same.routine ∙ routine)

    pub kind_there : (n : ℕ) (k : SlotKind) → slice_get (kinds_at code r) n ≡ Some k → HasKind now n k
    kind_there n k h = ap (λ ks. slice_get ks n) kinds_are ∙ h

    -- a slot that has a kind is a slot of the frame
    pub within_frame : (n : ℕ) (k : SlotKind) → slice_get (kinds_at code r) n ≡ Some k → n < length (last_frame now).cells
    within_frame n k h =
        let same = top_same p code v now stand in
        omega (arith, same.full, slice_get_within (last_frame now).kinds n k (kind_there n k h))

    -- the slots of phrases stand behind those of the routine
    pub slots_behind_routine : (lo : ℕ) → own_end p r ≤ lo → shift p (top_frame v).routine + length (top_frame v).cells ≤ lo
    slots_behind_routine lo h =
        let same = top_same p code v now stand in
        let is : own_end p (top_frame v).routine ≡ own_end p r = ap (own_end p) routine in
        omega (arith, same.slots, is, h)

    pub some_frames : 1 ≤ length now
    some_frames = omega (arith, stand.some, stand.count)

  -- ---- places

  -- number slots of a routine
  pub record AreVariables (r from cells : ℕ) : Type 0 where
    pub exist : from + cells ≤ (routine_at p r).slots
    pub numbers : (k : ℕ) → k < cells → slice_get (kinds_at code r) (shift p r + (from + k)) ≡ Some slot.Number
    pub free : r ≡ 0 → 0 < from

  -- ---- what a part has left is where the next part begins

  -- one phrase after another, in words of where they leave off
  pub left_on : (exit exit' lo lo' r : ℕ) (before : List PlainFrame) (v v' : Store) (t t' : State) → lo ≤ lo' → Left exit lo r before v t
      → Left exit' lo' r t.now v' t' → Left exit' lo r before v' t'
  left_on exit exit' lo lo' r before v v' t t' le a b =
      record { here = b.here; fits = fits_on p code lo lo' v v' before t.now t'.now le a.fits b.fits; routine = b.routine }

-- inside a statement with this line
module _ (p : Program) (code : PlainCode) (input : List ℕ) (line : ℕ) where
  -- one step more
  pub one_more : {A : Type 0} (left more : ℕ) (fits : Store → Flow A → State → Type 0) (base : List PlainEntry) (e : Events A) (s t : State)
      (r q : ℕ) → Silently code input 1 s t → Goes code input line left more fits base e t r q
      → Goes code input line left more fits base e s (suc r) q
  one_more left more fits base e s t r q a h =
      before code input line left more fits base e s t 1 (suc r) r q q a (omega arith) (omega arith) h
