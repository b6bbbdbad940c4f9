-- Where places name own slots: lists of cells, frames and entries.
use Rattle.std.proofs.Common.{◌≡◌, ℕ, zero, suc, ◌+◌, ◌-◌, ◌<◌, ◌≤◌, inl, inr, List, [], ◌∷◌, ◌++◌, length}
use Rattle.std.proofs.Common.{get_or, set, map, take, drop, refl}
use Rattle.std.proofs.Common.{sym, ap, ◌∙◌, subst, arith, Some, get_or-set_same, get_or-set_other, length-set}
use Rattle.std.specs.Prelude.{slice_get}
use Rattle.std.proofs.lemmas.Bool.{cases_eq, cases_lt}
use Rattle.std.proofs.lemmas.List.{get_or_past, length-append, length-take-le, get_or-take, get_or-append_right, take-map}
use Rattle.std.proofs.lemmas.Option.{slice_get_within, slice_get-get_or, get_or_from_slice_get}
use Rattle.std.proofs.Math.Seq.{get_or-append_seam}
use Rattle.std.proofs.Math.ListN.{get_or-append, get_or-map}
use Rattle.alma_code.specs.declared.cell.Cell.{Cell}
use Rattle.alma_code.specs.declared.cell.Cell.TheVariants as cell
use Rattle.alma_code.specs.declared.cell.CellPlace.{CellPlace}
use Rattle.alma_code.specs.declared.cell.SlotKind.{SlotKind}
use Rattle.alma_code.specs.declared.cell.SlotKind.TheVariants as slot
use Rattle.alma_code.specs.Fits.{routines_of, FitsSlot, FitsFrames}
use Rattle.alma_code.specs.Layout.{blank_of}
use Rattle.alma_code.specs.Picture.{PlainFrame, PlainEntry, no_frame, no_entry, cell_at, frames_with_cell}
use Rattle.alma_code.specs.Plain.{PlainCode}
use Rattle.alma_code.specs.Rules.{kind_in, length_in, place_length}
use Rattle.alma_code_laws.proofs.Writes.{written-routines}
use Rattle.alma_lower_slots.specs.Sharing.{Sharing}
use Rattle.alma_lower_slots.proofs.Alike.{NamesOwn, OwnPlaces}

-- ---- lists of cells

-- P holds of the cell, where it is a place
abbrev pub IfPlace : (P : CellPlace → Type 0) → Cell → Type 0
IfPlace P c = (p : CellPlace) → c ≡ cell.Place p → P p

-- P holds of each place among the cells
abbrev pub EachPlace : (P : CellPlace → Type 0) → List Cell → Type 0
EachPlace P cs = (i : ℕ) (p : CellPlace) → slice_get cs i ≡ Some (cell.Place p) → P p

module _ (P : CellPlace → Type 0) where
  -- no cells
  pub each_none : EachPlace P []
  each_none i p e = absurd (cc)

  -- one cell
  pub each_one : (c : Cell) → IfPlace P c → EachPlace P (c ∷ [])
  each_one c h zero p e = h p (cc)
  each_one c h (suc i) p e = absurd (cc)

  -- one list after the other
  pub each_joined : (xs ys : List Cell) → EachPlace P xs → EachPlace P ys → EachPlace P (xs ++ ys)
  each_joined [] ys hx hy i p e = hy i p e
  each_joined (x ∷ xs) ys hx hy zero p e = hx zero p e
  each_joined (x ∷ xs) ys hx hy (suc i) p e = each_joined xs ys (λ j. hx (suc j)) hy i p e

  -- the first n cells
  pub each_taken : (n : ℕ) (xs : List Cell) → EachPlace P xs → EachPlace P (take n xs)
  each_taken zero xs h i p e = absurd (cc)
  each_taken (suc n) [] h i p e = absurd (cc)
  each_taken (suc n) (x ∷ xs) h zero p e = h zero p e
  each_taken (suc n) (x ∷ xs) h (suc i) p e = each_taken n xs (λ j. h (suc j)) i p e

  -- the others
  pub each_dropped : (n : ℕ) (xs : List Cell) → EachPlace P xs → EachPlace P (drop n xs)
  each_dropped zero xs h i p e = h i p e
  each_dropped (suc n) [] h i p e = absurd (cc)
  each_dropped (suc n) (x ∷ xs) h i p e = each_dropped n xs (λ j. h (suc j)) i p e

  -- the cells after a write
  pub each_written : (xs : List Cell) (n : ℕ) (c : Cell) → EachPlace P xs → IfPlace P c → EachPlace P (set xs n c)
  each_written [] n c h hc i p e = absurd (cc)
  each_written (x ∷ xs) zero c h hc zero p e = hc p (cc)
  each_written (x ∷ xs) zero c h hc (suc i) p e = h (suc i) p e
  each_written (x ∷ xs) (suc n) c h hc zero p e = h zero p e
  each_written (x ∷ xs) (suc n) c h hc (suc i) p e = each_written xs n c (λ j. h (suc j)) hc i p e

  -- a blank cell is no place
  blank_is_none : (k : SlotKind) → IfPlace P (blank_of k)
  blank_is_none slot.Number p e = absurd (cc)
  blank_is_none (slot.Place n) p e = absurd (cc)
  blank_is_none slot.Mark p e = absurd (cc)
  blank_is_none (slot.Link q) p e = absurd (cc)

  -- blank cells have no place
  pub each_blank : (ks : List SlotKind) → EachPlace P (map blank_of ks)
  each_blank [] i p e = absurd (cc)
  each_blank (k ∷ ks) zero p e = blank_is_none k p (cc)
  each_blank (k ∷ ks) (suc i) p e = each_blank ks i p e

  -- a cell that is got, or what stands for one that is not there
  pub got_place : (cs : List Cell) (i : ℕ) → EachPlace P cs → IfPlace P (get_or cs i cell.Unknown)
  got_place [] i h p e = absurd (cc)
  got_place (c ∷ cs) zero h p e = h zero p (ap Some e)
  got_place (c ∷ cs) (suc i) h p e = got_place cs i (λ j. h (suc j)) p e

-- ---- frames

-- places of no cells name no slots
pub names_none : (s : Sharing) (rs : List ℕ) (p : CellPlace) → p.len ≡ 0 → NamesOwn s rs p
names_none s rs p e k lt = absurd (omega arith)

-- own slots stay own where the routine of the frame stays
pub names_kept : (s : Sharing) (rs qs : List ℕ) (p : CellPlace) → get_or qs p.frame 0 ≡ get_or rs p.frame 0 → NamesOwn s rs p
    → NamesOwn s qs p
names_kept s rs qs p e h k lt = subst (λ r. p.slot + k < s.own r) (sym e) (h k lt)

module _ (s : Sharing) where
  -- the cells of a frame, whether it is there or not
  pub own_cells : (fs : List PlainFrame) (f : ℕ) → OwnPlaces s fs → EachPlace (NamesOwn s (routines_of fs)) (get_or fs f no_frame).cells
  own_cells fs f h i p e =
      elim (cases_lt f (length fs)) [
        | inl lf ↦ h f i p lf e
        | inr le ↦
            each_none (NamesOwn s (routines_of fs)) i p
            (subst (λ x. slice_get x.cells i ≡ Some (cell.Place p)) (get_or_past fs f no_frame le) e)
      ]

  -- a cell of a frame, whether it is there or not
  pub own_cell : (fs : List PlainFrame) (f i : ℕ) → OwnPlaces s fs → IfPlace (NamesOwn s (routines_of fs)) (cell_at fs f i cell.Unknown)
  own_cell fs f i h = got_place (NamesOwn s (routines_of fs)) (get_or fs f no_frame).cells i (own_cells fs f h)

  -- the frames after a write
  pub written_own : (fs : List PlainFrame) (f i : ℕ) (c : Cell) → OwnPlaces s fs → IfPlace (NamesOwn s (routines_of fs)) c
      → OwnPlaces s (frames_with_cell fs f i c)
  written_own fs f i c h hc g j p lg e =
      let old : PlainFrame = get_or fs f no_frame in
      let new : PlainFrame = record old { cells = set old.cells i c } in
      let P : CellPlace → Type 0 = NamesOwn s (routines_of fs) in
      let lg' : g < length fs = omega (arith, length-set fs f new) in
      subst (λ rs. NamesOwn s rs p) (sym (written-routines fs f i c))
      (elim (cases_eq g f) [
        | inl q ↦
            let lf : f < length fs = omega arith in
            let same : get_or (set fs f new) g no_frame ≡ new = ap (λ k. get_or (set fs f new) k no_frame) q
            ∙ get_or-set_same fs f new no_frame lf in
            each_written P old.cells i c (own_cells fs f h) hc j p (subst (λ x. slice_get x.cells j ≡ Some (cell.Place p)) same e)
        | inr ne ↦ h g j p lg' (subst (λ x. slice_get x.cells j ≡ Some (cell.Place p)) (get_or-set_other fs f g new no_frame ne) e)
      ])

-- ---- what is known of a cell of frames that fit

module _ (code : PlainCode) where
  -- a cell fits a slot of the kind that the code has for it
  pub record FitsAt (rs : List ℕ) (f i : ℕ) (c : Cell) : Type 0 where
    pub kind : SlotKind
    pub is : kind_in code (get_or rs f 0) i ≡ Some kind
    pub fits : FitsSlot code rs f kind c

  -- each cell does
  pub fits_at : (fs : List PlainFrame) (f i : ℕ) (c : Cell) → FitsFrames code fs → f < length fs
      → slice_get (get_or fs f no_frame).cells i ≡ Some c → FitsAt (routines_of fs) f i c
  fits_at fs f i c h lf e =
      let fr : PlainFrame = get_or fs f no_frame in
      let ff = h.each f lf in
      let li : i < length fr.cells = slice_get_within fr.cells i c e in
      let lk : i < length fr.kinds = omega (arith, ff.full) in
      let got : get_or fr.cells i cell.Unset ≡ c = get_or_from_slice_get fr.cells i c cell.Unset e in
      let routine : get_or (routines_of fs) f 0 ≡ fr.routine = get_or-map (λ g. g.routine) fs f no_frame in
      record {
        kind = get_or fr.kinds i slot.Mark;
        is = ap (λ r. kind_in code r i) routine ∙ ap (λ ks. slice_get ks i) (sym ff.kinds) ∙ slice_get-get_or fr.kinds i slot.Mark lk;
        fits = subst (λ x. FitsSlot code (routines_of fs) f (get_or fr.kinds i slot.Mark) x) got (ff.cells i lk);
      }

  -- a place leads to a frame that is not above its own
  frame_of_kind : (rs : List ℕ) (f : ℕ) (k : SlotKind) (p : CellPlace) → FitsSlot code rs f k (cell.Place p) → p.frame ≤ f
  frame_of_kind rs f slot.Number p h = absurd h
  frame_of_kind rs f (slot.Place n) p h = h.1.frame
  frame_of_kind rs f slot.Mark p h = absurd h
  frame_of_kind rs f (slot.Link q) p h = h.frame

  -- it has as many cells as its slot says
  length_of_kind : (rs : List ℕ) (f : ℕ) (k : SlotKind) (p : CellPlace) → FitsSlot code rs f k (cell.Place p)
      → p.len ≡ place_length (Some k)
  length_of_kind rs f slot.Number p h = absurd h
  length_of_kind rs f (slot.Place n) p h = h.0
  length_of_kind rs f slot.Mark p h = absurd h
  length_of_kind rs f (slot.Link q) p h = h.len

  -- a place in a frame leads to one that is not above it
  pub place_below : (fs : List PlainFrame) (f i : ℕ) (p : CellPlace) → FitsFrames code fs → f < length fs
      → slice_get (get_or fs f no_frame).cells i ≡ Some (cell.Place p) → p.frame ≤ f
  place_below fs f i p h lf e =
      let at = fits_at fs f i (cell.Place p) h lf e in
      frame_of_kind (routines_of fs) f at.kind p at.fits

  -- a place in a frame has as many cells as its slot says
  pub place_long : (fs : List PlainFrame) (f i : ℕ) (p : CellPlace) → FitsFrames code fs → f < length fs
      → slice_get (get_or fs f no_frame).cells i ≡ Some (cell.Place p) → p.len ≡ length_in code (get_or (routines_of fs) f 0) i
  place_long fs f i p h lf e =
      let at = fits_at fs f i (cell.Place p) h lf e in
      length_of_kind (routines_of fs) f at.kind p at.fits ∙ ap place_length (sym at.is)

  -- ---- frames come and go

  module _ (s : Sharing) where
    -- the frames below the top one
    pub left_own : (n : ℕ) (fs : List PlainFrame) → n ≤ length fs → FitsFrames code fs → OwnPlaces s fs → OwnPlaces s (take n fs)
    left_own n fs le fit h f i p lf e =
        let lt : f < n = omega (arith, length-take-le n fs le) in
        let there = subst (λ x. slice_get x.cells i ≡ Some (cell.Place p)) (get_or-take n fs f no_frame lt) e in
        let below = place_below fs f i p fit (omega arith) there in
        let same : get_or (routines_of (take n fs)) p.frame 0 ≡ get_or (routines_of fs) p.frame 0 =
        ap (λ q. get_or q p.frame 0) (sym (take-map (λ g. g.routine) n fs)) ∙ get_or-take n (routines_of fs) p.frame 0 (omega arith) in
        names_kept s (routines_of fs) (routines_of (take n fs)) p same (h f i p (omega arith) there)

    -- what is own with one more frame on top
    pub names_under : (fs : List PlainFrame) (x : PlainFrame) (p : CellPlace) → p.frame < length fs → NamesOwn s (routines_of fs) p
        → NamesOwn s (routines_of (fs ++ x ∷ [])) p
    names_under fs x p lt h =
        let same : get_or (routines_of (fs ++ x ∷ [])) p.frame 0 ≡ get_or (routines_of fs) p.frame 0 =
        get_or-map (λ g. g.routine) (fs ++ x ∷ []) p.frame no_frame ∙ ap (λ g. g.routine) (get_or-append fs (x ∷ []) no_frame p.frame lt)
        ∙ sym (get_or-map (λ g. g.routine) fs p.frame no_frame) in
        names_kept s (routines_of fs) (routines_of (fs ++ x ∷ [])) p same h

    -- one more frame on top
    pub entered_own : (fs : List PlainFrame) (x : PlainFrame) → FitsFrames code fs → OwnPlaces s fs
        → EachPlace (NamesOwn s (routines_of (fs ++ x ∷ []))) x.cells → OwnPlaces s (fs ++ x ∷ [])
    entered_own fs x fit h hx f i p lf e =
        let len = length-append fs (x ∷ []) in
        elim (cases_eq f (length fs)) [
          | inl q ↦
              let same : get_or (fs ++ x ∷ []) f no_frame ≡ x = ap (λ m. get_or (fs ++ x ∷ []) m no_frame) q
              ∙ get_or-append_seam fs x [] no_frame in
              hx i p (subst (λ y. slice_get y.cells i ≡ Some (cell.Place p)) same e)
          | inr ne ↦
              let lt : f < length fs = omega arith in
              let there = subst (λ y. slice_get y.cells i ≡ Some (cell.Place p)) (get_or-append fs (x ∷ []) no_frame f lt) e in
              let below = place_below fs f i p fit lt there in
              names_under fs x p (omega arith) (h f i p lt there)
        ]

-- ---- entries

module _ (s : Sharing) where
  -- the places in the frames of each entry name own slots
  abbrev pub OwnHeld : List PlainEntry → Type 0
  OwnHeld held = (h : ℕ) → h < length held → OwnPlaces s (get_or held h no_entry).frames

  -- an entry, whether it is there or not
  pub held_any : (held : List PlainEntry) (n : ℕ) → OwnHeld held → OwnPlaces s (get_or held n no_entry).frames
  held_any held n h =
      elim (cases_lt n (length held)) [
        | inl lt ↦ h n lt
        | inr le ↦
            subst (λ x. OwnPlaces s x.frames) (sym (get_or_past held n no_entry le)) (λ f i p lf e. absurd (omega arith))
      ]

  -- the first n entries
  pub held_taken : (n : ℕ) (held : List PlainEntry) → n ≤ length held → OwnHeld held → OwnHeld (take n held)
  held_taken n held le h k lk =
      let lt : k < n = omega (arith, length-take-le n held le) in
      subst (λ x. OwnPlaces s x.frames) (sym (get_or-take n held k no_entry lt)) (h k (omega arith))

  -- no entries
  pub held_none : OwnHeld []
  held_none k lk = absurd (omega arith)

  -- one entry
  pub held_one : (x : PlainEntry) → OwnPlaces s x.frames → OwnHeld (x ∷ [])
  held_one x h zero lk = h
  held_one x h (suc k) lk = absurd (omega arith)

  -- one stack on the other
  pub held_joined : (xs ys : List PlainEntry) → OwnHeld xs → OwnHeld ys → OwnHeld (xs ++ ys)
  held_joined xs ys hx hy k lk =
      elim (cases_lt k (length xs)) [
        | inl lt ↦ subst (λ x. OwnPlaces s x.frames) (sym (get_or-append xs ys no_entry k lt)) (hx k lt)
        | inr le ↦
            subst (λ x. OwnPlaces s x.frames) (sym (get_or-append_right xs ys (length xs) k no_entry refl le))
            (hy (k - length xs) (omega (arith, length-append xs ys)))
      ]

  -- one entry replaced
  pub held_replaced : (held : List PlainEntry) (n : ℕ) (x : PlainEntry) → OwnHeld held → OwnPlaces s x.frames → OwnHeld (set held n x)
  held_replaced held n x h hx k lk =
      let lt : k < length held = omega (arith, length-set held n x) in
      elim (cases_eq k n) [
        | inl q ↦
            let same : get_or (set held n x) k no_entry ≡ x = ap (λ m. get_or (set held n x) m no_entry) q
            ∙ get_or-set_same held n x no_entry (omega arith) in
            subst (λ y. OwnPlaces s y.frames) (sym same) hx
        | inr ne ↦ subst (λ y. OwnPlaces s y.frames) (sym (get_or-set_other held n k x no_entry ne)) (h k lt)
      ]
