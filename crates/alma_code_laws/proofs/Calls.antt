-- A call of a sound code enters a frame that fits.
use Rattle.std.proofs.Common.{◌≡◌, ℕ, zero, suc, ◌+◌, ◌-◌, ◌<◌, ◌≤◌, ◌⊎◌, inl, inr, List, [], ◌∷◌, ◌++◌, length, get_or, map, drop, refl}
use Rattle.std.proofs.Common.{sym, ap, ◌∙◌, subst, arith, Some}
use Rattle.std.specs.Prelude.{slice_get, true, ◌&&◌, nat_lt, nat_le, nat_eq}
use Rattle.std.proofs.lemmas.Bool.{cases_eq, cases_lt, and_parts, and_from, or_cases, lt-ltb, le-leb, ltb-true, eq-eqb}
use Rattle.std.proofs.lemmas.Option.{slice_get_within, get_or_from_slice_get, slice_get-get_or}
use Rattle.alma_code.specs.declared.cell.Cell.TheVariants as cell
use Rattle.alma_code.specs.declared.head.ParamKind.{ParamKind}
use Rattle.alma_code.specs.declared.head.ParamKind.TheVariants as param
use Rattle.alma_code.specs.declared.head.CodeParam.{CodeParam}
use Rattle.alma_code.specs.Layout.{no_param, FitsParam, FitsParams, arg_cells, args_cells, cells_at, blank_of, frame_of_call}
use Rattle.alma_code.specs.declared.cell.CellPlace.{CellPlace}
use Rattle.alma_code.specs.declared.cell.SlotKind.{SlotKind}
use Rattle.alma_code.specs.declared.cell.SlotKind.TheVariants as slot
use Rattle.std.proofs.Math.ListN.{get_or-map}
use Rattle.alma_code.specs.declared.cell.Cell.{Cell}
use Rattle.alma_code.specs.Picture.{PlainFrame, no_frame, last_frame}
use Rattle.alma_code.specs.Carries.{number_at}
use Rattle.std.proofs.lemmas.List.{get_or-append_right, get_or-drop, length-drop, length-map, length-take-le, get_or-take, length-append}
use Rattle.std.proofs.Math.Seq.{get_or-append_seam, drop-cons}
use Rattle.std.proofs.Math.ListN.{get_or-append}
use Rattle.std.proofs.lemmas.List.{map-append}
use Rattle.alma_code.specs.declared.instr.Instr.TheVariants as I
use Rattle.alma_base.specs.declared.fault.RunFault.TheVariants as fault
use Rattle.alma_code.specs.Plain.{PlainCode, no_routine, routine_at, head_at, kinds_at, start_at, end_at}
use Rattle.alma_code.specs.Kinds.{is_number, is_place_of, is_link_of, numbers_from}
use Rattle.alma_code.specs.Layout.{holds_param, hold_params, param_slots}
use Rattle.alma_code.specs.Rules.{fits_argument, has_position, kind_in, is_free, is_address, rule_10, IsSound, is_main, fit_arguments}
use Rattle.alma_code.specs.Rules.{holds_first, holds_result, can_call}
use Rattle.alma_base.specs.Choice.{if_true}
use Rattle.alma_code.specs.Picture.{live_cells}
use Rattle.alma_code.specs.Machine.{State, StepResult, top, gets_stuck, as_argument, arguments, as_routine, enters_routine, numbers_at}
use Rattle.alma_code.specs.Machine.{slot_of}
use Rattle.alma_code.specs.Fits.{routines_of, IsPosition, FitsFrame, FitsFrames, IsContent, IsCell, IsPlace, IsLink, FitsSlot}
use Rattle.alma_code.proofs.Heads.{place_of_is, number_is, link_of_is}
use Rattle.alma_code_laws.proofs.Ready.{Ready, Good, if_true_keeps, went_good, fault_good, has_slot, number_there, number_at_is, content_is}
use Rattle.alma_code_laws.proofs.Acts.{Here, cell_kept, frame_kept, frame_live, numbers_from_at, top_is}

module _ (code : PlainCode) where
  -- cells that a place may name are live number slots
  numbers_are : (n : ℕ) (r : ℕ) (s : State) (f i : ℕ) → Ready code r s → f < length s.now
      → ((k : ℕ) → k < n → IsCell code (routines_of s.now) f (i + k)) → numbers_at n s.now f i ≡ true
  numbers_are zero r s f i h lf c = refl
  numbers_are (suc n) r s f i h lf c =
      let z : i + 0 ≡ i = omega arith in
      and_from (number_at s.now f i) (numbers_at n s.now f (suc i))
      (number_at_is code r s f i h lf (subst (λ m. IsCell code (routines_of s.now) f m) z (c 0 (omega arith))))
      (numbers_are n r s f (suc i) h lf (λ k lt. let x : i + suc k ≡ suc i + k = omega arith in
      subst (λ m. IsCell code (routines_of s.now) f m) x (c (suc k) (omega arith))))

  -- the content of a number slot is read as an argument
  value_good : (r : ℕ) (s : State) (n : ℕ) (kind : ParamKind) (c : Cell) (k : Cell → StepResult) → Ready code r s → (kind ≡ param.Value)
      ⊎ (kind ≡ param.Mix) → IsContent c →
      ((c : Cell) → FitsParam (IsPlace code (routines_of s.now) (top s)) (IsLink code (routines_of s.now) (top s)) kind n c
      → Good code (k c)) → Good code (as_argument kind n (Some c) s k)
  value_good r s n param.Value (cell.Int v) k h w f good = good (cell.Int v) tt
  value_good r s n param.Mix (cell.Int v) k h w f good = good (cell.Int v) tt
  value_good r s n param.Place (cell.Int v) k h w f good = absurd (elim w [ inl e ↦ cc | inr e ↦ cc ])
  value_good r s n param.Cells (cell.Int v) k h w f good = absurd (elim w [ inl e ↦ cc | inr e ↦ cc ])
  value_good r s n param.Value cell.Unknown k h w f good = record { frames = h.frames; held = h.held; mode = tt }
  value_good r s n param.Mix cell.Unknown k h w f good = record { frames = h.frames; held = h.held; mode = tt }
  value_good r s n param.Link (cell.Int v) k h w f good = absurd (elim w [ inl e ↦ cc | inr e ↦ cc ])
  value_good r s n param.Link cell.Unknown k h w f good = record { frames = h.frames; held = h.held; mode = tt }
  value_good r s n param.Place cell.Unknown k h w f good = record { frames = h.frames; held = h.held; mode = tt }
  value_good r s n param.Cells cell.Unknown k h w f good = record { frames = h.frames; held = h.held; mode = tt }
  value_good r s n kind cell.Unset k h w f good = absurd f
  value_good r s n kind (cell.Place p) k h w f good = absurd f
  value_good r s n kind (cell.Mark m) k h w f good = absurd f

  -- the length that an argument's place has
  abbrev size_of : ParamKind → ℕ → ℕ
  size_of param.Value n = n
  size_of param.Place n = n
  size_of param.Cells n = n
  size_of param.Mix n = 1
  size_of param.Link n = n

  -- the argument of such a parameter may be a place that is no link
  abbrev TakesPlace : ParamKind → Type 0
  TakesPlace param.Place = Unit {0}
  TakesPlace param.Mix = Unit {0}
  TakesPlace param.Cells = Unit {0}
  TakesPlace param.Value = ⊥
  TakesPlace param.Link = ⊥

  -- the cell of a place slot is read as an argument
  spot_good : (r : ℕ) (s : State) (n : ℕ) (kind : ParamKind) (c : Cell) (k : Cell → StepResult) → Ready code r s → TakesPlace kind
      → FitsSlot code (routines_of s.now) (top s) (slot.Place (size_of kind n)) c →
      ((c : Cell) → FitsParam (IsPlace code (routines_of s.now) (top s)) (IsLink code (routines_of s.now) (top s)) kind n c
      → Good code (k c)) → Good code (as_argument kind n (Some c) s k)
  spot_good r s n param.Value c k h w f good = absurd w
  spot_good r s n param.Link c k h w f good = absurd w
  spot_good r s n param.Mix (cell.Place p) k h w f good =
      subst (λ b. Good code (if_true b (λ _. k (cell.Place p)) (λ _. gets_stuck s))) (sym (eq-eqb p.len 1 f.0)) (good (cell.Place p) f)
  spot_good r s n param.Place (cell.Place p) k h w f good =
      subst (λ b. Good code (if_true b (λ _. k (cell.Place p)) (λ _. gets_stuck s))) (sym (eq-eqb p.len n f.0)) (good (cell.Place p) f)
  spot_good r s n param.Cells (cell.Place p) k h w f good =
      let all : numbers_at n s.now p.frame p.slot ≡ true =
      numbers_are n r s p.frame p.slot h (frame_live code r s p h f.1) (λ k lt. f.1.cells k (omega (arith, f.0))) in
      subst (λ b. Good code (if_true b (λ _. k (cell.Place p)) (λ _. gets_stuck s)))
      (sym (and_from (nat_eq p.len n) (numbers_at n s.now p.frame p.slot) (eq-eqb p.len n f.0) all)) (good (cell.Place p) f)
  spot_good r s n param.Mix cell.Unset k h w f good = record { frames = h.frames; held = h.held; mode = tt }
  spot_good r s n param.Place cell.Unset k h w f good = record { frames = h.frames; held = h.held; mode = tt }
  spot_good r s n param.Cells cell.Unset k h w f good = record { frames = h.frames; held = h.held; mode = tt }
  spot_good r s n param.Mix cell.Unknown k h w f good = absurd f
  spot_good r s n param.Place cell.Unknown k h w f good = absurd f
  spot_good r s n param.Cells cell.Unknown k h w f good = absurd f
  spot_good r s n param.Mix (cell.Int v) k h w f good = absurd f
  spot_good r s n param.Place (cell.Int v) k h w f good = absurd f
  spot_good r s n param.Cells (cell.Int v) k h w f good = absurd f
  spot_good r s n param.Mix (cell.Mark m) k h w f good = absurd f
  spot_good r s n param.Place (cell.Mark m) k h w f good = absurd f
  spot_good r s n param.Cells (cell.Mark m) k h w f good = absurd f

  -- a number slot is read as an argument
  number_argument : (r : ℕ) (s : State) (i n : ℕ) (kind : ParamKind) (k : Cell → StepResult) → Ready code r s → (kind ≡ param.Value)
      ⊎ (kind ≡ param.Mix) → is_number (kind_in code r i) ≡ true →
      ((c : Cell) → FitsParam (IsPlace code (routines_of s.now) (top s)) (IsLink code (routines_of s.now) (top s)) kind n c
      → Good code (k c)) → Good code (as_argument kind n (slot_of s i) s k)
  number_argument r s i n kind k h w e good =
      let has = has_slot code r s i slot.Number h (number_is (kind_in code r i) e) in
      subst (λ o. Good code (as_argument kind n o s k)) (sym has.is) (value_good r s n kind has.cell k h w has.fits good)

  -- a place slot is read as an argument
  place_argument : (r : ℕ) (s : State) (i n : ℕ) (kind : ParamKind) (k : Cell → StepResult) → Ready code r s → TakesPlace kind
      → is_place_of (size_of kind n) (kind_in code r i) ≡ true →
      ((c : Cell) → FitsParam (IsPlace code (routines_of s.now) (top s)) (IsLink code (routines_of s.now) (top s)) kind n c
      → Good code (k c)) → Good code (as_argument kind n (slot_of s i) s k)
  place_argument r s i n kind k h w e good =
      let has = has_slot code r s i (slot.Place (size_of kind n)) h (place_of_is (size_of kind n) (kind_in code r i) e) in
      subst (λ o. Good code (as_argument kind n o s k)) (sym has.is) (spot_good r s n kind has.cell k h w has.fits good)

  -- the cell of a link slot is read as an argument
  link_cell_good : (r : ℕ) (s : State) (n : ℕ) (c : Cell) (k : Cell → StepResult) → Ready code r s
      → FitsSlot code (routines_of s.now) (top s) (slot.Link n) c →
      ((c : Cell) → FitsParam (IsPlace code (routines_of s.now) (top s)) (IsLink code (routines_of s.now) (top s)) param.Link n c
      → Good code (k c)) → Good code (as_argument param.Link n (Some c) s k)
  link_cell_good r s n (cell.Place p) k h f good =
      subst (λ b. Good code (if_true b (λ _. k (cell.Place p)) (λ _. gets_stuck s)))
      (sym (and_from (nat_eq p.slot 0) (nat_eq p.len 0) (eq-eqb p.slot 0 f.slot) (eq-eqb p.len 0 f.len)))
      (good (cell.Place p) (f.slot, f.len, f))
  link_cell_good r s n cell.Unset k h f good = record { frames = h.frames; held = h.held; mode = tt }
  link_cell_good r s n cell.Unknown k h f good = absurd f
  link_cell_good r s n (cell.Int v) k h f good = absurd f
  link_cell_good r s n (cell.Mark m) k h f good = absurd f

  -- a link slot is read as an argument
  link_argument : (r : ℕ) (s : State) (i n : ℕ) (k : Cell → StepResult) → Ready code r s → is_link_of n (kind_in code r i) ≡ true →
      ((c : Cell) → FitsParam (IsPlace code (routines_of s.now) (top s)) (IsLink code (routines_of s.now) (top s)) param.Link n c
      → Good code (k c)) → Good code (as_argument param.Link n (slot_of s i) s k)
  link_argument r s i n k h e good =
      let has = has_slot code r s i (slot.Link n) h (link_of_is n (kind_in code r i) e) in
      subst (λ o. Good code (as_argument param.Link n o s k)) (sym has.is) (link_cell_good r s n has.cell k h has.fits good)

  -- a slot that can be the argument of a parameter is read as one
  argument_good : (r : ℕ) (s : State) (i n : ℕ) (kind : ParamKind) (k : Cell → StepResult) → Ready code r s
      → fits_argument code r kind n i ≡ true →
      ((c : Cell) → FitsParam (IsPlace code (routines_of s.now) (top s)) (IsLink code (routines_of s.now) (top s)) kind n c
      → Good code (k c)) → Good code (as_argument kind n (slot_of s i) s k)
  argument_good r s i n param.Value k h e good = number_argument r s i n param.Value k h (inl refl) e good
  argument_good r s i n param.Place k h e good = place_argument r s i n param.Place k h tt e good
  argument_good r s i n param.Cells k h e good = place_argument r s i n param.Cells k h tt e good
  argument_good r s i n param.Link k h e good = link_argument r s i n k h e good
  argument_good r s i n param.Mix k h e good =
      elim (or_cases (is_number (kind_in code r i)) (is_place_of 1 (kind_in code r i)) e) [
        | inl a ↦ number_argument r s i n param.Mix k h (inr refl) a good
        | inr a ↦ place_argument r s i n param.Mix k h tt a good
      ]

  -- one argument more that fits one parameter more
  one_more : (rs : List ℕ) (f : ℕ) (p : CodeParam) (ps : List CodeParam) (c : Cell) (cs : List Cell)
      → FitsParam (IsPlace code rs f) (IsLink code rs f) p.kind p.cells c → FitsParams (IsPlace code rs f) (IsLink code rs f) ps cs
      → FitsParams (IsPlace code rs f) (IsLink code rs f) (p ∷ ps) (c ∷ cs)
  one_more rs f p ps c cs a h = record {
    count = ap suc h.count;
    each = λ k. elim k as (λ k. k < length (p ∷ ps)
        → FitsParam (IsPlace code rs f) (IsLink code rs f) (get_or (p ∷ ps) k no_param).kind (get_or (p ∷ ps) k no_param).cells
        (get_or (c ∷ cs) k cell.Unknown)) [
          | zero ↦ λ _. a
          | suc j ↦ λ lt. h.each j (omega arith)
        ];
  }

  -- the argument slots of a call are read
  pub arguments_good : (r : ℕ) (s : State) (ps : List CodeParam) (i : ℕ) (k : List Cell → StepResult) → Ready code r s
      → fit_arguments code r ps i ≡ true →
      ((cs : List Cell) → FitsParams (IsPlace code (routines_of s.now) (top s)) (IsLink code (routines_of s.now) (top s)) ps cs
      → Good code (k cs)) → Good code (arguments ps s i k)
  arguments_good r s [] i k h e good = good [] (record { count = refl; each = λ j lt. absurd (omega arith) })
  arguments_good r s (p ∷ ps) i k h e good =
      let x = and_parts (is_free code r i && fits_argument code r p.kind p.cells i) (fit_arguments code r ps (suc i)) e in
      let y = and_parts (is_free code r i) (fits_argument code r p.kind p.cells i) x.0 in
      argument_good r s i p.cells p.kind (λ c. arguments ps s (suc i) (λ cs. k (c ∷ cs))) h y.1
      (λ c fc. arguments_good r s ps (suc i) (λ cs. k (c ∷ cs)) h x.1
      (λ cs fs. good (c ∷ cs) (one_more (routines_of s.now) (top s) p ps c cs fc fs)))

  -- ---- the frame that a call enters

  module _ (r : ℕ) (s : State) (h : Ready code r s) (c : ℕ) where
    -- the frames before the call
    abbrev fs : List PlainFrame
    fs = s.now

    -- the number of the new frame
    abbrev me : ℕ
    me = length s.now

    -- the routines after the call
    abbrev rs : List ℕ
    rs = routines_of s.now ++ c ∷ []

    -- the kinds of the slots of the new frame
    abbrev kinds : List SlotKind
    kinds = kinds_at code c

    -- some cells fit the slots of the new frame from one on
    record FitsFrom (at : ℕ) (xs : List Cell) : Type 0 where
      pub within : at + length xs ≤ length kinds
      pub each : (j : ℕ) → j < length xs → FitsSlot code rs me (get_or kinds (at + j) slot.Mark) (get_or xs j cell.Unset)

    -- the routine of the new frame
    mine : get_or rs me 0 ≡ c
    mine =
        let len : me ≡ length (routines_of s.now) = sym (length-map s.now (λ f. f.routine)) in
        ap (λ q. get_or rs q 0) len ∙ get_or-append_seam (routines_of s.now) c [] 0

    -- the routines of the frames below it are as before
    under : (f : ℕ) → f < me → get_or rs f 0 ≡ get_or (routines_of s.now) f 0
    under f lt =
        let below : f < length (routines_of s.now) = omega (arith, length-map s.now (λ f. f.routine)) in
        get_or-append (routines_of s.now) (c ∷ []) 0 f below

    -- a place that the caller may hold is one that the new frame may hold
    place_moved : (p : CellPlace) → IsPlace code (routines_of s.now) (top s) p → IsPlace code rs me p
    place_moved p fits = record {
      frame = omega (arith, fits.frame);
      cells = λ k lt. cell_kept code (routines_of s.now) rs p.frame (p.slot + k) (under p.frame (frame_live code r s p h fits))
          (fits.cells k lt);
    }

    -- and so is a link
    link_moved : (q : ℕ) (p : CellPlace) → IsLink code (routines_of s.now) (top s) q p → IsLink code rs me q p
    link_moved q p fits =
        let lt : p.frame < me = omega (arith, h.frames.some, fits.frame) in
        record { frame = omega (arith, fits.frame); routine = under p.frame lt ∙ fits.routine; slot = fits.slot; len = fits.len }

    -- one cell that fits its slot
    one_slot : (at : ℕ) (k : SlotKind) (x : Cell) → slice_get kinds at ≡ Some k → FitsSlot code rs me k x → FitsFrom at (x ∷ [])
    one_slot at k x e fits =
        let lt = slice_get_within kinds at k e in
        record {
          within = omega arith;
          each = λ j lj.
              let j0 : 0 ≡ j = omega arith in
              let a0 : at ≡ at + 0 = omega arith in
              subst (λ j. FitsSlot code rs me (get_or kinds (at + j) slot.Mark) (get_or (x ∷ []) j cell.Unset)) j0
              (subst (λ q. FitsSlot code rs me q x) (sym
              (ap (λ q. get_or kinds q slot.Mark) (sym a0) ∙ get_or_from_slice_get kinds at k slot.Mark e)) fits);
        }

    -- cells that fit, after cells that fit
    joined : (at : ℕ) (xs ys : List Cell) → FitsFrom at xs → FitsFrom (at + length xs) ys → FitsFrom at (xs ++ ys)
    joined at xs ys a b =
        let len = length-append xs ys in
        record {
          within = omega (arith, b.within, len);
          each = λ j lj.
              elim (cases_lt j (length xs)) [
                | inl lt ↦ subst (λ x. FitsSlot code rs me (get_or kinds (at + j) slot.Mark) x) (sym (get_or-append xs ys cell.Unset j lt))
                    (a.each j lt)
                | inr le ↦
                    let z : at + length xs + (j - length xs) ≡ at + j = omega arith in
                    subst (λ x. FitsSlot code rs me (get_or kinds (at + j) slot.Mark) x)
                    (sym (get_or-append_right xs ys (length xs) j cell.Unset refl le))
                    (subst (λ q. FitsSlot code rs me (get_or kinds q slot.Mark) (get_or ys (j - length xs) cell.Unset)) z
                    (b.each (j - length xs) (omega arith)))
              ];
        }

    -- as many cells are copied as the place has
    copied_length : (p : CellPlace) → IsPlace code (routines_of s.now) (top s) p → length (cells_at fs p) ≡ p.len
    copied_length p fits =
        let cs = (get_or fs p.frame no_frame).cells in
        let lf = frame_live code r s p h fits in
        let room : p.slot + p.len ≤ length cs ⊎ (p.len ≡ 0) =
        elim (cases_eq p.len 0) [
          | inl e ↦ inr e
          | inr ne ↦
              let there = number_there code r s p.frame (p.slot + (p.len - 1)) h lf (fits.cells (p.len - 1) (omega arith)) in
              inl (omega (arith, there.0, (h.frames.each p.frame lf).full))
        ] in
        let le : p.len ≤ length (drop p.slot cs) = elim room [ inl a ↦ omega (arith, length-drop p.slot cs) | inr e ↦ omega arith ] in
        length-take-le p.len (drop p.slot cs) le

    -- copied cells fit number slots
    copied_fit : (at n : ℕ) (p : CellPlace) → p.len ≡ n → IsPlace code (routines_of s.now) (top s) p → numbers_from n kinds at ≡ true
        → at + n ≤ length kinds → FitsFrom at (cells_at fs p)
    copied_fit at n p e fits numbers room =
        let cs = (get_or fs p.frame no_frame).cells in
        let len = copied_length p fits in
        let lf = frame_live code r s p h fits in
        record {
          within = omega arith;
          each = λ j lj.
              let lt : j < n = omega arith in
              let kind : get_or kinds (at + j) slot.Mark ≡ slot.Number =
              get_or_from_slice_get kinds (at + j) slot.Number slot.Mark (numbers_from_at code n kinds at j numbers lt) in
              let same : get_or (cells_at fs p) j cell.Unset ≡ get_or cs (p.slot + j) cell.Unset =
              get_or-take p.len (drop p.slot cs) j cell.Unset (omega arith) ∙ get_or-drop p.slot cs j cell.Unset in
              subst (λ q. FitsSlot code rs me q (get_or (cells_at fs p) j cell.Unset)) (sym kind)
              (subst IsContent (sym same) (content_is code r s p.frame (p.slot + j) h lf (fits.cells j (omega arith))));
        }

    -- number slots from one on are inside
    numbers_room : (n : ℕ) (at : ℕ) → at ≤ length kinds → numbers_from n kinds at ≡ true → at + n ≤ length kinds
    numbers_room zero at le e = omega arith
    numbers_room (suc n) at le e =
        let last : slice_get kinds (at + n) ≡ Some slot.Number = numbers_from_at code (suc n) kinds at n e (omega arith) in
        let lt = slice_get_within kinds (at + n) slot.Number last in
        omega arith

    -- the cells of one argument
    argument_fits : (at n : ℕ) (kind : ParamKind) (x : Cell) → at ≤ length kinds → holds_param (kinds_at code c) kind n at ≡ true
        → FitsParam (IsPlace code (routines_of s.now) (top s)) (IsLink code (routines_of s.now) (top s)) kind n x →
        FitsFrom at (arg_cells fs me at kind x) × (length (arg_cells fs me at kind x) ≡ param_slots kind n)
    argument_fits at n param.Value (cell.Int v) le e f = (one_slot at slot.Number (cell.Int v) (number_is (kind_in code c at) e) tt, refl)
    argument_fits at n param.Place (cell.Place p) le e f =
        (one_slot at (slot.Place n) (cell.Place p) (place_of_is n (kind_in code c at) e) (f.0, place_moved p f.1), refl)
    argument_fits at n param.Cells (cell.Place p) le e f =
        (copied_fit at n p f.0 f.1 e (numbers_room n at le e), copied_length p f.1 ∙ f.0)
    argument_fits at n param.Mix (cell.Place p) le e f =
        let x = and_parts (is_place_of 1 (kind_in code c at)) (is_number (kind_in code c (suc at))) e in
        let next : suc at ≡ at + 1 = omega arith in (
          joined at (cell.Place p ∷ []) (cell.Unknown ∷ [])
              (one_slot at (slot.Place 1) (cell.Place p) (place_of_is 1 (kind_in code c at) x.0) (f.0, place_moved p f.1))
              (subst (λ q. FitsFrom q (cell.Unknown ∷ [])) next
              (one_slot (suc at) slot.Number cell.Unknown (number_is (kind_in code c (suc at)) x.1) tt)),
          refl,
        )
    argument_fits at n param.Mix (cell.Int v) le e f =
        let x = and_parts (is_place_of 1 (kind_in code c at)) (is_number (kind_in code c (suc at))) e in
        let next : suc at ≡ at + 1 = omega arith in
        let number = number_is (kind_in code c (suc at)) x.1 in
        let p : CellPlace = record { frame = me; slot = at + 1; len = 1 } in
        let own : IsPlace code rs me p = record {
          frame = omega arith;
          cells = λ k lt.
              let z : suc at ≡ at + 1 + k = omega arith in
              record {
                number = ap (λ q. slice_get (kinds_at code q) (at + 1 + k)) mine ∙ ap (slice_get kinds) (sym z) ∙ number;
                free = omega arith;
              };
        } in (
          joined at (cell.Place p ∷ []) (cell.Int v ∷ [])
              (one_slot at (slot.Place 1) (cell.Place p) (place_of_is 1 (kind_in code c at) x.0) (refl, own))
              (subst (λ q. FitsFrom q (cell.Int v ∷ [])) next (one_slot (suc at) slot.Number (cell.Int v) number tt)),
          refl,
        )
    argument_fits at n param.Link (cell.Place p) le e f =
        (one_slot at (slot.Link n) (cell.Place p) (link_of_is n (kind_in code c at) e) (link_moved n p f.2), refl)
    argument_fits at n param.Link (cell.Int v) le e f = absurd f
    argument_fits at n param.Link cell.Unknown le e f = absurd f
    argument_fits at n param.Link cell.Unset le e f = absurd f
    argument_fits at n param.Link (cell.Mark m) le e f = absurd f
    argument_fits at n param.Value (cell.Place p) le e f = absurd f
    argument_fits at n param.Place (cell.Int v) le e f = absurd f
    argument_fits at n param.Cells (cell.Int v) le e f = absurd f
    argument_fits at n param.Value cell.Unknown le e f = absurd f
    argument_fits at n param.Value cell.Unset le e f = absurd f
    argument_fits at n param.Value (cell.Mark m) le e f = absurd f
    argument_fits at n param.Place cell.Unknown le e f = absurd f
    argument_fits at n param.Place cell.Unset le e f = absurd f
    argument_fits at n param.Place (cell.Mark m) le e f = absurd f
    argument_fits at n param.Mix cell.Unknown le e f = absurd f
    argument_fits at n param.Mix cell.Unset le e f = absurd f
    argument_fits at n param.Mix (cell.Mark m) le e f = absurd f
    argument_fits at n param.Cells cell.Unknown le e f = absurd f
    argument_fits at n param.Cells cell.Unset le e f = absurd f
    argument_fits at n param.Cells (cell.Mark m) le e f = absurd f

    -- the first n arguments fill the slots of their parameters, and the slots of the others come next
    record Begun (ps : List CodeParam) (args : List Cell) (n : ℕ) : Type 0 where
      pub fits : FitsFrom 0 (args_cells fs ps args n)
      pub rest : hold_params (kinds_at code c) (drop n ps) (length (args_cells fs ps args n)) ≡ true

    -- the arguments fill the slots of their parameters, one after another
    begun : (ps : List CodeParam) (args : List Cell) (n : ℕ) → n ≤ length ps → hold_params (kinds_at code c) ps 0 ≡ true
        → FitsParams (IsPlace code (routines_of s.now) (top s)) (IsLink code (routines_of s.now) (top s)) ps args → Begun ps args n
    begun ps args zero le e f = record { fits = record { within = omega arith; each = λ j lt. absurd (omega arith) }; rest = e }
    begun ps args (suc n) le e f =
        let b = begun ps args n (omega arith) e f in
        let xs = args_cells fs ps args n in
        let p = get_or ps n no_param in
        let x = get_or args n cell.Unknown in
        let split : drop n ps ≡ p ∷ drop (suc n) ps = drop-cons ps n no_param (omega arith) in
        let parts = and_parts (holds_param (kinds_at code c) p.kind p.cells (length xs))
        (hold_params (kinds_at code c) (drop (suc n) ps) (length xs + param_slots p.kind p.cells))
        (subst (λ qs. hold_params (kinds_at code c) qs (length xs) ≡ true) split b.rest) in
        let one = argument_fits (length xs) p.cells p.kind x (omega (arith, b.fits.within)) parts.0 (f.each n (omega arith)) in
        let ys = arg_cells fs me (length xs) p.kind x in
        let len : length xs + param_slots p.kind p.cells ≡ length (xs ++ ys) = omega (arith, length-append xs ys, one.1) in
        record {
          fits = joined 0 xs ys b.fits ((let z : length xs ≡ 0 + length xs = omega arith in subst (λ q. FitsFrom q ys) z one.0));
          rest = subst (λ q. hold_params (kinds_at code c) (drop (suc n) ps) q ≡ true) len parts.1;
        }

    -- a blank cell fits its slot
    blank_fits : (k : SlotKind) → FitsSlot code rs me k (blank_of k)
    blank_fits slot.Number = tt
    blank_fits (slot.Place n) = tt
    blank_fits slot.Mark = tt
    blank_fits (slot.Link q) = tt

    -- the blank cells from a slot on fit
    blanks_fit : (n : ℕ) → n ≤ length kinds → FitsFrom n (drop n (map blank_of kinds))
    blanks_fit n le =
        let len : length (drop n (map blank_of kinds)) ≡ length kinds - n = length-drop n (map blank_of kinds)
        ∙ ap (λ q. q - n) (length-map kinds blank_of) in
        record {
          within = omega arith;
          each = λ j lj.
              let same : get_or (drop n (map blank_of kinds)) j cell.Unset ≡ blank_of (get_or kinds (n + j) slot.Mark) =
              get_or-drop n (map blank_of kinds) j cell.Unset ∙ get_or-map blank_of kinds (n + j) slot.Mark in
              subst (λ x. FitsSlot code rs me (get_or kinds (n + j) slot.Mark) x) (sym same) (blank_fits (get_or kinds (n + j) slot.Mark));
        }

    -- the whole frame
    new_fits : (at back first to : ℕ) (args : List Cell) → 0 < c → c < length code.routines
        → hold_params (kinds_at code c) (head_at code c).params 0 ≡ true →
        FitsParams (IsPlace code (routines_of s.now) (top s)) (IsLink code (routines_of s.now) (top s)) (head_at code c).params args
        → back ≡ suc at → slice_get code.instrs at ≡ Some (I.Call c first to) → start_at code r ≤ at → suc at < end_at code r →
        FitsFrame code rs me (frame_of_call s.now (head_at code c) c back args)
    new_fits at back first to args pos_c lc e f eb is low high =
        let ps = (head_at code c).params in
        let b = begun ps args (length ps) (omega arith) e f in
        let xs = args_cells fs ps args (length ps) in
        let ys = drop (length xs) (map blank_of kinds) in
        let inside : length xs ≤ length kinds = omega (arith, b.fits.within) in
        let z : length xs ≡ 0 + length xs = omega arith in
        let all = joined 0 xs ys b.fits (subst (λ q. FitsFrom q ys) z (blanks_fit (length xs) inside)) in
        let len : length (xs ++ ys) ≡ length kinds =
        omega (arith, length-append xs ys, length-drop (length xs) (map blank_of kinds), length-map kinds blank_of) in
        let caller : get_or rs (me - 1) 0 ≡ r = under (me - 1) (omega (arith, h.frames.some)) ∙ top_is code r s h in
        record {
          routine = lc;
          kinds = refl;
          full = len;
          cells = λ i li.
              let y : 0 + i ≡ i = omega arith in
              subst (λ q. FitsSlot code rs me (get_or kinds q slot.Mark) (get_or (xs ++ ys) i cell.Unset)) y (all.each i (omega arith));
          main = λ q. absurd (omega (arith, h.frames.some));
          called = λ _. (
            omega arith,
            record {
              first = first;
              to = to;
              at = at;
              behind = eb;
              call = is;
              low = subst (λ q. start_at code q ≤ at) (sym caller) low;
              high = subst (λ q. back < end_at code q) (sym caller) (omega arith);
            },
          );
        }

    -- a routine is entered
    entered_good : (at first to : ℕ) (args : List Cell) → 0 < c → c < length code.routines → start_at code c < end_at code c
        → hold_params (kinds_at code c) (head_at code c).params 0 ≡ true →
        FitsParams (IsPlace code (routines_of s.now) (top s)) (IsLink code (routines_of s.now) (top s)) (head_at code c).params args
        → s.at ≡ suc at → slice_get code.instrs at ≡ Some (I.Call c first to) → start_at code r ≤ at → suc at < end_at code r →
        Good code (enters_routine s c (start_at code c) (head_at code c) args)
    entered_good at first to args pos_c lc le e f eb is low high =
        let nf = frame_of_call s.now (head_at code c) c s.at args in
        let fits = new_fits at s.at first to args pos_c lc e f eb is low high in
        let len = length-append s.now (nf ∷ []) in
        let same : routines_of (s.now ++ nf ∷ []) ≡ rs = map-append (λ f. f.routine) s.now (nf ∷ []) in
        let frames : FitsFrames code (s.now ++ nf ∷ []) = record {
          some = omega arith;
          each = λ f lf.
              subst (λ q. FitsFrame code q f (get_or (s.now ++ nf ∷ []) f no_frame)) (sym same)
              (elim (cases_eq f me) [
                | inl q ↦
                    subst (λ x. FitsFrame code rs f x) (sym
                    (ap (λ m. get_or (s.now ++ nf ∷ []) m no_frame) q ∙ get_or-append_seam s.now nf [] no_frame))
                    (subst (λ m. FitsFrame code rs m nf) (sym q) fits)
                | inr ne ↦
                    let lt : f < me = omega arith in
                    subst (λ x. FitsFrame code rs f x) (sym (get_or-append s.now (nf ∷ []) no_frame f lt))
                    (frame_kept code (routines_of s.now) rs f (get_or s.now f no_frame) (λ g lg. under g (omega arith))
                    (h.frames.each f lt))
              ]);
          position = subst (λ x. IsPosition (get_or x.cells 0 cell.Unset)) (sym (get_or-append s.now (nf ∷ []) no_frame 0 h.frames.some))
              h.frames.position;
        } in
        let lastly : (last_frame (s.now ++ nf ∷ [])).routine ≡ c =
        let m : length (s.now ++ nf ∷ []) - 1 ≡ me = omega arith in
        ap (λ q. (get_or (s.now ++ nf ∷ []) q no_frame).routine) m ∙ ap (λ q. q.routine) (get_or-append_seam s.now nf [] no_frame) in
        let t : State = record s { at = start_at code c; now = s.now ++ nf ∷ [] } in
        let ready : Ready code c t = record { frames = frames; held = h.held; routine = lastly; going = h.going } in
        let inside : is_address code c (start_at code c) ≡ true =
        and_from (nat_le (start_at code c) (start_at code c)) (nat_lt (start_at code c) (end_at code c))
        (le-leb (start_at code c) (start_at code c) (omega arith)) (lt-ltb (start_at code c) (end_at code c) le) in
        if_true_keeps (Good code) (nat_lt (length s.now) 10000) _ _
        (λ _. if_true_keeps (Good code) (nat_le (live_cells s.now + (head_at code c).declared) 1048576) _ _
        (λ _. went_good code c t ready inside)
        (λ _. fault_good code r s fault.CellsFull h))
        (λ _. fault_good code r s fault.DepthFull h)

  -- a Call that keeps its rule
  pub call_good : (sound : IsSound code) (r at : ℕ) (s : State) (c first to : ℕ) → Here code r at s
      → rule_10 code r at (I.Call c first to) ≡ true → slice_get code.instrs at ≡ Some (I.Call c first to) →
      Good code (as_routine (slice_get code.routines c) s
      (λ h. arguments h.params s first (λ args. enters_routine s c (start_at code c) h args)))
  unfolding rule_10
  call_good sound r at s c first to h o is =
      let hd = head_at code c in
      let x = and_parts (nat_lt 0 c && nat_lt c (length code.routines)) (can_call code r at hd first to) o in
      let w = and_parts (nat_lt 0 c) (nat_lt c (length code.routines)) x.0 in
      let lc = ltb-true c (length code.routines) w.1 in
      let y = and_parts (fit_arguments code r hd.params first && holds_first hd.params first)
      (holds_result code r hd.has_result to && nat_lt (suc at) (end_at code r)) x.1 in
      let fit = (and_parts (fit_arguments code r hd.params first) (holds_first hd.params first) y.0).0 in
      let high = ltb-true (suc at) (end_at code r)
      (and_parts (holds_result code r hd.has_result to) (nat_lt (suc at) (end_at code r)) y.1).1 in
      let rules = sound.heads c lc in
      let le = ltb-true (start_at code c) (end_at code c)
      (and_parts (nat_lt (start_at code c) (end_at code c)) (is_main code c) rules.0).0 in
      let params = (and_parts (hold_params (kinds_at code c) hd.params 0) (has_position code c) rules.2).0 in
      let there : slice_get code.routines c ≡ Some (routine_at code c) = slice_get-get_or code.routines c no_routine lc in
      subst (λ q. Good code (as_routine q s (λ h. arguments h.params s first (λ args. enters_routine s c (start_at code c) h args))))
      (sym there)
      (arguments_good r s hd.params first (λ args. enters_routine s c (start_at code c) hd args) h.ready fit
      (λ args f. entered_good r s h.ready c at first to args (ltb-true 0 c w.0) lc le params f h.at_is is h.low high))
