-- The words of the machine keep what is true of the state.
use Rattle.std.proofs.Common.{◌≡◌, ℕ, ◌+◌, ◌-◌, ◌<◌, List, length, get_or, set, refl, sym, ap, ◌∙◌, subst, arith, Option, Some, None}
use Rattle.std.proofs.Common.{length-set}
use Rattle.std.specs.Prelude.{ℤ, pos, slice_get, Bool, true, false, nat_lt}
use Rattle.std.proofs.lemmas.Bool.{false≢true, ltb-true}
use Rattle.std.proofs.lemmas.Option.{slice_get_within, get_or_from_slice_get, slice_get-get_or}
use Rattle.std.proofs.Math.ListN.{get_or-map}
use Rattle.alma_code.specs.declared.cell.Cell.{Cell}
use Rattle.alma_code.specs.declared.cell.Cell.TheVariants as cell
use Rattle.alma_code.specs.declared.cell.CellPlace.{CellPlace}
use Rattle.alma_code.specs.declared.cell.SlotKind.{SlotKind}
use Rattle.alma_code.specs.declared.cell.SlotKind.TheVariants as slot
use Rattle.alma_base.specs.declared.number.Range.{Range}
use Rattle.alma_code.specs.declared.step.End.{End}
use Rattle.alma_base.specs.declared.fault.RunFault.{RunFault}
use Rattle.alma_base.specs.declared.fault.RunFault.TheVariants as fault
use Rattle.alma_code.specs.Picture.{PlainFrame, no_frame, frames_with_cell, cell_at, last_frame}
use Rattle.alma_code.specs.Carries.{number_at}
use Rattle.alma_code.specs.Machine
use Rattle.alma_base.specs.Choice.{if_true}
use Rattle.alma_code.specs.Plain.{PlainCode, kinds_at}
use Rattle.alma_base.specs.Numbers.{within, is_integer, int_eq}
use Rattle.alma_code.specs.Kinds.{is_number, is_place, is_mark, is_link}
use Rattle.alma_code.specs.Rules.{place_length, link_routine, kind_in, is_free, is_address}
use Rattle.alma_code.specs.Machine.{Going, State, StepResult, quiet_step, ends_run, ends_in_fault, fails_now, top, slot_of}
use Rattle.alma_code.specs.Machine.{kind_of, as_number, as_place, as_mark, number, place, mark, with_cell, with_slot, to_number, to_place}
use Rattle.alma_code.specs.Machine.{to_mark, put_number, put_place, put_mark, integer_result, as_content, content, store}
use Rattle.alma_code.specs.Machine.{with_known_content, as_range, range_check, optional_range_check, equation_of_contents, equation}
use Rattle.alma_code.specs.Fits.{routines_of, IsContent, IsPosition, IsCell, IsPlace, FitsSlot, FitsFrame, FitsFrames, FitsHeld, FitsMode}
use Rattle.alma_code.specs.Fits.{Fits}
use Rattle.alma_code.proofs.Heads.{number_is}
use Rattle.alma_code_laws.proofs.Writes.{written-routines, frames-written}

-- a slot that is a place slot
pub place_is : (o : Option SlotKind) → is_place o ≡ true → o ≡ Some (slot.Place (place_length o))
place_is (Some (slot.Place l)) e = refl
place_is (Some slot.Number) e = absurd (false≢true e)
place_is (Some slot.Mark) e = absurd (false≢true e)
place_is (Some (slot.Link q)) e = absurd (false≢true e)
place_is None e = absurd (false≢true e)

-- a slot that is a mark slot
pub mark_is : (o : Option SlotKind) → is_mark o ≡ true → o ≡ Some slot.Mark
mark_is (Some slot.Mark) e = refl
mark_is (Some slot.Number) e = absurd (false≢true e)
mark_is (Some (slot.Place l)) e = absurd (false≢true e)
mark_is (Some (slot.Link q)) e = absurd (false≢true e)
mark_is None e = absurd (false≢true e)

-- a slot that is a link slot
pub link_is : (o : Option SlotKind) → is_link o ≡ true → o ≡ Some (slot.Link (link_routine o))
link_is (Some (slot.Link q)) e = refl
link_is (Some slot.Number) e = absurd (false≢true e)
link_is (Some (slot.Place l)) e = absurd (false≢true e)
link_is (Some slot.Mark) e = absurd (false≢true e)
link_is None e = absurd (false≢true e)

-- what holds of each side of a choice where its test says so holds of the choice
pub if_true_keeps : {A : Type 0} (P : A → Type 0) (b : Bool) (k z : Unit {0} → A) → (b ≡ true → P (k tt)) → (b ≡ false → P (z tt))
    → P (if_true b k z)
if_true_keeps P true k z h g = h refl
if_true_keeps P false k z h g = g refl

-- the routine of the top frame, among the routines of the frames
pub last-routine : (fs : List PlainFrame) → (last_frame fs).routine ≡ get_or (routines_of fs) (length fs - 1) 0
last-routine fs = sym (get_or-map (λ g. g.routine) fs (length fs - 1) no_frame)

module _ (code : PlainCode) where
  -- the machine goes on in routine r
  pub record Ready (r : ℕ) (s : State) : Type 0 where
    pub frames : FitsFrames code s.now
    pub held : FitsHeld code s.held
    pub routine : (last_frame s.now).routine ≡ r
    pub going : s.mode ≡ Going

  -- the state after a step fits
  abbrev pub Good : StepResult → Type 0
  Good x = Fits code x.state

  -- the machine goes on at an address of the routine
  pub went_good : (r : ℕ) (s : State) → Ready r s → is_address code r s.at ≡ true → Good (quiet_step s)
  went_good r s h at = record {
    frames = h.frames;
    held = h.held;
    mode = subst (λ m. FitsMode code m s) (sym h.going) (subst (λ q. is_address code q s.at ≡ true) (sym h.routine) at);
  }

  -- the machine ends
  pub ended_good : (r : ℕ) (s : State) (e : End) → Ready r s → Good (ends_run e s)
  ended_good r s e h = record { frames = h.frames; held = h.held; mode = tt }

  -- the machine fails
  pub fails_good : (r : ℕ) (s : State) → Ready r s → Good (fails_now s)
  fails_good r s h = record { frames = h.frames; held = h.held; mode = tt }

  -- the machine ends in a fault
  pub fault_good : (r : ℕ) (s : State) (f : RunFault) → Ready r s → Good (ends_in_fault f s)
  fault_good r s f h = record { frames = h.frames; held = h.held; mode = tt }

  -- a slot of the top frame
  pub record HasSlot (s : State) (n : ℕ) (kind : SlotKind) : Type 0 where
    pub cell : Cell
    pub is : slot_of s n ≡ Some cell
    pub kind_is : kind_of s n ≡ Some kind
    pub fits : FitsSlot code (routines_of s.now) (top s) kind cell

  -- there is a top frame
  top_below : (r : ℕ) (s : State) → Ready r s → top s < length s.now
  top_below r s h = omega (arith, h.frames.some)

  -- the top frame fits
  top_frame_fits : (r : ℕ) (s : State) → Ready r s → FitsFrame code (routines_of s.now) (top s) (last_frame s.now)
  top_frame_fits r s h = h.frames.each (top s) (top_below r s h)

  -- the kinds of the slots of the top frame are those of the routine
  top_kinds : (r : ℕ) (s : State) → Ready r s → (last_frame s.now).kinds ≡ kinds_at code r
  top_kinds r s h = (top_frame_fits r s h).kinds ∙ ap (kinds_at code) h.routine

  -- a slot of the routine is one of the top frame
  pub has_slot : (r : ℕ) (s : State) (n : ℕ) (kind : SlotKind) → Ready r s → kind_in code r n ≡ Some kind → HasSlot s n kind
  has_slot r s n kind h e =
      let ff = top_frame_fits r s h in
      let ks : kind_of s n ≡ Some kind = ap (λ k. slice_get k n) (top_kinds r s h) ∙ e in
      let lt : n < length (last_frame s.now).kinds = slice_get_within (last_frame s.now).kinds n kind ks in
      let got : get_or (last_frame s.now).kinds n slot.Mark ≡ kind = get_or_from_slice_get (last_frame s.now).kinds n kind slot.Mark ks in
      record {
        cell = get_or (last_frame s.now).cells n cell.Unset;
        is = slice_get-get_or (last_frame s.now).cells n cell.Unset (omega (arith, ff.full));
        kind_is = ks;
        fits = subst (λ k. FitsSlot code (routines_of s.now) (top s) k (get_or (last_frame s.now).cells n cell.Unset)) got (ff.cells n lt);
      }

  -- a content is read as a number
  as_number_good : (r : ℕ) (s : State) (c : Cell) (k : ℤ → StepResult) → Ready r s → IsContent c → ((v : ℤ) → Good (k v))
      → Good (as_number (Some c) s k)
  as_number_good r s (cell.Int v) k h fits good = good v
  as_number_good r s cell.Unknown k h fits good = record { frames = h.frames; held = h.held; mode = tt }
  as_number_good r s cell.Unset k h fits good = absurd fits
  as_number_good r s (cell.Place p) k h fits good = absurd fits
  as_number_good r s (cell.Mark m) k h fits good = absurd fits

  -- a number slot is read
  pub number_good : (r : ℕ) (s : State) (n : ℕ) (k : ℤ → StepResult) → Ready r s → is_number (kind_in code r n) ≡ true
      → ((v : ℤ) → Good (k v))
      → Good (number s n k)
  number_good r s n k h e good =
      let has = has_slot r s n slot.Number h (number_is (kind_in code r n) e) in
      subst (λ o. Good (as_number o s k)) (sym has.is) (as_number_good r s has.cell k h has.fits good)

  -- what fits a place slot is read as a place
  as_place_good : (r : ℕ) (s : State) (l : ℕ) (c : Cell) (k : CellPlace → StepResult) → Ready r s
      → FitsSlot code (routines_of s.now) (top s) (slot.Place l) c →
      ((p : CellPlace) → p.len ≡ l → IsPlace code (routines_of s.now) (top s) p → Good (k p)) → Good (as_place (Some c) s k)
  as_place_good r s l (cell.Place p) k h fits good = good p fits.0 fits.1
  as_place_good r s l cell.Unset k h fits good = record { frames = h.frames; held = h.held; mode = tt }
  as_place_good r s l cell.Unknown k h fits good = absurd fits
  as_place_good r s l (cell.Int v) k h fits good = absurd fits
  as_place_good r s l (cell.Mark m) k h fits good = absurd fits

  -- a place slot is read
  pub place_good : (r : ℕ) (s : State) (n l : ℕ) (k : CellPlace → StepResult) → Ready r s → kind_in code r n ≡ Some (slot.Place l) →
      ((p : CellPlace) → p.len ≡ l → IsPlace code (routines_of s.now) (top s) p → Good (k p)) → Good (place s n k)
  place_good r s n l k h e good =
      let has = has_slot r s n (slot.Place l) h e in
      subst (λ o. Good (as_place o s k)) (sym has.is) (as_place_good r s l has.cell k h has.fits good)

  -- what fits a mark slot is read as a mark
  as_mark_good : (r : ℕ) (s : State) (c : Cell) (k : ℕ → StepResult) → Ready r s → FitsSlot code (routines_of s.now) (top s) slot.Mark c
      → ((v : ℕ) → Good (k v)) → Good (as_mark (Some c) s k)
  as_mark_good r s (cell.Mark m) k h fits good = good m
  as_mark_good r s cell.Unset k h fits good = record { frames = h.frames; held = h.held; mode = tt }
  as_mark_good r s cell.Unknown k h fits good = absurd fits
  as_mark_good r s (cell.Int v) k h fits good = absurd fits
  as_mark_good r s (cell.Place p) k h fits good = absurd fits

  -- a mark slot is read
  pub mark_good : (r : ℕ) (s : State) (n : ℕ) (k : ℕ → StepResult) → Ready r s → is_mark (kind_in code r n) ≡ true → ((v : ℕ) → Good (k v))
      → Good (mark s n k)
  mark_good r s n k h e good =
      let has = has_slot r s n slot.Mark h (mark_is (kind_in code r n) e) in
      subst (λ o. Good (as_mark o s k)) (sym has.is) (as_mark_good r s has.cell k h has.fits good)

  -- a write at any live slot
  pub cell_ready : (r : ℕ) (s : State) (f i : ℕ) (c : Cell) → Ready r s → f < length s.now → i < length (get_or s.now f no_frame).kinds →
      FitsSlot code (routines_of s.now) f (get_or (get_or s.now f no_frame).kinds i slot.Mark) c → (f + i ≡ 0 → IsPosition c)
      → Ready r (with_cell s f i c)
  cell_ready r s f i c h lf li fits position =
      let rs = written-routines s.now f i c in
      let len : length (frames_with_cell s.now f i c) - 1 ≡ length s.now - 1 =
      omega (arith, length-set s.now f (record (get_or s.now f no_frame) { cells = set (get_or s.now f no_frame).cells i c })) in
      record {
        frames = frames-written code s.now f i c h.frames lf li fits position;
        held = h.held;
        routine =
            last-routine (frames_with_cell s.now f i c) ∙ ap (λ q. get_or q (length (frames_with_cell s.now f i c) - 1) 0) rs
            ∙ ap (λ q. get_or (routines_of s.now) q 0) len
            ∙ sym (last-routine s.now) ∙ h.routine;
        going = h.going;
      }

  -- a write at a slot of the top frame
  pub slot_ready : (r : ℕ) (s : State) (n : ℕ) (kind : SlotKind) (c : Cell) → Ready r s → kind_in code r n ≡ Some kind
      → is_free code r n ≡ true →
      FitsSlot code (routines_of s.now) (top s) kind c → Ready r (with_slot s n c)
  slot_ready r s n kind c h e free fits =
      let ff = top_frame_fits r s h in
      let has = has_slot r s n kind h e in
      let lt : n < length (last_frame s.now).kinds = slice_get_within (last_frame s.now).kinds n kind has.kind_is in
      let got : get_or (last_frame s.now).kinds n slot.Mark ≡ kind =
      get_or_from_slice_get (last_frame s.now).kinds n kind slot.Mark has.kind_is in
      let above : 0 < r + n = ltb-true 0 (r + n) free in
      cell_ready r s (top s) n c h (top_below r s h) lt
      (subst (λ k. FitsSlot code (routines_of s.now) (top s) k c) (sym got) fits)
      (λ z.
      let t : top s ≡ 0 = omega arith in
      let r0 : r ≡ 0 = sym h.routine ∙ ff.main t in
      absurd (omega arith))

  -- a number slot is written
  pub put_number_good : (r : ℕ) (s : State) (n : ℕ) (v : ℤ) → Ready r s → is_number (kind_in code r n) ≡ true → is_free code r n ≡ true
      → is_address code r s.at ≡ true → Good (put_number s n v)
  put_number_good r s n v h e free at =
      let k = number_is (kind_in code r n) e in
      let has = has_slot r s n slot.Number h k in
      subst (λ o. Good (to_number o s (λ _. quiet_step (with_slot s n (cell.Int v))))) (sym has.kind_is)
      (went_good r (with_slot s n (cell.Int v)) (slot_ready r s n slot.Number (cell.Int v) h k free tt) at)

  -- a mark slot is written
  pub put_mark_good : (r : ℕ) (s : State) (n m : ℕ) → Ready r s → is_mark (kind_in code r n) ≡ true → is_free code r n ≡ true
      → is_address code r s.at ≡ true → Good (put_mark s n m)
  put_mark_good r s n m h e free at =
      let k = mark_is (kind_in code r n) e in
      let has = has_slot r s n slot.Mark h k in
      subst (λ o. Good (to_mark o s (λ _. quiet_step (with_slot s n (cell.Mark m))))) (sym has.kind_is)
      (went_good r (with_slot s n (cell.Mark m)) (slot_ready r s n slot.Mark (cell.Mark m) h k free tt) at)

  -- a place slot is written
  pub put_place_good : (r : ℕ) (s : State) (n l frame : ℕ) (first : ℕ → ℕ) → Ready r s → kind_in code r n ≡ Some (slot.Place l)
      → is_free code r n ≡ true →
      IsPlace code (routines_of s.now) (top s) (record { frame = frame; slot = first l; len = l }) → is_address code r s.at ≡ true
      → Good (put_place s n frame first)
  put_place_good r s n l frame first h e free fits at =
      let has = has_slot r s n (slot.Place l) h e in
      let p : CellPlace = record { frame = frame; slot = first l; len = l } in
      subst (λ o. Good (to_place o s (λ m. quiet_step (with_slot s n (cell.Place (record { frame = frame; slot = first m; len = m }))))))
      (sym has.kind_is)
      (went_good r (with_slot s n (cell.Place p)) (slot_ready r s n (slot.Place l) (cell.Place p) h e free (refl, fits)) at)

  -- a result that may be outside INTEGER
  pub fitted_good : (r : ℕ) (s : State) (v : ℤ) (k : ℤ → StepResult) → Ready r s → Good (k v) → Good (integer_result s v k)
  fitted_good r s v k h good = if_true_keeps Good (is_integer v) (λ _. k v) (λ _. ends_in_fault fault.Overflow s) (λ _. good)
      (λ _. record { frames = h.frames; held = h.held; mode = tt })

  -- ---- cells at places

  -- the kind of a cell at a place
  pub number_slot : (r : ℕ) (s : State) (f i : ℕ) → Ready r s → f < length s.now → IsCell code (routines_of s.now) f i
      → slice_get (get_or s.now f no_frame).kinds i ≡ Some slot.Number
  number_slot r s f i h lf c =
      let ff = h.frames.each f lf in
      let same : get_or (routines_of s.now) f 0 ≡ (get_or s.now f no_frame).routine = get_or-map (λ g. g.routine) s.now f no_frame in
      ap (λ k. slice_get k i) (ff.kinds ∙ ap (kinds_at code) (sym same)) ∙ c.number

  -- the cell at a place is a number slot inside its frame
  pub number_there : (r : ℕ) (s : State) (f i : ℕ) → Ready r s → f < length s.now → IsCell code (routines_of s.now) f i →
      (i < length (get_or s.now f no_frame).kinds) × (get_or (get_or s.now f no_frame).kinds i slot.Mark ≡ slot.Number)
  number_there r s f i h lf c =
      let ks = number_slot r s f i h lf c in (
        slice_get_within (get_or s.now f no_frame).kinds i slot.Number ks,
        get_or_from_slice_get (get_or s.now f no_frame).kinds i slot.Number slot.Mark ks,
      )

  -- the cell at a place is a live number slot
  pub number_at_is : (r : ℕ) (s : State) (f i : ℕ) → Ready r s → f < length s.now → IsCell code (routines_of s.now) f i
      → number_at s.now f i ≡ true
  number_at_is r s f i h lf c = ap is_number (number_slot r s f i h lf c)

  -- whatever stands for a cell that is not there
  pub content_any : (r : ℕ) (s : State) (f i : ℕ) (d : Cell) → Ready r s → f < length s.now → IsCell code (routines_of s.now) f i
      → IsContent (cell_at s.now f i d)
  content_any r s f i d h lf c =
      let there = number_there r s f i h lf c in
      let cs = (get_or s.now f no_frame).cells in
      let lt : i < length cs = omega (arith, (h.frames.each f lf).full, there.0) in
      subst (λ x. IsContent x) (get_or_from_slice_get cs i (get_or cs i d) cell.Unset (slice_get-get_or cs i d lt))
      (subst (λ k. FitsSlot code (routines_of s.now) f k (get_or cs i cell.Unset)) there.1 ((h.frames.each f lf).cells i there.0))

  -- the content of a cell at a place
  pub content_is : (r : ℕ) (s : State) (f i : ℕ) → Ready r s → f < length s.now → IsCell code (routines_of s.now) f i
      → IsContent (cell_at s.now f i cell.Unset)
  content_is r s f i h lf c =
      let there = number_there r s f i h lf c in
      subst (λ k. FitsSlot code (routines_of s.now) f k (cell_at s.now f i cell.Unset)) there.1 ((h.frames.each f lf).cells i there.0)

  -- a content is looked at
  as_content_good : (c : Cell) (s : State) (k : Option ℤ → StepResult) → IsContent c → ((o : Option ℤ) → Good (k o))
      → Good (as_content true c s k)
  as_content_good (cell.Int v) s k fits good = good (Some v)
  as_content_good cell.Unknown s k fits good = good None
  as_content_good cell.Unset s k fits good = absurd fits
  as_content_good (cell.Place p) s k fits good = absurd fits
  as_content_good (cell.Mark m) s k fits good = absurd fits

  -- the cell at a place is looked at
  pub content_good : (r : ℕ) (s : State) (f i : ℕ) (k : Option ℤ → StepResult) → Ready r s → f < length s.now
      → IsCell code (routines_of s.now) f i →
      ((o : Option ℤ) → Good (k o)) → Good (content s f i k)
  content_good r s f i k h lf c good =
      subst (λ b. Good (as_content b (cell_at s.now f i cell.Unset) s k)) (sym (number_at_is r s f i h lf c))
      (as_content_good (cell_at s.now f i cell.Unset) s k (content_is r s f i h lf c) good)

  -- the cell at a place is written
  pub store_good : (r : ℕ) (s : State) (f i : ℕ) (v : ℤ) (k : State → StepResult) → Ready r s → f < length s.now
      → IsCell code (routines_of s.now) f i →
      (Ready r (with_cell s f i (cell.Int v)) → Good (k (with_cell s f i (cell.Int v)))) → Good (store s f i v k)
  store_good r s f i v k h lf c good =
      let there = number_there r s f i h lf c in
      let free : 0 < f + i = c.free in
      subst (λ b. Good (if_true b (λ _. k (with_cell s f i (cell.Int v))) (λ _. quiet_step (record s { mode = Machine.Stuck }))))
      (sym (number_at_is r s f i h lf c))
      (good (cell_ready r s f i (cell.Int v) h lf there.0 (subst (λ q. FitsSlot code (routines_of s.now) f q (cell.Int v)) (sym there.1) tt)
      (λ z. absurd (omega arith))))

  -- a content that may be unknown
  pub known_good : (r : ℕ) (s : State) (o : Option ℤ) (k : ℤ → StepResult) → Ready r s → ((v : ℤ) → Good (k v))
      → Good (with_known_content s o k)
  known_good r s (Some v) k h good = good v
  known_good r s None k h good = record { frames = h.frames; held = h.held; mode = tt }

  -- a number that may be out of range
  pub ranged_good : (r : ℕ) (s : State) (t : Range) (f : RunFault) (v : ℤ) (k : Unit {0} → StepResult) → Ready r s
      → (within t v ≡ true → Good (k tt)) → Good (range_check t f s v k)
  ranged_good r s t f v k h good = if_true_keeps Good (within t v) k (λ _. ends_in_fault f s) good
      (λ _. record { frames = h.frames; held = h.held; mode = tt })

  -- a number that may be out of range, where there is a range
  pub ranged_if_good : (r : ℕ) (s : State) (o : Option Range) (v : ℤ) (k : Unit {0} → StepResult) → Ready r s → Good (k tt)
      → Good (optional_range_check o s v k)
  ranged_if_good r s (Some t) v k h good = ranged_good r s t fault.Range v k h (λ _. good)
  ranged_if_good r s None v k h good = good

  -- two contents are equated
  equated_good : (r : ℕ) (s : State) (f i : ℕ) (a : Option Range) (u : Option ℤ) (g j : ℕ) (b : Option Range) (v : Option ℤ)
      (k : State → StepResult) → Ready r s →
      f < length s.now → IsCell code (routines_of s.now) f i → g < length s.now → IsCell code (routines_of s.now) g j →
      ((t : State) → Ready r t → routines_of t.now ≡ routines_of s.now → t.at ≡ s.at → Good (k t))
      → Good (equation_of_contents s f i a u g j b v k)
  equated_good r s f i a None g j b None k h lf ci lg cj good = record { frames = h.frames; held = h.held; mode = tt }
  equated_good r s f i a None g j b (Some v) k h lf ci lg cj good =
      ranged_if_good r s a v (λ _. store s f i v k) h
      (store_good r s f i v k h lf ci (λ h'. good (with_cell s f i (cell.Int v)) h' (written-routines s.now f i (cell.Int v)) refl))
  equated_good r s f i a (Some u) g j b None k h lf ci lg cj good =
      ranged_if_good r s b u (λ _. store s g j u k) h
      (store_good r s g j u k h lg cj (λ h'. good (with_cell s g j (cell.Int u)) h' (written-routines s.now g j (cell.Int u)) refl))
  equated_good r s f i a (Some u) g j b (Some v) k h lf ci lg cj good =
      if_true_keeps Good (int_eq u v) (λ _. k s) (λ _. fails_now s) (λ _. good s h refl refl) (λ _. fails_good r s h)

  -- two cells are equated
  pub equation_good : (r : ℕ) (s : State) (f i : ℕ) (a : Option Range) (g j : ℕ) (b : Option Range) (k : State → StepResult) → Ready r s →
      f < length s.now → IsCell code (routines_of s.now) f i → g < length s.now → IsCell code (routines_of s.now) g j →
      ((t : State) → Ready r t → routines_of t.now ≡ routines_of s.now → t.at ≡ s.at → Good (k t)) → Good (equation s f i a g j b k)
  equation_good r s f i a g j b k h lf ci lg cj good =
      content_good r s f i (λ u. content s g j (λ v. equation_of_contents s f i a u g j b v k)) h lf ci
      (λ u. content_good r s g j (λ v. equation_of_contents s f i a u g j b v k) h lg cj
      (λ v. equated_good r s f i a u g j b v k h lf ci lg cj good))

  -- a range that is there
  pub as_range_good : (s : State) (n : ℕ) (k : Range → StepResult) → nat_lt n (length code.ranges) ≡ true
      → ((t : Range) → slice_get code.ranges n ≡ Some t → Good (k t)) →
      Good (as_range (slice_get code.ranges n) s k)
  as_range_good s n k lt good =
      let d : Range = record { low = pos 0; high = pos 0 } in
      let e : slice_get code.ranges n ≡ Some (get_or code.ranges n d) =
      slice_get-get_or code.ranges n d (ltb-true n (length code.ranges) lt) in
      subst (λ o. Good (as_range o s k)) (sym e) (good (get_or code.ranges n d) e)
