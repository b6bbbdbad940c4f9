-- Links are read, followed and written.
use Rattle.std.proofs.Common.{◌≡◌, ℕ, zero, suc, ◌+◌, ◌-◌, ◌<◌, ◌≤◌, ◌⊎◌, inl, inr, List, [], ◌∷◌, ◌++◌, length, get_or, replicate, refl}
use Rattle.std.proofs.Common.{sym, ap, ◌∙◌, subst, arith, Some}
use Rattle.std.specs.Prelude.{slice_get, true, ◌&&◌, nat_eq, nat_lt, nat_le}
use Rattle.std.specs.List.{list_all}
use Rattle.std.proofs.lemmas.Bool.{cases_eq, and_parts, ltb-true}
use Rattle.std.proofs.lemmas.Option.{slice_get_within, get_or_from_slice_get, slice_get-get_or}
use Rattle.std.proofs.Math.ListN.{get_or-map}
use Rattle.alma_code.specs.declared.cell.Cell.{Cell}
use Rattle.alma_code.specs.declared.cell.Cell.TheVariants as cell
use Rattle.alma_code.specs.declared.cell.CellPlace.{CellPlace}
use Rattle.alma_code.specs.declared.cell.SlotKind.{SlotKind}
use Rattle.alma_code.specs.declared.cell.SlotKind.TheVariants as slot
use Rattle.alma_code.specs.declared.head.Run.{Run}
use Rattle.alma_code.specs.declared.instr.Word.TheVariants as W
use Rattle.alma_code.specs.Picture.{no_frame}
use Rattle.alma_code.specs.Plain.{PlainCode, head_at, kinds_at}
use Rattle.alma_code.specs.Layout.{kinds_of}
use Rattle.alma_code.specs.Kinds.{is_link, numbers_from}
use Rattle.alma_code.specs.Rules.{kind_in, link_in, is_free, is_address, names_slot, names_routine, last_end, rule_2}
use Rattle.alma_code.specs.Machine.{State, StepResult, quiet_step, top, slot_in, as_place, link, link_to, to_link, put_link, with_slot}
use Rattle.alma_code.specs.Fits.{routines_of, IsCell, IsPlace, IsLink, FitsSlot}
use Rattle.alma_code_laws.proofs.Ready.{Ready, Good, link_is, went_good, slot_ready, has_slot}
use Rattle.alma_code_laws.proofs.Acts.{first_is, head_slots, numbers_from_at}

-- what stands in equal kinds, or behind them
in_replicate : (m n : ℕ) (x k : SlotKind) (ys : List SlotKind) → slice_get (replicate m x ++ ys) n ≡ Some k → (x ≡ k)
    ⊎ ((j : ℕ) × (slice_get ys j ≡ Some k))
in_replicate zero n x k ys e = inr (n, e)
in_replicate (suc m) zero x k ys e = inl (cc)
in_replicate (suc m) (suc n) x k ys e = in_replicate m n x k ys e

module _ (code : PlainCode) where
  -- where each run names a routine, so does each slot
  kinds_named : (low : ℕ) (runs : List Run) (n : ℕ) (k : SlotKind) → list_all (λ run. names_routine code run.kind) runs ≡ true
      → slice_get (kinds_of low runs) n ≡ Some k → names_routine code k ≡ true
  kinds_named low [] n k all e = absurd (cc)
  kinds_named low (run ∷ runs) n k all e =
      let x = and_parts (names_routine code run.kind) (list_all (λ run. names_routine code run.kind) runs) all in
      elim (in_replicate (run.end - low) n run.kind k (kinds_of run.end runs) e) [
        | inl same ↦ subst (λ q. names_routine code q ≡ true) same x.0
        | inr (j, there) ↦ kinds_named run.end runs j k x.1 there
      ]

  -- the links of a routine lead to frames of a routine from 1 on
  pub link_above : (r n q : ℕ) → rule_2 code r ≡ true → kind_in code r n ≡ Some (slot.Link q) → 0 < q
  link_above r n q rule e =
      let h = head_at code r in
      let all = list_all (λ run. names_routine code run.kind) h.runs in
      let two = and_parts (nat_eq (last_end 0 h.runs) h.slots && (nat_le h.slots 8388608 && all))
      (nat_le h.declared h.slots && nat_le h.declared 1048576) rule in
      let one = and_parts (nat_eq (last_end 0 h.runs) h.slots) (nat_le h.slots 8388608 && all) two.0 in
      let named = kinds_named 0 h.runs n (slot.Link q) (and_parts (nat_le h.slots 8388608) all one.1).1 e in
      ltb-true 0 q (and_parts (nat_lt 0 q) (nat_lt q (length code.routines)) named).0

  -- a word that names a link slot
  pub link_word : (r n : ℕ) → names_slot code r (W.Link n) ≡ true → (is_free code r n ≡ true)
      × (kind_in code r n ≡ Some (slot.Link (link_in code r n)))
  link_word r n e =
      let x = and_parts (nat_lt n (head_slots code r) && is_free code r n) (is_link (kind_in code r n)) e in
      ((and_parts (nat_lt n (head_slots code r)) (is_free code r n) x.0).1, link_is (kind_in code r n) x.1)

  -- a frame of a place or a link of the top frame is live
  below_top : (r : ℕ) (s : State) (f : ℕ) → Ready code r s → f ≤ top s → f < length s.now
  below_top r s f h le = omega (arith, h.frames.some)

  -- a slot of a frame
  pub record HasCell (s : State) (f n : ℕ) (kind : SlotKind) : Type 0 where
    pub cell : Cell
    pub is : slot_in s f n ≡ Some cell
    pub fits : FitsSlot code (routines_of s.now) f kind cell

  -- a slot of the routine of a live frame is one of the frame
  has_cell : (r : ℕ) (s : State) (f q n : ℕ) (kind : SlotKind) → Ready code r s → f ≤ top s → get_or (routines_of s.now) f 0 ≡ q
      → kind_in code q n ≡ Some kind → HasCell s f n kind
  has_cell r s f q n kind h le is e =
      let fr = get_or s.now f no_frame in
      let ff = h.frames.each f (below_top r s f h le) in
      let routine : fr.routine ≡ q = sym (get_or-map (λ g. g.routine) s.now f no_frame) ∙ is in
      let ks : slice_get fr.kinds n ≡ Some kind = ap (λ k. slice_get k n) (ff.kinds ∙ ap (kinds_at code) routine) ∙ e in
      let lt : n < length fr.kinds = slice_get_within fr.kinds n kind ks in
      let got : get_or fr.kinds n slot.Mark ≡ kind = get_or_from_slice_get fr.kinds n kind slot.Mark ks in
      record {
        cell = get_or fr.cells n cell.Unset;
        is = slice_get-get_or fr.cells n cell.Unset (omega (arith, ff.full));
        fits = subst (λ k. FitsSlot code (routines_of s.now) f k (get_or fr.cells n cell.Unset)) got (ff.cells n lt);
      }

  -- what fits a link slot of a frame is read as a link
  as_link_good : (r : ℕ) (s : State) (f q : ℕ) (c : Cell) (k : CellPlace → StepResult) → Ready code r s
      → FitsSlot code (routines_of s.now) f (slot.Link q) c →
      ((p : CellPlace) → IsLink code (routines_of s.now) f q p → Good code (k p)) → Good code (as_place (Some c) s k)
  as_link_good r s f q (cell.Place p) k h fits good = good p fits
  as_link_good r s f q cell.Unset k h fits good = record { frames = h.frames; held = h.held; mode = tt }
  as_link_good r s f q cell.Unknown k h fits good = absurd fits
  as_link_good r s f q (cell.Int v) k h fits good = absurd fits
  as_link_good r s f q (cell.Mark m) k h fits good = absurd fits

  -- what fits a place slot of a frame is read as a place
  as_held_good : (r : ℕ) (s : State) (f l : ℕ) (c : Cell) (k : CellPlace → StepResult) → Ready code r s
      → FitsSlot code (routines_of s.now) f (slot.Place l) c →
      ((p : CellPlace) → p.len ≡ l → IsPlace code (routines_of s.now) f p → Good code (k p)) → Good code (as_place (Some c) s k)
  as_held_good r s f l (cell.Place p) k h fits good = good p fits.0 fits.1
  as_held_good r s f l cell.Unset k h fits good = record { frames = h.frames; held = h.held; mode = tt }
  as_held_good r s f l cell.Unknown k h fits good = absurd fits
  as_held_good r s f l (cell.Int v) k h fits good = absurd fits
  as_held_good r s f l (cell.Mark m) k h fits good = absurd fits

  -- a link slot is read
  pub link_good : (r : ℕ) (s : State) (n q : ℕ) (k : ℕ → StepResult) → Ready code r s → kind_in code r n ≡ Some (slot.Link q) →
      ((f : ℕ) → f ≤ top s → get_or (routines_of s.now) f 0 ≡ q → Good code (k f)) → Good code (link s n k)
  link_good r s n q k h e good =
      let has = has_slot code r s n (slot.Link q) h e in
      subst (λ o. Good code (as_place o s (λ p. k p.frame))) (sym has.is)
      (as_link_good r s (top s) q has.cell (λ p. k p.frame) h has.fits (λ p fits. good p.frame fits.frame fits.routine))

  -- a link slot of a frame is read
  pub link_in_good : (r : ℕ) (s : State) (f n q q2 : ℕ) (k : CellPlace → StepResult) → Ready code r s → f ≤ top s
      → get_or (routines_of s.now) f 0 ≡ q → kind_in code q n ≡ Some (slot.Link q2) →
      ((p : CellPlace) → p.frame ≤ top s → get_or (routines_of s.now) p.frame 0 ≡ q2 → Good code (k p))
      → Good code (as_place (slot_in s f n) s k)
  link_in_good r s f n q q2 k h le is e good =
      let has = has_cell r s f q n (slot.Link q2) h le is e in
      subst (λ o. Good code (as_place o s k)) (sym has.is)
      (as_link_good r s f q2 has.cell k h has.fits (λ p fits. good p (omega (arith, le, fits.frame)) fits.routine))

  -- a place slot of a frame is read
  pub place_in_good : (r : ℕ) (s : State) (f n q l : ℕ) (k : CellPlace → StepResult) → Ready code r s → f ≤ top s
      → get_or (routines_of s.now) f 0 ≡ q → kind_in code q n ≡ Some (slot.Place l) →
      ((p : CellPlace) → p.len ≡ l → IsPlace code (routines_of s.now) (top s) p → Good code (k p))
      → Good code (as_place (slot_in s f n) s k)
  place_in_good r s f n q l k h le is e good =
      let has = has_cell r s f q n (slot.Place l) h le is e in
      subst (λ o. Good code (as_place o s k)) (sym has.is)
      (as_held_good r s f l has.cell k h has.fits
      (λ p len fits. good p len (record { frame = omega (arith, le, fits.frame); cells = fits.cells })))

  -- a link slot is written
  pub put_link_good : (r : ℕ) (s : State) (n q f : ℕ) → Ready code r s → kind_in code r n ≡ Some (slot.Link q) → is_free code r n ≡ true
      → f ≤ top s → get_or (routines_of s.now) f 0 ≡ q →
      is_address code r s.at ≡ true → Good code (put_link s n f)
  put_link_good r s n q f h e free le is at =
      let has = has_slot code r s n (slot.Link q) h e in
      let fits : IsLink code (routines_of s.now) (top s) q (link_to f) = record { frame = le; routine = is; slot = refl; len = refl } in
      subst (λ o. Good code (to_link o s (λ _. quiet_step (with_slot s n (cell.Place (link_to f)))))) (sym has.kind_is)
      (went_good code r (with_slot s n (cell.Place (link_to f)))
      (slot_ready code r s n (slot.Link q) (cell.Place (link_to f)) h e free fits) at)

  -- number slots of a frame to which a link leads
  pub outer_cells : (r : ℕ) (s : State) (f q l i k : ℕ) → Ready code r s → get_or (routines_of s.now) f 0 ≡ q → 0 < q
      → numbers_from l (kinds_at code q) i ≡ true → k < l → IsCell code (routines_of s.now) f (i + k)
  outer_cells r s f q l i k h is above e lt = record {
    number = ap (λ x. slice_get (kinds_at code x) (i + k)) is ∙ numbers_from_at code l (kinds_at code q) i k e lt;
    free = elim (cases_eq f 0) [
      | inl z ↦ let none : q ≡ 0 = sym is ∙ ap (λ g. get_or (routines_of s.now) g 0) z ∙ first_is code r s h in
          absurd (omega (arith, none, above))
      | inr ne ↦ omega (arith, ne)
    ];
  }
