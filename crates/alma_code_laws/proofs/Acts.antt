-- What an instruction of a sound code does is never stuck, and keeps what is true of the state.
use Rattle.std.proofs.Common.{◌≡◌, ℕ, zero, suc, ◌+◌, ◌-◌, ◌<◌, ◌≤◌, inl, inr, List, [], ◌∷◌, ◌++◌, length, get_or, set, map, take, refl}
use Rattle.std.proofs.Common.{sym, ap, ◌∙◌, subst, arith, Option, Some, None, get_or-set_same, get_or-set_other, length-set}
use Rattle.std.specs.Prelude.{if◌then◌else◌, ℤ, pos, negsuc, slice_get, Bool, true, false, not, ◌&&◌, ◌||◌, nat_lt, nat_le, nat_eq}
use Rattle.alma_base.specs.Numbers.{int_eq}
use Rattle.std.specs.List.{list_all}
use Rattle.std.proofs.lemmas.Bool.{cases_eq, cases_lt, and_parts, and_from, false≢true, lt-ltb, le-leb, ltb-true, eqb-true, not-true}
use Rattle.std.proofs.lemmas.Option.{slice_get_past, slice_get_within, get_or_from_slice_get, slice_get-get_or}
use Rattle.alma_code.specs.declared.cell.Cell.TheVariants as cell
use Rattle.alma_code.specs.declared.cell.CellPlace.{CellPlace}
use Rattle.alma_code.specs.declared.cell.SlotKind.{SlotKind}
use Rattle.alma_code.specs.declared.cell.SlotKind.TheVariants as slot
use Rattle.std.proofs.Math.ListN.{get_or-map}
use Rattle.alma_code.specs.declared.cell.ChoiceKind.{ChoiceKind}
use Rattle.alma_code.specs.declared.cell.ChoiceKind.TheVariants as choice
use Rattle.alma_code.specs.declared.cell.Cell.{Cell}
use Rattle.alma_code.specs.Picture.{PlainFrame, PlainEntry, no_frame, no_entry, cell_at, frames_with_cell, last_frame, top_of}
use Rattle.alma_base.specs.Carry.{Change, Carry, is_before, is_same_place, with_change, with_changes}
use Rattle.alma_base.specs.declared.number.ReadInt.{ReadInt}
use Rattle.alma_base.specs.declared.number.ReadInt.TheVariants.{Number, NoNumber, TooLarge}
use Rattle.alma_code.specs.Picture.{entry_at}
use Rattle.alma_code.specs.Carries.{number_at, frames_with_change, frames_with_carry, same_cell, differs, diff_at, slot_diffs, frame_diffs}
use Rattle.alma_code.specs.Carries.{diffs, with_carry, held_after_keep}
use Rattle.std.proofs.lemmas.List.{take-map, get_or_past, length-map, length-take-le, get_or-take, length-append}
use Rattle.std.proofs.Math.Seq.{get_or-append_seam}
use Rattle.std.proofs.Math.ListN.{get_or-append}
use Rattle.alma_code_laws.proofs.Writes.{written-routines}
use Rattle.alma_base.specs.declared.number.Range.{Range}
use Rattle.alma_code.specs.declared.instr.Instr.{Instr}
use Rattle.alma_code.specs.declared.instr.Instr.TheVariants as I
use Rattle.alma_code.specs.declared.instr.Word.{Word}
use Rattle.alma_code.specs.declared.instr.Word.TheVariants as W
use Rattle.alma_base.specs.declared.fault.RunFault.TheVariants as fault
use Rattle.alma_code.specs.Plain.{PlainCode, head_at, kinds_at, start_at, end_at}
use Rattle.alma_code.specs.Words.{words, four}
use Rattle.alma_code.specs.Kinds.{is_number, is_place, is_mark, numbers_from}
use Rattle.alma_code.specs.Rules.{kind_in, length_in, is_free, is_address, names_slot, names_entry, names_address, rule_4, rule_5, rule_6}
use Rattle.alma_base.proofs.FirstFault.{unless_none}
use Rattle.alma_code.specs.Rules.{rule_7, rule_8, rule_9, rule_10, rule_11, rule_12, instr_fault, IsSound, is_main, is_global}
use Rattle.alma_code.specs.Rules.{fit_arguments, holds_first, holds_result, can_call, cells_in}
use Rattle.alma_base.specs.Choice.{if_true}
use Rattle.alma_code.specs.Picture.{kind_at}
use Rattle.alma_code.specs.Machine.{State, StepResult, quiet_step, goes_to, fails_now, top, binds_content, number, place, put_number}
use Rattle.alma_code.specs.Machine.{put_place, store, with_cell, with_slot, gets_stuck, state_after_push, cut_to, equations, copies_cells}
use Rattle.alma_code.specs.Machine.{to_number, state_after_leave, answers_return, result_to, as_position, position, take_input, takes_read}
use Rattle.alma_code.specs.Machine.{byte_or_failure, is_kind, is_forall_at, state_with_carry, overlay, finish, keep}
use Rattle.alma_code.specs.Fits.{routines_of, IsPosition, IsReturn, FitsFrame, FitsCarried, IsContent, IsCell, IsPlace, FitsSlot, FitsEntry}
use Rattle.alma_code.specs.Fits.{FitsHeld, AllFit}
use Rattle.alma_code.proofs.Heads.{number_is}
use Rattle.alma_code_laws.proofs.Ready.{Ready, last-routine, Good, place_is, if_true_keeps, went_good, fails_good, fault_good, number_good}
use Rattle.alma_code_laws.proofs.Ready.{place_good, put_number_good, put_place_good, store_good, ranged_good, equation_good, cell_ready}
use Rattle.alma_code_laws.proofs.Ready.{slot_ready, has_slot, number_there, number_at_is, content_any}

-- a test of which the other half is false
pub or_false : (b : Bool) → (b || false) ≡ true → b ≡ true
or_false true e = refl
or_false false e = e

-- a test of all four words holds of each
pub all_four : (p : Word → Bool) (a b c d : Word) → list_all p (four a b c d) ≡ true → (p a ≡ true) × (p b ≡ true) × (p c ≡ true)
    × (p d ≡ true)
all_four p a b c d e =
    let x = and_parts (p a) (p b && (p c && (p d && true))) e in
    let y = and_parts (p b) (p c && (p d && true)) x.1 in
    let z = and_parts (p c) (p d && true) y.1 in
    (x.0, y.0, z.0, (and_parts (p d) true z.1).0)

module _ (code : PlainCode) where
  -- an instruction keeps each of its rules
  pub record Obeys (r at : ℕ) (i : Instr) : Type 0 where
    pub r4 : rule_4 code r i ≡ true
    pub r5 : rule_5 code r i ≡ true
    pub r6 : rule_6 code r i ≡ true
    pub r7 : rule_7 code r i ≡ true
    pub r8 : rule_8 code i ≡ true
    pub r9 : rule_9 code r i ≡ true
    pub r10 : rule_10 code r at i ≡ true
    pub r11 : rule_11 code r at i ≡ true
    pub r12 : rule_12 code r i ≡ true

  -- an instruction without a fault keeps each of its rules
  pub obeys : (r at : ℕ) (i : Instr) → instr_fault code r at i ≡ None → Obeys r at i
  unfolding instr_fault
  obeys r at i e =
      let a = unless_none (rule_4 code r i) _ _ e in
      let b = unless_none (rule_5 code r i) _ _ a.1 in
      let c = unless_none (rule_6 code r i) _ _ b.1 in
      let d = unless_none (rule_7 code r i) _ _ c.1 in
      let f = unless_none (rule_8 code i) _ _ d.1 in
      let g = unless_none (rule_9 code r i) _ _ f.1 in
      let h = unless_none (rule_10 code r at i) _ _ g.1 in
      let j = unless_none (rule_11 code r at i) _ _ h.1 in
      let k = unless_none (rule_12 code r i) _ _ j.1 in
      record { r4 = a.0; r5 = b.0; r6 = c.0; r7 = d.0; r8 = f.0; r9 = g.0; r10 = h.0; r11 = j.0; r12 = k.0 }

  -- the machine has taken the instruction at an address of routine r
  pub record Here (r at : ℕ) (s : State) : Type 0 where
    pub ready : Ready code r s
    pub at_is : s.at ≡ suc at
    pub low : start_at code r ≤ at
    pub first : slice_get (kinds_at code 0) 0 ≡ Some slot.Number

  -- the words of an instruction
  pub slots : (r at : ℕ) (i : Instr) (a b c d : Word) → words i ≡ four a b c d → Obeys r at i →
      (names_slot code r a ≡ true) × (names_slot code r b ≡ true) × (names_slot code r c ≡ true) × (names_slot code r d ≡ true)
  slots r at i a b c d e o = all_four (names_slot code r) a b c d (subst (λ ws. list_all (names_slot code r) ws ≡ true) e o.r4)

  -- the range words and text words of an instruction
  pub entries : (r at : ℕ) (i : Instr) (a b c d : Word) → words i ≡ four a b c d → Obeys r at i →
      (names_entry code a ≡ true) × (names_entry code b ≡ true) × (names_entry code c ≡ true) × (names_entry code d ≡ true)
  entries r at i a b c d e o = all_four (names_entry code) a b c d (subst (λ ws. list_all (names_entry code) ws ≡ true) e o.r8)

  -- the address words of an instruction
  pub addresses : (r at : ℕ) (i : Instr) (a b c d : Word) → words i ≡ four a b c d → Obeys r at i →
      (names_address code r a ≡ true) × (names_address code r b ≡ true) × (names_address code r c ≡ true) × (names_address code r d ≡ true)
  addresses r at i a b c d e o = all_four (names_address code r) a b c d (subst (λ ws. list_all (names_address code r) ws ≡ true) e o.r9)

  -- the slots of a routine
  abbrev pub head_slots : ℕ → ℕ
  head_slots r = (head_at code r).slots

  -- a word that names a number slot
  pub number_word : (r n : ℕ) → names_slot code r (W.Number n) ≡ true → (is_free code r n ≡ true) × (is_number (kind_in code r n) ≡ true)
  number_word r n e =
      let x = and_parts (nat_lt n (head_slots r) && is_free code r n) (is_number (kind_in code r n)) e in
      ((and_parts (nat_lt n (head_slots r)) (is_free code r n) x.0).1, x.1)

  -- a word that names a place slot
  pub place_word : (r n : ℕ) → names_slot code r (W.Place n) ≡ true → (is_free code r n ≡ true)
      × (kind_in code r n ≡ Some (slot.Place (length_in code r n)))
  place_word r n e =
      let x = and_parts (nat_lt n (head_slots r) && is_free code r n) (is_place (kind_in code r n)) e in
      ((and_parts (nat_lt n (head_slots r)) (is_free code r n) x.0).1, place_is (kind_in code r n) x.1)

  -- a word that names a mark slot
  pub mark_word : (r n : ℕ) → names_slot code r (W.Mark n) ≡ true → (is_free code r n ≡ true) × (is_mark (kind_in code r n) ≡ true)
  mark_word r n e =
      let x = and_parts (nat_lt n (head_slots r) && is_free code r n) (is_mark (kind_in code r n)) e in
      ((and_parts (nat_lt n (head_slots r)) (is_free code r n) x.0).1, x.1)

  -- the next address is one of the routine
  pub next : (r at : ℕ) (s : State) → Here r at s → (nat_lt (suc at) (end_at code r) || false) ≡ true → is_address code r s.at ≡ true
  next r at s h e =
      let lt = or_false (nat_lt (suc at) (end_at code r)) e in
      let low : start_at code r ≤ suc at = omega (arith, h.low) in
      subst (λ n. is_address code r n ≡ true) (sym h.at_is)
      (and_from (nat_le (start_at code r) (suc at)) (nat_lt (suc at) (end_at code r)) (le-leb (start_at code r) (suc at) low) lt)

  -- two numbers that are read
  pub two_good : (r at : ℕ) (s : State) (b c : ℕ) (k : ℤ → ℤ → StepResult) → Here r at s → names_slot code r (W.Number b) ≡ true
      → names_slot code r (W.Number c) ≡ true →
      ((x y : ℤ) → Good code (k x y)) → Good code (number s b (λ x. number s c (λ y. k x y)))
  two_good r at s b c k h wb wc good =
      number_good code r s b (λ x. number s c (λ y. k x y)) h.ready (number_word r b wb).1
      (λ x. number_good code r s c (λ y. k x y) h.ready (number_word r c wc).1 (λ y. good x y))

  -- a number is put into a slot that a word names
  pub put_good : (r at : ℕ) (s : State) (a : ℕ) (v : ℤ) → Here r at s → names_slot code r (W.Number a) ≡ true
      → (nat_lt (suc at) (end_at code r) || false) ≡ true → Good code (put_number s a v)
  put_good r at s a v h wa e = put_number_good code r s a v h.ready (number_word r a wa).1 (number_word r a wa).0 (next r at s h e)

  -- a jump to an address of the routine
  pub goes_good : (r at : ℕ) (s : State) (l : ℕ) → Here r at s → is_address code r l ≡ true → Good code (goes_to l s)
  goes_good r at s l h e =
      let ready : Ready code r (record s { at = l }) =
      record { frames = h.ready.frames; held = h.ready.held; routine = h.ready.routine; going = h.ready.going } in
      went_good code r (record s { at = l }) ready e

  -- the frame of a place is live
  pub frame_live : (r : ℕ) (s : State) (p : CellPlace) → Ready code r s → IsPlace code (routines_of s.now) (top s) p
      → p.frame < length s.now
  frame_live r s p h fits = omega (arith, h.frames.some, fits.frame)

  -- the cell at a place of one cell
  pub one_cell : (rs : List ℕ) (f : ℕ) (p : CellPlace) → p.len ≡ 1 → IsPlace code rs f p → IsCell code rs p.frame p.slot
  one_cell rs f p e fits =
      let z : p.slot + 0 ≡ p.slot = omega arith in
      subst (λ i. IsCell code rs p.frame i) z (fits.cells 0 (omega arith))

  -- a place of one cell that is read
  pub one_good : (r at : ℕ) (s : State) (n : ℕ) (k : CellPlace → StepResult) → Here r at s → names_slot code r (W.Place n) ≡ true
      → nat_eq (length_in code r n) 1 ≡ true →
      ((p : CellPlace) → p.frame < length s.now → IsCell code (routines_of s.now) p.frame p.slot → Good code (k p))
      → Good code (place s n k)
  one_good r at s n k h w e good =
      place_good code r s n (length_in code r n) k h.ready (place_word r n w).1
      (λ p len fits. good p (frame_live r s p h.ready fits)
      (one_cell (routines_of s.now) (top s) p (len ∙ eqb-true (length_in code r n) 1 e) fits))

  -- each of the number slots from one on is one
  pub numbers_from_at : (n : ℕ) (kinds : List SlotKind) (i k : ℕ) → numbers_from n kinds i ≡ true → k < n
      → slice_get kinds (i + k) ≡ Some slot.Number
  numbers_from_at zero kinds i k e lt = absurd (omega arith)
  numbers_from_at (suc n) kinds i zero e lt =
      let z : i + 0 ≡ i = omega arith in
      ap (slice_get kinds) z ∙ number_is (slice_get kinds i) (and_parts (is_number (slice_get kinds i)) (numbers_from n kinds (suc i)) e).0
  numbers_from_at (suc n) kinds i (suc k) e lt =
      let z : i + suc k ≡ suc i + k = omega arith in
      ap (slice_get kinds) z ∙ numbers_from_at n kinds (suc i) k
      (and_parts (is_number (slice_get kinds i)) (numbers_from n kinds (suc i)) e).1 (omega arith)

  -- cells that a rule allows in the frame f of routine r
  pub cells_of : (n : ℕ) (rs : List ℕ) (f r i k : ℕ) → get_or rs f 0 ≡ r → (f ≡ 0 → r ≡ 0) → cells_in code r i n ≡ true → k < n
      → IsCell code rs f (i + k)
  cells_of zero rs f r i k e z c lt = absurd (omega arith)
  cells_of (suc n) rs f r i k e z c lt =
      let x = and_parts (is_free code r i) (numbers_from (suc n) (kinds_at code r) i) c in
      let free : 0 < r + i = ltb-true 0 (r + i) x.0 in
      record {
        number = ap (λ q. slice_get (kinds_at code q) (i + k)) e ∙ numbers_from_at (suc n) (kinds_at code r) i k x.1 lt;
        free = elim (cases_eq f 0) [ inl f0 ↦ let r0 : r ≡ 0 = z f0 in omega arith | inr ne ↦ omega arith ];
      }

  -- the routine of the top frame, among the routines of the frames
  pub top_is : (r : ℕ) (s : State) → Ready code r s → get_or (routines_of s.now) (top s) 0 ≡ r
  top_is r s h = sym (last-routine s.now) ∙ h.routine

  -- where the top frame is the only one, its routine is the first
  pub top_main : (r : ℕ) (s : State) → Ready code r s → top s ≡ 0 → r ≡ 0
  top_main r s h e =
      let lt : top s < length s.now = omega (arith, h.frames.some) in
      sym h.routine ∙ (h.frames.each (top s) lt).main e

  -- the routine of the first frame
  pub first_is : (r : ℕ) (s : State) → Ready code r s → get_or (routines_of s.now) 0 0 ≡ 0
  first_is r s h = get_or-map (λ g. g.routine) s.now 0 no_frame ∙ (h.frames.each 0 h.frames.some).main refl

  -- a place is put into a slot
  pub put_place_at : (r at : ℕ) (s : State) (a frame : ℕ) (first : ℕ → ℕ) → Here r at s → names_slot code r (W.Place a) ≡ true
      → (nat_lt (suc at) (end_at code r) || false) ≡ true →
      frame ≤ top s → ((k : ℕ) → k < length_in code r a → IsCell code (routines_of s.now) frame (first (length_in code r a) + k))
      → Good code (put_place s a frame first)
  put_place_at r at s a frame first h w e le cells =
      put_place_good code r s a (length_in code r a) frame first h.ready (place_word r a w).1 (place_word r a w).0
      (record { frame = le; cells = cells }) (next r at s h e)

  -- a cell has a number, or gets it
  pub bound_good : (r at : ℕ) (s : State) (p : CellPlace) (t : Range) (v : ℤ) (u : Option ℤ) → Here r at s → p.frame < length s.now
      → IsCell code (routines_of s.now) p.frame p.slot →
      is_address code r s.at ≡ true → Good code (binds_content s p t v u)
  bound_good r at s p t v (Some u) h lf c e =
      if_true_keeps (Good code) (int_eq u v) (λ _. quiet_step s) (λ _. fails_now s) (λ _. went_good code r s h.ready e)
      (λ _. fails_good code r s h.ready)
  bound_good r at s p t v None h lf c e =
      ranged_good code r s t fault.Range v (λ _. store s p.frame p.slot v quiet_step) h.ready
      (λ _. store_good code r s p.frame p.slot v quiet_step h.ready lf c
      (λ h'. went_good code r (with_cell s p.frame p.slot (cell.Int v)) h' e))

  -- as many frames as routines
  pub same_length : (fs gs : List PlainFrame) → routines_of fs ≡ routines_of gs → length fs ≡ length gs
  same_length fs gs e = sym (length-map fs (λ f. f.routine)) ∙ ap length e ∙ length-map gs (λ f. f.routine)

  -- n equations, from a state that has come from s by such
  pub equations_good : (r : ℕ) (s : State) → is_address code r s.at ≡ true → (n : ℕ) (t : State) (f i g j : ℕ) → Ready code r t
      → routines_of t.now ≡ routines_of s.now → t.at ≡ s.at →
      f < length s.now → g < length s.now → ((k : ℕ) → k < n → IsCell code (routines_of s.now) f (i + k))
      → ((k : ℕ) → k < n → IsCell code (routines_of s.now) g (j + k)) →
      Good code (equations n t f i g j)
  equations_good r s e zero t f i g j h same at lf lg cf cg = went_good code r t h (subst (λ m. is_address code r m ≡ true) (sym at) e)
  equations_good r s e (suc n) t f i g j h same at lf lg cf cg =
      let len = same_length t.now s.now same in
      let z : i + 0 ≡ i = omega arith in
      let y : j + 0 ≡ j = omega arith in
      equation_good code r t f i None g j None (λ u. equations n u f (suc i) g (suc j)) h (omega arith)
      (subst (λ rs. IsCell code rs f i) (sym same) (subst (λ m. IsCell code (routines_of s.now) f m) z (cf 0 (omega arith)))) (omega arith)
      (subst (λ rs. IsCell code rs g j) (sym same) (subst (λ m. IsCell code (routines_of s.now) g m) y (cg 0 (omega arith))))
      (λ u hu su au. equations_good r s e n u f (suc i) g (suc j) hu (su ∙ same) (au ∙ at) lf lg
      (λ k lt. let x : i + suc k ≡ suc i + k = omega arith in subst (λ m. IsCell code (routines_of s.now) f m) x (cf (suc k) (omega arith)))
      (λ k lt. let x : j + suc k ≡ suc j + k = omega arith in
      subst (λ m. IsCell code (routines_of s.now) g m) x (cg (suc k) (omega arith))))

  -- n cells are copied, from a state that has come from s by such
  pub copied_good : (r : ℕ) (s : State) → is_address code r s.at ≡ true → Ready code r s → (n : ℕ) (t : State) (f i g j : ℕ)
      → Ready code r t → routines_of t.now ≡ routines_of s.now → t.at ≡ s.at →
      f < length s.now → g < length s.now → ((k : ℕ) → k < n → IsCell code (routines_of s.now) f (i + k))
      → ((k : ℕ) → k < n → IsCell code (routines_of s.now) g (j + k)) →
      Good code (copies_cells n s.now t f i g j)
  copied_good r s e hs zero t f i g j h same at lf lg cf cg = went_good code r t h (subst (λ m. is_address code r m ≡ true) (sym at) e)
  copied_good r s e hs (suc n) t f i g j h same at lf lg cf cg =
      let len = same_length t.now s.now same in
      let z : i + 0 ≡ i = omega arith in
      let y : j + 0 ≡ j = omega arith in
      let ci : IsCell code (routines_of t.now) f i =
      subst (λ rs. IsCell code rs f i) (sym same) (subst (λ m. IsCell code (routines_of s.now) f m) z (cf 0 (omega arith))) in
      let cj : IsCell code (routines_of s.now) g j = subst (λ m. IsCell code (routines_of s.now) g m) y (cg 0 (omega arith)) in
      let lt' : f < length t.now = omega arith in
      let both : (number_at t.now f i && number_at s.now g j) ≡ true =
      and_from (number_at t.now f i) (number_at s.now g j) (number_at_is code r t f i h lt' ci) (number_at_is code r s g j hs lg cj) in
      let c : Cell = cell_at s.now g j cell.Unknown in
      let fits : IsContent c = content_any code r s g j cell.Unknown hs lg cj in
      let there = number_there code r t f i h lt' ci in
      let free : 0 < f + i = ci.free in
      let u : State = with_cell t f i c in
      let hu : Ready code r u = cell_ready code r t f i c h lt' there.0
      (subst (λ q. FitsSlot code (routines_of t.now) f q c) (sym there.1) fits) (λ q. absurd (omega arith)) in
      subst (λ b. Good code (if_true b (λ _. copies_cells n s.now u f (suc i) g (suc j)) (λ _. gets_stuck t))) (sym both)
      (copied_good r s e hs n u f (suc i) g (suc j) hu (written-routines t.now f i c ∙ same) at lf lg
      (λ k lt. let x : i + suc k ≡ suc i + k = omega arith in subst (λ m. IsCell code (routines_of s.now) f m) x (cf (suc k) (omega arith)))
      (λ k lt. let x : j + suc k ≡ suc j + k = omega arith in
      subst (λ m. IsCell code (routines_of s.now) g m) x (cg (suc k) (omega arith))))

  -- ---- entries

  -- an entry is pushed
  pub pushed_ready : (r : ℕ) (s : State) (kind : ChoiceKind) (resume : ℕ) → Ready code r s → is_address code r resume ≡ true
      → Ready code r (state_after_push s kind resume)
  pushed_ready r s kind resume h e =
      let entry : PlainEntry = record { kind = kind; resume = resume; frames = s.now; carry = [] } in
      record {
        frames = h.frames;
        held = λ n lt.
            elim (cases_eq n (length s.held)) [
              | inl q ↦
                  let same : get_or (s.held ++ entry ∷ []) n no_entry ≡ entry = ap (λ m. get_or (s.held ++ entry ∷ []) m no_entry) q
                  ∙ get_or-append_seam s.held entry [] no_entry in
                  subst (λ x. FitsEntry code x) (sym same) (record {
                    frames = h.frames;
                    resume = subst (λ q. is_address code q resume ≡ true) (sym h.routine) e;
                    carry = tt;
                  })
              | inr ne ↦
                  let len = length-append s.held (entry ∷ []) in
                  let below : n < length s.held = omega arith in
                  subst (λ x. FitsEntry code x) (sym (get_or-append s.held (entry ∷ []) no_entry n below)) (h.held n below)
            ];
        routine = h.routine;
        going = h.going;
      }

  -- entries fall
  pub cut_good : (r : ℕ) (s : State) (n : ℕ) → Ready code r s → is_address code r s.at ≡ true → Good code (cut_to s n)
  cut_good r s n h e =
      if_true_keeps (Good code) (nat_lt n (length s.held)) _ _
      (λ b.
      let lt = ltb-true n (length s.held) b in
      let len : length (take n s.held) ≡ n = length-take-le n s.held (omega arith) in
      went_good code r (record s { held = take n s.held })
      (record {
        frames = h.frames;
        held = λ k lk.
            let below : k < n = omega arith in
            subst (λ x. FitsEntry code x) (sym (get_or-take n s.held k no_entry below)) (h.held k (omega arith));
        routine = h.routine;
        going = h.going;
      })
      e)
      (λ _. went_good code r s h e)

  -- ---- the input position

  -- a live number slot is one of a live frame
  pub number_at_live : (fs : List PlainFrame) (f i : ℕ) → number_at fs f i ≡ true →
      (f < length fs) × (i < length (get_or fs f no_frame).kinds) × (get_or (get_or fs f no_frame).kinds i slot.Mark ≡ slot.Number)
  number_at_live fs f i e =
      let kinds = (get_or fs f no_frame).kinds in
      let is : slice_get kinds i ≡ Some slot.Number = number_is (slice_get kinds i) e in
      elim (cases_lt f (length fs)) [
        | inl lf ↦ (lf, slice_get_within kinds i slot.Number is, get_or_from_slice_get kinds i slot.Number slot.Mark is)
        | inr le ↦ absurd (false≢true (sym (ap (λ x. is_number (slice_get x.kinds i)) (get_or_past fs f no_frame le)) ∙ e))
      ]

  -- where there is no entry there is no kind
  pub no_kind : (kind : ChoiceKind) → is_kind kind None ≡ true → ⊥
  no_kind choice.Branch e = false≢true e
  no_kind choice.Forall e = false≢true e
  no_kind choice.Body e = false≢true e
  no_kind choice.Done e = false≢true e

  -- slot 0 of the first frame is a number slot
  main_number : (r at : ℕ) (s : State) → Here r at s → number_at s.now 0 0 ≡ true
  main_number r at s here =
      let h = here.ready in
      let ff = h.frames.each 0 h.frames.some in
      ap is_number (ap (λ ks. slice_get ks 0) (ff.kinds ∙ ap (kinds_at code) (ff.main refl)) ∙ here.first)

  -- a cell that is an input position is read as one
  position_cell : (c : Cell) (s : State) (k : ℕ → StepResult) → IsPosition c → ((n : ℕ) → Good code (k n))
      → Good code (as_position (Some c) s k)
  position_cell (cell.Int (pos n)) s k h good = good n
  position_cell (cell.Int (negsuc n)) s k h good = absurd h
  position_cell cell.Unknown s k h good = absurd h
  position_cell cell.Unset s k h good = absurd h
  position_cell (cell.Place p) s k h good = absurd h
  position_cell (cell.Mark m) s k h good = absurd h

  -- a list whose first cell is an input position has a first cell
  pub has_cell : (cs : List Cell) → IsPosition (get_or cs 0 cell.Unset) → slice_get cs 0 ≡ Some (get_or cs 0 cell.Unset)
  has_cell [] h = absurd h
  has_cell (c ∷ cs) h = refl

  -- the input position is read
  pub position_good : (r : ℕ) (s : State) (k : ℕ → StepResult) → Ready code r s
      → ((n : ℕ) → slice_get (get_or s.now 0 no_frame).cells 0 ≡ Some (get_or (get_or s.now 0 no_frame).cells 0 cell.Unset)
      → 0 < length s.now → Good code (k n)) → Good code (position s k)
  position_good r s k h good =
      let is = has_cell (get_or s.now 0 no_frame).cells h.frames.position in
      subst (λ o. Good code (as_position o s k)) (sym is)
      (position_cell (get_or (get_or s.now 0 no_frame).cells 0 cell.Unset) s k h.frames.position (λ n. good n is h.frames.some))

  -- the input position itself is written
  pub position_written : (r : ℕ) (s : State) (n : ℕ) → Ready code r s
      → slice_get (get_or s.now 0 no_frame).cells 0 ≡ Some (get_or (get_or s.now 0 no_frame).cells 0 cell.Unset) →
      (number_at s.now 0 0 ≡ true) → Ready code r (with_cell s 0 0 (cell.Int (pos n)))
  position_written r s n h is e =
      let ff = h.frames.each 0 h.frames.some in
      let below : 0 < length (get_or s.now 0 no_frame).cells = slice_get_within (get_or s.now 0 no_frame).cells 0 _ is in
      let lt : 0 < length (get_or s.now 0 no_frame).kinds = omega (arith, ff.full) in
      cell_ready code r s 0 0 (cell.Int (pos n)) h h.frames.some lt
      (subst (λ q. FitsSlot code (routines_of s.now) 0 q (cell.Int (pos n))) (sym (number_at_live s.now 0 0 e).2) tt) (λ _. tt)

  -- a number that was read goes to its place
  pub took_good : (r at : ℕ) (s : State) (t : Range) (p : CellPlace) (v : ℤ) (n : ℕ) → Here r at s → p.frame < length s.now
      → IsCell code (routines_of s.now) p.frame p.slot →
      slice_get (get_or s.now 0 no_frame).cells 0 ≡ Some (get_or (get_or s.now 0 no_frame).cells 0 cell.Unset) → 0 < length s.now
      → is_address code r s.at ≡ true → Good code (take_input s t p v n)
  took_good r at s t p v n h lf cf is ll e =
      let u = with_cell s 0 0 (cell.Int (pos n)) in
      let z : number_at s.now 0 0 ≡ true = main_number r at s h in
      let hu : Ready code r u = position_written r s n h.ready is z in
      let same = written-routines s.now 0 0 (cell.Int (pos n)) in
      let len = same_length u.now s.now same in
      ranged_good code r s t fault.Range v _ h.ready (λ _.
      subst (λ b. Good code (if_true b (λ _. store u p.frame p.slot v quiet_step) (λ _. gets_stuck s))) (sym z)
      (store_good code r u p.frame p.slot v quiet_step hu (omega arith) (subst (λ rs. IsCell code rs p.frame p.slot) (sym same) cf)
      (λ h'. went_good code r (with_cell u p.frame p.slot (cell.Int v)) h' e)))

  -- what was found where a number is read
  pub found_good : (r at : ℕ) (s : State) (t : Range) (p : CellPlace) (f : ReadInt) → Here r at s → p.frame < length s.now
      → IsCell code (routines_of s.now) p.frame p.slot →
      slice_get (get_or s.now 0 no_frame).cells 0 ≡ Some (get_or (get_or s.now 0 no_frame).cells 0 cell.Unset) → 0 < length s.now
      → is_address code r s.at ≡ true → Good code (takes_read s t p f)
  found_good r at s t p NoNumber h lf cf is ll e = fails_good code r s h.ready
  found_good r at s t p TooLarge h lf cf is ll e = fault_good code r s fault.ReadRange h.ready
  found_good r at s t p (Number v n) h lf cf is ll e = took_good r at s t p v n h lf cf is ll e

  -- what was found where a byte is read
  pub char_good : (r at : ℕ) (s : State) (t : Range) (p : CellPlace) (n : ℕ) (f : Option ℕ) → Here r at s → p.frame < length s.now
      → IsCell code (routines_of s.now) p.frame p.slot →
      slice_get (get_or s.now 0 no_frame).cells 0 ≡ Some (get_or (get_or s.now 0 no_frame).cells 0 cell.Unset) → 0 < length s.now
      → is_address code r s.at ≡ true → Good code (byte_or_failure s t p n f)
  char_good r at s t p n None h lf cf is ll e = fails_good code r s h.ready
  char_good r at s t p n (Some b) h lf cf is ll e = took_good r at s t p (pos b) (n + 1) h lf cf is ll e

  -- ---- carries

  -- one cell of a carry is laid over the frames
  pub laid_fits : (r : ℕ) (s : State) (c : Change Cell) → Ready code r s → FitsCarried code c
      → Ready code r (record s { now = frames_with_change s.now c })
  laid_fits r s c h fc =
      let ready : (b : Bool) → number_at s.now c.frame c.slot ≡ b
      → Ready code r (record s { now = (if b then frames_with_cell s.now c.frame c.slot c.cell else s.now) }) =
      λ b. elim b as (λ b. number_at s.now c.frame c.slot ≡ b
      → Ready code r (record s { now = (if b then frames_with_cell s.now c.frame c.slot c.cell else s.now) })) [
        | true ↦ λ e.
            let live = number_at_live s.now c.frame c.slot e in
            cell_ready code r s c.frame c.slot c.cell h live.0 live.1
            (subst (λ k. FitsSlot code (routines_of s.now) c.frame k c.cell) (sym live.2) fc.content) fc.position
        | false ↦ λ _. record { frames = h.frames; held = h.held; routine = h.routine; going = h.going }
      ] in
      ready (number_at s.now c.frame c.slot) refl

  -- a carry is laid over the frames
  pub overlaid_ready : (r : ℕ) (s : State) (cs : Carry Cell) → Ready code r s → AllFit code cs
      → Ready code r (record s { now = frames_with_carry s.now cs })
  overlaid_ready r s [] h f = record { frames = h.frames; held = h.held; routine = h.routine; going = h.going }
  overlaid_ready r s (c ∷ cs) h f = overlaid_ready r (record s { now = frames_with_change s.now c }) cs (laid_fits r s c h f.0) f.1

  -- a height at which there is a kind is one of the stack
  pub is_kind_within : (kind : ChoiceKind) (held : List PlainEntry) (h : ℕ) → is_kind kind (kind_at held h) ≡ true → (1 ≤ h)
      × (h ≤ length held)
  is_kind_within kind held zero e = absurd (no_kind kind e)
  is_kind_within kind held (suc h) e =
      elim (cases_lt h (length held)) [
        | inl lt ↦ (omega arith, omega arith)
        | inr le ↦
            let past : length (map (λ e. e.kind) held) ≤ h = omega (arith, length-map held (λ e. e.kind)) in
            absurd (no_kind kind (subst (λ o. is_kind kind o ≡ true) (slice_get_past (map (λ e. e.kind) held) h past) e))
      ]

  -- the carry of an entry is laid over
  pub laid_ready : (r : ℕ) (s : State) (n : ℕ) → Ready code r s → (1 ≤ n) × (n ≤ length s.held) → Ready code r (state_with_carry s n)
  laid_ready r s n h w = overlaid_ready r s (entry_at s.held n).carry h (h.held (n - 1) (omega arith)).carry

  -- the carry of a Forall is laid over, where there is one
  pub overlay_ready : (r : ℕ) (s : State) (n : ℕ) → Ready code r s → Ready code r (overlay s n) × ((overlay s n).at ≡ s.at)
  overlay_ready r s n h =
      if_true_keeps (λ t. Ready code r t × (t.at ≡ s.at)) (is_forall_at s.held n) (λ _. state_with_carry s n) (λ _. s)
      (λ e. (laid_ready r s n h (is_kind_within choice.Forall s.held n e), refl)) (λ _. (h, refl))

  -- the top entry is dropped
  pub without_top : (r : ℕ) (s : State) → Ready code r s → Ready code r (record s { held = take (length s.held - 1) s.held })
  without_top r s h = record {
    frames = h.frames;
    held = λ k lk.
        let len : length (take (length s.held - 1) s.held) ≡ length s.held - 1 = length-take-le (length s.held - 1) s.held (omega arith) in
        let below : k < length s.held - 1 = omega arith in
        subst (λ x. FitsEntry code x) (sym (get_or-take (length s.held - 1) s.held k no_entry below)) (h.held k (omega arith));
    routine = h.routine;
    going = h.going;
  }

  -- a Done on top is finished
  pub finish_good : (r : ℕ) (s : State) → Ready code r s → is_address code r s.at ≡ true → Good code (finish s)
  finish_good r s h e =
      if_true_keeps (Good code) (is_kind choice.Done (kind_at s.held (length s.held))) _ _
      (λ b.
      let t = state_with_carry s (length s.held) in
      let ready = laid_ready r s (length s.held) h (is_kind_within choice.Done s.held (length s.held) b) in
      went_good code r (record t { held = take (length s.held - 1) s.held }) (without_top r t ready) e)
      (λ _. went_good code r s h e)

  -- ---- keeping

  -- changes that fit, one list after the other
  pub fit-append : (cs ds : Carry Cell) → AllFit code cs → AllFit code ds → AllFit code (cs ++ ds)
  fit-append [] ds h k = k
  fit-append (c ∷ cs) ds h k = (h.0, fit-append cs ds h.1 k)

  -- the content of a live number slot, whatever stands for a cell that is not there
  pub live_content : (r : ℕ) (s : State) (f i : ℕ) (d : Cell) → Ready code r s → number_at s.now f i ≡ true →
      IsContent (cell_at s.now f i d) × (cell_at s.now f i d ≡ cell_at s.now f i cell.Unset)
  live_content r s f i d h e =
      let live = number_at_live s.now f i e in
      let fr = get_or s.now f no_frame in
      let fits = h.frames.each f live.0 in
      let lt : i < length fr.cells = omega (arith, fits.full, live.1) in
      let same : get_or fr.cells i d ≡ get_or fr.cells i cell.Unset =
      sym (get_or_from_slice_get fr.cells i (get_or fr.cells i d) cell.Unset (slice_get-get_or fr.cells i d lt)) in
      let kind : get_or fr.kinds i slot.Mark ≡ slot.Number = live.2 in (
        subst IsContent (sym same) (subst (λ k. FitsSlot code (routines_of s.now) f k (get_or fr.cells i cell.Unset)) kind
            (fits.cells i live.1)),
        same,
      )

  -- the first cell of the first frame, by its place
  pub cell_zero : (fs : List PlainFrame) (f i : ℕ) → f + i ≡ 0 → cell_at fs 0 0 cell.Unset ≡ cell_at fs f i cell.Unset
  cell_zero fs f i e =
      let f0 : 0 ≡ f = omega arith in
      let i0 : 0 ≡ i = omega arith in
      ap (λ q. cell_at fs q 0 cell.Unset) f0 ∙ ap (λ q. cell_at fs f q cell.Unset) i0

  -- a change that is laid into a carry
  fit-change : (x : Change Cell) (cs : Carry Cell) → FitsCarried code x → AllFit code cs → AllFit code (with_change x cs)
  fit-change x [] fx f = (fx, tt)
  fit-change x (y ∷ rest) fx f =
      if_true_keeps (AllFit code) (is_before x.frame x.slot y.frame y.slot) (λ _. x ∷ y ∷ rest)
      (λ _. if_true (is_same_place x.frame x.slot y.frame y.slot) (λ _. x ∷ rest) (λ _. y ∷ with_change x rest))
      (λ _. (fx, f))
      (λ _. if_true_keeps (AllFit code) (is_same_place x.frame x.slot y.frame y.slot) (λ _. x ∷ rest) (λ _. y ∷ with_change x rest)
      (λ _. (fx, f.1))
      (λ _. (f.0, fit-change x rest fx f.1)))

  -- changes that are laid into a carry, one after another
  fit-changes : (xs : List (Change Cell)) (cs : Carry Cell) → AllFit code xs → AllFit code cs → AllFit code (with_changes xs cs)
  fit-changes [] cs fx f = f
  fit-changes (x ∷ xs) cs fx f = fit-changes xs (with_change x cs) fx.1 (fit-change x cs fx.0 f)

  -- a change at one place fits
  pub diff_fits : (r : ℕ) (s : State) (before : List PlainFrame) (f i : ℕ) → Ready code r s → AllFit code (diff_at before s.now f i)
  diff_fits r s before f i h =
      let c : Change Cell = record { frame = f; slot = i; cell = cell_at s.now f i cell.Unknown } in
      let goal : (b : Bool) → differs before s.now f i ≡ b → AllFit code (if b then c ∷ [] else []) =
      λ b. elim b as (λ b. differs before s.now f i ≡ b → AllFit code (if b then c ∷ [] else [])) [
        | true ↦ λ e.
            let x = and_parts (number_at before f i)
            (number_at s.now f i && not (same_cell (cell_at before f i cell.Unknown) (cell_at s.now f i cell.Unknown))) e in
            let y = (and_parts (number_at s.now f i) (not (same_cell (cell_at before f i cell.Unknown) (cell_at s.now f i cell.Unknown)))
            x.1).0 in
            let live = live_content r s f i cell.Unknown h y in (
              record {
                content = live.0;
                position = λ z. subst IsPosition (cell_zero s.now f i z ∙ sym live.1) h.frames.position;
              },
              tt,
            )
        | false ↦ λ _. tt
      ] in
      goal (differs before s.now f i) refl

  -- the changes in a frame fit
  pub slot_diffs_fit : (r : ℕ) (s : State) (before : List PlainFrame) (f n : ℕ) → Ready code r s → AllFit code (slot_diffs before s.now f n)
  slot_diffs_fit r s before f zero h = tt
  slot_diffs_fit r s before f (suc n) h = fit-append (slot_diffs before s.now f n) (diff_at before s.now f n)
      (slot_diffs_fit r s before f n h) (diff_fits r s before f n h)

  -- the changes in the frames fit
  pub frame_diffs_fit : (r : ℕ) (s : State) (before : List PlainFrame) (n : ℕ) → Ready code r s → AllFit code (frame_diffs before s.now n)
  frame_diffs_fit r s before zero h = tt
  frame_diffs_fit r s before (suc n) h =
      fit-append (frame_diffs before s.now n) (slot_diffs before s.now n (length (get_or s.now n no_frame).cells))
      (frame_diffs_fit r s before n h)
      (slot_diffs_fit r s before n (length (get_or s.now n no_frame).cells) h)

  -- the stack after a Body is kept
  pub kept_held : (r : ℕ) (s : State) (n : ℕ) → Ready code r s → (1 ≤ n) × (n ≤ length s.held)
      → FitsHeld code (held_after_keep s.held n s.now)
  kept_held r s n h w k lk =
      let old = entry_at s.held n in
      let gain = diffs (top_of s.held).frames s.now in
      let new : PlainEntry = with_carry old (with_changes gain old.carry) in
      let all = set s.held (n - 1) new in
      let len : length all ≡ length s.held = length-set s.held (n - 1) new in
      let cut : length (take (length s.held - 1) all) ≡ length s.held - 1 = length-take-le (length s.held - 1) all (omega arith) in
      let below : k < length s.held - 1 = omega arith in
      let fits = h.held (n - 1) (omega arith) in
      subst (λ x. FitsEntry code x) (sym (get_or-take (length s.held - 1) all k no_entry below))
      (elim (cases_eq k (n - 1)) [
        | inl e ↦
            subst (λ x. FitsEntry code x) (sym
            (ap (λ m. get_or all m no_entry) e ∙ get_or-set_same s.held (n - 1) new no_entry (omega arith)))
            (record {
              frames = fits.frames;
              resume = fits.resume;
              carry =
                  fit-changes gain old.carry (frame_diffs_fit r s (top_of s.held).frames (length s.now) h) fits.carry;
            })
        | inr ne ↦ subst (λ x. FitsEntry code x) (sym (get_or-set_other s.held (n - 1) k new no_entry ne)) (h.held k (omega arith))
      ])

  -- a Body is kept
  pub keep_good : (r : ℕ) (s : State) (n : ℕ) → Ready code r s → is_address code r s.at ≡ true → Good code (keep s n)
  keep_good r s n h e =
      let rest = nat_lt n (length s.held) && is_kind choice.Body (kind_at s.held (length s.held)) in
      if_true_keeps (Good code) (is_forall_at s.held n && rest) _ _
      (λ b.
      let w = is_kind_within choice.Forall s.held n (and_parts (is_forall_at s.held n) rest b).0 in
      went_good code r (record s { held = held_after_keep s.held n s.now })
      (record { frames = h.frames; held = kept_held r s n h w; routine = h.routine; going = h.going }) e)
      (λ _. went_good code r s h e)

  -- ---- leaving

  -- a cell that a place may name, after frames above its own came or went
  pub cell_kept : (rs qs : List ℕ) (f i : ℕ) → get_or qs f 0 ≡ get_or rs f 0 → IsCell code rs f i → IsCell code qs f i
  cell_kept rs qs f i e c = record { number = ap (λ r. slice_get (kinds_at code r) i) e ∙ c.number; free = c.free }

  -- what fits a slot, after frames above its own came or went
  pub slot_kept : (rs qs : List ℕ) (f : ℕ) (k : SlotKind) (c : Cell) → ((g : ℕ) → g ≤ f → get_or qs g 0 ≡ get_or rs g 0)
      → FitsSlot code rs f k c → FitsSlot code qs f k c
  slot_kept rs qs f slot.Number c same h = h
  slot_kept rs qs f (slot.Place n) (cell.Place p) same h =
      (h.0, record { frame = h.1.frame; cells = λ k lt. cell_kept rs qs p.frame (p.slot + k) (same p.frame h.1.frame) (h.1.cells k lt) })
  slot_kept rs qs f (slot.Place n) cell.Unset same h = h
  slot_kept rs qs f (slot.Place n) cell.Unknown same h = h
  slot_kept rs qs f (slot.Place n) (cell.Int v) same h = h
  slot_kept rs qs f (slot.Place n) (cell.Mark m) same h = h
  slot_kept rs qs f slot.Mark (cell.Mark m) same h = h
  slot_kept rs qs f slot.Mark cell.Unset same h = h
  slot_kept rs qs f slot.Mark cell.Unknown same h = h
  slot_kept rs qs f slot.Mark (cell.Int v) same h = h
  slot_kept rs qs f slot.Mark (cell.Place p) same h = h
  slot_kept rs qs f (slot.Link r) (cell.Place p) same h =
      record { frame = h.frame; routine = same p.frame h.frame ∙ h.routine; slot = h.slot; len = h.len }
  slot_kept rs qs f (slot.Link r) cell.Unset same h = h
  slot_kept rs qs f (slot.Link r) cell.Unknown same h = h
  slot_kept rs qs f (slot.Link r) (cell.Int v) same h = h
  slot_kept rs qs f (slot.Link r) (cell.Mark m) same h = h

  -- a frame that fits, after frames above it came or went
  pub frame_kept : (rs qs : List ℕ) (f : ℕ) (fr : PlainFrame) → ((g : ℕ) → g ≤ f → get_or qs g 0 ≡ get_or rs g 0) → FitsFrame code rs f fr
      → FitsFrame code qs f fr
  frame_kept rs qs f fr same h = record {
    routine = h.routine;
    kinds = h.kinds;
    full = h.full;
    cells = λ i lt. slot_kept rs qs f (get_or fr.kinds i slot.Mark) (get_or fr.cells i cell.Unset) same (h.cells i lt);
    main = h.main;
    called = λ le. ((h.called le).0, subst (λ q. IsReturn code q fr.back fr.routine) (sym (same (f - 1) (omega arith))) (h.called le).1);
  }

  -- the state after the top frame is left goes on behind the call of it
  pub record Left (s : State) : Type 0 where
    pub caller : ℕ
    pub ready : Ready code caller (state_after_leave s)
    pub at : is_address code caller (state_after_leave s).at ≡ true
    pub called : IsReturn code caller (last_frame s.now).back (last_frame s.now).routine
    pub routine : caller < length code.routines

  -- a frame that is not the last is left
  pub left_ready : (r : ℕ) (s : State) → Ready code r s → 2 ≤ length s.now → Left s
  left_ready r s h two =
      let n = length s.now - 1 in
      let fs = take n s.now in
      let rs = routines_of s.now in
      let caller = get_or rs (n - 1) 0 in
      let len : length fs ≡ n = length-take-le n s.now (omega arith) in
      let routines : routines_of fs ≡ take n rs = sym (take-map (λ f. f.routine) n s.now) in
      let top_fits = h.frames.each n (omega arith) in
      let ret = (top_fits.called (omega arith)).1 in
      let under = h.frames.each (n - 1) (omega arith) in
      let same : (g : ℕ) → g < n → get_or (routines_of fs) g 0 ≡ get_or rs g 0 = λ g lt. ap (λ q. get_or q g 0) routines ∙ get_or-take n rs
      g 0 lt in
      let lastly : (last_frame fs).routine ≡ caller = last-routine fs ∙ ap (λ m. get_or (routines_of fs) (m - 1) 0) len
      ∙ same (n - 1) (omega arith) in
      let behind : (last_frame s.now).back ≡ suc ret.at = ret.behind in
      record {
        caller = caller;
        ready = record {
          frames = record {
            some = omega arith;
            each = λ f lf.
                let lt : f < n = omega arith in
                subst (λ x. FitsFrame code (routines_of fs) f x) (sym (get_or-take n s.now f no_frame lt))
                (frame_kept rs (routines_of fs) f (get_or s.now f no_frame) (λ g le. same g (omega arith)) (h.frames.each f (omega arith)));
            position = subst (λ x. IsPosition (get_or x.cells 0 cell.Unset)) (sym (get_or-take n s.now 0 no_frame (omega arith)))
                h.frames.position;
          };
          held = h.held;
          routine = lastly;
          going = h.going;
        };
        at = and_from (nat_le (start_at code caller) (last_frame s.now).back) (nat_lt (last_frame s.now).back (end_at code caller))
            (le-leb (start_at code caller) (last_frame s.now).back (omega (arith, ret.low)))
            (lt-ltb (last_frame s.now).back (end_at code caller) ret.high);
        called = ret;
        routine = subst (λ q. q < length code.routines) (sym (get_or-map (λ f. f.routine) s.now (n - 1) no_frame)) under.routine;
      }

  module _ (sound : IsSound code) where
    -- the first routine has no result
    main_has_no_result : (head_at code 0).has_result ≡ false
    main_has_no_result =
        let one = (sound.heads 0 sound.table.some).0 in
        let x = (and_parts (nat_lt (start_at code 0) (end_at code 0)) (is_main code 0) one).1 in
        let y = (and_parts (nat_eq (length (head_at code 0).params) 0)
        (not (head_at code 0).has_result && list_all (is_global code) code.globals) x).1 in
        not-true (head_at code 0).has_result (and_parts (not (head_at code 0).has_result) (list_all (is_global code) code.globals) y).0

    -- a Call in the code of a routine keeps the rule of calls
    pub call_rule : (caller at callee first to : ℕ) → caller < length code.routines → start_at code caller ≤ at → at < end_at code caller
        → slice_get code.instrs at ≡ Some (I.Call callee first to) →
        rule_10 code caller at (I.Call callee first to) ≡ true
    call_rule caller at callee first to lr low high is =
        let same : get_or code.instrs at I.Fail ≡ I.Call callee first to =
        get_or_from_slice_get code.instrs at (I.Call callee first to) I.Fail is in
        (obeys caller at (I.Call callee first to)
        (subst (λ i. instr_fault code caller at i ≡ None) same (sound.instrs caller at lr low high))).r10

    -- the rule of calls gives a slot to the result
    pub holds_of_call : (caller at callee first to : ℕ) → rule_10 code caller at (I.Call callee first to) ≡ true
        → holds_result code caller (head_at code callee).has_result to ≡ true
    unfolding rule_10
    holds_of_call caller at callee first to e =
        let x = (and_parts (nat_lt 0 callee && nat_lt callee (length code.routines))
        (can_call code caller at (head_at code callee) first to) e).1 in
        let h = head_at code callee in
        let y = (and_parts (fit_arguments code caller h.params first && holds_first h.params first)
        (holds_result code caller h.has_result to && nat_lt (suc at) (end_at code caller)) x).1 in
        (and_parts (holds_result code caller h.has_result to) (nat_lt (suc at) (end_at code caller)) y).0

    -- a result goes to the slot that the Call names
    pub result_good : (r : ℕ) (s : State) (v : ℤ) → Ready code r s → (head_at code r).has_result ≡ true
        → Good code (result_to (slice_get code.instrs ((last_frame s.now).back - 1)) (state_after_leave s) v)
    result_good r s v h has =
        let ff = h.frames.each (top s) (omega (arith, h.frames.some)) in
        let many : 1 ≤ top s =
        elim (cases_eq (top s) 0) [
          | inl e ↦ let r0 : r ≡ 0 = sym h.routine ∙ ff.main e in
              absurd (false≢true (sym main_has_no_result ∙ ap (λ q. (head_at code q).has_result) (sym r0) ∙ has))
          | inr ne ↦ omega arith
        ] in
        let l = left_ready r s h (omega arith) in
        let ret = l.called in
        let back : (last_frame s.now).back - 1 ≡ ret.at = omega (arith, ret.behind) in
        let is : slice_get code.instrs ((last_frame s.now).back - 1) ≡ Some (I.Call (last_frame s.now).routine ret.first ret.to) =
        ap (slice_get code.instrs) back ∙ ret.call in
        let rule = call_rule l.caller ret.at (last_frame s.now).routine ret.first ret.to l.routine ret.low
        (omega (arith, ret.high, ret.behind)) ret.call in
        let holds = holds_of_call l.caller ret.at (last_frame s.now).routine ret.first ret.to rule in
        let yes : (head_at code (last_frame s.now).routine).has_result ≡ true = ap (λ q. (head_at code q).has_result) h.routine ∙ has in
        let both = and_parts (is_free code l.caller ret.to) (is_number (kind_in code l.caller ret.to))
        (subst (λ b. holds_result code l.caller b ret.to ≡ true) yes holds) in
        let k = number_is (kind_in code l.caller ret.to) both.1 in
        let slot_there = has_slot code l.caller (state_after_leave s) ret.to slot.Number l.ready k in
        subst (λ o. Good code (result_to o (state_after_leave s) v)) (sym is)
        (subst (λ o. Good code (to_number o (state_after_leave s)
        (λ _. answers_return (with_slot (state_after_leave s) ret.to (cell.Int v))))) (sym slot_there.kind_is)
        (went_good code l.caller (with_slot (state_after_leave s) ret.to (cell.Int v))
        (slot_ready code l.caller (state_after_leave s) ret.to slot.Number (cell.Int v) l.ready k both.0 tt) l.at))
