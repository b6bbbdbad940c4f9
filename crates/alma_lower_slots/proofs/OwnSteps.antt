-- Each place of each state of a run names own slots.
use Rattle.std.proofs.Common.{◌≡◌, ℕ, suc, ◌+◌, ◌-◌, ◌*◌, ◌<◌, ◌≤◌, List, length, get_or, refl, sym, ap, ◌∙◌, subst}
use Rattle.std.proofs.Common.{arith, Option, Some, None}
use Rattle.std.specs.Prelude.{ℤ, pos, ◌+ℤ◌, ◌-ℤ◌, ◌*ℤ◌, neg_ℤ, nat_abs, slice_get, true, nat_eq, nat_le, nat_lt}
use Rattle.std.proofs.lemmas.Bool.{and_parts, eqb-true, leb-true, ltb-true}
use Rattle.std.proofs.lemmas.Option.{slice_get-get_or}
use Rattle.alma_base.specs.declared.fault.RunFault.{RunFault}
use Rattle.alma_base.specs.declared.fault.RunFault.TheVariants as fault
use Rattle.alma_base.specs.Numbers.{is_zero, div_down_of, mod_down_of, range_size, is_beyond}
use Rattle.alma_base.specs.Reading.{number_from}
use Rattle.alma_code.proofs.Heads.{place_of_is}
use Rattle.alma_code.proofs.Ranges.{offset_within}
use Rattle.alma_code.proofs.Tables.{end_inside}
use Rattle.alma_code.specs.declared.cell.Cell.{Cell}
use Rattle.alma_code.specs.declared.cell.Cell.TheVariants as cell
use Rattle.alma_code.specs.declared.cell.CellPlace.{CellPlace}
use Rattle.alma_code.specs.declared.cell.ChoiceKind.TheVariants as choice
use Rattle.alma_code.specs.declared.cell.SlotKind.{SlotKind}
use Rattle.alma_code.specs.declared.cell.SlotKind.TheVariants as slot
use Rattle.alma_code.specs.declared.instr.Instr.{Instr}
use Rattle.alma_code.specs.declared.instr.Instr.TheVariants as I
use Rattle.alma_code.specs.declared.instr.Word.TheVariants as W
use Rattle.alma_code.specs.Fits.{routines_of, IsLink, FitsSlot, FitsMode, Fits}
use Rattle.alma_code.specs.Layout.{blank_cells}
use Rattle.alma_code.specs.Machine.{Mode, Going, Failing, Ended, Stuck, State, StepResult, quiet_step, top}
use Rattle.alma_code.specs.Machine.{slot_of, kind_of, as_place, slot_in}
use Rattle.alma_code.specs.Machine.{place, link, with_slot, to_place, to_link, put_number, put_place, put_link, link_to}
use Rattle.alma_code.specs.Machine.{act, step, step_in}
use Rattle.alma_code.specs.Machine.{fetch_and_act, with_step_counted, start, result_to, answers_return, state_after_push, answer_of_push}
use Rattle.alma_code.specs.Machine.{state_after_leave, as_text, as_fault, run_faults, takes_read, byte_or_failure}
use Rattle.alma_code.specs.Picture.{no_frame, last_frame}
use Rattle.alma_code.specs.Plain.{PlainCode, head_at, kinds_at, start_at, end_at}
use Rattle.alma_code.specs.Rules.{IsSound, kind_in, length_in, link_in, place_length, has_room, rule_5, rule_6}
use Rattle.alma_code.specs.Words.{words}
use Rattle.alma_code_laws.proofs.Acts.{Here, Obeys, obeys, slots, first_is, top_is}
use Rattle.alma_code_laws.proofs.Links.{link_word}
use Rattle.alma_code_laws.proofs.Ready.{Ready, if_true_keeps}
use Rattle.alma_code_laws.proofs.Runs.{first_number}
use Rattle.alma_lower_slots.specs.Sharing.{Sharing, names_own, SharesIn, Shares}
use Rattle.alma_lower_slots.proofs.Alike.{NamesOwn, OwnState}
use Rattle.alma_lower_slots.proofs.OwnPlaces.{each_blank, each_written, names_none, fits_at, place_long}
use Rattle.alma_lower_slots.proofs.OwnActs.{Own, number_own, two_own, mark_own, with_cell_own, to_number_own, to_mark_own, put_number_own}
use Rattle.alma_lower_slots.proofs.OwnActs.{put_mark_own, integer_own, content_own, store_own, known_own, as_range_own}
use Rattle.alma_lower_slots.proofs.OwnActs.{ranged_own, bound_own}
use Rattle.alma_lower_slots.proofs.OwnActs.{equation_own, equations_own, copies_own, position_own, found_own, byte_own, pushed_own, cut_own}
use Rattle.alma_lower_slots.proofs.OwnActs.{keep_own, pop_own, overlay_own, finish_own, leave_own, with_number_own}
use Rattle.alma_lower_slots.proofs.OwnCalls.{call_own}

module _ (s : Sharing) where
  -- a result goes to the slot that the Call names
  result_own : (o : Option Instr) (t : State) (v : ℤ) → OwnState s t → Own s (result_to o t v)
  result_own (Some (I.Call r first to)) t v h =
      let w = with_number_own s t (length t.now - 1) to v h in
      to_number_own s (kind_of t to) t (λ _. answers_return (with_slot t to (cell.Int v))) h (record { now = w.now; held = w.held })
  result_own o t v h = record { now = h.now; held = h.held }

  -- a text that may not be there
  text_own : (o : Option (List ℕ)) (t : State) → OwnState s t → Own s (as_text o t)
  text_own (Some x) t h = record { now = h.now; held = h.held }
  text_own None t h = record { now = h.now; held = h.held }

  -- a fault that may not be there
  fault_own : (o : Option RunFault) (t : State) → OwnState s t → Own s (as_fault o t)
  fault_own (Some f) t h = record { now = h.now; held = h.held }
  fault_own None t h = record { now = h.now; held = h.held }

  -- ---- places and links

  -- a cell is read as a place
  as_place_own : (o : Option Cell) (t : State) (k : CellPlace → StepResult) → OwnState s t
      → ((p : CellPlace) → o ≡ Some (cell.Place p) → Own s (k p)) → Own s (as_place o t k)
  as_place_own (Some (cell.Place p)) t k h g = g p refl
  as_place_own (Some cell.Unset) t k h g = record { now = h.now; held = h.held }
  as_place_own (Some cell.Unknown) t k h g = record { now = h.now; held = h.held }
  as_place_own (Some (cell.Int v)) t k h g = record { now = h.now; held = h.held }
  as_place_own (Some (cell.Mark m)) t k h g = record { now = h.now; held = h.held }
  as_place_own None t k h g = record { now = h.now; held = h.held }

  -- the slot that is written is a place slot
  to_place_own : (o : Option SlotKind) (t : State) (k : ℕ → StepResult) → OwnState s t
      → ((l : ℕ) → o ≡ Some (slot.Place l) → Own s (k l)) → Own s (to_place o t k)
  to_place_own (Some (slot.Place l)) t k h g = g l refl
  to_place_own (Some slot.Number) t k h g = record { now = h.now; held = h.held }
  to_place_own (Some slot.Mark) t k h g = record { now = h.now; held = h.held }
  to_place_own (Some (slot.Link q)) t k h g = record { now = h.now; held = h.held }
  to_place_own None t k h g = record { now = h.now; held = h.held }

  -- it is a link slot
  to_link_own : (o : Option SlotKind) (t : State) (k : Unit {0} → StepResult) → OwnState s t → Own s (k tt) → Own s (to_link o t k)
  to_link_own (Some (slot.Link q)) t k h g = g
  to_link_own (Some slot.Number) t k h g = record { now = h.now; held = h.held }
  to_link_own (Some (slot.Place l)) t k h g = record { now = h.now; held = h.held }
  to_link_own (Some slot.Mark) t k h g = record { now = h.now; held = h.held }
  to_link_own None t k h g = record { now = h.now; held = h.held }

  -- a place is written to a slot
  with_place_own : (t : State) (n : ℕ) (p : CellPlace) → OwnState s t → NamesOwn s (routines_of t.now) p
      → OwnState s (with_slot t n (cell.Place p))
  with_place_own t n p h hp =
      with_cell_own s t (length t.now - 1) n (cell.Place p) h
      (λ q e. let same : p ≡ q = cc in subst (NamesOwn s (routines_of t.now)) same hp)

  -- a link is put into a slot
  put_link_own : (t : State) (n f : ℕ) → OwnState s t → Own s (put_link t n f)
  put_link_own t n f h =
      let w = with_place_own t n (link_to f) h (names_none s (routines_of t.now) (link_to f) refl) in
      to_link_own (kind_of t n) t (λ _. quiet_step (with_slot t n (cell.Place (link_to f)))) h (record { now = w.now; held = w.held })

  module _ (code : PlainCode) where
    -- there is a top frame
    top_there : (r : ℕ) (t : State) → Ready code r t → top t < length t.now
    top_there r t h = omega (arith, h.frames.some)

    -- the kinds of the slots of the top frame
    kind_there : (r : ℕ) (t : State) (n : ℕ) → Ready code r t → kind_of t n ≡ kind_in code r n
    kind_there r t n h =
        ap (λ ks. slice_get ks n) ((h.frames.each (top t) (top_there r t h)).kinds ∙ ap (kinds_at code) h.routine)

    -- a place of the length that the code has for the slot is put into it
    put_place_own : (r : ℕ) (t : State) (n f : ℕ) (first : ℕ → ℕ) → Ready code r t → OwnState s t
        → NamesOwn s (routines_of t.now) (record { frame = f; slot = first (length_in code r n); len = length_in code r n })
        → Own s (put_place t n f first)
    put_place_own r t n f first ready h hp =
        to_place_own (kind_of t n) t (λ l. quiet_step (with_slot t n (cell.Place (record { frame = f; slot = first l; len = l })))) h
        (λ l e.
        let long : length_in code r n ≡ l = ap place_length (sym (kind_there r t n ready) ∙ e) in
        let w = with_place_own t n (record { frame = f; slot = first l; len = l }) h
        (subst (λ m. NamesOwn s (routines_of t.now) (record { frame = f; slot = first m; len = m })) long hp) in
        record { now = w.now; held = w.held })

    -- what is known of a place of the top frame
    record OwnPlace (r : ℕ) (t : State) (n : ℕ) (p : CellPlace) : Type 0 where
      pub own : NamesOwn s (routines_of t.now) p
      pub long : p.len ≡ length_in code r n

    -- a slot of the top frame is read as a place
    place_own : (r : ℕ) (t : State) (n : ℕ) (k : CellPlace → StepResult) → Ready code r t → OwnState s t
        → ((p : CellPlace) → OwnPlace r t n p → Own s (k p)) → Own s (place t n k)
    place_own r t n k ready h g =
        as_place_own (slot_of t n) t k h
        (λ p e. g p (record {
          own = h.now (top t) n p (top_there r t ready) e;
          long = place_long code t.now (top t) n p ready.frames (top_there r t ready) e
              ∙ ap (λ q. length_in code q n) (top_is code r t ready);
        }))

    -- a slot of the top frame is read as a link
    link_own : (r : ℕ) (t : State) (n q : ℕ) (k : ℕ → StepResult) → Ready code r t → OwnState s t → kind_in code r n ≡ Some (slot.Link q)
        → ((f : ℕ) → f < length t.now → get_or (routines_of t.now) f 0 ≡ q → Own s (k f)) → Own s (link t n k)
    link_own r t n q k ready h is g =
        as_place_own (slot_of t n) t (λ p. k p.frame) h
        (λ p e.
        let at = fits_at code t.now (top t) n (cell.Place p) ready.frames (top_there r t ready) e in
        let both : Some at.kind ≡ Some (slot.Link q) = sym at.is ∙ ap (λ q. kind_in code q n) (top_is code r t ready) ∙ is in
        let kind : at.kind ≡ slot.Link q = cc in
        let fits : IsLink code (routines_of t.now) (top t) q p =
        subst (λ x. FitsSlot code (routines_of t.now) (top t) x (cell.Place p)) kind at.fits in
        g p.frame (omega (arith, fits.frame, top_there r t ready)) fits.routine)

    -- ---- instructions

    module _ (input : List ℕ) (shares : (r : ℕ) → r < length code.routines → SharesIn code s r) where
      -- what an instruction does: one clause for each form
      act_own : (i : Instr) (r at : ℕ) (t : State) → Here code r at t → Obeys code r at i
          → names_own s.own (kinds_at code r) r i ≡ true → OwnState s t
          → Own s (act code input i t)
      unfolding act rule_5 rule_6 words names_own
      act_own (I.Const a v) r at t here o n h = put_number_own s t a v h
      act_own (I.Move a b) r at t here o n h = number_own s t b _ h (λ v. put_number_own s t a v h)
      act_own (I.Add a b c) r at t here o n h =
          two_own s t b c _ h (λ x y. integer_own s t (x +ℤ y) (put_number t a) h (λ v. put_number_own s t a v h))
      act_own (I.Sub a b c) r at t here o n h =
          two_own s t b c _ h (λ x y. integer_own s t (x -ℤ y) (put_number t a) h (λ v. put_number_own s t a v h))
      act_own (I.Mul a b c) r at t here o n h =
          two_own s t b c _ h (λ x y. integer_own s t (x *ℤ y) (put_number t a) h (λ v. put_number_own s t a v h))
      act_own (I.Div a b c) r at t here o n h =
          two_own s t b c _ h (λ x y. if_true_keeps (Own s) (is_zero y) _ _ (λ _. record { now = h.now; held = h.held })
          (λ _. integer_own s t (div_down_of x y) (put_number t a) h (λ v. put_number_own s t a v h)))
      act_own (I.Mod a b c) r at t here o n h =
          two_own s t b c _ h (λ x y. if_true_keeps (Own s) (is_zero y) _ _ (λ _. record { now = h.now; held = h.held })
          (λ _. integer_own s t (mod_down_of x y) (put_number t a) h (λ v. put_number_own s t a v h)))
      act_own (I.Neg a b) r at t here o n h =
          number_own s t b _ h (λ x. integer_own s t (neg_ℤ x) (put_number t a) h (λ v. put_number_own s t a v h))
      act_own (I.Equal a b c) r at t here o n h = two_own s t b c _ h (λ x y. put_number_own s t a _ h)
      act_own (I.Less a b c) r at t here o n h = two_own s t b c _ h (λ x y. put_number_own s t a _ h)
      act_own (I.LessEq a b c) r at t here o n h = two_own s t b c _ h (λ x y. put_number_own s t a _ h)
      act_own (I.Flip a b) r at t here o n h = number_own s t b _ h (λ x. put_number_own s t a _ h)
      act_own (I.InRange a b) r at t here o n h =
          number_own s t a _ h (λ v. as_range_own s (slice_get code.ranges b) t _ h
          (λ x e. ranged_own s x fault.Range t v _ h (λ _. record { now = h.now; held = h.held })))
      act_own (I.Local a b) r at t here o n h =
          let le = leb-true (b + length_in code r a) (s.own r) n in
          put_place_own r t a (top t) (λ _. b) here.ready h
          (λ k lt. subst (λ q. b + k < s.own q) (sym (top_is code r t here.ready)) (omega arith))
      act_own (I.Global a b) r at t here o n h =
          let le = leb-true (b + length_in code r a) (s.own 0) n in
          put_place_own r t a 0 (λ _. b) here.ready h
          (λ k lt. subst (λ q. b + k < s.own q) (sym (first_is code r t here.ready)) (omega arith))
      act_own (I.Same a b) r at t here o n h =
          let e = eqb-true (length_in code r a) (length_in code r b) o.r5 in
          place_own r t b _ here.ready h
          (λ p x. put_place_own r t a p.frame (λ _. p.slot) here.ready h (λ k lt. x.own k (omega (arith, x.long))))
      act_own (I.Field a b c) r at t here o n h =
          let le = leb-true (c + length_in code r a) (length_in code r b) o.r5 in
          place_own r t b _ here.ready h
          (λ p x. put_place_own r t a p.frame (λ _. p.slot + c) here.ready h
          (λ k lt.
          let z : p.slot + (c + k) ≡ p.slot + c + k = omega arith in
          subst (λ i. i < s.own (get_or (routines_of t.now) p.frame 0)) z (x.own (c + k) (omega (arith, x.long)))))
      act_own (I.Index a b c d) r at t here o n h =
          let l = length_in code r a in
          place_own r t b _ here.ready h (λ p x. number_own s t c _ h (λ v. as_range_own s (slice_get code.ranges d) t _ h
          (λ q is. ranged_own s q fault.Index t v _ h (λ within.
          let room : range_size q * l ≤ length_in code r b =
          leb-true (range_size q * l) (length_in code r b) (subst (λ y. has_room y l (length_in code r b) ≡ true) is o.r6) in
          put_place_own r t a p.frame (λ m. p.slot + nat_abs (v -ℤ q.low) * m) here.ready h
          (λ k lt.
          let j : ℕ = nat_abs (v -ℤ q.low) * l + k in
          let z : p.slot + j ≡ p.slot + nat_abs (v -ℤ q.low) * l + k = omega arith in
          let inside : j < length_in code r b = offset_within q.low v q.high l k (length_in code r b) within room lt in
          subst (λ i. i < s.own (get_or (routines_of t.now) p.frame 0)) z (x.own j (omega (arith, x.long))))))))
      act_own (I.Load a b) r at t here o n h =
          place_own r t b _ here.ready h (λ p x. content_own s t p.frame p.slot _ h
          (λ u. known_own s u t _ h (λ v. put_number_own s t a v h)))
      act_own (I.Store a b) r at t here o n h =
          place_own r t a _ here.ready h (λ p x. number_own s t b _ h
          (λ v. store_own s t p.frame p.slot v quiet_step h (λ u hu. record { now = hu.now; held = hu.held })))
      act_own (I.Known a b) r at t here o n h =
          place_own r t b _ here.ready h (λ p x. content_own s t p.frame p.slot _ h (λ u. put_number_own s t a _ h))
      act_own (I.Bind a b c) r at t here o n h =
          place_own r t a _ here.ready h (λ p x. number_own s t b _ h (λ v. as_range_own s (slice_get code.ranges c) t _ h
          (λ q e. content_own s t p.frame p.slot _ h (λ u. bound_own s t p q v u h))))
      act_own (I.Unify a b c d) r at t here o n h =
          place_own r t a _ here.ready h (λ p x. as_range_own s (slice_get code.ranges b) t _ h
          (λ f e. place_own r t c _ here.ready h (λ q y. as_range_own s (slice_get code.ranges d) t _ h
          (λ g z. equation_own s t p.frame p.slot (Some f) q.frame q.slot (Some g) quiet_step h
          (λ u hu. record { now = hu.now; held = hu.held })))))
      act_own (I.CopyCells a b) r at t here o n h =
          place_own r t a _ here.ready h (λ p x. place_own r t b _ here.ready h
          (λ q y. copies_own s p.len t.now t p.frame p.slot q.frame q.slot h h.now refl))
      act_own (I.SameCells a b) r at t here o n h =
          place_own r t a _ here.ready h (λ p x. place_own r t b _ here.ready h
          (λ q y. equations_own s p.len t p.frame p.slot q.frame q.slot h))
      act_own (I.Jump a) r at t here o n h = record { now = h.now; held = h.held }
      act_own (I.JumpZero a b) r at t here o n h =
          number_own s t a _ h (λ v. if_true_keeps (Own s) (is_zero v) _ _ (λ _. record { now = h.now; held = h.held })
          (λ _. record { now = h.now; held = h.held }))
      act_own (I.Check a) r at t here o n h =
          number_own s t a _ h (λ v. if_true_keeps (Own s) (is_zero v) _ _ (λ _. record { now = h.now; held = h.held })
          (λ _. record { now = h.now; held = h.held }))
      act_own I.Fail r at t here o n h = record { now = h.now; held = h.held }
      act_own (I.Mark a) r at t here o n h = put_mark_own s t a (length t.held) h
      act_own (I.Cut a) r at t here o n h = mark_own s t a _ h (λ m. cut_own s t m h)
      act_own (I.Choose a) r at t here o n h =
          let w = pushed_own s t choice.Branch a h in
          record { now = w.now; held = w.held }
      act_own (I.Forall a b) r at t here o n h =
          let u = state_after_push t choice.Forall b in
          let w = with_cell_own s u (length t.now - 1) a (cell.Mark (length t.held + 1)) (pushed_own s t choice.Forall b h)
          (λ p e. absurd (cc)) in
          to_mark_own s (kind_of t a) t (λ _. answer_of_push (with_slot u a (cell.Mark (length t.held + 1)))) h
          (record { now = w.now; held = w.held })
      act_own (I.Overlay a b) r at t here o n h =
          mark_own s t a _ h (λ m.
          let w = pushed_own s _ choice.Body b (overlay_own s code t m here.ready.held h) in
          record { now = w.now; held = w.held })
      act_own (I.Keep a) r at t here o n h = mark_own s t a _ h (λ m. keep_own s t m h)
      act_own I.Finish r at t here o n h = finish_own s code t here.ready.held h
      act_own (I.Call c first to) r at t here o n h = call_own s code t c first shares here.ready.frames h
      act_own I.Return r at t here o n h =
          let w = leave_own s code t here.ready.frames h in
          if_true_keeps (Own s) (nat_eq (length t.now) 1) _ _ (λ _. record { now = h.now; held = h.held })
          (λ _. record { now = w.now; held = w.held })
      act_own (I.ReturnValue a) r at t here o n h =
          number_own s t a _ h (λ v. result_own (slice_get code.instrs ((last_frame t.now).back - 1)) (state_after_leave t) v
          (leave_own s code t here.ready.frames h))
      act_own (I.ReadInt a b) r at t here o n h =
          place_own r t a _ here.ready h (λ p x. as_range_own s (slice_get code.ranges b) t _ h
          (λ q e. position_own s t (λ m. takes_read t q p (number_from input m)) h (λ m. found_own s t q p (number_from input m) h)))
      act_own (I.ReadChar a b) r at t here o n h =
          place_own r t a _ here.ready h (λ p x. as_range_own s (slice_get code.ranges b) t _ h
          (λ q e. position_own s t (λ m. byte_or_failure t q p m (slice_get input m)) h (λ m. byte_own s t q p m (slice_get input m) h)))
      act_own (I.WriteInt a) r at t here o n h = number_own s t a _ h (λ v. record { now = h.now; held = h.held })
      act_own (I.WriteChar a) r at t here o n h = number_own s t a _ h (λ v. record { now = h.now; held = h.held })
      act_own (I.WriteBool a) r at t here o n h = number_own s t a _ h (λ v. record { now = h.now; held = h.held })
      act_own (I.WriteText a) r at t here o n h = text_own (slice_get code.texts a) t h
      act_own I.WriteLine r at t here o n h = record { now = h.now; held = h.held }
      act_own (I.Fault a) r at t here o n h = fault_own (slice_get run_faults a) t h
      act_own (I.Step a b c d) r at t here o n h =
          number_own s t a _ h (λ x. two_own s t b c _ h
          (λ y z. if_true_keeps (Own s) (is_beyond (x +ℤ z) y z) _ _ (λ _. record { now = h.now; held = h.held })
          (λ _. put_number_own s t a (x +ℤ z) h)))
      act_own (I.Own a) r at t here o n h = put_link_own t a (top t) h
      act_own (I.Chain a b c) r at t here o n h =
          let w = slots code r at (I.Chain a b c) (W.Link a) (W.Link b) W.Free W.Free refl o in
          link_own r t b (link_in code r b) _ here.ready h (link_word code r b w.1).1
          (λ f lf fr. as_place_own (slot_in t f c) t _ h (λ p e. put_link_own t a p.frame h))
      act_own (I.Outer a b c) r at t here o n h =
          let w = slots code r at (I.Outer a b c) (W.Place a) (W.Link b) W.Free W.Free refl o in
          let le = leb-true (c + length_in code r a) (s.own (link_in code r b)) n in
          link_own r t b (link_in code r b) _ here.ready h (link_word code r b w.1).1
          (λ f lf fr. put_place_own r t a f (λ _. c) here.ready h (λ k lt. subst (λ q. c + k < s.own q) (sym fr) (omega arith)))
      act_own (I.OuterSame a b c) r at t here o n h =
          let w = slots code r at (I.OuterSame a b c) (W.Place a) (W.Link b) W.Free W.Free refl o in
          let from = link_in code r b in
          link_own r t b from _ here.ready h (link_word code r b w.1).1
          (λ f lf fr. as_place_own (slot_in t f c) t _ h
          (λ p e.
          let long : p.len ≡ length_in code r a =
          place_long code t.now f c p here.ready.frames lf e ∙ ap (λ q. length_in code q c) fr
          ∙ ap place_length (place_of_is (length_in code r a) (kind_in code from c) o.r5) in
          put_place_own r t a p.frame (λ _. p.slot) here.ready h (λ k lt. h.now f c p lf e k (omega arith))))

-- ---- runs

-- a step, in each mode
step_in_own : (code : PlainCode) (s : Sharing) (input : List ℕ) → IsSound code → Shares code s → (m : Mode) (t : State) → t.mode ≡ m
    → Fits code t → OwnState s t → OwnState s (step_in code input m t).state
step_in_own code s input sound shares Going t going fit h =
    let r = (last_frame t.now).routine in
    let fits = fit.frames.each (length t.now - 1) (omega (arith, fit.frames.some)) in
    let here = subst (λ m. FitsMode code m t) going fit.mode in
    let parts = and_parts (nat_le (start_at code r) t.at) (nat_lt t.at (end_at code r)) here in
    let low = leb-true (start_at code r) t.at parts.0 in
    let high = ltb-true t.at (end_at code r) parts.1 in
    let inside = end_inside code sound.table r fits.routine in
    let i = get_or code.instrs t.at I.Fail in
    let is : slice_get code.instrs t.at ≡ Some i = slice_get-get_or code.instrs t.at I.Fail (omega arith) in
    let u : State = record (with_step_counted code input t) { at = t.at + 1; last = t.at } in
    let ready : Ready code r u = record { frames = fit.frames; held = fit.held; routine = refl; going = going } in
    let next : t.at + 1 ≡ suc t.at = omega arith in
    subst (λ o. Own s (fetch_and_act code input o t)) (sym is)
    (act_own s code input shares.routines i r t.at u
    (record { ready = ready; at_is = next; low = low; first = first_number code sound })
    (obeys code r t.at i (sound.instrs r t.at fits.routine low high)) (shares.instrs r t.at fits.routine low high).places
    (record { now = h.now; held = h.held }))
step_in_own code s input sound shares Failing t going fit h =
    pop_own s t.held (with_step_counted code input t) (record { now = h.now; held = h.held })
step_in_own code s input sound shares (Ended e) t going fit h = record { now = h.now; held = h.held }
step_in_own code s input sound shares Stuck t going fit h = record { now = h.now; held = h.held }

-- a step keeps that each place names own slots
pub own_step : (code : PlainCode) (s : Sharing) → IsSound code → Shares code s → (input : List ℕ) (t : State) → Fits code t → OwnState s t
    → OwnState s (step code input t).state
own_step code s sound shares input t fit h = step_in_own code s input sound shares t.mode t refl fit h

-- each place at the start does: there is none
pub own_start : (code : PlainCode) (s : Sharing) → OwnState s (start code)
own_start code s = record {
  now = λ f i p lf e.
      let P : CellPlace → Type 0 = NamesOwn s (routines_of (start code).now) in
      let all = each_written P (blank_cells (head_at code 0)) 0 (cell.Int (pos 0)) (each_blank P (kinds_at code 0)) (λ q e. absurd (cc)) in
      let zero_is : f ≡ 0 = omega arith in
      all i p (subst (λ g. slice_get (get_or (start code).now g no_frame).cells i ≡ Some (cell.Place p)) zero_is e);
  held = λ k lk. absurd (omega arith);
}
