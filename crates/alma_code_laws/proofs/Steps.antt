-- What a step of a sound code does is never stuck, and keeps what is true of the state.
use Rattle.std.proofs.Common.{◌≡◌, ℕ, ◌+◌, ◌*◌, ◌<◌, ◌≤◌, inl, inr, List, [], length, refl, sym, subst, arith, Some}
use Rattle.std.specs.Prelude.{◌+ℤ◌, ◌-ℤ◌, ◌*ℤ◌, neg_ℤ, nat_abs, slice_get, true, nat_eq}
use Rattle.alma_code.proofs.Ranges.{offset_within}
use Rattle.std.proofs.lemmas.Bool.{and_parts, or_cases, ltb-true, leb-true, eqb-true, eqb-false}
use Rattle.std.proofs.lemmas.Option.{slice_get-get_or}
use Rattle.alma_code.specs.declared.cell.Cell.TheVariants as cell
use Rattle.alma_code.specs.declared.cell.SlotKind.TheVariants as slot
use Rattle.alma_code.specs.declared.cell.ChoiceKind.TheVariants as choice
use Rattle.alma_base.specs.Reading.{number_from}
use Rattle.alma_code.specs.declared.instr.Instr.{Instr}
use Rattle.alma_code.specs.declared.instr.Instr.TheVariants as I
use Rattle.alma_code.specs.declared.instr.Word.TheVariants as W
use Rattle.alma_base.specs.declared.fault.RunFault.TheVariants as fault
use Rattle.alma_code.specs.declared.step.End.TheVariants as end
use Rattle.alma_code.specs.Plain.{PlainCode}
use Rattle.alma_base.specs.Numbers.{is_zero, div_down_of, mod_down_of, range_size, is_beyond}
use Rattle.alma_code.specs.Words.{words}
use Rattle.alma_code.specs.Rules.{kind_in, length_in, link_in, is_address, rule_5, rule_6, rule_7, rule_11, rule_12, has_room, IsSound}
use Rattle.alma_code.specs.Machine.{State, quiet_step, top, act, put_number, with_cell, with_slot, to_mark, answer_of_push}
use Rattle.alma_code.specs.Machine.{state_after_push, as_text, as_fault, run_faults, state_after_leave, takes_read, byte_or_failure}
use Rattle.alma_code.specs.Machine.{overlay}
use Rattle.alma_code.specs.Fits.{routines_of, IsCell}
use Rattle.alma_code_laws.proofs.Ready.{Good, mark_is, if_true_keeps, went_good, ended_good, fails_good, fault_good, number_good}
use Rattle.alma_code_laws.proofs.Ready.{place_good, mark_good, put_mark_good, fitted_good, content_good, store_good, known_good}
use Rattle.alma_code_laws.proofs.Ready.{ranged_good, as_range_good, equation_good, slot_ready, has_slot}
use Rattle.alma_code_laws.proofs.Acts.{Here, Obeys, addresses, bound_good, cells_of, char_good, copied_good, cut_good, entries}
use Rattle.alma_code_laws.proofs.Acts.{equations_good, finish_good, first_is, found_good, frame_live, goes_good, keep_good, left_ready}
use Rattle.alma_code_laws.proofs.Acts.{mark_word, next, number_word, one_good, overlay_ready, place_word, position_good, pushed_ready}
use Rattle.alma_code_laws.proofs.Acts.{put_good, put_place_at, result_good, slots, top_is, top_main, two_good}
use Rattle.alma_code_laws.proofs.Calls.{call_good}
use Rattle.alma_code.proofs.Heads.{link_of_is, place_of_is}
use Rattle.alma_code_laws.proofs.Links.{link_word, link_above, link_good, link_in_good, place_in_good, put_link_good, outer_cells}

module _ (code : PlainCode) (input : List ℕ) (sound : IsSound code) where
  -- what an instruction does that keeps its rules: one clause for each form
  pub act_good : (i : Instr) (r at : ℕ) (s : State) → Here code r at s → Obeys code r at i → slice_get code.instrs at ≡ Some i
      → r < length code.routines → Good code (act code input i s)
  unfolding act rule_5 rule_6 rule_7 rule_11 rule_12 words
  act_good (I.Const a v) r at s h o is lr =
      let w = slots code r at (I.Const a v) (W.Number a) W.Free W.Free W.Free refl o in
      put_good code r at s a v h w.0 o.r11
  act_good (I.Move a b) r at s h o is lr =
      let w = slots code r at (I.Move a b) (W.Number a) (W.Number b) W.Free W.Free refl o in
      number_good code r s b _ h.ready (number_word code r b w.1).1 (λ v. put_good code r at s a v h w.0 o.r11)
  act_good (I.Add a b c) r at s h o is lr =
      let w = slots code r at (I.Add a b c) (W.Number a) (W.Number b) (W.Number c) W.Free refl o in
      two_good code r at s b c _ h w.1 w.2 (λ x y. fitted_good code r s (x +ℤ y) (put_number s a) h.ready
      (put_good code r at s a (x +ℤ y) h w.0 o.r11))
  act_good (I.Sub a b c) r at s h o is lr =
      let w = slots code r at (I.Sub a b c) (W.Number a) (W.Number b) (W.Number c) W.Free refl o in
      two_good code r at s b c _ h w.1 w.2 (λ x y. fitted_good code r s (x -ℤ y) (put_number s a) h.ready
      (put_good code r at s a (x -ℤ y) h w.0 o.r11))
  act_good (I.Mul a b c) r at s h o is lr =
      let w = slots code r at (I.Mul a b c) (W.Number a) (W.Number b) (W.Number c) W.Free refl o in
      two_good code r at s b c _ h w.1 w.2 (λ x y. fitted_good code r s (x *ℤ y) (put_number s a) h.ready
      (put_good code r at s a (x *ℤ y) h w.0 o.r11))
  act_good (I.Div a b c) r at s h o is lr =
      let w = slots code r at (I.Div a b c) (W.Number a) (W.Number b) (W.Number c) W.Free refl o in
      two_good code r at s b c _ h w.1 w.2 (λ x y. if_true_keeps (Good code) (is_zero y) _ _
      (λ _. fault_good code r s fault.ZeroDivide h.ready)
      (λ _. fitted_good code r s (div_down_of x y) (put_number s a) h.ready (put_good code r at s a (div_down_of x y) h w.0 o.r11)))
  act_good (I.Mod a b c) r at s h o is lr =
      let w = slots code r at (I.Mod a b c) (W.Number a) (W.Number b) (W.Number c) W.Free refl o in
      two_good code r at s b c _ h w.1 w.2 (λ x y. if_true_keeps (Good code) (is_zero y) _ _
      (λ _. fault_good code r s fault.ZeroDivide h.ready)
      (λ _. fitted_good code r s (mod_down_of x y) (put_number s a) h.ready (put_good code r at s a (mod_down_of x y) h w.0 o.r11)))
  act_good (I.Equal a b c) r at s h o is lr =
      let w = slots code r at (I.Equal a b c) (W.Number a) (W.Number b) (W.Number c) W.Free refl o in
      two_good code r at s b c _ h w.1 w.2 (λ x y. put_good code r at s a _ h w.0 o.r11)
  act_good (I.Less a b c) r at s h o is lr =
      let w = slots code r at (I.Less a b c) (W.Number a) (W.Number b) (W.Number c) W.Free refl o in
      two_good code r at s b c _ h w.1 w.2 (λ x y. put_good code r at s a _ h w.0 o.r11)
  act_good (I.LessEq a b c) r at s h o is lr =
      let w = slots code r at (I.LessEq a b c) (W.Number a) (W.Number b) (W.Number c) W.Free refl o in
      two_good code r at s b c _ h w.1 w.2 (λ x y. put_good code r at s a _ h w.0 o.r11)
  act_good (I.Neg a b) r at s h o is lr =
      let w = slots code r at (I.Neg a b) (W.Number a) (W.Number b) W.Free W.Free refl o in
      number_good code r s b _ h.ready (number_word code r b w.1).1
      (λ x. fitted_good code r s (neg_ℤ x) (put_number s a) h.ready (put_good code r at s a (neg_ℤ x) h w.0 o.r11))
  act_good (I.Flip a b) r at s h o is lr =
      let w = slots code r at (I.Flip a b) (W.Number a) (W.Number b) W.Free W.Free refl o in
      number_good code r s b _ h.ready (number_word code r b w.1).1 (λ x. put_good code r at s a _ h w.0 o.r11)
  act_good (I.InRange a t) r at s h o is lr =
      let w = slots code r at (I.InRange a t) (W.Number a) (W.Range t) W.Free W.Free refl o in
      let e = entries code r at (I.InRange a t) (W.Number a) (W.Range t) W.Free W.Free refl o in
      number_good code r s a _ h.ready (number_word code r a w.0).1
      (λ v. as_range_good code s t _ e.1 (λ q is. ranged_good code r s q fault.Range v _ h.ready
      (λ _. went_good code r s h.ready (next code r at s h o.r11))))
  act_good (I.Local a b) r at s h o is lr =
      let w = slots code r at (I.Local a b) (W.Place a) (W.Slot b) W.Free W.Free refl o in
      put_place_at code r at s a (top s) (λ _. b) h w.0 o.r11 (omega arith)
      (λ k lt. cells_of code (length_in code r a) (routines_of s.now) (top s) r b k (top_is code r s h.ready)
      (top_main code r s h.ready) o.r5 lt)
  act_good (I.Global a b) r at s h o is lr =
      let w = slots code r at (I.Global a b) (W.Place a) W.Free W.Free W.Free refl o in
      put_place_at code r at s a 0 (λ _. b) h w.0 o.r11 (omega arith)
      (λ k lt. cells_of code (length_in code r a) (routines_of s.now) 0 0 b k (first_is code r s h.ready) (λ _. refl) o.r5 lt)
  act_good (I.Same a b) r at s h o is lr =
      let w = slots code r at (I.Same a b) (W.Place a) (W.Place b) W.Free W.Free refl o in
      let e = eqb-true (length_in code r a) (length_in code r b) o.r5 in
      place_good code r s b (length_in code r b) _ h.ready (place_word code r b w.1).1
      (λ p len fits. put_place_at code r at s a p.frame (λ _. p.slot) h w.0 o.r11 fits.frame (λ k lt. fits.cells k (omega arith)))
  act_good (I.Field a b c) r at s h o is lr =
      let w = slots code r at (I.Field a b c) (W.Place a) (W.Place b) W.Free W.Free refl o in
      let e = leb-true (c + length_in code r a) (length_in code r b) o.r5 in
      place_good code r s b (length_in code r b) _ h.ready (place_word code r b w.1).1
      (λ p len fits. put_place_at code r at s a p.frame (λ _. p.slot + c) h w.0 o.r11 fits.frame
      (λ k lt.
      let z : p.slot + (c + k) ≡ p.slot + c + k = omega arith in
      subst (λ i. IsCell code (routines_of s.now) p.frame i) z (fits.cells (c + k) (omega arith))))
  act_good (I.Load a b) r at s h o is lr =
      let w = slots code r at (I.Load a b) (W.Number a) (W.Place b) W.Free W.Free refl o in
      one_good code r at s b _ h w.1 o.r7 (λ p lf c. content_good code r s p.frame p.slot _ h.ready lf c
      (λ v. known_good code r s v _ h.ready (λ x. put_good code r at s a x h w.0 o.r11)))
  act_good (I.Store a b) r at s h o is lr =
      let w = slots code r at (I.Store a b) (W.Place a) (W.Number b) W.Free W.Free refl o in
      one_good code r at s a _ h w.0 o.r7 (λ p lf c. number_good code r s b _ h.ready (number_word code r b w.1).1
      (λ v. store_good code r s p.frame p.slot v quiet_step h.ready lf c
      (λ h'. went_good code r (with_cell s p.frame p.slot (cell.Int v)) h' (next code r at s h o.r11))))
  act_good (I.Known a b) r at s h o is lr =
      let w = slots code r at (I.Known a b) (W.Number a) (W.Place b) W.Free W.Free refl o in
      one_good code r at s b _ h w.1 o.r7 (λ p lf c. content_good code r s p.frame p.slot _ h.ready lf c
      (λ v. put_good code r at s a _ h w.0 o.r11))
  act_good (I.Unify a b c d) r at s h o is lr =
      let w = slots code r at (I.Unify a b c d) (W.Place a) (W.Range b) (W.Place c) (W.Range d) refl o in
      let e = entries code r at (I.Unify a b c d) (W.Place a) (W.Range b) (W.Place c) (W.Range d) refl o in
      let q = and_parts (nat_eq (length_in code r a) 1) (nat_eq (length_in code r c) 1) o.r7 in
      one_good code r at s a _ h w.0 q.0 (λ p lf cf. as_range_good code s b _ e.1
      (λ t1 _. one_good code r at s c _ h w.2 q.1 (λ p2 lg cg. as_range_good code s d _ e.3
      (λ t2 _. equation_good code r s p.frame p.slot (Some t1) p2.frame p2.slot (Some t2) _ h.ready lf cf lg cg
      (λ t ht _ same. went_good code r t ht (subst (λ n. is_address code r n ≡ true) (sym same) (next code r at s h o.r11)))))))
  act_good (I.Jump a) r at s h o is lr =
      let e = addresses code r at (I.Jump a) (W.Address a) W.Free W.Free W.Free refl o in
      goes_good code r at s a h e.0
  act_good (I.JumpZero a b) r at s h o is lr =
      let w = slots code r at (I.JumpZero a b) (W.Number a) (W.Address b) W.Free W.Free refl o in
      let e = addresses code r at (I.JumpZero a b) (W.Number a) (W.Address b) W.Free W.Free refl o in
      number_good code r s a _ h.ready (number_word code r a w.0).1
      (λ v. if_true_keeps (Good code) (is_zero v) _ _ (λ _. goes_good code r at s b h e.1)
      (λ _. went_good code r s h.ready (next code r at s h o.r11)))
  act_good (I.Check a) r at s h o is lr =
      let w = slots code r at (I.Check a) (W.Number a) W.Free W.Free W.Free refl o in
      number_good code r s a _ h.ready (number_word code r a w.0).1
      (λ v. if_true_keeps (Good code) (is_zero v) _ _ (λ _. fails_good code r s h.ready)
      (λ _. went_good code r s h.ready (next code r at s h o.r11)))
  act_good I.Fail r at s h o is lr = fails_good code r s h.ready
  act_good (I.Own a) r at s h o is lr =
      let w = slots code r at (I.Own a) (W.Link a) W.Free W.Free W.Free refl o in
      put_link_good code r s a r (top s) h.ready (link_of_is r (kind_in code r a) o.r5) (link_word code r a w.0).0 (omega arith)
      (top_is code r s h.ready) (next code r at s h o.r11)
  act_good (I.Chain a b c) r at s h o is lr =
      let w = slots code r at (I.Chain a b c) (W.Link a) (W.Link b) W.Free W.Free refl o in
      let to = link_in code r a in
      let from = link_in code r b in
      link_good code r s b from _ h.ready (link_word code r b w.1).1
      (λ f le fr. link_in_good code r s f c from to _ h.ready le fr (link_of_is to (kind_in code from c) o.r5)
      (λ p lp pr. put_link_good code r s a to p.frame h.ready (link_word code r a w.0).1 (link_word code r a w.0).0 lp pr
      (next code r at s h o.r11)))
  act_good (I.Outer a b c) r at s h o is lr =
      let w = slots code r at (I.Outer a b c) (W.Place a) (W.Link b) W.Free W.Free refl o in
      let from = link_in code r b in
      let known = (link_word code r b w.1).1 in
      let above = link_above code r b from (sound.heads r lr).1 known in
      link_good code r s b from _ h.ready known
      (λ f le fr. put_place_at code r at s a f (λ _. c) h w.0 o.r11 le
      (λ k lt. outer_cells code r s f from (length_in code r a) c k h.ready fr above o.r5 lt))
  act_good (I.OuterSame a b c) r at s h o is lr =
      let w = slots code r at (I.OuterSame a b c) (W.Place a) (W.Link b) W.Free W.Free refl o in
      let from = link_in code r b in
      let l = length_in code r a in
      link_good code r s b from _ h.ready (link_word code r b w.1).1
      (λ f le fr. place_in_good code r s f c from l _ h.ready le fr (place_of_is l (kind_in code from c) o.r5)
      (λ p len fits. put_place_at code r at s a p.frame (λ _. p.slot) h w.0 o.r11 fits.frame (λ k lt. fits.cells k (omega arith))))
  act_good (I.Mark a) r at s h o is lr =
      let w = slots code r at (I.Mark a) (W.Mark a) W.Free W.Free W.Free refl o in
      put_mark_good code r s a (length s.held) h.ready (mark_word code r a w.0).1 (mark_word code r a w.0).0 (next code r at s h o.r11)
  act_good (I.Bind a b c) r at s h o is lr =
      let w = slots code r at (I.Bind a b c) (W.Place a) (W.Number b) (W.Range c) W.Free refl o in
      let e = entries code r at (I.Bind a b c) (W.Place a) (W.Number b) (W.Range c) W.Free refl o in
      one_good code r at s a _ h w.0 o.r7 (λ p lf cf. number_good code r s b _ h.ready (number_word code r b w.1).1
      (λ v. as_range_good code s c _ e.2
      (λ t _. content_good code r s p.frame p.slot _ h.ready lf cf
      (λ u. bound_good code r at s p t v u h lf cf (next code r at s h o.r11)))))
  act_good (I.CopyCells a b) r at s h o is lr =
      let w = slots code r at (I.CopyCells a b) (W.Place a) (W.Place b) W.Free W.Free refl o in
      let e = eqb-true (length_in code r a) (length_in code r b) o.r7 in
      place_good code r s a (length_in code r a) _ h.ready (place_word code r a w.0).1
      (λ p lp fp. place_good code r s b (length_in code r b) _ h.ready (place_word code r b w.1).1
      (λ q lq fq. copied_good code r s (next code r at s h o.r11) h.ready p.len s p.frame p.slot q.frame q.slot h.ready refl refl
      (frame_live code r s p h.ready fp) (frame_live code r s q h.ready fq) fp.cells (λ k lt. fq.cells k (omega arith))))
  act_good (I.SameCells a b) r at s h o is lr =
      let w = slots code r at (I.SameCells a b) (W.Place a) (W.Place b) W.Free W.Free refl o in
      let e = eqb-true (length_in code r a) (length_in code r b) o.r7 in
      place_good code r s a (length_in code r a) _ h.ready (place_word code r a w.0).1
      (λ p lp fp. place_good code r s b (length_in code r b) _ h.ready (place_word code r b w.1).1
      (λ q lq fq. equations_good code r s (next code r at s h o.r11) p.len s p.frame p.slot q.frame q.slot h.ready refl refl
      (frame_live code r s p h.ready fp) (frame_live code r s q h.ready fq) fp.cells (λ k lt. fq.cells k (omega arith))))
  act_good (I.Cut a) r at s h o is lr =
      let w = slots code r at (I.Cut a) (W.Mark a) W.Free W.Free W.Free refl o in
      mark_good code r s a _ h.ready (mark_word code r a w.0).1 (λ n. cut_good code r s n h.ready (next code r at s h o.r11))
  act_good (I.Choose a) r at s h o is lr =
      let e = addresses code r at (I.Choose a) (W.Address a) W.Free W.Free W.Free refl o in
      went_good code r (state_after_push s choice.Branch a) (pushed_ready code r s choice.Branch a h.ready e.0) (next code r at s h o.r11)
  act_good (I.Forall a b) r at s h o is lr =
      let w = slots code r at (I.Forall a b) (W.Mark a) (W.Address b) W.Free W.Free refl o in
      let e = addresses code r at (I.Forall a b) (W.Mark a) (W.Address b) W.Free W.Free refl o in
      let k = mark_is (kind_in code r a) (mark_word code r a w.0).1 in
      let has = has_slot code r s a slot.Mark h.ready k in
      let t = state_after_push s choice.Forall b in
      subst (λ x. Good code (to_mark x s (λ _. answer_of_push (with_slot t a (cell.Mark (length s.held + 1)))))) (sym has.kind_is)
      (went_good code r (with_slot t a (cell.Mark (length s.held + 1)))
      (slot_ready code r t a slot.Mark (cell.Mark (length s.held + 1)) (pushed_ready code r s choice.Forall b h.ready e.1) k
      (mark_word code r a w.0).0 tt)
      (next code r at s h o.r11))
  act_good (I.WriteInt a) r at s h o is lr =
      let w = slots code r at (I.WriteInt a) (W.Number a) W.Free W.Free W.Free refl o in
      number_good code r s a _ h.ready (number_word code r a w.0).1 (λ v. went_good code r s h.ready (next code r at s h o.r11))
  act_good (I.WriteChar a) r at s h o is lr =
      let w = slots code r at (I.WriteChar a) (W.Number a) W.Free W.Free W.Free refl o in
      number_good code r s a _ h.ready (number_word code r a w.0).1 (λ v. went_good code r s h.ready (next code r at s h o.r11))
  act_good (I.WriteBool a) r at s h o is lr =
      let w = slots code r at (I.WriteBool a) (W.Number a) W.Free W.Free W.Free refl o in
      number_good code r s a _ h.ready (number_word code r a w.0).1 (λ v. went_good code r s h.ready (next code r at s h o.r11))
  act_good (I.WriteText a) r at s h o is lr =
      let e = entries code r at (I.WriteText a) (W.Text a) W.Free W.Free W.Free refl o in
      subst (λ t. Good code (as_text t s)) (sym (slice_get-get_or code.texts a [] (ltb-true a (length code.texts) e.0)))
      (went_good code r s h.ready (next code r at s h o.r11))
  act_good I.WriteLine r at s h o is lr = went_good code r s h.ready (next code r at s h o.r11)
  act_good (I.Fault n) r at s h o is lr =
      elim (or_cases (nat_eq n 5) (nat_eq n 6) o.r12) [
        | inl e ↦ subst (λ m. Good code (as_fault (slice_get run_faults m) s)) (sym (eqb-true n 5 e))
            (fault_good code r s fault.NoCase h.ready)
        | inr e ↦ subst (λ m. Good code (as_fault (slice_get run_faults m) s)) (sym (eqb-true n 6 e))
            (fault_good code r s fault.NoReturn h.ready)
      ]
  act_good (I.Step a b c d) r at s h o is lr =
      let w = slots code r at (I.Step a b c d) (W.Number a) (W.Number b) (W.Number c) (W.Address d) refl o in
      let e = addresses code r at (I.Step a b c d) (W.Number a) (W.Number b) (W.Number c) (W.Address d) refl o in
      number_good code r s a _ h.ready (number_word code r a w.0).1 (λ x. two_good code r at s b c _ h w.1 w.2
      (λ y z. if_true_keeps (Good code) (is_beyond (x +ℤ z) y z) _ _ (λ _. goes_good code r at s d h e.3)
      (λ _. put_good code r at s a (x +ℤ z) h w.0 o.r11)))
  act_good (I.ReadInt a t) r at s h o is lr =
      let w = slots code r at (I.ReadInt a t) (W.Place a) (W.Range t) W.Free W.Free refl o in
      let e = entries code r at (I.ReadInt a t) (W.Place a) (W.Range t) W.Free W.Free refl o in
      one_good code r at s a _ h w.0 o.r7 (λ p lf cf. as_range_good code s t _ e.1
      (λ q _. position_good code r s (λ n. takes_read s q p (number_from input n)) h.ready
      (λ n ls ll. found_good code r at s q p (number_from input n) h lf cf ls ll (next code r at s h o.r11))))
  act_good (I.ReadChar a t) r at s h o is lr =
      let w = slots code r at (I.ReadChar a t) (W.Place a) (W.Range t) W.Free W.Free refl o in
      let e = entries code r at (I.ReadChar a t) (W.Place a) (W.Range t) W.Free W.Free refl o in
      one_good code r at s a _ h w.0 o.r7 (λ p lf cf. as_range_good code s t _ e.1
      (λ q _. position_good code r s (λ n. byte_or_failure s q p n (slice_get input n)) h.ready
      (λ n ls ll. char_good code r at s q p n (slice_get input n) h lf cf ls ll (next code r at s h o.r11))))
  act_good (I.Overlay a b) r at s h o is lr =
      let w = slots code r at (I.Overlay a b) (W.Mark a) (W.Address b) W.Free W.Free refl o in
      let e = addresses code r at (I.Overlay a b) (W.Mark a) (W.Address b) W.Free W.Free refl o in
      mark_good code r s a _ h.ready (mark_word code r a w.0).1
      (λ n. let t = overlay s n in
      let ready = overlay_ready code r s n h.ready in
      went_good code r (state_after_push t choice.Body b) (pushed_ready code r t choice.Body b ready.0 e.1)
      (subst (λ m. is_address code r m ≡ true) (sym ready.1) (next code r at s h o.r11)))
  act_good I.Finish r at s h o is lr = finish_good code r s h.ready (next code r at s h o.r11)
  act_good I.Return r at s h o is lr =
      if_true_keeps (Good code) (nat_eq (length s.now) 1) _ _
      (λ _. ended_good code r s end.Succeeded h.ready)
      (λ b.
      let ne = eqb-false (length s.now) 1 b in
      let l = left_ready code r s h.ready (omega (arith, h.ready.frames.some)) in
      went_good code l.caller (state_after_leave s) l.ready l.at)
  act_good (I.ReturnValue a) r at s h o is lr =
      let w = slots code r at (I.ReturnValue a) (W.Number a) W.Free W.Free W.Free refl o in
      number_good code r s a _ h.ready (number_word code r a w.0).1 (λ v. result_good code sound r s v h.ready o.r12)
  act_good (I.Keep a) r at s h o is lr =
      let w = slots code r at (I.Keep a) (W.Mark a) W.Free W.Free W.Free refl o in
      mark_good code r s a _ h.ready (mark_word code r a w.0).1 (λ n. keep_good code r s n h.ready (next code r at s h o.r11))
  act_good (I.Index a b c d) r at s h o is lr =
      let w = slots code r at (I.Index a b c d) (W.Place a) (W.Place b) (W.Number c) (W.Range d) refl o in
      let e = entries code r at (I.Index a b c d) (W.Place a) (W.Place b) (W.Number c) (W.Range d) refl o in
      let l = length_in code r a in
      place_good code r s b (length_in code r b) _ h.ready (place_word code r b w.1).1
      (λ p lp fits. number_good code r s c _ h.ready (number_word code r c w.2).1
      (λ v. as_range_good code s d _ e.3 (λ t here. ranged_good code r s t fault.Index v _ h.ready
      (λ within.
      let room : range_size t * l ≤ length_in code r b =
      leb-true (range_size t * l) (length_in code r b) (subst (λ q. has_room q l (length_in code r b) ≡ true) here o.r6) in
      put_place_at code r at s a p.frame (λ m. p.slot + nat_abs (v -ℤ t.low) * m) h w.0 o.r11 fits.frame
      (λ k lt.
      let j : ℕ = nat_abs (v -ℤ t.low) * l + k in
      let z : p.slot + j ≡ p.slot + nat_abs (v -ℤ t.low) * l + k = omega arith in
      let inside : j < length_in code r b = offset_within t.low v t.high l k (length_in code r b) within room lt in
      subst (λ i. IsCell code (routines_of s.now) p.frame i) z (fits.cells j (omega arith)))))))
  act_good (I.Call c first to) r at s h o is lr = call_good code sound r at s c first to h o.r10 is
