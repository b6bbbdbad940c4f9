-- A step of a sound code keeps that frames have bases.
use Rattle.std.proofs.Common.{◌≡◌, ℕ, suc, ◌+◌, ◌-◌, ◌*◌, ◌<◌, ◌≤◌, inl, inr, List, [], ◌∷◌, ◌++◌, length, get_or, take, refl, sym}
use Rattle.std.proofs.Common.{ap, ◌∙◌, subst, arith, Option, Some, None}
use Rattle.std.specs.Prelude.{pos, ◌+ℤ◌, ◌-ℤ◌, ◌*ℤ◌, neg_ℤ, nat_abs, slice_get, true, false, not, ◌&&◌, nat_eq, nat_le, nat_lt}
use Rattle.std.specs.List.{list_all}
use Rattle.std.proofs.lemmas.Bool.{false≢true, and_parts, cases_eq, leb-true, ltb-true, not-true}
use Rattle.std.proofs.lemmas.List.{append-nil, length-append, length-take-le}
use Rattle.std.proofs.lemmas.Option.{slice_get-get_or}
use Rattle.std.proofs.Math.ListN.{get_or-append}
use Rattle.alma_base.specs.declared.fault.RunFault.{RunFault}
use Rattle.alma_base.specs.declared.fault.RunFault.TheVariants as fault
use Rattle.alma_base.specs.Numbers.{is_zero, div_down_of, mod_down_of, is_beyond}
use Rattle.alma_base.specs.Reading.{number_from}
use Rattle.alma_code.proofs.Tables.{end_inside}
use Rattle.alma_code.specs.declared.cell.Cell.TheVariants as cell
use Rattle.alma_code.specs.declared.cell.ChoiceKind.{ChoiceKind}
use Rattle.alma_code.specs.declared.cell.ChoiceKind.TheVariants as choice
use Rattle.alma_code.specs.declared.instr.Instr.{Instr}
use Rattle.alma_code.specs.declared.instr.Instr.TheVariants as I
use Rattle.alma_code.specs.Fits.{FitsHeld, FitsMode, Fits}
use Rattle.alma_code.specs.Layout.{blank_cells}
use Rattle.alma_code.specs.Machine.{Mode, Going, Failing, Ended, Stuck, State, quiet_step, top, slot_in, put_number, as_fault, run_faults}
use Rattle.alma_code.specs.Machine.{takes_read, byte_or_failure, act, step, step_in, fetch_and_act, with_step_counted, start}
use Rattle.alma_code.specs.Machine.{pop_or_end}
use Rattle.alma_code.specs.Picture.{PlainFrame, PlainEntry, no_frame, no_entry, last_frame, top_of, entry_at, entry_of_kind_after_pop}
use Rattle.alma_code.specs.Plain.{PlainCode, head_at, kinds_at, start_at, end_at}
use Rattle.alma_code.specs.Rules.{IsSound, is_main, is_global, rule_12}
use Rattle.alma_code_laws.proofs.Acts.{Obeys, obeys}
use Rattle.alma_code_laws.proofs.Ready.{Ready, if_true_keeps}
use Rattle.alma_code_laws.proofs.Runs.{first_number}
use Rattle.alma_lower_slots.specs.Slots.{away, is_finish, is_forall}
use Rattle.alma_lower_slots.specs.Sharing.{Sharing, Shares}
use Rattle.alma_lower_slots.proofs.Based.{AtFinish, BasedBy, BasedAt, BasedIn, BasedState}
use Rattle.alma_lower_slots.proofs.Bases.{has_self, based_pushed, based_plain}
use Rattle.alma_lower_slots.proofs.BasedHeld.{NoDone, no_done_taken, Entries, entries_taken, entries_pushed, settled, stopped}
use Rattle.alma_lower_slots.proofs.BasedHeld.{Leaves}
use Rattle.alma_lower_slots.proofs.BasedCalls.{blank_no_marks, call_leaves}
use Rattle.alma_lower_slots.proofs.BasedForms.{Taking, mine, goes_away, no_done, calm, quiet, halts, mark_leaves, cut_leaves, choose_leaves}
use Rattle.alma_lower_slots.proofs.BasedForms.{forall_leaves, overlay_leaves, keep_leaves, finish_leaves, return_leaves}
use Rattle.alma_lower_slots.proofs.BasedForms.{return_value_leaves}
use Rattle.alma_lower_slots.proofs.CalmActs.{Quiet, number_calm, two_calm, put_number_calm, integer_calm, content_calm, store_calm}
use Rattle.alma_lower_slots.proofs.CalmActs.{known_calm, as_range_calm, ranged_calm, bound_calm, equation_calm, equations_calm, copies_calm}
use Rattle.alma_lower_slots.proofs.CalmActs.{position_calm, found_calm, byte_calm, as_place_calm, place_calm, link_calm, put_place_calm}
use Rattle.alma_lower_slots.proofs.CalmActs.{put_link_calm, text_calm}

-- the frame in which a run begins, before the input position is written
abbrev blank_start : PlainCode → List PlainFrame
blank_start code =
    record {
      routine = 0;
      back = 0;
      declared = (head_at code 0).declared;
      kinds = kinds_at code 0;
      cells = blank_cells (head_at code 0);
    } ∷ []

-- it has a base
blank_based : (code : PlainCode) → BasedBy code (λ f. 0) (blank_start code) []
blank_based code = record {
  rise = λ f g le lg. omega arith;
  low = λ f lf. omega arith;
  has = λ f k lf lk le. absurd (omega arith);
  marks = λ f n m lf e. omega arith;
  bodies = λ f n m lf e body.
      let first : f ≡ 0 = omega arith in
      absurd (blank_no_marks (kinds_at code 0) n m
      (subst (λ g. slice_get (get_or (blank_start code) g no_frame).cells n ≡ Some (cell.Mark m)) first e));
}

-- the instruction at the next address is taken: nothing of the state changes that matters here
pub based_taken : (code : PlainCode) (t u : State) (at : ℕ) → BasedIn code at t → u.now ≡ t.now → u.held ≡ t.held → u.mode ≡ t.mode
    → BasedIn code at u
based_taken code t u at h now held mode = record {
  now = λ g.
      let b = h.now (sym mode ∙ g) in
      subst (λ fs. BasedAt code at fs u.held) (sym now) (subst (λ xs. BasedAt code at t.now xs) (sym held) b);
  held = subst (λ xs. Entries code xs) (sym held) h.held;
  done = λ k some le e.
      let there : k ≤ length t.held = omega (arith, ap length held) in
      let d = h.done k some there (subst (λ xs. (entry_at xs k).kind ≡ choice.Done) held e) in
      (d.0 ∙ sym (ap length held), mode ∙ d.1, d.2);
}

module _ (code : PlainCode) (s : Sharing) (sound : IsSound code) (shares : Shares code s) (input : List ℕ) where
  -- the first routine has no result
  main_has_no_result : (head_at code 0).has_result ≡ false
  main_has_no_result =
      let one = (sound.heads 0 sound.table.some).0 in
      let x = (and_parts (nat_lt (start_at code 0) (end_at code 0)) (is_main code 0) one).1 in
      let y = (and_parts (nat_eq (length (head_at code 0).params) 0)
      (not (head_at code 0).has_result && list_all (is_global code) code.globals) x).1 in
      not-true (head_at code 0).has_result (and_parts (not (head_at code 0).has_result) (list_all (is_global code) code.globals) y).0

  -- where a routine has a result there is one that called it
  caller_there : (r : ℕ) (t : State) → Ready code r t → (head_at code r).has_result ≡ true → 2 ≤ length t.now
  caller_there r t ready has =
      let some = ready.frames.some in
      let fits = ready.frames.each (length t.now - 1) (omega arith) in
      elim (cases_eq (length t.now - 1) 0) [
        | inl e ↦
            let first : r ≡ 0 = sym ready.routine ∙ fits.main e in
            absurd (false≢true (sym main_has_no_result ∙ ap (λ q. (head_at code q).has_result) (sym first) ∙ has))
        | inr ne ↦ omega arith
      ]

  -- a fault that may not be there
  fault_leaves : (r at n : ℕ) (o : Option RunFault) (t : State) → Taking code s r at (I.Fault n) t → Leaves code (as_fault o t)
  unfolding is_finish
  fault_leaves r at n (Some x) t h = halts code s h refl _ refl (λ e. absurd (cc))
  fault_leaves r at n None t h = halts code s h refl _ refl (λ e. absurd (cc))

  -- what an instruction does: one clause for each form
  act_leaves : (i : Instr) (r at : ℕ) (t : State) → Taking code s r at i t → Obeys code r at i → Leaves code (act code input i t)
  unfolding act away is_finish is_forall rule_12
  act_leaves (I.Const a v) r at t h o =
      let base = (mine code s h).base in
      let c = calm code s h refl in
      quiet code s h refl _
      (put_number_calm code base t.held t a v c)
  act_leaves (I.Move a b) r at t h o =
      let base = (mine code s h).base in
      let c = calm code s h refl in
      quiet code s h refl _
      (number_calm code base t.held t b _ c (λ v. put_number_calm code base t.held t a v c))
  act_leaves (I.Add a b d) r at t h o =
      let base = (mine code s h).base in
      let c = calm code s h refl in
      quiet code s h refl _
      (two_calm code base t.held t b d _ c (λ x y. integer_calm code base t.held t (x +ℤ y) (put_number t a) c
      (λ v. put_number_calm code base t.held t a v c)))
  act_leaves (I.Sub a b d) r at t h o =
      let base = (mine code s h).base in
      let c = calm code s h refl in
      quiet code s h refl _
      (two_calm code base t.held t b d _ c (λ x y. integer_calm code base t.held t (x -ℤ y) (put_number t a) c
      (λ v. put_number_calm code base t.held t a v c)))
  act_leaves (I.Mul a b d) r at t h o =
      let base = (mine code s h).base in
      let c = calm code s h refl in
      quiet code s h refl _
      (two_calm code base t.held t b d _ c (λ x y. integer_calm code base t.held t (x *ℤ y) (put_number t a) c
      (λ v. put_number_calm code base t.held t a v c)))
  act_leaves (I.Div a b d) r at t h o =
      let base = (mine code s h).base in
      let c = calm code s h refl in
      quiet code s h refl _
      (two_calm code base t.held t b d _ c (λ x y. if_true_keeps (Quiet code base t.held) (is_zero y) _ _
      (λ _. record { by = c.by; held = c.held; at = c.at })
      (λ _. integer_calm code base t.held t (div_down_of x y) (put_number t a) c (λ v. put_number_calm code base t.held t a v c))))
  act_leaves (I.Mod a b d) r at t h o =
      let base = (mine code s h).base in
      let c = calm code s h refl in
      quiet code s h refl _
      (two_calm code base t.held t b d _ c (λ x y. if_true_keeps (Quiet code base t.held) (is_zero y) _ _
      (λ _. record { by = c.by; held = c.held; at = c.at })
      (λ _. integer_calm code base t.held t (mod_down_of x y) (put_number t a) c (λ v. put_number_calm code base t.held t a v c))))
  act_leaves (I.Neg a b) r at t h o =
      let base = (mine code s h).base in
      let c = calm code s h refl in
      quiet code s h refl _
      (number_calm code base t.held t b _ c (λ x. integer_calm code base t.held t (neg_ℤ x) (put_number t a) c
      (λ v. put_number_calm code base t.held t a v c)))
  act_leaves (I.Equal a b d) r at t h o =
      let base = (mine code s h).base in
      let c = calm code s h refl in
      quiet code s h refl _
      (two_calm code base t.held t b d _ c (λ x y. put_number_calm code base t.held t a _ c))
  act_leaves (I.Less a b d) r at t h o =
      let base = (mine code s h).base in
      let c = calm code s h refl in
      quiet code s h refl _
      (two_calm code base t.held t b d _ c (λ x y. put_number_calm code base t.held t a _ c))
  act_leaves (I.LessEq a b d) r at t h o =
      let base = (mine code s h).base in
      let c = calm code s h refl in
      quiet code s h refl _
      (two_calm code base t.held t b d _ c (λ x y. put_number_calm code base t.held t a _ c))
  act_leaves (I.Flip a b) r at t h o =
      let base = (mine code s h).base in
      let c = calm code s h refl in
      quiet code s h refl _
      (number_calm code base t.held t b _ c (λ x. put_number_calm code base t.held t a _ c))
  act_leaves (I.InRange a b) r at t h o =
      let base = (mine code s h).base in
      let c = calm code s h refl in
      quiet code s h refl _
      (number_calm code base t.held t a _ c (λ v. as_range_calm code base t.held (slice_get code.ranges b) t _ c
      (λ x e. ranged_calm code base t.held x fault.Range t v _ c (λ _. c))))
  act_leaves (I.Local a b) r at t h o =
      let base = (mine code s h).base in
      let c = calm code s h refl in
      quiet code s h refl _
      (put_place_calm code base t.held t a (top t) (λ _. b) c)
  act_leaves (I.Global a b) r at t h o =
      let base = (mine code s h).base in
      let c = calm code s h refl in
      quiet code s h refl _
      (put_place_calm code base t.held t a 0 (λ _. b) c)
  act_leaves (I.Same a b) r at t h o =
      let base = (mine code s h).base in
      let c = calm code s h refl in
      quiet code s h refl _
      (place_calm code base t.held t b _ c (λ p. put_place_calm code base t.held t a p.frame (λ _. p.slot) c))
  act_leaves (I.Field a b d) r at t h o =
      let base = (mine code s h).base in
      let c = calm code s h refl in
      quiet code s h refl _
      (place_calm code base t.held t b _ c (λ p. put_place_calm code base t.held t a p.frame (λ _. p.slot + d) c))
  act_leaves (I.Index a b d k) r at t h o =
      let base = (mine code s h).base in
      let c = calm code s h refl in
      quiet code s h refl _
      (place_calm code base t.held t b _ c (λ p. number_calm code base t.held t d _ c
      (λ v. as_range_calm code base t.held (slice_get code.ranges k) t _ c
      (λ q e. ranged_calm code base t.held q fault.Index t v _ c (λ w. put_place_calm code base t.held t a p.frame
      (λ l. p.slot + nat_abs (v -ℤ q.low) * l) c)))))
  act_leaves (I.Load a b) r at t h o =
      let base = (mine code s h).base in
      let c = calm code s h refl in
      quiet code s h refl _
      (place_calm code base t.held t b _ c (λ p. content_calm code base t.held t p.frame p.slot _ c
      (λ u. known_calm code base t.held u t _ c (λ v. put_number_calm code base t.held t a v c))))
  act_leaves (I.Store a b) r at t h o =
      let base = (mine code s h).base in
      let c = calm code s h refl in
      quiet code s h refl _
      (place_calm code base t.held t a _ c (λ p. number_calm code base t.held t b _ c
      (λ v. store_calm code base t.held t p.frame p.slot v quiet_step c (λ u hu. hu))))
  act_leaves (I.Known a b) r at t h o =
      let base = (mine code s h).base in
      let c = calm code s h refl in
      quiet code s h refl _
      (place_calm code base t.held t b _ c (λ p. content_calm code base t.held t p.frame p.slot _ c
      (λ u. put_number_calm code base t.held t a _ c)))
  act_leaves (I.Bind a b d) r at t h o =
      let base = (mine code s h).base in
      let c = calm code s h refl in
      quiet code s h refl _
      (place_calm code base t.held t a _ c (λ p. number_calm code base t.held t b _ c
      (λ v. as_range_calm code base t.held (slice_get code.ranges d) t _ c
      (λ q e. content_calm code base t.held t p.frame p.slot _ c (λ u. bound_calm code base t.held t p q v u c)))))
  act_leaves (I.Unify a b d k) r at t h o =
      let base = (mine code s h).base in
      let c = calm code s h refl in
      quiet code s h refl _
      (place_calm code base t.held t a _ c (λ p. as_range_calm code base t.held (slice_get code.ranges b) t _ c
      (λ x e. place_calm code base t.held t d _ c (λ q. as_range_calm code base t.held (slice_get code.ranges k) t _ c
      (λ y z. equation_calm code base t.held t p.frame p.slot (Some x) q.frame q.slot (Some y) quiet_step c (λ u hu. hu))))))
  act_leaves (I.CopyCells a b) r at t h o =
      let base = (mine code s h).base in
      let c = calm code s h refl in
      quiet code s h refl _
      (place_calm code base t.held t a _ c (λ p. place_calm code base t.held t b _ c
      (λ q. copies_calm code base t.held r t h.here.ready p.len t p.frame p.slot q.frame q.slot c)))
  act_leaves (I.SameCells a b) r at t h o =
      let base = (mine code s h).base in
      let c = calm code s h refl in
      quiet code s h refl _
      (place_calm code base t.held t a _ c (λ p. place_calm code base t.held t b _ c
      (λ q. equations_calm code base t.held p.len t p.frame p.slot q.frame q.slot c)))
  act_leaves (I.Check a) r at t h o =
      let base = (mine code s h).base in
      let c = calm code s h refl in
      quiet code s h refl _
      (number_calm code base t.held t a _ c (λ v. if_true_keeps (Quiet code base t.held) (is_zero v) _ _
      (λ _. record { by = c.by; held = c.held; at = c.at }) (λ _. c)))
  act_leaves (I.JumpZero a k) r at t h o =
      let base = (mine code s h).base in
      let c = calm code s h refl in
      quiet code s h refl _
      (number_calm code base t.held t a _ c (λ v. if_true_keeps (Quiet code base t.held) (is_zero v) _ _
      (λ _. record { by = c.by; held = c.held; at = goes_away code s h refl k refl }) (λ _. c)))
  act_leaves (I.Step a b d k) r at t h o =
      let base = (mine code s h).base in
      let c = calm code s h refl in
      quiet code s h refl _
      (number_calm code base t.held t a _ c (λ x. two_calm code base t.held t b d _ c
      (λ y z. if_true_keeps (Quiet code base t.held) (is_beyond (x +ℤ z) y z) _ _
      (λ _. record { by = c.by; held = c.held; at = goes_away code s h refl k refl })
      (λ _. put_number_calm code base t.held t a (x +ℤ z) c))))
  act_leaves (I.ReadInt a k) r at t h o =
      let base = (mine code s h).base in
      let c = calm code s h refl in
      quiet code s h refl _
      (place_calm code base t.held t a _ c (λ p. as_range_calm code base t.held (slice_get code.ranges k) t _ c
      (λ q e. position_calm code base t.held t (λ m. takes_read t q p (number_from input m)) c
      (λ m. found_calm code base t.held t q p (number_from input m) c))))
  act_leaves (I.ReadChar a k) r at t h o =
      let base = (mine code s h).base in
      let c = calm code s h refl in
      quiet code s h refl _
      (place_calm code base t.held t a _ c (λ p. as_range_calm code base t.held (slice_get code.ranges k) t _ c
      (λ q e. position_calm code base t.held t (λ m. byte_or_failure t q p m (slice_get input m)) c
      (λ m. byte_calm code base t.held t q p m (slice_get input m) c))))
  act_leaves (I.WriteInt a) r at t h o =
      let base = (mine code s h).base in
      let c = calm code s h refl in
      quiet code s h refl _
      (number_calm code base t.held t a _ c (λ v. record { by = c.by; held = c.held; at = c.at }))
  act_leaves (I.WriteChar a) r at t h o =
      let base = (mine code s h).base in
      let c = calm code s h refl in
      quiet code s h refl _
      (number_calm code base t.held t a _ c (λ v. record { by = c.by; held = c.held; at = c.at }))
  act_leaves (I.WriteBool a) r at t h o =
      let base = (mine code s h).base in
      let c = calm code s h refl in
      quiet code s h refl _
      (number_calm code base t.held t a _ c (λ v. record { by = c.by; held = c.held; at = c.at }))
  act_leaves (I.WriteText a) r at t h o =
      let base = (mine code s h).base in
      let c = calm code s h refl in
      quiet code s h refl _
      (text_calm code base t.held (slice_get code.texts a) t c)
  act_leaves I.WriteLine r at t h o =
      let base = (mine code s h).base in
      let c = calm code s h refl in
      quiet code s h refl _
      (record { by = c.by; held = c.held; at = c.at })
  act_leaves (I.Own a) r at t h o =
      let base = (mine code s h).base in
      let c = calm code s h refl in
      quiet code s h refl _
      (put_link_calm code base t.held t a (top t) c)
  act_leaves (I.Chain a b k) r at t h o =
      let base = (mine code s h).base in
      let c = calm code s h refl in
      quiet code s h refl _
      (link_calm code base t.held t b _ c (λ x. as_place_calm code base t.held (slot_in t x k) t _ c
      (λ p. put_link_calm code base t.held t a p.frame c)))
  act_leaves (I.Outer a b k) r at t h o =
      let base = (mine code s h).base in
      let c = calm code s h refl in
      quiet code s h refl _
      (link_calm code base t.held t b _ c (λ x. put_place_calm code base t.held t a x (λ _. k) c))
  act_leaves (I.OuterSame a b k) r at t h o =
      let base = (mine code s h).base in
      let c = calm code s h refl in
      quiet code s h refl _
      (link_calm code base t.held t b _ c (λ x. as_place_calm code base t.held (slot_in t x k) t _ c
      (λ p. put_place_calm code base t.held t a p.frame (λ _. p.slot) c)))
  act_leaves (I.Jump a) r at t h o =
      quiet code s h refl _ (record { by = (mine code s h).by; held = refl; at = goes_away code s h refl a refl })
  act_leaves I.Fail r at t h o = halts code s h refl _ refl (λ e. absurd (cc))
  act_leaves (I.Fault n) r at t h o = fault_leaves r at n (slice_get run_faults n) t h
  act_leaves (I.Mark a) r at t h o = mark_leaves code s r at a t h
  act_leaves (I.Cut a) r at t h o = cut_leaves code s r at a t h
  act_leaves (I.Choose a) r at t h o = choose_leaves code s r at a t h
  act_leaves (I.Forall a b) r at t h o = forall_leaves code s r at a b t h
  act_leaves (I.Overlay a b) r at t h o = overlay_leaves code s r at a b t h
  act_leaves (I.Keep a) r at t h o = keep_leaves code s r at a t h
  act_leaves I.Finish r at t h o = finish_leaves code s r at t h
  act_leaves (I.Call d first to) r at t h o =
      call_leaves code (mine code s h).base r t d first h.here.ready (mine code s h).by h.based.held (no_done code s h refl)
      (λ lt e. false≢true (sym (shares.routines d lt).begins ∙ e))
  act_leaves I.Return r at t h o = return_leaves code s shares r at t h
  act_leaves (I.ReturnValue a) r at t h o = return_value_leaves code s shares r at a t h (caller_there r t h.here.ready o.r12)

  -- ---- steps

  -- a pop, by the kind of the entry on top
  popped : (kind : ChoiceKind) (t u : State) → (top_of t.held).kind ≡ kind → 1 ≤ length t.held → FitsHeld code t.held
      → Entries code t.held → NoDone t.held → u.mode ≡ Going → u.at ≡ (top_of t.held).resume → u.now ≡ (top_of t.held).frames
      → u.held ≡ take (length t.held - 1) t.held ++ entry_of_kind_after_pop kind (top_of t.held) → BasedState code u
  popped choice.Branch t u is some fit all none going at now held =
      let n : ℕ = length t.held in
      let b = all n some (omega arith) in
      settled code b.base u (take (n - 1) t.held) (held ∙ append-nil (take (n - 1) t.held))
      (subst (λ fs. BasedBy code b.base fs (take (n - 1) t.held)) (sym now) b.by)
      (λ e. (b.finish (subst (λ a. AtFinish code a) at e)).0 is)
      (entries_taken code (n - 1) t.held (omega arith) all)
      (no_done_taken (n - 1) t.held (omega arith) (λ k some le. none k some (omega arith)))
  popped choice.Body t u is some fit all none going at now held =
      let n : ℕ = length t.held in
      let b = all n some (omega arith) in
      settled code b.base u (take (n - 1) t.held) (held ∙ append-nil (take (n - 1) t.held))
      (subst (λ fs. BasedBy code b.base fs (take (n - 1) t.held)) (sym now) b.by)
      (λ e. (b.finish (subst (λ a. AtFinish code a) at e)).1 is)
      (entries_taken code (n - 1) t.held (omega arith) all)
      (no_done_taken (n - 1) t.held (omega arith) (λ k some le. none k some (omega arith)))
  popped choice.Done t u is some fit all none going at now held = absurd (none (length t.held) some (omega arith) is)
  popped choice.Forall t u is some fit all none going at now held =
      let n : ℕ = length t.held in
      let x : PlainEntry = top_of t.held in
      let y : PlainEntry = record x { kind = choice.Done } in
      let rest = take (n - 1) t.held in
      let b = all n some (omega arith) in
      let len : length rest ≡ n - 1 = length-take-le (n - 1) t.held (omega arith) in
      let len2 : length (rest ++ y ∷ []) ≡ length rest + 1 = length-append rest (y ∷ []) in
      let wide = (fit (n - 1) (omega arith)).frames.some in
      let by = based_pushed code b.base x.frames rest y b.by (has_self x.frames) in
      let below = no_done_taken (n - 1) t.held (omega arith) (λ k some le. none k some (omega arith)) in
      let finish : AtFinish code u.at = subst (λ a. AtFinish code a) (sym at) (b.forall is) in
      let low = b.by.low (length x.frames - 1) (omega arith) in
      let same : length u.now ≡ length x.frames = ap length now in
      let entries = entries_pushed code rest y (entries_taken code (n - 1) t.held (omega arith) all)
      (record { base = b.base; by = b.by; forall = λ e. absurd (cc); finish = λ e. (λ q. absurd (cc), λ q. absurd (cc)) }) in
      let count : length u.held ≡ n = ap length held ∙ omega arith in
      record {
        now = λ g. record {
          base = b.base;
          by = subst (λ fs. BasedBy code b.base fs u.held) (sym now) (subst (λ xs. BasedBy code b.base x.frames xs) (sym held) by);
          finish = λ e. subst (λ k. b.base (k - 1) < length u.held) (sym same) (omega arith);
        };
        held = subst (λ xs. Entries code xs) (sym held) entries;
        done = λ k some le e. elim (cases_eq k n) [
          | inl q ↦ (omega arith, going, finish)
          | inr ne ↦
              let kind : (entry_at (rest ++ y ∷ []) k).kind ≡ choice.Done = subst (λ xs. (entry_at xs k).kind ≡ choice.Done) held e in
              let there : get_or (rest ++ y ∷ []) (k - 1) no_entry ≡ get_or rest (k - 1) no_entry =
              get_or-append rest (y ∷ []) no_entry (k - 1) (omega arith) in
              absurd (below k some (omega arith) (subst (λ z. z.kind ≡ choice.Done) there kind))
        ];
      }

  -- a pop, where the entries are these
  pop_leaves : (held : List PlainEntry) (t : State) → t.held ≡ held → FitsHeld code t.held → Entries code t.held → NoDone t.held
      → Leaves code (pop_or_end t held)
  pop_leaves [] t is fit all none = stopped code _ (λ e. absurd (cc)) all none
  pop_leaves (x ∷ xs) t is fit all none =
      let some : 1 ≤ length t.held = omega (arith, ap length is) in
      popped (top_of t.held).kind t _ refl some fit all none refl refl refl refl

  -- a step, in each mode
  step_in_leaves : (m : Mode) (t : State) → t.mode ≡ m → Fits code t → BasedState code t → Leaves code (step_in code input m t)
  step_in_leaves Going t going fit h =
      let r = (last_frame t.now).routine in
      let fits = fit.frames.each (length t.now - 1) (omega (arith, fit.frames.some)) in
      let here = subst (λ m. FitsMode code m t) going fit.mode in
      let parts = and_parts (nat_le (start_at code r) t.at) (nat_lt t.at (end_at code r)) here in
      let low = leb-true (start_at code r) t.at parts.0 in
      let high = ltb-true t.at (end_at code r) parts.1 in
      let inside = end_inside code sound.table r fits.routine in
      let i = get_or code.instrs t.at I.Fail in
      let is : slice_get code.instrs t.at ≡ Some i = slice_get-get_or code.instrs t.at I.Fail (omega arith) in
      let u : State = record (with_step_counted code input t) { at = t.at + 1; last = t.at } in
      let ready : Ready code r u = record { frames = fit.frames; held = fit.held; routine = refl; going = going } in
      let next : t.at + 1 ≡ suc t.at = omega arith in
      subst (λ o. Leaves code (fetch_and_act code input o t)) (sym is)
      (act_leaves i r t.at u
      (record {
        here = record { ready = ready; at_is = next; low = low; first = first_number code sound };
        routine = fits.routine;
        high = high;
        is = refl;
        shares = shares.instrs r t.at fits.routine low high;
        rules = shares.routines r fits.routine;
        based = based_taken code t u t.at h refl refl refl;
      })
      (obeys code r t.at i (sound.instrs r t.at fits.routine low high)))
  step_in_leaves Failing t going fit h =
      pop_leaves t.held (with_step_counted code input t) refl fit.held h.held
      (λ k some le e. let d = h.done k some le e in let same : Failing ≡ Going = sym going ∙ d.1 in absurd (cc))
  step_in_leaves (Ended x) t going fit h =
      stopped code t (λ g. let same : Ended x ≡ Going = sym going ∙ g in absurd (cc)) h.held
      (λ k some le e. let d = h.done k some le e in let same : Ended x ≡ Going = sym going ∙ d.1 in absurd (cc))
  step_in_leaves Stuck t going fit h =
      stopped code _ (λ g. absurd (cc)) h.held
      (λ k some le e. let d = h.done k some le e in let same : Stuck ≡ Going = sym going ∙ d.1 in absurd (cc))

-- a step keeps that frames have bases
pub based_step : (code : PlainCode) (s : Sharing) → IsSound code → Shares code s → (input : List ℕ) (t : State) → Fits code t
    → BasedState code t → BasedState code (step code input t).state
based_step code s sound shares input t fit h = step_in_leaves code s sound shares input t.mode t refl fit h

-- the frame at the start has one: there are no entries
pub based_start : (code : PlainCode) (s : Sharing) → IsSound code → Shares code s → BasedState code (start code)
based_start code s sound shares = record {
  now = λ g. record {
    base = λ f. 0;
    by = based_plain code (λ f. 0) (blank_start code) [] 0 0 (cell.Int (pos 0)) (blank_based code) (λ m e. absurd (cc));
    finish = λ e. absurd (false≢true (sym (shares.routines 0 sound.table.some).begins ∙ e));
  };
  held = λ k some le. absurd (omega arith);
  done = λ k some le e. absurd (omega arith);
}
