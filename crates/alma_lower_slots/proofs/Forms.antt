-- What each form does in two states that are alike: the same, and they are alike behind it.
use Rattle.std.proofs.Common.{◌≡◌, ℕ, suc, ◌+◌, ◌*◌, ◌<◌, List, [], ◌∷◌, refl, sym, ◌∙◌, subst, arith, Option, Some, None}
use Rattle.std.specs.Prelude.{pos, ◌+ℤ◌, ◌-ℤ◌, ◌*ℤ◌, neg_ℤ, int_lt, int_le, nat_abs, slice_get, Bool, not, nat_eq}
use Rattle.std.specs.Int.{int_rem_euclid}
use Rattle.std.proofs.lemmas.Bool.{and_parts, leb-true, eqb-true}
use Rattle.std.proofs.lemmas.Option.{slice_get_within}
use Rattle.alma_base.specs.Numbers.{int_eq, is_beyond, is_zero, bit, div_down_of, mod_down_of}
use Rattle.alma_base.specs.Reading.{number_from}
use Rattle.alma_base.specs.Value.{value_text}
use Rattle.alma_base.specs.declared.value.Value.TheVariants as value
use Rattle.alma_base.specs.declared.fault.RunFault.{RunFault}
use Rattle.alma_base.specs.declared.fault.RunFault.TheVariants as fault
use Rattle.alma_code.specs.declared.cell.SlotKind.TheVariants as slot
use Rattle.alma_code.specs.declared.instr.Instr.{Instr}
use Rattle.alma_code.specs.declared.instr.Instr.TheVariants as I
use Rattle.alma_code.specs.declared.instr.Word.TheVariants as W
use Rattle.alma_code.specs.declared.step.Step.TheVariants as answer
use Rattle.alma_code.specs.Plain.{PlainCode, kinds_at}
use Rattle.alma_code.specs.Rules.{kind_in, length_in, link_in, rule_5, rule_7}
use Rattle.alma_code.specs.Words.{words}
use Rattle.alma_code.specs.Machine.{State, quiet_step, top, put_place, put_link, is_known, as_text, as_fault, run_faults, act}
use Rattle.alma_code.proofs.Heads.{link_of_is, place_of_is}
use Rattle.alma_code_laws.proofs.Acts.{slots}
use Rattle.alma_lower_slots.specs.Slots.{reads, target_slot, away, rename_slots}
use Rattle.alma_lower_slots.specs.Sharing.{Sharing, matters, names_own}
use Rattle.alma_lower_slots.proofs.Alike.{AlikeRest, AlikeStep, Doing}
use Rattle.alma_lower_slots.proofs.Settles.{Shared, stuck_alike, fault_alike, fails_alike, if_alike, settle, goes_away, top_same}
use Rattle.alma_lower_slots.proofs.OwnSlots.{content_alike, place_in_alike, position_alike}
use Rattle.alma_lower_slots.proofs.NamedSlots.{one_of, two_of, three_of, read_number, read_two, read_place, read_link, write_number}
use Rattle.alma_lower_slots.proofs.NamedSlots.{write_place, write_link, fitted_alike, ranged_alike, range_alike, known_alike}
use Rattle.alma_lower_slots.proofs.PlaceCells.{run_free, one_free, store_free, bound_alike, equation_alike, equations_alike, copied_alike}
use Rattle.alma_lower_slots.proofs.PlaceCells.{found_alike, byte_alike}

-- an instruction does the same in two states in which it is taken
abbrev pub ActsAlike : (code new : PlainCode) (s : Sharing) (input : List ℕ) → Instr → Type 0
ActsAlike code new s input i =
    (r at : ℕ) (t t' : State) → Doing code new s r at i t t'
    → AlikeStep code new s (act code input i t) (act new input (rename_slots (s.slot r) i) t')

-- the forms of choices and of calls do
pub record OthersAlike (code new : PlainCode) (s : Sharing) (input : List ℕ) : Type 0 where
  pub mark : (a : ℕ) → ActsAlike code new s input (I.Mark a)
  pub cut : (a : ℕ) → ActsAlike code new s input (I.Cut a)
  pub choose : (a : ℕ) → ActsAlike code new s input (I.Choose a)
  pub forall_of : (a b : ℕ) → ActsAlike code new s input (I.Forall a b)
  pub overlay : (a b : ℕ) → ActsAlike code new s input (I.Overlay a b)
  pub keep : (a : ℕ) → ActsAlike code new s input (I.Keep a)
  pub finish : ActsAlike code new s input I.Finish
  pub call : (a b c : ℕ) → ActsAlike code new s input (I.Call a b c)
  pub return_of : ActsAlike code new s input I.Return
  pub return_value : (a : ℕ) → ActsAlike code new s input (I.ReturnValue a)

module _ {code new : PlainCode} {s : Sharing} where
  -- a text that is there, or is not
  as_text_alike : {r at : ℕ} {i : Instr} {t t' : State} → Doing code new s r at i t t' → target_slot code i ≡ None → (o : Option (List ℕ))
      → AlikeStep code new s (as_text o t) (as_text o t')
  as_text_alike h none (Some bytes) = settle h none answer.Printed bytes
  as_text_alike h none None = stuck_alike h.taken.rest

  -- a fault that is there, or is not
  as_fault_alike : {t t' : State} → AlikeRest code new s t t' → (o : Option RunFault)
      → AlikeStep code new s (as_fault o t) (as_fault o t')
  as_fault_alike h (Some f) = fault_alike f h
  as_fault_alike h None = stuck_alike h

module _ (code new : PlainCode) (s : Sharing) (input : List ℕ) (w : Shared code new s) (others : OthersAlike code new s input) where
  -- what is read matters
  abbrev M : (r at : ℕ) → ℕ → Bool
  M r at n = matters s r at n

  -- each form: one clause for each
  pub act_alike : (i : Instr) → ActsAlike code new s input i
  unfolding act rename_slots reads target_slot away words rule_5 rule_7 names_own
  act_alike (I.Const a v) r at t t' h =
      let x = slots code r at (I.Const a v) (W.Number a) W.Free W.Free W.Free refl h.obeys in
      write_number w h a v x.0 refl
  act_alike (I.Move a b) r at t t' h =
      let x = slots code r at (I.Move a b) (W.Number a) (W.Number b) W.Free W.Free refl h.obeys in
      read_number h b x.1 (one_of (M r at) b h.shares.read) _ _ (λ v. write_number w h a v x.0 refl)
  act_alike (I.Add a b c) r at t t' h =
      let x = slots code r at (I.Add a b c) (W.Number a) (W.Number b) (W.Number c) W.Free refl h.obeys in
      read_two h b c x.1 x.2 h.shares.read _ _ (λ u v. fitted_alike h.taken.rest (u +ℤ v) _ _ (λ y. write_number w h a y x.0 refl))
  act_alike (I.Sub a b c) r at t t' h =
      let x = slots code r at (I.Sub a b c) (W.Number a) (W.Number b) (W.Number c) W.Free refl h.obeys in
      read_two h b c x.1 x.2 h.shares.read _ _ (λ u v. fitted_alike h.taken.rest (u -ℤ v) _ _ (λ y. write_number w h a y x.0 refl))
  act_alike (I.Mul a b c) r at t t' h =
      let x = slots code r at (I.Mul a b c) (W.Number a) (W.Number b) (W.Number c) W.Free refl h.obeys in
      read_two h b c x.1 x.2 h.shares.read _ _ (λ u v. fitted_alike h.taken.rest (u *ℤ v) _ _ (λ y. write_number w h a y x.0 refl))
  act_alike (I.Div a b c) r at t t' h =
      let x = slots code r at (I.Div a b c) (W.Number a) (W.Number b) (W.Number c) W.Free refl h.obeys in
      read_two h b c x.1 x.2 h.shares.read _ _ (λ u v. if_alike (is_zero v) _ _ _ _
      (λ _. fault_alike fault.ZeroDivide h.taken.rest)
      (λ _. fitted_alike h.taken.rest (div_down_of u v) _ _ (λ y. write_number w h a y x.0 refl)))
  act_alike (I.Mod a b c) r at t t' h =
      let x = slots code r at (I.Mod a b c) (W.Number a) (W.Number b) (W.Number c) W.Free refl h.obeys in
      read_two h b c x.1 x.2 h.shares.read _ _ (λ u v. if_alike (is_zero v) _ _ _ _
      (λ _. fault_alike fault.ZeroDivide h.taken.rest)
      (λ _. fitted_alike h.taken.rest (mod_down_of u v) _ _ (λ y. write_number w h a y x.0 refl)))
  act_alike (I.Neg a b) r at t t' h =
      let x = slots code r at (I.Neg a b) (W.Number a) (W.Number b) W.Free W.Free refl h.obeys in
      read_number h b x.1 (one_of (M r at) b h.shares.read) _ _
      (λ v. fitted_alike h.taken.rest (neg_ℤ v) _ _ (λ y. write_number w h a y x.0 refl))
  act_alike (I.Equal a b c) r at t t' h =
      let x = slots code r at (I.Equal a b c) (W.Number a) (W.Number b) (W.Number c) W.Free refl h.obeys in
      read_two h b c x.1 x.2 h.shares.read _ _ (λ u v. write_number w h a (bit (int_eq u v)) x.0 refl)
  act_alike (I.Less a b c) r at t t' h =
      let x = slots code r at (I.Less a b c) (W.Number a) (W.Number b) (W.Number c) W.Free refl h.obeys in
      read_two h b c x.1 x.2 h.shares.read _ _ (λ u v. write_number w h a (bit (int_lt u v)) x.0 refl)
  act_alike (I.LessEq a b c) r at t t' h =
      let x = slots code r at (I.LessEq a b c) (W.Number a) (W.Number b) (W.Number c) W.Free refl h.obeys in
      read_two h b c x.1 x.2 h.shares.read _ _ (λ u v. write_number w h a (bit (int_le u v)) x.0 refl)
  act_alike (I.Flip a b) r at t t' h =
      let x = slots code r at (I.Flip a b) (W.Number a) (W.Number b) W.Free W.Free refl h.obeys in
      read_number h b x.1 (one_of (M r at) b h.shares.read) _ _ (λ v. write_number w h a (bit (is_zero v)) x.0 refl)
  act_alike (I.InRange a q) r at t t' h =
      let x = slots code r at (I.InRange a q) (W.Number a) (W.Range q) W.Free W.Free refl h.obeys in
      read_number h a x.0 (one_of (M r at) a h.shares.read) _ _ (λ v. range_alike w h.taken.rest q _ _
      (λ range. ranged_alike h.taken.rest range fault.Range v _ _ (settle h refl answer.Went [])))
  act_alike (I.Local a b) r at t t' h =
      let x = slots code r at (I.Local a b) (W.Place a) (W.Slot b) W.Free W.Free refl h.obeys in
      subst (λ f. AlikeStep code new s (put_place t a (top t) (λ _. b)) (put_place t' (s.slot r a) f (λ _. b))) (sym (top_same h))
      (write_place w h a x.0 refl (top t) (λ _. b))
  act_alike (I.Global a b) r at t t' h =
      let x = slots code r at (I.Global a b) (W.Place a) W.Free W.Free W.Free refl h.obeys in
      write_place w h a x.0 refl 0 (λ _. b)
  act_alike (I.Same a b) r at t t' h =
      let x = slots code r at (I.Same a b) (W.Place a) (W.Place b) W.Free W.Free refl h.obeys in
      read_place h b x.1 (one_of (M r at) b h.shares.read) _ _ (λ p len own. write_place w h a x.0 refl p.frame (λ _. p.slot))
  act_alike (I.Field a b c) r at t t' h =
      let x = slots code r at (I.Field a b c) (W.Place a) (W.Place b) W.Free W.Free refl h.obeys in
      read_place h b x.1 (one_of (M r at) b h.shares.read) _ _ (λ p len own. write_place w h a x.0 refl p.frame (λ _. p.slot + c))
  act_alike (I.Index a b c d) r at t t' h =
      let x = slots code r at (I.Index a b c d) (W.Place a) (W.Place b) (W.Number c) (W.Range d) refl h.obeys in
      let m = two_of (M r at) b c h.shares.read in
      read_place h b x.1 m.0 _ _ (λ p len own. read_number h c x.2 m.1 _ _ (λ v. range_alike w h.taken.rest d _ _
      (λ range. ranged_alike h.taken.rest range fault.Index v _ _
      (write_place w h a x.0 refl p.frame (λ l. p.slot + nat_abs (v -ℤ range.low) * l)))))
  act_alike (I.Load a b) r at t t' h =
      let x = slots code r at (I.Load a b) (W.Number a) (W.Place b) W.Free W.Free refl h.obeys in
      read_place h b x.1 (one_of (M r at) b h.shares.read) _ _ (λ p len own.
      let c = one_free own (len ∙ eqb-true (length_in code r b) 1 h.obeys.r7) in
      content_alike w h p.frame p.slot c.live c.own _ _ (λ o. known_alike h.taken.rest o _ _ (λ v. write_number w h a v x.0 refl)))
  act_alike (I.Store a b) r at t t' h =
      let x = slots code r at (I.Store a b) (W.Place a) (W.Number b) W.Free W.Free refl h.obeys in
      let m = two_of (M r at) a b h.shares.read in
      read_place h a x.0 m.0 _ _ (λ p len own.
      let c = one_free own (len ∙ eqb-true (length_in code r a) 1 h.obeys.r7) in
      read_number h b x.1 m.1 _ _ (λ v. store_free w h p.frame p.slot v c quiet_step quiet_step (λ h2 _. settle h2 refl answer.Went [])))
  act_alike (I.Known a b) r at t t' h =
      let x = slots code r at (I.Known a b) (W.Number a) (W.Place b) W.Free W.Free refl h.obeys in
      read_place h b x.1 (one_of (M r at) b h.shares.read) _ _ (λ p len own.
      let c = one_free own (len ∙ eqb-true (length_in code r b) 1 h.obeys.r7) in
      content_alike w h p.frame p.slot c.live c.own _ _ (λ o. write_number w h a (bit (is_known o)) x.0 refl))
  act_alike (I.Bind a b c) r at t t' h =
      let x = slots code r at (I.Bind a b c) (W.Place a) (W.Number b) (W.Range c) W.Free refl h.obeys in
      let m = two_of (M r at) a b h.shares.read in
      read_place h a x.0 m.0 _ _ (λ p len own.
      let f = one_free own (len ∙ eqb-true (length_in code r a) 1 h.obeys.r7) in
      read_number h b x.1 m.1 _ _ (λ v. range_alike w h.taken.rest c _ _
      (λ range. content_alike w h p.frame p.slot f.live f.own _ _ (λ u. bound_alike w h refl p range v u f))))
  act_alike (I.Unify a b c d) r at t t' h =
      let x = slots code r at (I.Unify a b c d) (W.Place a) (W.Range b) (W.Place c) (W.Range d) refl h.obeys in
      let m = two_of (M r at) a c h.shares.read in
      let one = and_parts (nat_eq (length_in code r a) 1) (nat_eq (length_in code r c) 1) h.obeys.r7 in
      read_place h a x.0 m.0 _ _ (λ p lp op. range_alike w h.taken.rest b _ _
      (λ range. read_place h c x.2 m.1 _ _ (λ q lq oq. range_alike w h.taken.rest d _ _
      (λ range2. equation_alike w h p.frame p.slot (Some range) q.frame q.slot (Some range2) quiet_step quiet_step
      (one_free op (lp ∙ eqb-true (length_in code r a) 1 one.0)) (one_free oq (lq ∙ eqb-true (length_in code r c) 1 one.1))
      (λ y y' hy _. settle hy refl answer.Went [])))))
  act_alike (I.CopyCells a b) r at t t' h =
      let x = slots code r at (I.CopyCells a b) (W.Place a) (W.Place b) W.Free W.Free refl h.obeys in
      let m = two_of (M r at) a b h.shares.read in
      let e = eqb-true (length_in code r a) (length_in code r b) h.obeys.r7 in
      read_place h a x.0 m.0 _ _ (λ p lp op. read_place h b x.1 m.1 _ _ (λ q lq oq.
      copied_alike w h refl p.len t t' h refl p.frame p.slot q.frame q.slot (λ k lt. run_free op k lt)
      (λ k lt. run_free oq k (omega (arith, lt, lp, lq, e)))))
  act_alike (I.SameCells a b) r at t t' h =
      let x = slots code r at (I.SameCells a b) (W.Place a) (W.Place b) W.Free W.Free refl h.obeys in
      let m = two_of (M r at) a b h.shares.read in
      let e = eqb-true (length_in code r a) (length_in code r b) h.obeys.r7 in
      read_place h a x.0 m.0 _ _ (λ p lp op. read_place h b x.1 m.1 _ _ (λ q lq oq.
      equations_alike p.len t t' w h refl p.frame p.slot q.frame q.slot (λ k lt. run_free op k lt)
      (λ k lt. run_free oq k (omega (arith, lt, lp, lq, e)))))
  act_alike (I.Jump a) r at t t' h = goes_away h a refl
  act_alike (I.JumpZero a b) r at t t' h =
      let x = slots code r at (I.JumpZero a b) (W.Number a) (W.Address b) W.Free W.Free refl h.obeys in
      read_number h a x.0 (one_of (M r at) a h.shares.read) _ _ (λ v. if_alike (is_zero v) _ _ _ _ (λ _. goes_away h b refl)
      (λ _. settle h refl answer.Went []))
  act_alike (I.Check a) r at t t' h =
      let x = slots code r at (I.Check a) (W.Number a) W.Free W.Free W.Free refl h.obeys in
      read_number h a x.0 (one_of (M r at) a h.shares.read) _ _ (λ v. if_alike (is_zero v) _ _ _ _ (λ _. fails_alike h.taken.rest)
      (λ _. settle h refl answer.Went []))
  act_alike I.Fail r at t t' h = fails_alike h.taken.rest
  act_alike (I.Mark a) r at t t' h = others.mark a r at t t' h
  act_alike (I.Cut a) r at t t' h = others.cut a r at t t' h
  act_alike (I.Choose a) r at t t' h = others.choose a r at t t' h
  act_alike (I.Forall a b) r at t t' h = others.forall_of a b r at t t' h
  act_alike (I.Overlay a b) r at t t' h = others.overlay a b r at t t' h
  act_alike (I.Keep a) r at t t' h = others.keep a r at t t' h
  act_alike I.Finish r at t t' h = others.finish r at t t' h
  act_alike (I.Call a b c) r at t t' h = others.call a b c r at t t' h
  act_alike I.Return r at t t' h = others.return_of r at t t' h
  act_alike (I.ReturnValue a) r at t t' h = others.return_value a r at t t' h
  act_alike (I.ReadInt a q) r at t t' h =
      let x = slots code r at (I.ReadInt a q) (W.Place a) (W.Range q) W.Free W.Free refl h.obeys in
      read_place h a x.0 (one_of (M r at) a h.shares.read) _ _ (λ p len own.
      let c = one_free own (len ∙ eqb-true (length_in code r a) 1 h.obeys.r7) in
      range_alike w h.taken.rest q _ _
      (λ range. position_alike w h _ _ (λ n. found_alike w h refl range p (number_from input n) c)))
  act_alike (I.ReadChar a q) r at t t' h =
      let x = slots code r at (I.ReadChar a q) (W.Place a) (W.Range q) W.Free W.Free refl h.obeys in
      read_place h a x.0 (one_of (M r at) a h.shares.read) _ _ (λ p len own.
      let c = one_free own (len ∙ eqb-true (length_in code r a) 1 h.obeys.r7) in
      range_alike w h.taken.rest q _ _
      (λ range. position_alike w h _ _ (λ n. byte_alike w h refl range p n (slice_get input n) c)))
  act_alike (I.WriteInt a) r at t t' h =
      let x = slots code r at (I.WriteInt a) (W.Number a) W.Free W.Free W.Free refl h.obeys in
      read_number h a x.0 (one_of (M r at) a h.shares.read) _ _ (λ v. settle h refl answer.Printed (value_text (value.Int v)))
  act_alike (I.WriteChar a) r at t t' h =
      let x = slots code r at (I.WriteChar a) (W.Number a) W.Free W.Free W.Free refl h.obeys in
      read_number h a x.0 (one_of (M r at) a h.shares.read) _ _
      (λ v. settle h refl answer.Printed (value_text (value.Char (nat_abs (int_rem_euclid v (pos 256))))))
  act_alike (I.WriteBool a) r at t t' h =
      let x = slots code r at (I.WriteBool a) (W.Number a) W.Free W.Free W.Free refl h.obeys in
      read_number h a x.0 (one_of (M r at) a h.shares.read) _ _
      (λ v. settle h refl answer.Printed (value_text (value.Bool (not (is_zero v)))))
  act_alike (I.WriteText a) r at t t' h =
      subst (λ texts. AlikeStep code new s (as_text (slice_get code.texts a) t) (as_text (slice_get texts a) t')) (sym w.renames.texts)
      (as_text_alike h refl (slice_get code.texts a))
  act_alike I.WriteLine r at t t' h = settle h refl answer.Printed (10 ∷ [])
  act_alike (I.Fault n) r at t t' h = as_fault_alike h.taken.rest (slice_get run_faults n)
  act_alike (I.Step a b c d) r at t t' h =
      let x = slots code r at (I.Step a b c d) (W.Number a) (W.Number b) (W.Number c) (W.Address d) refl h.obeys in
      let m = three_of (M r at) a b c h.shares.read in
      read_number h a x.0 m.0 _ _ (λ u. read_number h b x.1 m.1 _ _ (λ v. read_number h c x.2 m.2 _ _
      (λ z. if_alike (is_beyond (u +ℤ z) v z) _ _ _ _ (λ _. goes_away h d refl) (λ _. write_number w h a (u +ℤ z) x.0 refl))))
  act_alike (I.Own a) r at t t' h =
      let x = slots code r at (I.Own a) (W.Link a) W.Free W.Free W.Free refl h.obeys in
      subst (λ f. AlikeStep code new s (put_link t a (top t)) (put_link t' (s.slot r a) f)) (sym (top_same h))
      (write_link w h a x.0 refl (top t))
  act_alike (I.Chain a b c) r at t t' h =
      let x = slots code r at (I.Chain a b c) (W.Link a) (W.Link b) W.Free W.Free refl h.obeys in
      let from = link_in code r b in
      let to = link_in code r a in
      let own : c < s.own from = leb-true (suc c) (s.own from) h.shares.places in
      let there = slice_get_within (kinds_at code from) c (slot.Link to) (link_of_is to (kind_in code from c) h.obeys.r5) in
      read_link h b x.1 (one_of (M r at) b h.shares.read) _ _
      (λ f lf leads. place_in_alike w h f from c lf leads own there _ _ (λ p. write_link w h a x.0 refl p.frame))
  act_alike (I.Outer a b c) r at t t' h =
      let x = slots code r at (I.Outer a b c) (W.Place a) (W.Link b) W.Free W.Free refl h.obeys in
      read_link h b x.1 (one_of (M r at) b h.shares.read) _ _ (λ f lf leads. write_place w h a x.0 refl f (λ _. c))
  act_alike (I.OuterSame a b c) r at t t' h =
      let x = slots code r at (I.OuterSame a b c) (W.Place a) (W.Link b) W.Free W.Free refl h.obeys in
      let from = link_in code r b in
      let l = length_in code r a in
      let own : c < s.own from = leb-true (suc c) (s.own from) h.shares.places in
      let there = slice_get_within (kinds_at code from) c (slot.Place l) (place_of_is l (kind_in code from c) h.obeys.r5) in
      read_link h b x.1 (one_of (M r at) b h.shares.read) _ _
      (λ f lf leads. place_in_alike w h f from c lf leads own there _ _ (λ p. write_place w h a x.0 refl p.frame (λ _. p.slot)))
