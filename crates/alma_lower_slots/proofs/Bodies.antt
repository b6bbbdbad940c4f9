-- The forms of the carries of FORALL: what they leave of two states that are alike.
use Rattle.std.proofs.Common.{◌≡◌, ℕ, suc, ◌-◌, ◌≤◌, inl, inr, List, [], length, set, take, refl, sym, ap, ◌∙◌, subst, arith}
use Rattle.std.proofs.Common.{Bool, None, get_or, length-set}
use Rattle.std.specs.Prelude.{true, ◌&&◌, nat_lt}
use Rattle.std.proofs.lemmas.Bool.{and_parts, false≢true}
use Rattle.std.proofs.lemmas.List.{length-map}
use Rattle.alma_base.specs.Carry.{with_changes}
use Rattle.alma_code.specs.declared.cell.ChoiceKind.TheVariants as choice
use Rattle.alma_code.specs.declared.instr.Instr.{Instr}
use Rattle.alma_code.specs.declared.instr.Instr.TheVariants as I
use Rattle.alma_code.specs.declared.instr.Word.TheVariants as W
use Rattle.alma_code.specs.declared.step.Step.TheVariants as answer
use Rattle.alma_code.specs.Carries.{diffs, with_carry, held_after_keep}
use Rattle.alma_code.specs.Fits.{routines_of}
use Rattle.alma_code.specs.Kinds.{is_number}
use Rattle.alma_code.specs.Machine.{State, is_kind, is_forall_at, state_with_carry, overlay, keep, answer_of_fall}
use Rattle.alma_code.specs.Machine.{act}
use Rattle.alma_code.specs.Picture.{PlainEntry, no_frame, top_of, entry_at, kind_at}
use Rattle.alma_code.specs.Plain.{PlainCode}
use Rattle.alma_code.specs.Rules.{kind_in}
use Rattle.alma_code.specs.Words.{words}
use Rattle.alma_code_laws.proofs.Acts.{slots, is_kind_within}
use Rattle.alma_lower_implements.proofs.CarryMaps.{rising_all}
use Rattle.alma_lower_slots.specs.Slots.{reads, target_slot, away, lays_over, is_finish, body_of, rename_slots}
use Rattle.alma_lower_slots.specs.Sharing.{Sharing, matters}
use Rattle.alma_lower_slots.proofs.Alike.{AlikeFrames, AlikeEntry, AlikeHeld, AlikeRest, AlikeStep, Doing}
use Rattle.alma_lower_slots.proofs.Based.{HasFrames}
use Rattle.alma_lower_slots.proofs.Above.{has_mark, has_finish, called_still}
use Rattle.alma_lower_slots.proofs.Carrying.{gain_alike, laid_alike}
use Rattle.alma_lower_slots.proofs.OwnSlots.{routine_among}
use Rattle.alma_lower_slots.proofs.Stacks.{take_alike, set_alike, top_alike, entry_alike, kind_same}
use Rattle.alma_lower_slots.proofs.Settles.{Shared, away_alike, settle, mark_alike}
use Rattle.alma_lower_slots.proofs.Choices.{if_both, mark_there, fall_alike, pushed_alike, going_alike}

-- the entry of a FORALL with what its body changed
abbrev gained_entry : State → ℕ → PlainEntry
gained_entry t n = with_carry (entry_at t.held n) (with_changes (diffs (top_of t.held).frames t.now) (entry_at t.held n).carry)

-- the entries from the height on cover the frames
abbrev HaveFrames : State → ℕ → Type 0
HaveFrames t n = (m : ℕ) → n ≤ m → m ≤ length t.held → HasFrames t.now (entry_at t.held m).frames

-- two states over which a carry may have been laid: they go on, and a failure may go on at the address
record AlikeLaid (code new : PlainCode) (s : Sharing) (to : ℕ) (u u' : State) : Type 0 where
  rest : AlikeRest code new s u u'
  here : AlikeFrames code new s u.at u.now u'.now
  there : AlikeFrames code new s to u.now u'.now

module _ {code new : PlainCode} {s : Sharing} where
  -- ---- keeping

  -- it is alike in both states
  gained_alike : {r at : ℕ} {i : Instr} {t t' : State} → Shared code new s → Doing code new s r at i t t' → (n : ℕ) → 1 ≤ n
      → n ≤ length t.held → HaveFrames t n → AlikeEntry code new s (gained_entry t n) (gained_entry t' n)
  gained_alike {r} {at} {i} {t} {t'} w h n some le has =
      let alike = h.taken.rest.held in
      let e = entry_alike code new s t.held t'.held n some le alike in
      let top = top_alike code new s t.held t'.held (omega (arith, some, le)) alike in
      let before = (top_of t.held).frames in
      let before' = (top_of t'.held).frames in
      record {
        kind = e.kind;
        resume = e.resume;
        frames = e.frames;
        carry = gain_alike code new s w.renames (top_of t.held).resume at before before' t.now t'.now
            (routines_of (entry_at t.held n).frames) (entry_at t.held n).carry (entry_at t'.held n).carry
            (h.here.ready.held (length t.held - 1) (omega (arith, some, le))).frames h.here.ready.frames top.frames h.taken.now
            (has (length t.held) le (omega arith))
            (λ f lf. routine_among (entry_at t.held n).frames f ∙ (has n (omega arith) le f lf).same) e.carry;
        rising = rising_all (diffs before t.now) (entry_at t.held n).carry e.rising;
        rising' = rising_all (diffs before' t'.now) (entry_at t'.held n).carry e.rising';
      }

  -- the stacks after a body is kept
  kept_alike : {r at : ℕ} {i : Instr} {t t' : State} → Shared code new s → Doing code new s r at i t t' → (n : ℕ) → 1 ≤ n
      → n ≤ length t.held → HaveFrames t n → AlikeHeld code new s (held_after_keep t.held n t.now) (held_after_keep t'.held n t'.now)
  kept_alike {r} {at} {i} {t} {t'} w h n some le has =
      let alike = h.taken.rest.held in
      let one = gained_alike w h n some le has in
      let all = set t.held (n - 1) (gained_entry t n) in
      let all' = set t'.held (n - 1) (gained_entry t' n) in
      subst (λ m. AlikeHeld code new s (held_after_keep t.held n t.now) (take (m - 1) all')) (sym alike.count)
      (take_alike code new s (length t.held - 1) all all' (omega (arith, length-set t.held (n - 1) (gained_entry t n)))
      (set_alike code new s (n - 1) t.held t'.held (gained_entry t n) (gained_entry t' n) (omega (arith, some, le)) alike one))

  -- a body is kept, where there is one to keep
  keep_to_alike : {r at : ℕ} {i : Instr} {t t' : State} → Shared code new s → Doing code new s r at i t t' → target_slot code i ≡ None
      → (n : ℕ) → HaveFrames t n → AlikeStep code new s (keep t n) (keep t' n)
  keep_to_alike {r} {at} {i} {t} {t'} w h none n has =
      let alike = h.taken.rest.held in
      let is_body : State → Bool = λ u. nat_lt n (length u.held) && is_kind choice.Body (kind_at u.held (length u.held)) in
      let same : (is_forall_at t'.held n && is_body t') ≡ (is_forall_at t.held n && is_body t) =
      ap (λ k. is_kind choice.Forall k && is_body t') (kind_same code new s t.held t'.held n alike)
      ∙ ap (λ m. is_forall_at t.held n && (nat_lt n m && is_kind choice.Body (kind_at t'.held m))) alike.count
      ∙ ap (λ k. is_forall_at t.held n && (nat_lt n (length t.held) && is_kind choice.Body k))
      (kind_same code new s t.held t'.held (length t.held) alike) in
      if_both (AlikeStep code new s) (is_forall_at t.held n && is_body t) (is_forall_at t'.held n && is_body t') _ _ _ _ same
      (λ b.
      let within = is_kind_within code choice.Forall t.held n (and_parts (is_forall_at t.held n) (is_body t) b).0 in
      fall_alike (held_after_keep t.held n t.now) (held_after_keep t'.held n t'.now) h.taken.rest
      (kept_alike w h n within.0 within.1 has) (going_alike h none))
      (λ _. settle h none answer.Went [])

  -- ---- laying over

  -- a carry of the stacks is laid over both
  laid_to_alike : {r at : ℕ} {i : Instr} {t t' : State} → Shared code new s → Doing code new s r at i t t' → (n to : ℕ)
      → 1 ≤ n → n ≤ length t.held → HasFrames t.now (entry_at t.held n).frames → ((m : ℕ) → s.live r to m ≡ true → s.live r at m ≡ true)
      → ((m : ℕ) → is_number (kind_in code r m) ≡ true → s.live r to m ≡ true → ⊥)
      → AlikeFrames code new s to (state_with_carry t n).now (state_with_carry t' n).now
  laid_to_alike {r} {at} {i} {t} {t'} w h n to some le has was still =
      let e = entry_alike code new s t.held t'.held n some le h.taken.rest.held in
      let more = (entry_at t.held n).frames in
      let routine : (f : ℕ) → suc f ≡ length t.now → (get_or t.now f no_frame).routine ≡ r =
      λ f top_is. let is : f ≡ length t.now - 1 = omega (arith, top_is) in
      ap (λ k. (get_or t.now k no_frame).routine) is ∙ h.here.ready.routine in
      laid_alike code new s w.renames at to t.now t'.now (routines_of more) (entry_at t.held n).carry (entry_at t'.held n).carry (record {
        fits = h.here.ready.frames;
        alike = h.taken.now;
        carries = e.carry;
        there = λ f lf. omega (arith, (has f lf).there, length-map more (λ g. g.routine));
        same = λ f lf. routine_among more f ∙ (has f lf).same;
        rising = e.rising;
        rising' = e.rising';
        was = λ f m top_is. subst (λ q. s.live q to m ≡ true → s.live q at m ≡ true) (sym (routine f top_is)) (was m);
        still = λ f m top_is.
            subst (λ q. is_number (kind_in code q m) ≡ true → s.live q to m ≡ true → ⊥) (sym (routine f top_is)) (still m);
        called = called_still code s w.shares t.now h.here.ready.frames;
      })

  -- where it writes nothing no number is live behind it
  no_number : {r at : ℕ} {i : Instr} {t t' : State} → Doing code new s r at i t t' → target_slot code i ≡ None → lays_over i ≡ true
      → (m : ℕ)
      → is_number (kind_in code r m) ≡ true → s.live r (suc at) m ≡ true → ⊥
  no_number {r} {at} {i} {t} {t'} h none over m number live =
      let is = h.shares.still over m number live in
      absurd (cc)

  -- what lives behind an instruction that writes nothing lived at it
  lived_before : {r at : ℕ} {i : Instr} {t t' : State} → Doing code new s r at i t t' → target_slot code i ≡ None → (m : ℕ)
      → s.live r (suc at) m ≡ true → s.live r at m ≡ true
  lived_before {r} {at} {i} {t} {t'} h none m l = elim (h.shares.next m l) [
    | inl before ↦ before
    | inr e ↦ absurd (cc)
  ]

  module _ (input : List ℕ) where
    -- a body is kept
    pub keep_alike : Shared code new s → (r at a : ℕ) (t t' : State) → Doing code new s r at (I.Keep a) t t'
        → AlikeStep code new s (act code input (I.Keep a) t) (act new input (rename_slots (s.slot r) (I.Keep a)) t')
    unfolding act target_slot reads rename_slots words body_of
    keep_alike w r at a t t' h =
        let word = slots code r at (I.Keep a) (W.Mark a) W.Free W.Free W.Free refl h.obeys in
        mark_alike h a (mark_there code r a word.0) (and_parts (matters s r at a) true h.shares.read).0 _ _
        (λ n holds. keep_to_alike w h refl n (has_mark h a n refl holds))

    -- a carry is laid over, and a body is pushed
    pub overlay_alike : Shared code new s → (r at a b : ℕ) (t t' : State) → Doing code new s r at (I.Overlay a b) t t'
        → AlikeStep code new s (act code input (I.Overlay a b) t) (act new input (rename_slots (s.slot r) (I.Overlay a b)) t')
    unfolding act target_slot reads away lays_over rename_slots words body_of
    overlay_alike w r at a b t t' h =
        let word = slots code r at (I.Overlay a b) (W.Mark a) (W.Address b) W.Free W.Free refl h.obeys in
        mark_alike h a (mark_there code r a word.0) (and_parts (matters s r at a) true h.shares.read).0 _ _
        (λ n holds.
        let rest = h.taken.rest in
        let both : AlikeLaid code new s b (overlay t n) (overlay t' n) =
        if_both (AlikeLaid code new s b) (is_forall_at t.held n) (is_forall_at t'.held n) _ _ _ _
        (ap (is_kind choice.Forall) (kind_same code new s t.held t'.held n rest.held))
        (λ y.
        let within = is_kind_within code choice.Forall t.held n y in
        let has = has_mark h a n refl holds n (omega arith) within.1 in
        record {
          rest = record {
            at = rest.at;
            last = rest.last;
            mode = rest.mode;
            steps = rest.steps;
            choices = rest.choices;
            fails = rest.fails;
            held = rest.held;
          };
          here = subst (λ m. AlikeFrames code new s m (state_with_carry t n).now (state_with_carry t' n).now) (sym h.taken.behind)
              (laid_to_alike w h n (suc at) within.0 within.1 has (lived_before h refl) (no_number h refl refl));
          there = laid_to_alike w h n b within.0 within.1 has (λ m l. h.shares.jump b m refl l)
              (λ m number live. false≢true (sym (h.shares.still_away refl b m refl number) ∙ live));
        })
        (λ _. record { rest = rest; here = going_alike h refl; there = away_alike h b refl }) in
        pushed_alike choice.Body b both.rest both.there both.here)

    -- the carry of a FORALL that is done is laid over
    pub finish_alike : Shared code new s → (r at : ℕ) (t t' : State) → Doing code new s r at I.Finish t t'
        → AlikeStep code new s (act code input I.Finish t) (act new input (rename_slots (s.slot r) I.Finish) t')
    unfolding act target_slot lays_over rename_slots is_finish
    finish_alike w r at t t' h =
        let rest = h.taken.rest in
        let n = length t.held in
        let is_done : (m : ℕ) → is_kind choice.Done (kind_at t'.held m) ≡ is_kind choice.Done (kind_at t.held m) =
        λ m. ap (is_kind choice.Done) (kind_same code new s t.held t'.held m rest.held) in
        if_both (AlikeStep code new s) (is_kind choice.Done (kind_at t.held n))
        (is_kind choice.Done (kind_at t'.held (length t'.held))) _ _ _ _
        (is_done (length t'.held) ∙ ap (λ m. is_kind choice.Done (kind_at t.held m)) rest.held.count)
        (λ y.
        let within = is_kind_within code choice.Done t.held n y in
        let u = state_with_carry t n in
        let u' : ℕ → State = λ m. state_with_carry t' m in
        let both : AlikeStep code new s (answer_of_fall (record u { held = take (n - 1) t.held }))
        (answer_of_fall (record (u' n) { held = take (n - 1) t'.held })) =
        fall_alike (take (n - 1) t.held) (take (n - 1) t'.held)
        (record {
          at = rest.at;
          last = rest.last;
          mode = rest.mode;
          steps = rest.steps;
          choices = rest.choices;
          fails = rest.fails;
          held = rest.held;
        })
        (take_alike code new s (n - 1) t.held t'.held (omega arith) rest.held)
        (subst (λ m. AlikeFrames code new s m u.now (u' n).now) (sym h.taken.behind)
        (laid_to_alike w h n (suc at) within.0 within.1 (has_finish h refl) (lived_before h refl) (no_number h refl refl))) in
        subst (λ m. AlikeStep code new s (answer_of_fall (record u { held = take (n - 1) t.held }))
        (answer_of_fall (record (u' m) { held = take (m - 1) t'.held }))) (sym rest.held.count) both)
        (λ _. settle h refl answer.Went [])
