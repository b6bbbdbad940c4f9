-- The forms that mark heights, push and drop entries or leave frames keep that frames have bases.
use Rattle.std.proofs.Common.{◌≡◌, ℕ, suc, ◌+◌, ◌-◌, ◌<◌, ◌≤◌, [], ◌∷◌, ◌++◌, length, get_or, set, take, refl, sym}
use Rattle.std.proofs.Common.{ap, ◌∙◌, subst, arith, Some}
use Rattle.std.specs.Prelude.{slice_get, false, ◌&&◌, nat_lt, nat_eq}
use Rattle.std.proofs.lemmas.Bool.{false≢true, and_parts, ltb-true, eqb-false}
use Rattle.std.proofs.lemmas.List.{length-take-le, get_or-take}
use Rattle.std.proofs.lemmas.Option.{get_or_from_slice_get}
use Rattle.alma_base.specs.Choice.{if_true}
use Rattle.alma_base.specs.Carry.{with_changes}
use Rattle.alma_code.specs.Carries.{diffs, with_carry}
use Rattle.alma_code.specs.declared.cell.Cell.TheVariants as cell
use Rattle.alma_code.specs.declared.cell.ChoiceKind.TheVariants as choice
use Rattle.alma_code.specs.declared.instr.Instr.{Instr}
use Rattle.alma_code.specs.declared.instr.Instr.TheVariants as I
use Rattle.alma_code.specs.declared.step.End.TheVariants as end
use Rattle.alma_code.specs.Machine.{Going, State, quiet_step, slot_of, kind_of, with_slot, put_mark, mark, number, to_mark, cut_to}
use Rattle.alma_code.specs.Machine.{is_kind, is_forall_at, state_after_push, answer_of_push, state_with_carry, overlay, keep, finish}
use Rattle.alma_code.specs.Machine.{state_after_leave, answers_return, ends_run, result_to}
use Rattle.alma_code.specs.Picture.{PlainEntry, no_entry, last_frame, top_of, entry_at, kind_at}
use Rattle.alma_code.specs.Plain.{PlainCode, end_at}
use Rattle.alma_code.specs.Rules.{ends_routine}
use Rattle.alma_code_laws.proofs.Acts.{Here, left_ready, is_kind_within}
use Rattle.alma_code_laws.proofs.Ready.{Ready, if_true_keeps}
use Rattle.alma_lower_slots.specs.Slots.{away, is_finish, is_forall, body_of}
use Rattle.alma_lower_slots.specs.Sharing.{Sharing, SharesAt, SharesIn, Shares}
use Rattle.alma_lower_slots.proofs.Based.{IsBody, AtFinish, BasedBy, BasedAt, BasedIn, BasedState}
use Rattle.alma_lower_slots.proofs.Bases.{has_self, based_written, based_carried, based_left, based_lower, based_pushed}
use Rattle.alma_lower_slots.proofs.BasedHeld.{NoDone, kind_there, SameEntries, same_entries, no_done_taken, no_done_same, Entries}
use Rattle.alma_lower_slots.proofs.BasedHeld.{entries_taken, entries_same, settled, calm_settled, stopped, Leaves, as_number_leaves}
use Rattle.alma_lower_slots.proofs.BasedHeld.{as_mark_leaves, to_mark_leaves, pushed_leaves}
use Rattle.alma_lower_slots.proofs.CalmActs.{Calm, to_mark_calm, result_calm}

-- ---- marks that are read

-- there is a top frame
top_there : (code : PlainCode) (r at : ℕ) (t : State) → Here code r at t → length t.now - 1 < length t.now
top_there code r at t here = omega (arith, here.ready.frames.some)

-- a mark in the top frame is not below the base of any frame
pub mark_above : (code : PlainCode) (r at a m : ℕ) (t : State) → (b : BasedAt code at t.now t.held) → Here code r at t
    → slot_of t a ≡ Some (cell.Mark m) → (f : ℕ) → f < length t.now → b.base f ≤ m
mark_above code r at a m t b here e f lf =
    let lt = top_there code r at t here in
    omega (arith, b.by.rise f (length t.now - 1) (omega arith) lt, b.by.marks (length t.now - 1) a m lt e)

-- the height of a FORALL is above it
pub body_above : (code : PlainCode) (r at a m : ℕ) (i : Instr) (t : State) → (b : BasedAt code at t.now t.held) → Here code r at t
    → at < end_at code r → get_or code.instrs at I.Fail ≡ i → body_of i ≡ Some a → slot_of t a ≡ Some (cell.Mark m) → (f : ℕ)
    → f < length t.now → b.base f < m
body_above code r at a m i t b here high is body e f lf =
    let lt = top_there code r at t here in
    let looks : IsBody code r a = record { at = at; low = here.low; high = high; is = ap body_of is ∙ body } in
    let mine : IsBody code (last_frame t.now).routine a = subst (λ q. IsBody code q a) (sym here.ready.routine) looks in
    omega (arith, b.by.rise f (length t.now - 1) (omega arith) lt, b.by.bodies (length t.now - 1) a m lt e mine)

module _ (code : PlainCode) (s : Sharing) where
  -- an instruction of routine r that is taken
  pub record Taking (r at : ℕ) (i : Instr) (t : State) : Type 0 where
    pub here : Here code r at t
    pub routine : r < length code.routines
    pub high : at < end_at code r
    pub is : get_or code.instrs at I.Fail ≡ i
    pub shares : SharesAt code s r at i
    pub rules : SharesIn code s r
    pub based : BasedIn code at t

  module _ {r at : ℕ} {i : Instr} {t : State} (h : Taking r at i t) where
    -- the bases of its frames
    abbrev pub mine : BasedAt code at t.now t.held
    mine = h.based.now h.here.ready.going

    -- no Finish stands behind it
    pub goes_on : ends_routine i ≡ false → AtFinish code t.at → ⊥
    goes_on plain e =
        let behind : AtFinish code (suc at) = subst (λ n. AtFinish code n) h.here.at_is e in
        false≢true (sym plain ∙ h.shares.ends behind)

    -- nor where it may go
    pub goes_away : is_forall i ≡ false → (a : ℕ) → away i ≡ Some a → AtFinish code a → ⊥
    goes_away plain a is e = false≢true (sym plain ∙ sym (h.shares.finishes a is) ∙ e)

    -- where it is no Finish no entry is a Done
    pub no_done : is_finish i ≡ false → NoDone t.held
    no_done plain k some le e =
        let d = h.based.done k some le e in
        false≢true (sym plain ∙ sym (ap is_finish h.is) ∙ d.2)

    -- before anything is done
    pub calm : ends_routine i ≡ false → Calm code mine.base t.held t
    calm plain = record { by = mine.by; held = refl; at = goes_on plain }

    -- what most instructions leave
    pub quiet : is_finish i ≡ false → (u : State) → Calm code mine.base t.held u → BasedState code u
    quiet plain u c = calm_settled code mine.base t.held u c h.based.held (no_done plain)

    -- where the machine does not go on
    pub halts : is_finish i ≡ false → (u : State) → u.held ≡ t.held → (u.mode ≡ Going → ⊥) → BasedState code u
    halts plain u same stops =
        stopped code u stops (subst (λ xs. Entries code xs) (sym same) h.based.held)
        (subst (λ xs. NoDone xs) (sym same) (no_done plain))

  -- ---- heights and entries

  -- the height is marked
  pub mark_leaves : (r at a : ℕ) (t : State) → Taking r at (I.Mark a) t → Leaves code (put_mark t a (length t.held))
  unfolding is_finish
  mark_leaves r at a t h =
      let b = mine h in
      let c = calm h refl in
      let lt = top_there code r at t h.here in
      let by = based_written code b.base t.now t.held (length t.now - 1) a (cell.Mark (length t.held)) b.by
      (λ m e.
      let same : length t.held ≡ m = cc in (
        omega (arith, b.by.low (length t.now - 1) lt),
        λ body.
            let looks : IsBody code r a = subst (λ q. IsBody code q a) h.here.ready.routine body in
            absurd (h.rules.bodies at looks.at a h.here.low h.high looks.low looks.high h.is looks.is),
      )) in
      quiet h refl _
      (to_mark_calm code b.base t.held (kind_of t a) t (λ _. quiet_step (with_slot t a (cell.Mark (length t.held)))) c
      (record { by = by; held = refl; at = c.at }))

  -- the entries above a mark fall
  pub cut_leaves : (r at a : ℕ) (t : State) → Taking r at (I.Cut a) t → Leaves code (mark t a (λ m. cut_to t m))
  unfolding is_finish
  cut_leaves r at a t h =
      let b = mine h in
      let c = calm h refl in
      let none = no_done h refl in
      as_mark_leaves code (slot_of t a) t (λ m. cut_to t m) h.based.held none
      (λ m e. if_true_keeps (Leaves code) (nat_lt m (length t.held)) _ _
      (λ less.
      let lt = ltb-true m (length t.held) less in
      let len : length (take m t.held) ≡ m = length-take-le m t.held (omega arith) in
      let by = based_lower code b.base t.now t.held (take m t.held) b.by (omega arith)
      (λ f lf. omega (arith, mark_above code r at a m t b h.here e f lf))
      (λ k lk. ap (λ x. x.frames) (get_or-take m t.held k no_entry (omega arith))) in
      settled code b.base _ (take m t.held) refl by c.at (entries_taken code m t.held (omega arith) h.based.held)
      (no_done_taken m t.held (omega arith) (λ k some le. none k some (omega arith))))
      (λ _. quiet h refl t c))

  -- a choice is pushed
  pub choose_leaves : (r at a : ℕ) (t : State) → Taking r at (I.Choose a) t
      → Leaves code (answer_of_push (state_after_push t choice.Branch a))
  unfolding is_finish is_forall away
  choose_leaves r at a t h =
      let b = mine h in
      let x : PlainEntry = record { kind = choice.Branch; resume = a; frames = t.now; carry = [] } in
      pushed_leaves code b.base t choice.Branch a b.by h.based.held (no_done h refl)
      (record { forall = λ e. absurd (cc); finish = λ e. absurd (goes_away h refl a refl e); some = λ e. absurd (cc) })
      (state_after_push t choice.Branch a) refl (based_pushed code b.base t.now t.held x b.by (has_self t.now)) (goes_on h refl)

  -- a FORALL is pushed, and its height is marked
  pub forall_leaves : (r at a b : ℕ) (t : State) → Taking r at (I.Forall a b) t
      → Leaves code (to_mark (kind_of t a) t
      (λ _. answer_of_push (with_slot (state_after_push t choice.Forall b) a (cell.Mark (length t.held + 1)))))
  unfolding is_finish is_forall away
  forall_leaves r at a to t h =
      let b = mine h in
      let lt = top_there code r at t h.here in
      let x : PlainEntry = record { kind = choice.Forall; resume = to; frames = t.now; carry = [] } in
      let low = b.by.low (length t.now - 1) lt in
      let by = based_written code b.base t.now (t.held ++ x ∷ []) (length t.now - 1) a (cell.Mark (length t.held + 1))
      (based_pushed code b.base t.now t.held x b.by (has_self t.now))
      (λ m e. let same : length t.held + 1 ≡ m = cc in (omega arith, λ body. omega arith)) in
      to_mark_leaves code (kind_of t a) t _ h.based.held (no_done h refl)
      (pushed_leaves code b.base t choice.Forall to b.by h.based.held (no_done h refl)
      (record {
        forall = λ e. h.shares.finishes to refl;
        finish = λ e. (λ q. absurd (cc), λ q. absurd (cc));
        some = λ e. absurd (cc);
      })
      _ refl by (goes_on h refl))

  -- the carry of a FORALL is laid over, and its body is pushed
  pub overlay_leaves : (r at a b : ℕ) (t : State) → Taking r at (I.Overlay a b) t
      → Leaves code (mark t a (λ m. answer_of_push (state_after_push (overlay t m) choice.Body b)))
  unfolding is_finish is_forall away
  overlay_leaves r at a to t h =
      let b = mine h in
      let c = calm h refl in
      let none = no_done h refl in
      as_mark_leaves code (slot_of t a) t (λ m. answer_of_push (state_after_push (overlay t m) choice.Body to)) h.based.held none
      (λ m e.
      let u = overlay t m in
      let laid : Calm code b.base t.held u =
      if_true_keeps (Calm code b.base t.held) (is_forall_at t.held m) (λ _. state_with_carry t m) (λ _. t)
      (λ z.
      let w = is_kind_within code choice.Forall t.held m z in
      let fit = (h.here.ready.held (m - 1) (omega arith)).carry in
      record { by = based_carried code b.base (entry_at t.held m).carry t.now t.held fit b.by; held = refl; at = c.at })
      (λ _. c) in
      let x : PlainEntry = record { kind = choice.Body; resume = to; frames = u.now; carry = [] } in
      let by : BasedBy code b.base u.now u.held = subst (λ xs. BasedBy code b.base u.now xs) (sym laid.held) laid.by in
      pushed_leaves code b.base u choice.Body to by (subst (λ xs. Entries code xs) (sym laid.held) h.based.held)
      (subst (λ xs. NoDone xs) (sym laid.held) none)
      (record { forall = λ q. absurd (cc); finish = λ q. absurd (goes_away h refl to refl q); some = λ q. absurd (cc) })
      (state_after_push u choice.Body to) refl (based_pushed code b.base u.now u.held x by (has_self u.now)) laid.at)

  -- a body is kept
  pub keep_leaves : (r at a : ℕ) (t : State) → Taking r at (I.Keep a) t → Leaves code (mark t a (λ m. keep t m))
  unfolding is_finish body_of
  keep_leaves r at a t h =
      let b = mine h in
      let c = calm h refl in
      let none = no_done h refl in
      let n : ℕ = length t.held in
      as_mark_leaves code (slot_of t a) t (λ m. keep t m) h.based.held none
      (λ m e.
      let below = nat_lt m n && is_kind choice.Body (kind_at t.held n) in
      if_true_keeps (Leaves code) (is_forall_at t.held m && below) _ _
      (λ z.
      let body = is_kind choice.Body (kind_at t.held n) in
      let less = ltb-true m n (and_parts (nat_lt m n) body (and_parts (is_forall_at t.held m) below z).1).0 in
      let new = with_carry (entry_at t.held m) (with_changes (diffs (top_of t.held).frames t.now) (entry_at t.held m).carry) in
      let others = set t.held (m - 1) new in
      let same : SameEntries t.held others = same_entries t.held (m - 1) new refl refl refl in
      let count : length others ≡ n = same.count in
      let few : n - 1 ≤ length others = omega arith in
      let len : length (take (n - 1) others) ≡ n - 1 = length-take-le (n - 1) others few in
      let by = based_lower code b.base t.now t.held (take (n - 1) others) b.by (omega arith)
      (λ f lf. omega (arith, body_above code r at a m (I.Keep a) t b h.here h.high h.is refl e f lf))
      (λ k lk. ap (λ x. x.frames) (get_or-take (n - 1) others k no_entry (omega arith)) ∙ same.frames k (omega arith)) in
      let kept = no_done_same t.held others same none in
      settled code b.base _ (take (n - 1) others) refl by c.at
      (entries_taken code (n - 1) others few (entries_same code t.held others same h.based.held))
      (no_done_taken (n - 1) others few (λ k some le. kept k some (omega arith))))
      (λ _. quiet h refl t c))

  -- a FORALL is finished
  pub finish_leaves : (r at : ℕ) (t : State) → Taking r at I.Finish t → Leaves code (finish t)
  unfolding is_finish
  finish_leaves r at t h =
      let b = mine h in
      let n : ℕ = length t.held in
      let lt = top_there code r at t h.here in
      let high : b.base (length t.now - 1) < n = b.finish (ap is_finish h.is) in
      if_true_keeps (Leaves code) (is_kind choice.Done (kind_at t.held n)) _ _
      (λ z.
      let fit = (h.here.ready.held (n - 1) (omega arith)).carry in
      let few : n - 1 ≤ n = omega arith in
      let len : length (take (n - 1) t.held) ≡ n - 1 = length-take-le (n - 1) t.held few in
      let lower = based_lower code b.base t.now t.held (take (n - 1) t.held) b.by (omega arith)
      (λ f lf. omega (arith, b.by.rise f (length t.now - 1) (omega arith) lt))
      (λ k lk. ap (λ x. x.frames) (get_or-take (n - 1) t.held k no_entry (omega arith))) in
      let by = based_carried code b.base (entry_at t.held n).carry t.now (take (n - 1) t.held) fit lower in
      settled code b.base _ (take (n - 1) t.held) refl by (goes_on h refl) (entries_taken code (n - 1) t.held few h.based.held)
      (no_done_taken (n - 1) t.held few
      (λ k some le e. let d = h.based.done k some (omega arith) e in absurd (omega (arith, d.0)))))
      (λ z. settled code b.base t t.held refl b.by (goes_on h refl) h.based.held
      (λ k some le e.
      let d = h.based.done k some le e in
      let here : kind_at t.held n ≡ Some choice.Done = kind_there t.held n (omega arith) (omega arith)
      ∙ ap (λ j. Some (entry_at t.held j).kind) (sym d.0) ∙ ap Some e in
      false≢true (sym z ∙ ap (is_kind choice.Done) here)))

  -- ---- frames are left

  module _ (shares : Shares code s) where
    -- no Finish stands behind the call of the top frame
    back_plain : (r : ℕ) (t : State) → Ready code r t → 2 ≤ length t.now → AtFinish code (last_frame t.now).back → ⊥
    back_plain r t ready two e =
        let l = left_ready code r t ready two in
        let ret = l.called in
        let rule = shares.instrs l.caller ret.at l.routine ret.low (omega (arith, ret.high, ret.behind)) in
        let call : get_or code.instrs ret.at I.Fail ≡ I.Call (last_frame t.now).routine ret.first ret.to =
        get_or_from_slice_get code.instrs ret.at (I.Call (last_frame t.now).routine ret.first ret.to) I.Fail ret.call in
        false≢true (sym (ap ends_routine call) ∙ rule.ends (subst (λ n. AtFinish code n) ret.behind e))

    -- the state after the top frame is left
    left_calm : (r at : ℕ) (i : Instr) (t : State) → (h : Taking r at i t) → 2 ≤ length t.now
        → Calm code (mine h).base t.held (state_after_leave t)
    left_calm r at i t h two = record {
      by = based_left code (mine h).base (length t.now - 1) t.now t.held (omega arith) (mine h).by;
      held = refl;
      at = back_plain r t h.here.ready two;
    }

    -- a return
    pub return_leaves : (r at : ℕ) (t : State) → Taking r at I.Return t
        → Leaves code (if_true (nat_eq (length t.now) 1) (λ _. ends_run end.Succeeded t) (λ _. answers_return (state_after_leave t)))
    unfolding is_finish
    return_leaves r at t h =
        if_true_keeps (Leaves code) (nat_eq (length t.now) 1) _ _
        (λ _. halts h refl _ refl (λ e. absurd (cc)))
        (λ z.
        let ne = eqb-false (length t.now) 1 z in
        let some = h.here.ready.frames.some in
        quiet h refl _ (left_calm r at I.Return t h (omega arith)))

    -- a return with a result
    pub return_value_leaves : (r at a : ℕ) (t : State) → Taking r at (I.ReturnValue a) t → 2 ≤ length t.now
        → Leaves code (number t a (λ v. result_to (slice_get code.instrs ((last_frame t.now).back - 1)) (state_after_leave t) v))
    unfolding is_finish
    return_value_leaves r at a t h two =
        as_number_leaves code (slot_of t a) t _ h.based.held (no_done h refl)
        (λ v. quiet h refl _
        (result_calm code (mine h).base t.held (slice_get code.instrs ((last_frame t.now).back - 1)) (state_after_leave t) v
        (left_calm r at (I.ReturnValue a) t h two)))
