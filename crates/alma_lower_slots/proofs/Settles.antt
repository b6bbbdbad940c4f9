-- How an instruction that is taken in two states that are alike leaves them.
use Rattle.std.proofs.Common.{◌≡◌, ℕ, suc, ◌-◌, ◌<◌, inl, inr, List, [], length, get_or, refl, sym, ap, ◌∙◌, subst, arith, Option}
use Rattle.std.proofs.Common.{Some, None, ◌⊎◌}
use Rattle.std.specs.Prelude.{ℤ, slice_get, Bool, true, false}
use Rattle.std.proofs.lemmas.Bool.{or_cases, or_left, or_right}
use Rattle.alma_base.specs.Choice.{if_true}
use Rattle.alma_base.specs.declared.fault.RunFault.{RunFault}
use Rattle.alma_base.specs.declared.fault.RunFault.TheVariants as fault
use Rattle.alma_code.specs.declared.cell.Cell.{Cell}
use Rattle.alma_code.specs.declared.cell.Cell.TheVariants as cell
use Rattle.alma_code.specs.declared.cell.CellPlace.{CellPlace}
use Rattle.alma_code.specs.declared.cell.SlotKind.{SlotKind}
use Rattle.alma_code.specs.declared.cell.SlotKind.TheVariants as slot
use Rattle.alma_code.specs.declared.instr.Instr.{Instr}
use Rattle.alma_code.specs.declared.step.Step.{Step}
use Rattle.alma_code.specs.declared.step.Step.TheVariants as answer
use Rattle.alma_code.specs.declared.step.End.{End}
use Rattle.alma_code.specs.declared.step.End.TheVariants as end
use Rattle.alma_code.specs.Picture.{no_frame, frames_with_cell, last_frame}
use Rattle.alma_code.specs.Plain.{PlainCode, kinds_at}
use Rattle.alma_code.specs.Rules.{IsSound}
use Rattle.alma_code.specs.Fits.{routines_of, FitsFrame}
use Rattle.alma_code.specs.Machine.{Ended, State, StepResult, quiet_step, gets_stuck}
use Rattle.alma_code.specs.Machine.{ends_run, ends_in_fault, fails_now, goes_to, top, slot_of, kind_of, as_number, as_place, as_mark}
use Rattle.alma_code.specs.Machine.{number, place, mark, link, with_slot, to_number, to_place, to_mark, to_link, put_number, put_place}
use Rattle.alma_code.specs.Machine.{put_mark, put_link, link_to}
use Rattle.alma_lower_slots.specs.Slots.{target_slot, away}
use Rattle.alma_lower_slots.specs.Sharing.{Sharing, matters, Shares, Renames}
use Rattle.alma_lower_slots.proofs.Alike.{FramesMatter, IsDue, is_kept, on_top, below, AlikeFrame, AlikeFrames, AlikeRest, AlikeStep}
use Rattle.alma_lower_slots.proofs.Alike.{Doing}
use Rattle.alma_lower_slots.proofs.Frames.{frames_fewer, frames_alike_written}

-- a sound code whose slots may be shared, and what becomes of it
pub record Shared (code new : PlainCode) (s : Sharing) : Type 0 where
  pub sound : IsSound code
  pub shares : Shares code s
  pub renames : Renames code s new

module _ {code new : PlainCode} {s : Sharing} where
  -- ---- how a step ends

  -- the states go on
  pub goes_alike : {t t' : State} (a : Step) (bytes : List ℕ) → AlikeRest code new s t t' → AlikeFrames code new s t.at t.now t'.now
      → AlikeStep code new s (record { answer = a; printed = bytes; state = t }) (record { answer = a; printed = bytes; state = t' })
  goes_alike a bytes rest now = record { answer = refl; printed = refl; state = record { rest = rest; now = λ _. now } }

  -- the states get stuck
  pub stuck_alike : {t t' : State} → AlikeRest code new s t t' → AlikeStep code new s (gets_stuck t) (gets_stuck t')
  stuck_alike h = record {
    answer = refl;
    printed = refl;
    state = record {
      rest = record {
        at = h.at;
        last = h.last;
        mode = refl;
        steps = h.steps;
        choices = h.choices;
        fails = h.fails;
        held = h.held;
      };
      now = λ e. absurd e;
    };
  }

  -- the runs end
  pub ended_alike : {t t' : State} (e : End) → AlikeRest code new s t t'
      → (FramesMatter (Ended e) → AlikeFrames code new s t.at t.now t'.now) → AlikeStep code new s (ends_run e t) (ends_run e t')
  ended_alike e h now = record {
    answer = refl;
    printed = refl;
    state = record {
      rest = record {
        at = h.at;
        last = h.last;
        mode = refl;
        steps = h.steps;
        choices = h.choices;
        fails = h.fails;
        held = h.held;
      };
      now = now;
    };
  }

  -- the runs end in a fault
  pub fault_alike : {t t' : State} (f : RunFault) → AlikeRest code new s t t'
      → AlikeStep code new s (ends_in_fault f t) (ends_in_fault f t')
  fault_alike f h = ended_alike (end.Fault f) h (λ e. absurd e)

  -- the states fail
  pub fails_alike : {t t' : State} → AlikeRest code new s t t' → AlikeStep code new s (fails_now t) (fails_now t')
  fails_alike h = record {
    answer = refl;
    printed = refl;
    state = record {
      rest = record {
        at = h.at;
        last = h.last;
        mode = refl;
        steps = h.steps;
        choices = h.choices;
        fails = h.fails;
        held = h.held;
      };
      now = λ e. absurd e;
    };
  }

  -- a choice by one test in both
  pub if_alike : (b : Bool) (k z k' z' : Unit {0} → StepResult) → (b ≡ true → AlikeStep code new s (k tt) (k' tt))
      → (b ≡ false → AlikeStep code new s (z tt) (z' tt)) → AlikeStep code new s (if_true b k z) (if_true b k' z')
  if_alike true k z k' z' holds fails = holds refl
  if_alike false k z k' z' holds fails = fails refl

  -- ---- the top frame

  -- there is one
  pub top_live : {r at : ℕ} {i : Instr} {t t' : State} → Doing code new s r at i t t' → top t < length t.now
  top_live {r} {at} {i} {t} h = omega (arith, h.here.ready.frames.some)

  -- it is of the same number
  pub top_same : {r at : ℕ} {i : Instr} {t t' : State} → Doing code new s r at i t t' → top t' ≡ top t
  top_same h = ap (λ n. n - 1) h.taken.now.count

  -- it fits
  pub top_fits : {r at : ℕ} {i : Instr} {t t' : State} → Doing code new s r at i t t'
      → FitsFrame code (routines_of t.now) (top t) (last_frame t.now)
  top_fits {r} {at} {i} {t} h = h.here.ready.frames.each (top t) (top_live h)

  -- its cells are as many as the slots of the routine
  pub top_full : {r at : ℕ} {i : Instr} {t t' : State} → Doing code new s r at i t t'
      → length (last_frame t.now).cells ≡ length (kinds_at code r)
  top_full {r} {at} {i} {t} h =
      let fits = top_fits h in
      fits.full ∙ ap length (fits.kinds ∙ ap (kinds_at code) h.here.ready.routine)

  -- both are alike
  pub top_alike : {r at : ℕ} {i : Instr} {t t' : State} → Doing code new s r at i t t'
      → AlikeFrame code new s (IsDue code new s t.now at (top t)) (last_frame t.now) (last_frame t'.now)
  top_alike {r} {at} {i} {t} {t'} h =
      subst (λ n. AlikeFrame code new s (IsDue code new s t.now at (top t)) (last_frame t.now) (get_or t'.now n no_frame))
      (sym (top_same h)) (h.taken.now.each (top t) (top_live h))

  -- what matters in it is due
  pub due_on_top : {r at : ℕ} {i : Instr} {t t' : State} → Doing code new s r at i t t' → (to n : ℕ) → matters s r to n ≡ true
      → IsDue code new s t.now to (top t) n
  due_on_top {r} {at} {i} {t} h to n m =
      let routine : r ≡ (last_frame t.now).routine = sym h.here.ready.routine in
      let live = top_live h in
      elim (or_cases (s.kept r n) (s.live r to n) m) [
        | inl k ↦ is_kept (subst (λ q. s.kept q n ≡ true) routine k)
        | inr l ↦ on_top (omega arith) (subst (λ q. s.live q to n ≡ true) routine l)
      ]

  -- what is due in it matters
  pub matters_on_top : {r at : ℕ} {i : Instr} {t t' : State} → Doing code new s r at i t t' → (to n : ℕ)
      → IsDue code new s t.now to (top t) n → matters s r to n ≡ true
  matters_on_top {r} {at} {i} {t} h to n (is_kept k) =
      or_left (s.kept r n) (s.live r to n) (subst (λ q. s.kept q n ≡ true) h.here.ready.routine k)
  matters_on_top {r} {at} {i} {t} h to n (on_top e l) =
      or_right (s.kept r n) (s.live r to n) (subst (λ q. s.live q to n ≡ true) h.here.ready.routine l)
  matters_on_top {r} {at} {i} {t} h to n (below lt l w) = absurd (omega (arith, lt))

  -- a slot of it that matters holds the same in both
  pub slot_alike : {r at : ℕ} {i : Instr} {t t' : State} → Doing code new s r at i t t' → (n : ℕ) → n < length (kinds_at code r)
      → matters s r at n ≡ true → slot_of t' (s.slot r n) ≡ slot_of t n
  slot_alike {r} {at} {i} {t} {t'} h n lt m =
      subst (λ q. slice_get (last_frame t'.now).cells (s.slot q n) ≡ slice_get (last_frame t.now).cells n) h.here.ready.routine
      ((top_alike h).cells n (subst (λ q. n < length (kinds_at code q)) (sym h.here.ready.routine) lt) (due_on_top h at n m))

  -- a slot of it is of the same kind in both
  pub kind_alike : {r at : ℕ} {i : Instr} {t t' : State} → Shared code new s → Doing code new s r at i t t' → (n : ℕ)
      → n < length (kinds_at code r) → kind_of t' (s.slot r n) ≡ kind_of t n
  kind_alike {r} {at} {i} {t} {t'} w h n lt =
      let ready = h.here.ready in
      let kinds : (last_frame t.now).kinds ≡ kinds_at code r = (top_fits h).kinds ∙ ap (kinds_at code) ready.routine in
      let kinds' : (last_frame t'.now).kinds ≡ kinds_at new r = (top_alike h).kinds ∙ ap (kinds_at new) ready.routine in
      ap (λ ks. slice_get ks (s.slot r n)) kinds' ∙ w.renames.kinds r n h.routine lt ∙ ap (λ ks. slice_get ks n) (sym kinds)

  -- ---- behind the instruction

  -- what is due where it goes on is due at it, or is what it writes
  pub due_behind : {r at : ℕ} {i : Instr} {t t' : State} → Doing code new s r at i t t' → (f n : ℕ)
      → IsDue code new s t.now (suc at) f n
      → IsDue code new s t.now at f n ⊎ ((suc f ≡ length t.now) × (target_slot code i ≡ Some n))
  due_behind {r} {at} {i} {t} h f n (is_kept k) = inl (is_kept k)
  due_behind {r} {at} {i} {t} h f n (below lt l w) = inl (below lt l w)
  due_behind {r} {at} {i} {t} h f n (on_top e l) =
      let top_is : length t.now - 1 ≡ f = omega arith in
      let routine : (get_or t.now f no_frame).routine ≡ r = ap (λ k. (get_or t.now k no_frame).routine) (sym top_is)
      ∙ h.here.ready.routine in
      elim (h.shares.next n (subst (λ q. s.live q (suc at) n ≡ true) routine l)) [
        | inl before ↦ inl (on_top e (subst (λ q. s.live q at n ≡ true) (sym routine) before))
        | inr w ↦ inr (e, w)
      ]

  -- the frames of an instruction that writes nothing are alike behind it
  pub behind_alike : {r at : ℕ} {i : Instr} {t t' : State} → Doing code new s r at i t t' → target_slot code i ≡ None
      → AlikeFrames code new s (suc at) t.now t'.now
  behind_alike {r} {at} {i} {t} {t'} h none =
      frames_fewer code new s at (suc at) t.now t'.now h.taken.now (λ f n lf ln due. elim (due_behind h f n due) [
        | inl d ↦ d
        | inr (e, w) ↦ absurd (cc)
      ])

  -- what is due where it goes away to is due at it
  due_away : {r at : ℕ} {i : Instr} {t t' : State} → Doing code new s r at i t t' → (to : ℕ) → away i ≡ Some to → (f n : ℕ)
      → IsDue code new s t.now to f n → IsDue code new s t.now at f n
  due_away {r} {at} {i} {t} h to is f n (is_kept k) = is_kept k
  due_away {r} {at} {i} {t} h to is f n (below lt l w) = below lt l w
  due_away {r} {at} {i} {t} h to is f n (on_top e l) =
      let top_is : length t.now - 1 ≡ f = omega arith in
      let routine : (get_or t.now f no_frame).routine ≡ r = ap (λ k. (get_or t.now k no_frame).routine) (sym top_is)
      ∙ h.here.ready.routine in
      on_top e (subst (λ q. s.live q at n ≡ true) (sym routine)
      (h.shares.jump to n is (subst (λ q. s.live q to n ≡ true) routine l)))

  -- the frames are alike where it goes away to
  pub away_alike : {r at : ℕ} {i : Instr} {t t' : State} → Doing code new s r at i t t' → (to : ℕ) → away i ≡ Some to
      → AlikeFrames code new s to t.now t'.now
  away_alike {r} {at} {i} {t} {t'} h to is =
      frames_fewer code new s at to t.now t'.now h.taken.now (λ f n lf ln d. due_away h to is f n d)

  -- the frames are alike behind it, after a write of one cell to the slot that it writes
  pub written_alike : {r at : ℕ} {i : Instr} {t t' : State} → Shared code new s → Doing code new s r at i t t' → (n : ℕ) (c : Cell)
      → n < length (kinds_at code r) → target_slot code i ≡ Some n
      → AlikeFrames code new s (suc at) (with_slot t n c).now (with_slot t' (s.slot r n) c).now
  written_alike {r} {at} {i} {t} {t'} w h n c lt is =
      let alike : AlikeFrames code new s (suc at) (frames_with_cell t.now (top t) n c) (frames_with_cell t'.now (top t) (s.slot r n) c) =
      frames_alike_written code new s w.renames at (suc at) t.now t'.now (top t) r n c h.taken.now (top_live h) h.here.ready.routine
      h.routine lt (top_full h)
      (λ g m lg lm ne due. elim (due_behind h g m due) [
        | inl d ↦ d
        | inr (e, wm) ↦
            let same : m ≡ n = cc in
            let is_top : g ≡ top t = omega arith in
            absurd (ne is_top same)
      ])
      (λ m lm due e. h.shares.apart n m lm is (matters_on_top h (suc at) m due) e) in
      subst (λ f. AlikeFrames code new s (suc at) (frames_with_cell t.now (top t) n c) (frames_with_cell t'.now f (s.slot r n) c))
      (sym (top_same h)) alike

  -- an instruction that writes nothing goes on
  pub settle : {r at : ℕ} {i : Instr} {t t' : State} → Doing code new s r at i t t' → target_slot code i ≡ None
      → (a : Step) (bytes : List ℕ)
      → AlikeStep code new s (record { answer = a; printed = bytes; state = t }) (record { answer = a; printed = bytes; state = t' })
  settle {r} {at} {i} {t} {t'} h none a bytes =
      goes_alike a bytes h.taken.rest
      (subst (λ n. AlikeFrames code new s n t.now t'.now) (sym h.taken.behind) (behind_alike h none))

  -- it goes away
  pub goes_away : {r at : ℕ} {i : Instr} {t t' : State} → Doing code new s r at i t t' → (to : ℕ) → away i ≡ Some to
      → AlikeStep code new s (goes_to to t) (goes_to to t')
  goes_away {r} {at} {i} {t} {t'} h to is =
      let rest = h.taken.rest in
      goes_alike {t = record t { at = to }} {t' = record t' { at = to }} answer.Went [] (record {
        at = refl;
        last = rest.last;
        mode = rest.mode;
        steps = rest.steps;
        choices = rest.choices;
        fails = rest.fails;
        held = rest.held;
      }) (away_alike h to is)

  -- ---- reads

  -- a cell is read as a number
  pub as_number_alike : {t t' : State} → AlikeRest code new s t t' → (o : Option Cell) (k k' : ℤ → StepResult)
      → ((v : ℤ) → o ≡ Some (cell.Int v) → AlikeStep code new s (k v) (k' v)) → AlikeStep code new s (as_number o t k) (as_number o t' k')
  as_number_alike h (Some (cell.Int v)) k k' good = good v refl
  as_number_alike h (Some cell.Unknown) k k' good = fault_alike fault.Unknown h
  as_number_alike h (Some cell.Unset) k k' good = stuck_alike h
  as_number_alike h (Some (cell.Place p)) k k' good = stuck_alike h
  as_number_alike h (Some (cell.Mark m)) k k' good = stuck_alike h
  as_number_alike h None k k' good = stuck_alike h

  -- a cell is read as a place
  pub as_place_alike : {t t' : State} → AlikeRest code new s t t' → (o : Option Cell) (k k' : CellPlace → StepResult)
      → ((p : CellPlace) → o ≡ Some (cell.Place p) → AlikeStep code new s (k p) (k' p))
      → AlikeStep code new s (as_place o t k) (as_place o t' k')
  as_place_alike h (Some (cell.Place p)) k k' good = good p refl
  as_place_alike h (Some cell.Unset) k k' good = fault_alike fault.Unknown h
  as_place_alike h (Some cell.Unknown) k k' good = stuck_alike h
  as_place_alike h (Some (cell.Int v)) k k' good = stuck_alike h
  as_place_alike h (Some (cell.Mark m)) k k' good = stuck_alike h
  as_place_alike h None k k' good = stuck_alike h

  -- a cell is read as a mark
  pub as_mark_alike : {t t' : State} → AlikeRest code new s t t' → (o : Option Cell) (k k' : ℕ → StepResult)
      → ((m : ℕ) → o ≡ Some (cell.Mark m) → AlikeStep code new s (k m) (k' m)) → AlikeStep code new s (as_mark o t k) (as_mark o t' k')
  as_mark_alike h (Some (cell.Mark m)) k k' good = good m refl
  as_mark_alike h (Some cell.Unset) k k' good = fault_alike fault.Unknown h
  as_mark_alike h (Some cell.Unknown) k k' good = stuck_alike h
  as_mark_alike h (Some (cell.Int v)) k k' good = stuck_alike h
  as_mark_alike h (Some (cell.Place p)) k k' good = stuck_alike h
  as_mark_alike h None k k' good = stuck_alike h

  -- the number in a slot that matters is read
  pub number_alike : {r at : ℕ} {i : Instr} {t t' : State} → Doing code new s r at i t t' → (n : ℕ) → n < length (kinds_at code r)
      → matters s r at n ≡ true → (k k' : ℤ → StepResult)
      → ((v : ℤ) → slot_of t n ≡ Some (cell.Int v) → AlikeStep code new s (k v) (k' v))
      → AlikeStep code new s (number t n k) (number t' (s.slot r n) k')
  number_alike {r} {at} {i} {t} {t'} h n lt m k k' good =
      subst (λ o. AlikeStep code new s (number t n k) (as_number o t' k')) (sym (slot_alike h n lt m))
      (as_number_alike h.taken.rest (slot_of t n) k k' good)

  -- the place in it
  pub place_alike : {r at : ℕ} {i : Instr} {t t' : State} → Doing code new s r at i t t' → (n : ℕ) → n < length (kinds_at code r)
      → matters s r at n ≡ true → (k k' : CellPlace → StepResult)
      → ((p : CellPlace) → slot_of t n ≡ Some (cell.Place p) → AlikeStep code new s (k p) (k' p))
      → AlikeStep code new s (place t n k) (place t' (s.slot r n) k')
  place_alike {r} {at} {i} {t} {t'} h n lt m k k' good =
      subst (λ o. AlikeStep code new s (place t n k) (as_place o t' k')) (sym (slot_alike h n lt m))
      (as_place_alike h.taken.rest (slot_of t n) k k' good)

  -- the mark in it
  pub mark_alike : {r at : ℕ} {i : Instr} {t t' : State} → Doing code new s r at i t t' → (n : ℕ) → n < length (kinds_at code r)
      → matters s r at n ≡ true → (k k' : ℕ → StepResult)
      → ((m : ℕ) → slot_of t n ≡ Some (cell.Mark m) → AlikeStep code new s (k m) (k' m))
      → AlikeStep code new s (mark t n k) (mark t' (s.slot r n) k')
  mark_alike {r} {at} {i} {t} {t'} h n lt m k k' good =
      subst (λ o. AlikeStep code new s (mark t n k) (as_mark o t' k')) (sym (slot_alike h n lt m))
      (as_mark_alike h.taken.rest (slot_of t n) k k' good)

  -- the frame that the link in it names
  pub link_alike : {r at : ℕ} {i : Instr} {t t' : State} → Doing code new s r at i t t' → (n : ℕ) → n < length (kinds_at code r)
      → matters s r at n ≡ true → (k k' : ℕ → StepResult)
      → ((p : CellPlace) → slot_of t n ≡ Some (cell.Place p) → AlikeStep code new s (k p.frame) (k' p.frame))
      → AlikeStep code new s (link t n k) (link t' (s.slot r n) k')
  link_alike h n lt m k k' good = place_alike h n lt m (λ p. k p.frame) (λ p. k' p.frame) good

  -- ---- writes

  -- a cell is written to the slot that the instruction writes, and it goes on
  pub slot_written : {r at : ℕ} {i : Instr} {t t' : State} → Shared code new s → Doing code new s r at i t t' → (n : ℕ) (c : Cell)
      → n < length (kinds_at code r) → target_slot code i ≡ Some n
      → AlikeStep code new s (quiet_step (with_slot t n c)) (quiet_step (with_slot t' (s.slot r n) c))
  slot_written {r} {at} {i} {t} {t'} w h n c lt is =
      let rest = h.taken.rest in
      goes_alike {t = with_slot t n c} {t' = with_slot t' (s.slot r n) c} answer.Went [] (record {
        at = rest.at;
        last = rest.last;
        mode = rest.mode;
        steps = rest.steps;
        choices = rest.choices;
        fails = rest.fails;
        held = rest.held;
      }) (subst (λ l. AlikeFrames code new s l (with_slot t n c).now (with_slot t' (s.slot r n) c).now) (sym h.taken.behind)
      (written_alike w h n c lt is))

  -- goes on alike where the kind of the slot is a number's
  pub to_number_alike : {t t' : State} → AlikeRest code new s t t' → (o : Option SlotKind) (k k' : Unit {0} → StepResult)
      → AlikeStep code new s (k tt) (k' tt) → AlikeStep code new s (to_number o t k) (to_number o t' k')
  to_number_alike h (Some slot.Number) k k' good = good
  to_number_alike h (Some (slot.Place l)) k k' good = stuck_alike h
  to_number_alike h (Some slot.Mark) k k' good = stuck_alike h
  to_number_alike h (Some (slot.Link q)) k k' good = stuck_alike h
  to_number_alike h None k k' good = stuck_alike h

  -- a place's
  pub to_place_alike : {t t' : State} → AlikeRest code new s t t' → (o : Option SlotKind) (k k' : ℕ → StepResult)
      → ((l : ℕ) → AlikeStep code new s (k l) (k' l)) → AlikeStep code new s (to_place o t k) (to_place o t' k')
  to_place_alike h (Some (slot.Place l)) k k' good = good l
  to_place_alike h (Some slot.Number) k k' good = stuck_alike h
  to_place_alike h (Some slot.Mark) k k' good = stuck_alike h
  to_place_alike h (Some (slot.Link q)) k k' good = stuck_alike h
  to_place_alike h None k k' good = stuck_alike h

  -- a mark's
  pub to_mark_alike : {t t' : State} → AlikeRest code new s t t' → (o : Option SlotKind) (k k' : Unit {0} → StepResult)
      → AlikeStep code new s (k tt) (k' tt) → AlikeStep code new s (to_mark o t k) (to_mark o t' k')
  to_mark_alike h (Some slot.Mark) k k' good = good
  to_mark_alike h (Some slot.Number) k k' good = stuck_alike h
  to_mark_alike h (Some (slot.Place l)) k k' good = stuck_alike h
  to_mark_alike h (Some (slot.Link q)) k k' good = stuck_alike h
  to_mark_alike h None k k' good = stuck_alike h

  -- a link's
  pub to_link_alike : {t t' : State} → AlikeRest code new s t t' → (o : Option SlotKind) (k k' : Unit {0} → StepResult)
      → AlikeStep code new s (k tt) (k' tt) → AlikeStep code new s (to_link o t k) (to_link o t' k')
  to_link_alike h (Some (slot.Link q)) k k' good = good
  to_link_alike h (Some slot.Number) k k' good = stuck_alike h
  to_link_alike h (Some (slot.Place l)) k k' good = stuck_alike h
  to_link_alike h (Some slot.Mark) k k' good = stuck_alike h
  to_link_alike h None k k' good = stuck_alike h

  -- a number is put into the slot that the instruction writes
  pub put_number_alike : {r at : ℕ} {i : Instr} {t t' : State} → Shared code new s → Doing code new s r at i t t' → (n : ℕ) (v : ℤ)
      → n < length (kinds_at code r) → target_slot code i ≡ Some n
      → AlikeStep code new s (put_number t n v) (put_number t' (s.slot r n) v)
  put_number_alike {r} {at} {i} {t} {t'} w h n v lt is =
      subst (λ o. AlikeStep code new s (put_number t n v) (to_number o t' (λ _. quiet_step (with_slot t' (s.slot r n) (cell.Int v)))))
      (sym (kind_alike w h n lt))
      (to_number_alike h.taken.rest (kind_of t n) _ _ (slot_written w h n (cell.Int v) lt is))

  -- a place is
  pub put_place_alike : {r at : ℕ} {i : Instr} {t t' : State} → Shared code new s → Doing code new s r at i t t' → (n : ℕ)
      → n < length (kinds_at code r) → target_slot code i ≡ Some n → (frame : ℕ) (first : ℕ → ℕ)
      → AlikeStep code new s (put_place t n frame first) (put_place t' (s.slot r n) frame first)
  put_place_alike {r} {at} {i} {t} {t'} w h n lt is frame first =
      let cell_of : ℕ → Cell = λ l. cell.Place (record { frame = frame; slot = first l; len = l }) in
      subst (λ o. AlikeStep code new s (put_place t n frame first)
      (to_place o t' (λ l. quiet_step (with_slot t' (s.slot r n) (cell_of l)))))
      (sym (kind_alike w h n lt))
      (to_place_alike h.taken.rest (kind_of t n) _ _ (λ l. slot_written w h n (cell_of l) lt is))

  -- a mark is
  pub put_mark_alike : {r at : ℕ} {i : Instr} {t t' : State} → Shared code new s → Doing code new s r at i t t' → (n m : ℕ)
      → n < length (kinds_at code r) → target_slot code i ≡ Some n
      → AlikeStep code new s (put_mark t n m) (put_mark t' (s.slot r n) m)
  put_mark_alike {r} {at} {i} {t} {t'} w h n m lt is =
      subst (λ o. AlikeStep code new s (put_mark t n m) (to_mark o t' (λ _. quiet_step (with_slot t' (s.slot r n) (cell.Mark m)))))
      (sym (kind_alike w h n lt))
      (to_mark_alike h.taken.rest (kind_of t n) _ _ (slot_written w h n (cell.Mark m) lt is))

  -- a link is
  pub put_link_alike : {r at : ℕ} {i : Instr} {t t' : State} → Shared code new s → Doing code new s r at i t t' → (n : ℕ)
      → n < length (kinds_at code r) → target_slot code i ≡ Some n → (frame : ℕ)
      → AlikeStep code new s (put_link t n frame) (put_link t' (s.slot r n) frame)
  put_link_alike {r} {at} {i} {t} {t'} w h n lt is frame =
      subst (λ o. AlikeStep code new s (put_link t n frame)
      (to_link o t' (λ _. quiet_step (with_slot t' (s.slot r n) (cell.Place (link_to frame))))))
      (sym (kind_alike w h n lt))
      (to_link_alike h.taken.rest (kind_of t n) _ _ (slot_written w h n (cell.Place (link_to frame)) lt is))
