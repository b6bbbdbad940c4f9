-- Runs of a sound code.
use Rattle.std.proofs.Common.{◌≡◌, ℕ, zero, suc, ◌+◌, ◌-◌, ◌<◌, ◌≤◌, inl, inr, List, [], ◌∷◌, length, get_or, set, map, take, refl, sym, ap}
use Rattle.std.proofs.Common.{◌∙◌, subst, arith, Some, get_or-set_same}
use Rattle.std.specs.Prelude.{pos, slice_get, nat_lt, nat_le}
use Rattle.std.proofs.lemmas.Bool.{cases_lt, and_parts, and_from, le-leb, lt-ltb, ltb-true, leb-true}
use Rattle.std.proofs.lemmas.Option.{slice_get-get_or, slice_get_within, get_or_from_slice_get}
use Rattle.std.proofs.lemmas.List.{get_or-append_right, length-map, length-append, length-take-le, get_or-take}
use Rattle.std.proofs.Math.ListN.{get_or-map, get_or-append}
use Rattle.alma_code.specs.declared.cell.Cell.TheVariants as cell
use Rattle.alma_code.specs.declared.cell.SlotKind.{SlotKind}
use Rattle.alma_code.specs.declared.cell.SlotKind.TheVariants as slot
use Rattle.alma_code.specs.declared.cell.ChoiceKind.{ChoiceKind}
use Rattle.alma_code.specs.declared.cell.ChoiceKind.TheVariants as choice
use Rattle.alma_code.specs.declared.instr.Instr.TheVariants as I
use Rattle.alma_code.specs.Picture.{PlainFrame, PlainEntry, no_frame, no_entry, last_frame, top_of, stack_after_pop, entry_after_pop}
use Rattle.alma_code.specs.Picture.{entry_of_kind_after_pop}
use Rattle.alma_code.specs.Layout.{blank_of, blank_cells}
use Rattle.alma_code.specs.Plain.{PlainCode, head_at, kinds_at, start_at, end_at}
use Rattle.alma_code.specs.Layout.{hold_params}
use Rattle.alma_code.specs.Rules.{IsSound, is_main, kind_in, has_position}
use Rattle.alma_code.specs.Machine.{Mode, Going, Failing, Ended, Stuck, State, step_in, fetch_and_act, with_step_counted, step, after}
use Rattle.alma_code.specs.Machine.{start, pop_or_end}
use Rattle.alma_code.specs.Fits.{routines_of, FitsSlot, FitsFrame, FitsFrames, FitsEntry, FitsHeld, FitsMode, Fits, IsPosition}
use Rattle.alma_code.specs.Laws.{NeverStuck, StaysFit}
use Rattle.alma_code.proofs.Tables.{end_inside}
use Rattle.alma_code_laws.proofs.Writes.{frame-written}
use Rattle.alma_code.proofs.Heads.{number_is}
use Rattle.alma_code_laws.proofs.Ready.{Ready, Good}
use Rattle.alma_code_laws.proofs.Acts.{obeys}
use Rattle.alma_code_laws.proofs.Steps.{act_good}

module _ (code : PlainCode) (sound : IsSound code) where
  -- the input position is a number slot
  pub first_number : slice_get (kinds_at code 0) 0 ≡ Some slot.Number
  first_number =
      let rules = sound.heads 0 sound.table.some in
      number_is (kind_in code 0 0) (and_parts (hold_params (kinds_at code 0) (head_at code 0).params 0) (has_position code 0) rules.2).1

  -- what a pop leaves of an entry fits
  left_fits : (kind : ChoiceKind) (e : PlainEntry) → FitsEntry code e → FitsHeld code (entry_of_kind_after_pop kind e)
  left_fits choice.Forall e h zero lt = record { frames = h.frames; resume = h.resume; carry = h.carry }
  left_fits choice.Forall e h (suc k) lt = absurd (omega arith)
  left_fits choice.Branch e h k lt = absurd (omega arith)
  left_fits choice.Body e h k lt = absurd (omega arith)
  left_fits choice.Done e h k lt = absurd (omega arith)

  -- the stack after a pop fits
  popped_fits : (held : List PlainEntry) → 1 ≤ length held → FitsHeld code held → FitsHeld code (stack_after_pop held)
  popped_fits held some h k lk =
      let n = length held - 1 in
      let rest = take n held in
      let left = entry_after_pop (top_of held) in
      let len : length rest ≡ n = length-take-le n held (omega arith) in
      let all = length-append rest left in
      elim (cases_lt k n) [
        | inl lt ↦
            let below : k < length rest = omega arith in
            subst (λ x. FitsEntry code x) (sym (get_or-append rest left no_entry k below ∙ get_or-take n held k no_entry lt))
            (h k (omega arith))
        | inr le ↦
            let fits = left_fits (top_of held).kind (top_of held) (h n (omega arith)) (k - n) (omega arith) in
            subst (λ x. FitsEntry code x) (sym (get_or-append_right rest left n k no_entry len le)) fits
      ]

  -- a pop, where the entries are these
  pop_good : (held : List PlainEntry) (s : State) → s.held ≡ held → FitsFrames code s.now → FitsHeld code s.held
      → Good code (pop_or_end s held)
  pop_good [] s e f h = record { frames = f; held = h; mode = tt }
  pop_good (x ∷ xs) s e f h =
      let some : 1 ≤ length s.held = omega (arith, ap length e) in
      let entry = h (length s.held - 1) (omega arith) in
      record { frames = entry.frames; held = popped_fits s.held some h; mode = entry.resume }

  module _ (input : List ℕ) where
    -- a step, in each mode
    step_in_good : (m : Mode) (s : State) → s.mode ≡ m → FitsFrames code s.now → FitsHeld code s.held → FitsMode code m s
        → Good code (step_in code input m s)
    step_in_good Going s going f h at =
        let r = (last_frame s.now).routine in
        let fits = f.each (length s.now - 1) (omega (arith, f.some)) in
        let parts = and_parts (nat_le (start_at code r) s.at) (nat_lt s.at (end_at code r)) at in
        let low = leb-true (start_at code r) s.at parts.0 in
        let high = ltb-true s.at (end_at code r) parts.1 in
        let inside = end_inside code sound.table r fits.routine in
        let i = get_or code.instrs s.at I.Fail in
        let is : slice_get code.instrs s.at ≡ Some i = slice_get-get_or code.instrs s.at I.Fail (omega arith) in
        let t : State = record (with_step_counted code input s) { at = s.at + 1; last = s.at } in
        let ready : Ready code r t = record { frames = f; held = h; routine = refl; going = going } in
        let next : s.at + 1 ≡ suc s.at = omega arith in
        subst (λ o. Good code (fetch_and_act code input o s)) (sym is)
        (act_good code input sound i r s.at t (record { ready = ready; at_is = next; low = low; first = first_number })
        (obeys code r s.at i (sound.instrs r s.at fits.routine low high)) is fits.routine)
    step_in_good Failing s going f h at = pop_good s.held (with_step_counted code input s) refl f h
    step_in_good (Ended e) s going f h at = record { frames = f; held = h; mode = subst (λ m. FitsMode code m s) (sym going) tt }
    step_in_good Stuck s going f h at = absurd at

    -- a step keeps what fits
    step_good : (s : State) → Fits code s → Fits code (step code input s).state
    step_good s h = step_in_good s.mode s refl h.frames h.held h.mode

    -- the state after n steps fits
    pub after_fits : (n : ℕ) (s : State) → Fits code s → Fits code (after code input n s)
    after_fits zero s h = h
    after_fits (suc n) s h = after_fits n (step code input s).state (step_good s h)

  -- a blank cell fits its slot in the first frame
  blank_fits : (k : SlotKind) → FitsSlot code (0 ∷ []) 0 k (blank_of k)
  blank_fits slot.Number = tt
  blank_fits (slot.Place n) = tt
  blank_fits slot.Mark = tt
  blank_fits (slot.Link q) = tt

  -- the start fits
  start_good : Fits code (start code)
  start_good =
      let kinds = kinds_at code 0 in
      let blank : PlainFrame = record {
        routine = 0;
        back = 0;
        declared = (head_at code 0).declared;
        kinds = kinds;
        cells =
            blank_cells (head_at code 0);
      } in
      let lt : 0 < length kinds = slice_get_within kinds 0 slot.Number first_number in
      let wide : length (map blank_of kinds) ≡ length kinds = length-map kinds blank_of in
      let before : FitsFrame code (0 ∷ []) 0 blank = record {
        routine = sound.table.some;
        kinds = refl;
        full = wide;
        cells = λ i li. subst (λ x. FitsSlot code (0 ∷ []) 0 (get_or kinds i slot.Mark) x) (sym (get_or-map blank_of kinds i slot.Mark))
            (blank_fits (get_or kinds i slot.Mark));
        main = λ e. refl;
        called = λ le. absurd (omega arith);
      } in
      let number : get_or kinds 0 slot.Mark ≡ slot.Number = get_or_from_slice_get kinds 0 slot.Number slot.Mark first_number in
      let fits = frame-written code (0 ∷ []) 0 0 blank (cell.Int (pos 0)) before lt
      (subst (λ k. FitsSlot code (0 ∷ []) 0 k (cell.Int (pos 0))) (sym number) tt) in
      let rule = (sound.heads 0 sound.table.some).0 in
      let room = ltb-true (start_at code 0) (end_at code 0)
      (and_parts (nat_lt (start_at code 0) (end_at code 0)) (is_main code 0) rule).0 in
      let at0 : get_or (set (blank_cells (head_at code 0)) 0 (cell.Int (pos 0))) 0 cell.Unset ≡ cell.Int (pos 0) =
      get_or-set_same (blank_cells (head_at code 0)) 0 (cell.Int (pos 0)) cell.Unset (omega arith) in
      record {
        frames = record {
          some = omega arith;
          each = λ f. elim f as (λ f. f < length ((start code).now)
              → FitsFrame code (routines_of (start code).now) f (get_or (start code).now f no_frame)) [
                | zero ↦ λ _. fits
                | suc k ↦ λ lf. absurd (omega arith)
              ];
          position = subst IsPosition (sym at0) tt;
        };
        held = λ k lk. absurd (omega arith);
        mode = and_from (nat_le 0 0) (nat_lt 0 (end_at code 0)) (le-leb 0 0 (omega arith)) (lt-ltb 0 (end_at code 0) room);
      }

-- the machine begins a sound code in a state that fits it
pub start_fits : (code : PlainCode) → IsSound code → Fits code (start code)
start_fits code sound = start_good code sound

-- a step of a sound code keeps what fits
pub stays_fit : (code : PlainCode) (input : List ℕ) → IsSound code → StaysFit code input
stays_fit code input sound s h = step_good code sound input s h

-- a state that fits is not stuck
not_stuck : (code : PlainCode) (m : Mode) (s : State) → m ≡ Stuck → FitsMode code m s → ⊥
not_stuck code Stuck s e h = h
not_stuck code Going s e h = cc
not_stuck code Failing s e h = cc
not_stuck code (Ended x) s e h = cc

-- a sound code never gets stuck
pub never_stuck : (code : PlainCode) (input : List ℕ) → IsSound code → NeverStuck code input
never_stuck code input sound n e =
    let h = after_fits code sound input n (start code) (start_good code sound) in
    not_stuck code (after code input n (start code)).mode (after code input n (start code)) e h.mode
