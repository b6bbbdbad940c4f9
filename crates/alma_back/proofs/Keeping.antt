-- What a run keeps to go back by, step by step.
use Rattle.std.proofs.Common.{◌≡◌, ◌<◌, ◌≤◌, ◌+◌, ◌-◌, ◌∙◌, ℕ, zero, suc, List, [], ◌∷◌, ◌++◌, length, refl, sym, ap, subst, arith}
use Rattle.std.proofs.Common.{length-append}
use Rattle.std.proofs.lemmas.List.{same_from_push, length_push}
use Rattle.std.specs.Prelude.{true}
use Rattle.alma_code.specs.declared.step.Step.{Step}
use Rattle.alma_code.specs.Fits.{Fits}
use Rattle.alma_code.specs.Machine.{Mode, Going, Failing, Ended, Stuck, State, StepResult, step, after, prints, start}
use Rattle.alma_code.specs.Picture.{PlainFrame, PlainEntry}
use Rattle.alma_code.specs.Plain.{PlainCode}
use Rattle.alma_code.specs.Rules.{IsSound}
use Rattle.alma_code_laws.proofs.Runs.{start_fits, stays_fit}
use Rattle.alma_memory.specs.Machine.{Scene, MachinePicture}
use Rattle.alma_machine.specs.Stands.{Stands}
use Rattle.alma_machine.proofs.Budget.{after_more, prints_more}
use Rattle.alma_machine_acts.specs.Steps.{IsLive, step_result}
use Rattle.alma_machine_acts.specs.declared.registers.Registers.{Registers}
use Rattle.alma_back.specs.declared.back.Old.{Old}
use Rattle.alma_back.specs.Kept.{state_in, scene_of, is_failing, mode_by, old_of, state_at, printed_at, olds_before, scenes_before}
use Rattle.alma_back.specs.Kept.{IsCounted, Keeps}
use Rattle.alma_trace.specs.Cuts.{can_go}

-- a run that has not ended is live
live_of : (m : Mode) → can_go m ≡ true → IsLive m
live_of Going h = tt
live_of Failing h = tt
live_of (Ended end) h = cc h
live_of Stuck h = cc h

-- the mode of a live one, by whether it fails
mode_is : (m : Mode) → IsLive m → mode_by (is_failing m) ≡ m
mode_is Going h = refl
mode_is Failing h = refl
mode_is (Ended end) h = absurd h
mode_is Stuck h = absurd h

-- a state by its parts
abbrev pub state_of_parts : (at last : ℕ) → Mode → List PlainFrame → List PlainEntry → (steps choices fails : ℕ) → State
state_of_parts at last mode now held steps choices fails =
    record { at = at; last = last; mode = mode; now = now; held = held; steps = steps; choices = choices; fails = fails }

module _ (code : PlainCode) (input : List ℕ) where
  -- one step more
  after_suc : (n : ℕ) → state_at code input (suc n) ≡ (step code input (state_at code input n)).state
  after_suc n =
      let e : suc n ≡ n + 1 = omega arith in
      ap (λ k. after code input k (start code)) e ∙ after_more code input n (start code)

  printed_suc : (n : ℕ) → printed_at code input (suc n) ≡ printed_at code input n + length (step code input (state_at code input n)).printed
  printed_suc n =
      let e : suc n ≡ n + 1 = omega arith in
      ap (λ k. length (prints code input k (start code))) e ∙ ap (λ (bytes : List ℕ). length bytes) (prints_more code input n (start code))
      ∙ length-append (prints code input n (start code)) (step code input (state_at code input n)).printed

  -- as many as there are steps
  olds_count : (n : ℕ) → length (olds_before code input n) ≡ n
  olds_count zero = refl
  olds_count (suc n) =
      let one = length-append (olds_before code input n) (old_of (state_at code input n) (printed_at code input n) ∷ []) in
      omega (arith, one, olds_count n)

  -- of one more, all but the last and the last
  at_last : (P : ℕ → Type 0) (n k : ℕ) → k ≤ suc n → ((j : ℕ) → j ≤ n → P j) → P (suc n) → P k
  at_last P n k within before last = by (suc n - k) refl
    where
      by : (d : ℕ) → suc n - k ≡ d → P k
      by zero e = let same : suc n ≡ k = omega (arith, within, e) in subst P same last
      by (suc d) e = before k (omega (arith, e))

  -- ---- the start

  start_counted : IsSound code → (k : ℕ) → k ≤ 0 → IsCounted code input k
  start_counted sound k within =
      let none : 0 ≡ k = omega (arith, within) in
      subst (IsCounted code input) none (record { fits = start_fits code sound; count = refl; choices = omega arith; fails = omega arith })

  pub keeps_start : (r : Registers MachinePicture) → IsSound code → state_in r ≡ start code → r.memory.past ≡ [] → Keeps code input 0 r [] 0
  keeps_start r sound state past = record {
    sound = sound;
    state = state;
    past = past;
    olds_are = refl;
    printed_is = refl;
    counted = start_counted sound;
    live = λ k within. absurd (omega (arith, within));
  }

  -- ---- a step

  module _ (n : ℕ) (r : Registers MachinePicture) (olds : List Old) (printed : ℕ) (h : Keeps code input n r olds printed) where
    -- a run that goes on stands
    pub keeps_standing : can_go (state_at code input n).mode ≡ true → Stands code (state_in r)
    keeps_standing on =
        let c = h.counted n (omega arith) in
        subst (λ (s : State). Stands code s) (sym h.state) (record {
          sound = h.sound;
          fits = c.fits;
          live = live_of (state_at code input n).mode on;
          choices = omega (arith, c.choices, c.count);
          fails = omega (arith, c.fails, c.count);
        })

    module _ (r' : Registers MachinePicture) (answer : Step) (bytes : List ℕ) (on : can_go (state_at code input n).mode ≡ true)
        (is : step_result answer bytes (state_in r') ≡ step code input (state_in r))
        (steps : r'.steps ≡ r.steps + 1) (choices : r'.choices ≤ r.choices + 1) (fails : r'.fails ≤ r.fails + 1)
        (past : r'.memory.past ≡ scene_of (state_in r) ∷ r.memory.past) where
      made : step_result answer bytes (state_in r') ≡ step code input (state_at code input n)
      made = is ∙ ap (step code input) h.state

      state_is : state_in r' ≡ state_at code input (suc n)
      state_is = ap (λ (x : StepResult). x.state) made ∙ sym (after_suc n)

      next_counted : IsCounted code input (suc n)
      next_counted =
          let c = h.counted n (omega arith) in
          let old : r.steps ≡ n = ap (λ (s : State). s.steps) h.state ∙ c.count in
          let old_choices : r.choices ≤ n = omega (arith, ap (λ (s : State). s.choices) h.state, c.choices) in
          let old_fails : r.fails ≤ n = omega (arith, ap (λ (s : State). s.fails) h.state, c.fails) in
          record {
            fits = subst (λ (s : State). Fits code s) (sym (after_suc n)) (stays_fit code input h.sound (state_at code input n) c.fits);
            count = omega (arith, ap (λ (s : State). s.steps) state_is, steps, old);
            choices = omega (arith, ap (λ (s : State). s.choices) state_is, choices, old_choices);
            fails = omega (arith, ap (λ (s : State). s.fails) state_is, fails, old_fails);
          }

      live_to : (k d : ℕ) → k < suc n → n - k ≡ d → IsLive (state_at code input k).mode
      live_to k zero within e =
          let same : n ≡ k = omega (arith, within, e) in
          subst (λ (j : ℕ). IsLive (state_at code input j).mode) same (live_of (state_at code input n).mode on)
      live_to k (suc d) within e = h.live k (omega (arith, e))

      keeps_suc : Keeps code input (suc n) r' (olds ++ old_of (state_in r) printed ∷ []) (printed + length bytes)
      keeps_suc = record {
        sound = h.sound;
        state = state_is;
        past = past ∙ ap (λ (s : State). scene_of s ∷ r.memory.past) h.state
            ∙ ap (λ (p : List Scene). scene_of (state_at code input n) ∷ p) h.past;
        olds_are = ap (λ (x : List Old). x ++ old_of (state_in r) printed ∷ []) h.olds_are
            ∙ ap (λ (s : State). olds_before code input n ++ old_of s printed ∷ []) h.state
            ∙ ap (λ (p : ℕ). olds_before code input n ++ old_of (state_at code input n) p ∷ []) h.printed_is;
        printed_is = ap (λ (p : ℕ). p + length bytes) h.printed_is
            ∙ ap (λ (x : StepResult). printed_at code input n + length x.printed) made ∙ sym (printed_suc n);
        counted = λ k within. at_last (IsCounted code input) n k within h.counted next_counted;
        live = λ k within. live_to k (n - k) within refl;
      }

      pub keeps_step : (olds' : List Old) (printed' : ℕ) → olds' ≡ olds ++ old_of (state_in r) printed ∷ []
          → printed' ≡ printed + length bytes
          → Keeps code input (length olds') r' olds' printed'
      keeps_step olds' printed' olds_are printed_is =
          let count : suc n ≡ length olds' =
          omega (
            arith,
            ap (λ (x : List Old). length x) olds_are,
            length_push olds (old_of (state_in r) printed),
            ap (λ (x : List Old). length x) h.olds_are,
            olds_count n,
          ) in
          subst (λ (k : ℕ). Keeps code input k r' olds' printed') count
          (subst (λ (x : List Old). Keeps code input (suc n) r' x printed') (sym olds_are)
          (subst (λ (p : ℕ). Keeps code input (suc n) r' (olds ++ old_of (state_in r) printed ∷ []) p) (sym printed_is) keeps_suc))

  -- ---- a step back

  -- the scene that the memory went back to
  abbrev pub GoesTo : (r r' : Registers MachinePicture) → Type 0
  GoesTo r r' = (scene : Scene) (rest : List Scene) → r.memory.past ≡ scene ∷ rest → scene_of (state_in r') ∷ r'.memory.past ≡ scene ∷ rest

  -- the registers are those that were kept
  abbrev pub IsBefore : (r r' : Registers MachinePicture) → Old → Type 0
  IsBefore r r' old =
      state_in r' ≡ state_of_parts old.at old.last (mode_by old.failing) r'.memory.now r'.memory.held (r.steps - 1) old.choices old.fails

  before_is : (m : ℕ) (r r' : Registers MachinePicture) (old : Old) → r.steps ≡ suc m → (state_at code input m).steps ≡ m
      → IsLive (state_at code input m).mode
      → old ≡ old_of (state_at code input m) (printed_at code input m) → scene_of (state_in r') ≡ scene_of (state_at code input m)
      → IsBefore r r' old
      → state_in r' ≡ state_at code input m
  before_is m r r' old steps count live old_is scene is =
      let s = state_at code input m in
      let less : r.steps - 1 ≡ s.steps = omega (arith, steps, count) in
      is ∙ ap (λ (o : Old). state_of_parts o.at o.last (mode_by o.failing) r'.memory.now r'.memory.held (r.steps - 1) o.choices o.fails)
      old_is
      ∙ ap (λ (x : Mode). state_of_parts s.at s.last x r'.memory.now r'.memory.held (r.steps - 1) s.choices s.fails) (mode_is s.mode live)
      ∙ ap (λ (x : Scene). state_of_parts s.at s.last s.mode x.now x.held (r.steps - 1) s.choices s.fails) scene
      ∙ ap (λ (k : ℕ). state_of_parts s.at s.last s.mode s.now s.held k s.choices s.fails) less

  pub keeps_back : (n : ℕ) (r : Registers MachinePicture) (olds : List Old) (printed : ℕ) → Keeps code input n r olds printed
      → (r' : Registers MachinePicture) (rest : List Old) (old : Old) → olds ≡ rest ++ old ∷ [] → GoesTo r r' → IsBefore r r' old
      → Keeps code input (length rest) r' rest old.printed
  keeps_back zero r olds printed h r' rest old e scene is =
      absurd (omega (arith, ap (λ (x : List Old). length x) (sym e ∙ h.olds_are), length_push rest old))
  keeps_back (suc m) r olds printed h r' rest old e scene is =
      let both = same_from_push rest (olds_before code input m) old (old_of (state_at code input m) (printed_at code input m))
      (sym e ∙ h.olds_are) in
      let pair = scene (scene_of (state_at code input m)) (scenes_before code input m) h.past in
      let same : scene_of (state_in r') ≡ scene_of (state_at code input m) = cc pair in
      let past : r'.memory.past ≡ scenes_before code input m = cc pair in
      let c = h.counted m (omega arith) in
      let steps : r.steps ≡ suc m = ap (λ (s : State). s.steps) h.state ∙ (h.counted (suc m) (omega arith)).count in
      let count : m ≡ length rest = omega (arith, ap (λ (x : List Old). length x) both.0, olds_count m) in
      subst (λ (k : ℕ). Keeps code input k r' rest old.printed) count (record {
        sound = h.sound;
        state = before_is m r r' old steps c.count (h.live m (omega arith)) both.1 same is;
        past = past;
        olds_are = both.0;
        printed_is = ap (λ (o : Old). o.printed) both.1;
        counted = λ k within. h.counted k (omega (arith, within));
        live = λ k within. h.live k (omega (arith, within));
      })
