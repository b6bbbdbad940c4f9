-- What a step gives.
use Rattle.std.proofs.Common.{◌≡◌, ℕ, ◌+◌, ◌<◌, ◌≤◌, List, [], ◌∷◌, length, refl, sym, ap, ◌∙◌, subst, arith, Some}
use Rattle.std.specs.Prelude.{Result, Ok, Err, IfOk, OnOk, slice_get, true}
use Rattle.alma_code.specs.declared.instr.Instr.{Instr}
use Rattle.alma_code.specs.declared.step.Step.{Step}
use Rattle.alma_code.specs.declared.step.Step.TheVariants as answer
use Rattle.alma_code.specs.Fits.{Fits}
use Rattle.alma_code.specs.Layout.{start_frame}
use Rattle.alma_code.specs.Picture.{PlainFrame, PlainEntry}
use Rattle.alma_code.specs.Rules.{IsSound}
use Rattle.alma_code_laws.proofs.Runs.{start_fits, stays_fit}
use Rattle.alma_code.specs.Machine.{Mode, State, start, Going, Failing, step, step_in, with_step_counted, pop}
use Rattle.alma_code.specs.Plain.{PlainCode, head_at}
use Rattle.alma_machine.specs.Needs.{Needs}
use Rattle.alma_machine.specs.Stands.{Stands}
use Rattle.alma_machine_acts.specs.Steps.{IsLive, ModeAfter, step_result}
use Rattle.alma_machine.specs.View.{goes_on, runs_after}
use Rattle.alma_machine.proofs.Needing.{needs_at, in_code}

-- a machine that goes on is at an instruction
pub inside : (code : PlainCode) (s : State) → Stands code s → s.mode ≡ Going → s.at < length code.instrs
inside code s keeps going = in_code code s keeps.sound keeps.fits going

-- which finds what it needs
pub finds : (code : PlainCode) (s : State) (i : Instr) → Stands code s → s.mode ≡ Going → slice_get code.instrs s.at ≡ Some i
    → Needs code s.now i
finds code s i keeps going is =
    needs_at code s s i keeps.sound keeps.fits going is refl

pub ruleset taken = (inside, finds)

-- a step of a failing machine is a pop
pub step_failing : (code : PlainCode) (input : List ℕ) (s : State) → s.mode ≡ Failing
    → step code input s ≡ pop (with_step_counted code input s)
step_failing code input s failing = ap (λ m. step_in code input m s) failing

pub ruleset steps = (step_failing)

-- a machine that goes on after a step is live
live_after : (a : Step) (m : Mode) → goes_on a ≡ true → ModeAfter a m → IsLive m
live_after (answer.Done end) m e h = absurd (cc)
live_after answer.Went m e h = h
live_after (answer.Chose height) m e h = h
live_after (answer.Popped height) m e h = h
live_after (answer.Cut height) m e h = h
live_after (answer.Called routine frames) m e h = h
live_after (answer.Returned frames) m e h = h
live_after answer.Printed m e h = h

-- a machine keeps after a step what it must, where it goes on
pub stands_after : {E : Type 0} (result : Result Step E) (code : PlainCode) (input : List ℕ) (old new : State) (bytes : List ℕ)
    → Stands code old
    → IfOk result (λ answer. step_result answer bytes new ≡ step code input old)
    → IfOk result (λ answer. ModeAfter answer new.mode)
    → OnOk result (new.steps ≡ old.steps + 1) → OnOk result (new.choices ≤ old.choices + 1) → OnOk result (new.fails ≤ old.fails + 1)
    → runs_after result ≡ true → Stands code new
stands_after (Ok answer) code input old new bytes h done mode steps choices fails on = record {
  sound = h.sound;
  fits = subst (λ s. Fits code s) (sym (ap (λ x. x.state) done)) (stays_fit code input h.sound old h.fits);
  live = live_after answer new.mode on mode;
  choices = omega (arith, steps, choices, h.choices);
  fails = omega (arith, steps, fails, h.fails);
}
stands_after (Err fault) code input old new bytes h done mode steps choices fails on = absurd (cc)

-- the state over a new memory
abbrev pub first_state : List PlainFrame → List PlainEntry → State
first_state now held = record { at = 0; last = 0; mode = Going; now = now; held = held; steps = 0; choices = 0; fails = 0 }

-- is the start
pub first_is : (code : PlainCode) (now : List PlainFrame) (held : List PlainEntry) → now ≡ start_frame (head_at code 0) ∷ [] → held ≡ []
    → first_state now held ≡ start code
first_is code now held a b = ap (λ x. first_state x held) a ∙ ap (λ y. first_state (start_frame (head_at code 0) ∷ []) y) b

-- and keeps what it must
pub stands_first : (code : PlainCode) (now : List PlainFrame) (held : List PlainEntry) → IsSound code
    → now ≡ start_frame (head_at code 0) ∷ [] → held ≡ [] → Stands code (first_state now held)
stands_first code now held sound a b = record {
  sound = sound;
  fits = subst (λ s. Fits code s) (sym (first_is code now held a b)) (start_fits code sound);
  live = tt;
  choices = omega arith;
  fails = omega arith;
}

pub ruleset firsts = (first_is, stands_first)
