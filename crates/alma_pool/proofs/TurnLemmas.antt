-- What a turn is.
use Rattle.std.proofs.Common.{◌≡◌, ◌∙◌, ℕ, List, ◌++◌, refl, sym, ap}
use Rattle.std.specs.Prelude.{Option, None, Some, is_some, false}
use Rattle.alma_code.specs.declared.step.End.{End}
use Rattle.alma_code.specs.declared.step.Step.{Step}
use Rattle.alma_code.specs.Plain.{PlainCode}
use Rattle.alma_code.specs.Machine.{Mode, Going, Failing, Ended, Stuck, State, step}
use Rattle.alma_machine_acts.specs.Steps.{step_result, IsLive, ModeAfter}
use Rattle.alma_code.specs.declared.step.Step.TheVariants as answer
use Rattle.alma_machine.specs.View.{MachineView, goes_on}
use Rattle.alma_pool.specs.Ready.{IsReady}
use Rattle.alma_pool.specs.Pool.{PlayerState, ended_in, take_turn}

-- a live mode tells none
pub live_mode : (m : Mode) → IsLive m → ended_in m ≡ None
live_mode Going h = refl
live_mode Failing h = refl
live_mode (Ended d) h = absurd h
live_mode Stuck h = absurd h

-- the program with another state and output
abbrev with_run : PlayerState → State → List ℕ → PlayerState
with_run p s output = record p { state = s; output = output }

-- a program by its parts
abbrev pub played : PlainCode → (input : List ℕ) → State → (output : List ℕ) → PlayerState
played code input state output = record { code = code; input = input; state = state; output = output }

-- a turn that made a step
pub step_turn : (p : PlayerState) (a : Step) (printed : List ℕ) (s : State) → step_result a printed s ≡ step p.code p.input p.state
    → with_run p s (p.output ++ printed) ≡ take_turn p
step_turn p a printed s h = ap (λ x. with_run p x.state (p.output ++ x.printed)) h

-- a step that did not end the run leaves a machine that can go on
pub ready_on : (m : MachineView) (a : Step) (end : Option End) → end ≡ None → ((e : End) → a ≡ answer.Done e → ⊥) → ModeAfter a m.state.mode
    → m.running ≡ goes_on a
    → IsReady m end
ready_on m (answer.Done e) end none not mode runs = absurd (not e refl)
ready_on m answer.Went end none not mode runs = record { end_is = none ∙ sym (live_mode m.state.mode mode); running = λ _. runs }
ready_on m (answer.Chose height) end none not mode runs = record { end_is = none ∙ sym (live_mode m.state.mode mode); running = λ _. runs }
ready_on m (answer.Popped height) end none not mode runs = record { end_is = none ∙ sym (live_mode m.state.mode mode); running = λ _. runs }
ready_on m (answer.Cut height) end none not mode runs = record { end_is = none ∙ sym (live_mode m.state.mode mode); running = λ _. runs }
ready_on m (answer.Called routine frames) end none not mode runs =
    record { end_is = none ∙ sym (live_mode m.state.mode mode); running = λ _. runs }
ready_on m (answer.Returned frames) end none not mode runs =
    record { end_is = none ∙ sym (live_mode m.state.mode mode); running = λ _. runs }
ready_on m answer.Printed end none not mode runs = record { end_is = none ∙ sym (live_mode m.state.mode mode); running = λ _. runs }

-- no end is known where there is none
pub none_known : (end : Option End) → is_some end ≡ false → end ≡ None
none_known None h = refl
none_known (Some e) h = cc h

-- a step of a machine is a turn of its program
pub machine_turn : (m m' : MachineView) (a : Step) (output output' : List ℕ)
    → step_result a m'.printed m'.state ≡ step m.code m.input m.state
    → (m'.code ≡ m.code) × (m'.input ≡ m.input) → output' ≡ output ++ m'.printed
    → played m'.code m'.input m'.state output' ≡ take_turn (played m.code m.input m.state output)
machine_turn m m' a output output' h same out =
    ap (λ c. played c m'.input m'.state output') same.0 ∙ ap (λ i. played m.code i m'.state output') same.1
    ∙ ap (played m.code m.input m'.state) out ∙ step_turn (played m.code m.input m.state output) a m'.printed m'.state h
