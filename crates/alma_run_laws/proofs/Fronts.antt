-- What a run of the machine ensures, and fronts of what it prints.
use Rattle.std.proofs.Common.{◌≡◌, ◌≤◌, ◌+◌, ◌-◌, ◌∙◌, ℕ, List, [], ◌++◌, ap, arith, append_assoc}
use Rattle.std.specs.Prelude.{Option, true}
use Rattle.std.specs.Io.KnownBytes.{Appends}
use Rattle.alma_io.specs.Causes.{HasCause}
use Rattle.alma_io.specs.Fronts.{AppendsFront}
use Rattle.alma_io.specs.Sides.{SinkSide}
use Rattle.alma_code.specs.Machine.{State, start, after, prints}
use Rattle.alma_code.specs.Plain.{PlainCode}
use Rattle.alma_machine.specs.declared.machine.RunEnd.{RunEnd}
use Rattle.alma_machine.specs.Runs.{run_end_of, made, all_written, OnWhole, OnMemory, OnWriteFault}
use Rattle.alma_machine.specs.View.{MachineView}
use Rattle.alma_machine.proofs.Budget.{prints_sum}

-- a machine at the start of the code, on an input
abbrev pub fresh : PlainCode → (input : List ℕ) → MachineView
fresh code input = record { code = code; input = input; state = start code; running = true; printed = [] }

-- what a run ensures
pub record HasRun (old new : MachineView) (steps : ℕ) (answer : RunEnd) (a b : SinkSide) : Type 0 where
  pub answered : OnWhole answer (answer ≡ run_end_of (after old.code old.input steps old.state).mode)
  pub state : OnWhole answer (new.state ≡ after old.code old.input steps old.state)
  pub out : OnWhole answer (Appends a.written b.written (prints old.code old.input steps old.state))
  pub few : new.state.steps ≤ old.state.steps + steps
  pub memory : OnMemory answer (Appends a.written b.written (prints old.code old.input (made old new) old.state))
  pub write_fault : OnWriteFault answer (AppendsFront a.written b.written (prints old.code old.input (made old new) old.state))
  pub cause : HasCause a.faults b.faults (all_written answer)

-- what is printed in fewer steps is a front of what is printed in more
pub prints_front : (code : PlainCode) (input : List ℕ) (m n : ℕ) (s : State) → m ≤ n → (rest : List ℕ)
    × (prints code input n s ≡ prints code input m s ++ rest)
prints_front code input m n s le =
    let sum : n ≡ m + (n - m) = omega (arith, le) in
    (prints code input (n - m) (after code input m s), ap (λ k. prints code input k s) sum ∙ prints_sum code input m (n - m) s)

-- a front of what is printed in fewer steps is a front of what is printed in more
pub front_of_more : (a b : Option (List ℕ)) (code : PlainCode) (input : List ℕ) (m n : ℕ) (s : State) → m ≤ n
    → AppendsFront a b (prints code input m s) → AppendsFront a b (prints code input n s)
front_of_more a b code input m n s le h =
    let more = prints_front code input m n s le in
    (h.0, h.1 ++ more.0, more.1 ∙ ap (λ z. z ++ more.0) h.2 ∙ append_assoc h.0 h.1 more.0, h.3)

-- all that is printed in fewer steps is such a front
pub whole_is_front : (a b : Option (List ℕ)) (code : PlainCode) (input : List ℕ) (m n : ℕ) (s : State) → m ≤ n
    → Appends a b (prints code input m s) → AppendsFront a b (prints code input n s)
whole_is_front a b code input m n s le h = let more = prints_front code input m n s le in (prints code input m s, more.0, more.1, h)
