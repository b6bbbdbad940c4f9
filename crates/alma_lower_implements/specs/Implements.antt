-- What it is that code implements a program: the machine on the code does what the meaning says, at
-- least one visit for each 32 steps.
use Rattle.std.specs.Prelude.{◌≡◌, ◌≤◌, ℕ, suc, ◌+◌, ◌*◌, ◌/◌, List, [], ◌++◌, length}
use Rattle.alma_base.specs.Limits.{input_limit}
use Rattle.alma_code.specs.declared.step.End.{End}
use Rattle.alma_code.specs.declared.step.End.TheVariants as end
use Rattle.alma_code.specs.Plain.{PlainCode}
use Rattle.alma_code.specs.Machine.{Mode, Going, Failing, Ended, Stuck, State, start, after, prints}
use Rattle.alma_code.specs.Lines.{line_at}
use Rattle.alma_ir.specs.Tree.{Program}
use Rattle.alma_mean.specs.Events as events
use Rattle.alma_mean.specs.Events.{Events, Visit, Print, first, end_of, visit_count, CutOff}
use Rattle.alma_mean.specs.Meaning.{ev_program, result}

-- how many steps of the machine a visit of the meaning pays for
abbrev pub visit_steps : ℕ
visit_steps = 32

-- the state of the machine after n steps from the start
abbrev pub state_after : PlainCode → (input : List ℕ) → ℕ → State
state_after code input n = after code input n (start code)

-- what n steps from the start print
abbrev pub printed_by : PlainCode → (input : List ℕ) → ℕ → List ℕ
printed_by code input n = prints code input n (start code)

-- an end of the machine, as the meaning says it; a fault at the line of the address where it ended
abbrev pub meant_end : End → (line : ℕ) → events.End
meant_end end.Succeeded line = events.Succeeded
meant_end end.Failed line = events.Failed
meant_end (end.Fault fault) line = events.Faulted fault line

-- the line of the last instruction that was taken
abbrev pub line_in : PlainCode → State → ℕ
line_in code s = line_at code s.last

-- A front of the event list prints these bytes and has so many visits.
pub data HasPrefix {A : Type 0} : Events A → (printed : List ℕ) → (visits : ℕ) → Type 0 where
  nothing : {e : Events A} → HasPrefix e [] 0
  a_visit : {e : Events A} {printed : List ℕ} {visits : ℕ} → HasPrefix e printed visits → HasPrefix (Visit e) printed (suc visits)
  a_print : {e : Events A} {bytes printed : List ℕ} {visits : ℕ} → HasPrefix e printed visits
      → HasPrefix (Print bytes e) (bytes ++ printed) visits

-- The bytes are the prints of a front of the event list, and this front has at least so many
-- visits.
pub record Covers {A : Type 0} (e : Events A) (printed : List ℕ) (least : ℕ) : Type 0 where
  pub visits : ℕ
  pub front : HasPrefix e printed visits
  pub enough : least ≤ visits

-- What n steps may have come to: where the machine has ended, the result of the meaning with one
-- unfolding more than steps, a fault at the line of the address where it ended; and else the prints
-- of a front of the meaning with one visit for each 32 steps.
abbrev pub ComesTo : Mode → (line : ℕ) → (printed : List ℕ) → Program → (input : List ℕ) → (n : ℕ) → Type 0
ComesTo (Ended e) line printed p input n = result (suc n) p input ≡ (printed, meant_end e line)
ComesTo Going line printed p input n = Covers (first (ev_program (suc n) p input)) printed (n / visit_steps)
ComesTo Failing line printed p input n = Covers (first (ev_program (suc n) p input)) printed (n / visit_steps)
ComesTo Stuck line printed p input n = Covers (first (ev_program (suc n) p input)) printed (n / visit_steps)

-- The code implements the program.
abbrev pub Implements : PlainCode → Program → Type 0
Implements code p =
    (input : List ℕ) → length input ≤ input_limit → (n : ℕ)
    → ComesTo (state_after code input n).mode (line_in code (state_after code input n)) (printed_by code input n) p input n

-- the machine has come to an end
abbrev pub HasEnded : Mode → Type 0
HasEnded (Ended e) = Unit {0}
HasEnded Going = ⊥
HasEnded Failing = ⊥
HasEnded Stuck = ⊥

-- Where the meaning comes to its first alternative or its end with so many visits, 32 steps for
-- each visit, and 32 more, bring the machine to its end.
abbrev pub IsEnough : PlainCode → Program → Type 0
IsEnough code p =
    (input : List ℕ) → length input ≤ input_limit → (n : ℕ)
    → (end_of (first (ev_program n p input)) ≡ CutOff → ⊥)
    → HasEnded (state_after code input (visit_steps * (visit_count (first (ev_program n p input)) + 1))).mode
