-- Programs that take turns, each by itself.
use Rattle.std.specs.Prelude.{◌≡◌, ◌+◌, ℕ, Bool, List, [], ◌∷◌, ◌++◌, get_or, set, eqb, cond, Option, None, Some}
use Rattle.alma_code.specs.declared.step.End.{End}
use Rattle.alma_code.specs.Machine.{Mode, Going, Failing, Ended, Stuck, State, step, after, prints, start}
use Rattle.alma_code.specs.Plain.{PlainCode}

-- the end that a mode tells
abbrev pub ended_in : Mode → Option End
ended_in Going = None
ended_in Failing = None
ended_in (Ended end) = Some end
ended_in Stuck = None

-- what is seen of a run: its steps, its prints, and its end, where it has one
pub record LoneRun : Type 0 where
  pub steps : ℕ
  pub output : List ℕ
  pub end : Option End

-- the run of a code alone for so many turns, or to its end where that is sooner: an ended machine stays as it is, and prints nothing
abbrev pub lone_run : PlainCode → (input : List ℕ) → (turns : ℕ) → LoneRun
lone_run code input turns = record {
  steps = (after code input turns (start code)).steps;
  output = prints code input turns (start code);
  end = ended_in (after code input turns (start code)).mode;
}

-- a program of a pool: its code and input, the state of the copying code machine, and what it has printed
pub record PlayerState : Type 0 where
  pub code : PlainCode
  pub input : List ℕ
  pub state : State
  pub output : List ℕ

-- what is seen of it
abbrev pub seen_of : PlayerState → LoneRun
seen_of p = record { steps = p.state.steps; output = p.output; end = ended_in p.state.mode }

-- a program before its first turn
abbrev pub player_at_start : PlainCode → (input : List ℕ) → PlayerState
player_at_start code input = record { code = code; input = input; state = start code; output = [] }

-- a program alone after so many turns, or at its end where that is sooner: the whole state of its machine, and all that it has printed
abbrev pub player_after : PlainCode → (input : List ℕ) → (turns : ℕ) → PlayerState
player_after code input turns = record {
  code = code;
  input = input;
  state = after code input turns (start code);
  output = prints code input turns (start code);
}

-- after one turn: one step, which changes nothing where the program has ended
abbrev pub take_turn : PlayerState → PlayerState
take_turn p = record p { state = (step p.code p.input p.state).state; output = p.output ++ (step p.code p.input p.state).printed }

-- the programs of a pool, and whether no turn was refused
pub record PoolView : Type 0 where
  pub programs : List PlayerState
  pub whole : Bool

-- the code of what stands for a program that is not there
abbrev pub no_code : PlainCode
no_code = record { version = 0; globals = []; routines = []; ranges = []; texts = []; instrs = []; lines = [] }

-- what stands for a program that is not there: one of that code, on an empty input
abbrev pub no_program : PlayerState
no_program = player_at_start no_code []

-- the program of a number
abbrev pub program_at : PoolView → ℕ → PlayerState
program_at pool k = get_or pool.programs k no_program

-- the pool after one turn of the program of a number
abbrev pub after_turn : PoolView → ℕ → PoolView
after_turn pool k = record pool { programs = set pool.programs k (take_turn (program_at pool k)) }

-- no program but that of the number has changed
pub record OthersStay (old new : PoolView) (k : ℕ) : Type 0 where
  pub others : new.programs ≡ set old.programs k (program_at new k)

-- the pool after a list of turns
abbrev pub after_turns : PoolView → List ℕ → PoolView
after_turns pool [] = pool
after_turns pool (k ∷ turns) = after_turns (after_turn pool k) turns

-- how many turns of a list are those of a program
abbrev pub turns_of : (k : ℕ) → List ℕ → ℕ
turns_of k [] = 0
turns_of k (j ∷ turns) = cond (eqb j k) 1 0 + turns_of k turns
