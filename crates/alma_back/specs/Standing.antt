-- What contracts see of a run that is walked both ways.
use Rattle.std.specs.Prelude.{◌+◌, ◌-◌, ◌^◌, ℕ, Bool, cond, List, [], ◌∷◌}
use Rattle.alma_code.specs.Machine.{State, after, prints, start}
use Rattle.alma_code.specs.Plain.{PlainCode}
use Rattle.alma_trace.specs.Cuts.{can_go}

-- its code and input, and how many steps were made that were not taken back
pub record Standing : Type 0 where
  pub code : PlainCode
  pub input : List ℕ
  pub steps : ℕ

-- as many steps can be kept
abbrev pub step_limit : ℕ
step_limit = 2 ^ 39

-- a run before its first step
abbrev pub standing_at_start : PlainCode → (input : List ℕ) → Standing
standing_at_start code input = record { code = code; input = input; steps = 0 }

-- the state of the copying code machine there
abbrev pub state_of : Standing → State
state_of s = after s.code s.input s.steps (start s.code)

-- what it has printed by then
abbrev pub output_of : Standing → List ℕ
output_of s = prints s.code s.input s.steps (start s.code)

-- the run has not ended
abbrev pub runs : Standing → Bool
runs s = can_go (state_of s).mode

-- ---- walks

-- a move: a step, or one back
pub data Move : Type 0 where
  Step : Move
  Back : Move

-- after a step, which an ended run does not make
abbrev pub next_standing : Standing → Standing
next_standing s = cond (runs s) (record s { steps = s.steps + 1 }) s

-- after one step back, which a run at its start does not make
abbrev pub stepped_back : Standing → Standing
stepped_back s = record s { steps = s.steps - 1 }

-- after a move
abbrev pub move_by : Standing → Move → Standing
move_by s Step = next_standing s
move_by s Back = stepped_back s

-- after a list of moves
abbrev pub move_all : Standing → List Move → Standing
move_all s [] = s
move_all s (move ∷ moves) = move_all (move_by s move) moves
