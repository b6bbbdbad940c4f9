-- That a walk leads nowhere but to states of the run.
use Rattle.std.specs.Prelude.{◌≡◌, List, ℕ, true, replicate}
use Rattle.alma_code.specs.Plain.{PlainCode}
use Rattle.alma_back.specs.Standing.{Standing, Move, Step, Back, standing_at_start, runs, move_by, move_all}

-- one back after a step is where the step began, with the whole state
abbrev pub BackUndoesStep : Type 0
BackUndoesStep = (s : Standing) → runs s ≡ true → move_by (move_by s Step) Back ≡ s

-- every list of steps and of steps back leads where as many steps alone lead as stand then
abbrev pub WalksAreRuns : Type 0
WalksAreRuns = (code : PlainCode) (input : List ℕ) (moves : List Move)
    → move_all (standing_at_start code input) (replicate (move_all (standing_at_start code input) moves).steps Step) ≡ move_all
    (standing_at_start code input) moves
