-- What copies of cells give.
use Rattle.std.specs.Prelude.{ℕ, suc, ◌+◌, List, [], ◌∷◌, map}
use Rattle.std.specs.List.{range_with_len}
use Rattle.alma_base.specs.Choice.{if_true}
use Rattle.alma_code.specs.declared.cell.Cell.{Cell}
use Rattle.alma_code.specs.declared.cell.Cell.TheVariants as cell
use Rattle.alma_code.specs.Carries.{number_at}
use Rattle.alma_code.specs.Machine.{State, StepResult, quiet_step, gets_stuck, with_cell}
use Rattle.alma_code.specs.Picture.{PlainFrame, cell_at}

-- so many cells of a frame, from one on
abbrev pub cells_from : List PlainFrame → (frame first count : ℕ) → List Cell
cells_from now frame first count = map (λ k. cell_at now frame (first + k) cell.Unknown) (range_with_len 0 count)

-- the cells of a frame from one on := a list of cells
abbrev pub lay : List Cell → State → (frame slot : ℕ) → StepResult
lay [] s frame slot = quiet_step s
lay (c ∷ cells) s frame slot =
    if_true (number_at s.now frame slot) (λ _. lay cells (with_cell s frame slot c) frame (suc slot)) (λ _. gets_stuck s)
