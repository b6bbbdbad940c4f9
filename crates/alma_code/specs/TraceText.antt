-- The text that traces a run.
use Rattle.std.specs.Prelude.{ℕ, zero, suc, Bool, true, false, ◌&&◌, nat_eq, List, [], ◌∷◌, ◌++◌, length, codes, flat_map}
use Rattle.std.specs.Fmt.{decimal, signed_decimal}
use Rattle.alma_base.specs.Choice.{if_true}
use Rattle.alma_base.specs.Fault.{run_fault_text}
use Rattle.alma_code.specs.declared.cell.Cell.{Cell}
use Rattle.alma_code.specs.declared.cell.Cell.TheVariants as cell
use Rattle.alma_code.specs.declared.step.Step.{Step}
use Rattle.alma_code.specs.declared.step.Step.TheVariants as answer
use Rattle.alma_code.specs.declared.step.End.{End}
use Rattle.alma_code.specs.declared.step.End.TheVariants as end
use Rattle.alma_code.specs.Plain.{PlainCode, PlainGlobal, routine_at}
use Rattle.alma_code.specs.Picture.{PlainFrame, cell_at}
use Rattle.alma_code.specs.Machine.{State, StepResult, step, start}
use Rattle.alma_code.specs.ListText.{text_line}

-- ---- watched values

-- a number in decimal, and ? where it is unknown
abbrev pub cell_text : Cell → List ℕ
cell_text (cell.Int v) = signed_decimal v
cell_text cell.Unknown = codes "?"
cell_text cell.Unset = codes "?"
cell_text (cell.Place p) = codes "?"
cell_text (cell.Mark h) = codes "?"

-- n cells of frame 0 from a slot on, with a comma between two
abbrev pub cells_text : List PlainFrame → (slot n : ℕ) → List ℕ
cells_text frames slot zero = []
cells_text frames slot (suc zero) = cell_text (cell_at frames 0 slot cell.Unknown)
cells_text frames slot (suc (suc n)) = cell_text (cell_at frames 0 slot cell.Unknown) ++ 44 ∷ cells_text frames (suc slot) (suc n)

-- two names are alike
abbrev pub same_name : List ℕ → List ℕ → Bool
same_name [] [] = true
same_name (a ∷ x) (b ∷ y) = nat_eq a b && same_name x y
same_name [] (b ∷ y) = false
same_name (a ∷ x) [] = false

-- the value of the first global with a name, and - where there is none
abbrev pub value_of_name : List PlainFrame → List PlainGlobal → (name : List ℕ) → List ℕ
value_of_name frames [] name = codes "-"
value_of_name frames (g ∷ rest) name =
    if_true (same_name g.name name) (λ _. cells_text frames g.slot g.cells) (λ _. value_of_name frames rest name)

-- each watched name with its value
abbrev pub watched_words : PlainCode → (names : List (List ℕ)) → State → List (List ℕ)
watched_words code [] s = []
watched_words code (name ∷ rest) s = (name ++ 61 ∷ value_of_name s.now code.globals name) ∷ watched_words code rest s

-- ---- steps

-- how the run ended, and where it is a fault, which
abbrev pub end_words : End → List (List ℕ)
end_words end.Succeeded = codes "succeeded" ∷ []
end_words end.Failed = codes "failed" ∷ []
end_words (end.Fault f) = codes "fault" ∷ run_fault_text f ∷ []

-- the line of a step, where it has one
abbrev pub step_words : PlainCode → (names : List (List ℕ)) → Step → (printed : List ℕ) → State → List (List (List ℕ))
step_words code names answer.Went bytes s = []
step_words code names (answer.Chose h) bytes s = (codes "choice" ∷ decimal h ∷ watched_words code names s) ∷ []
step_words code names (answer.Popped h) bytes s = (codes "fail" ∷ decimal h ∷ watched_words code names s) ∷ []
step_words code names (answer.Cut h) bytes s = (codes "cut" ∷ decimal h ∷ []) ∷ []
step_words code names (answer.Called r d) bytes s = (codes "call" ∷ (routine_at code r).name ∷ decimal d ∷ []) ∷ []
step_words code names (answer.Returned d) bytes s = (codes "return" ∷ decimal d ∷ []) ∷ []
step_words code names answer.Printed bytes s = (codes "print" ∷ decimal (length bytes) ∷ []) ∷ []
step_words code names (answer.Done e) bytes s = (codes "end" ∷ end_words e) ∷ []

-- what follows a step: nothing where it ended the run
abbrev pub unless_done : Step → (Unit {0} → List (List (List ℕ))) → List (List (List ℕ))
unless_done (answer.Done e) rest = []
unless_done answer.Went rest = rest tt
unless_done (answer.Chose h) rest = rest tt
unless_done (answer.Popped h) rest = rest tt
unless_done (answer.Cut h) rest = rest tt
unless_done (answer.Called r d) rest = rest tt
unless_done (answer.Returned d) rest = rest tt
unless_done answer.Printed rest = rest tt

-- the lines of a run of at most so many steps, as words
abbrev pub trace_lines : PlainCode → (input : List ℕ) (names : List (List ℕ)) (steps : ℕ) → State → List (List (List ℕ))
trace_lines code input names zero s = (codes "end" ∷ codes "steps" ∷ []) ∷ []
trace_lines code input names (suc n) s =
    let x : StepResult = step code input s in
    step_words code names x.answer x.printed x.state ++ unless_done x.answer (λ _. trace_lines code input names n x.state)

-- the whole text
abbrev pub trace_text : PlainCode → (input : List ℕ) (names : List (List ℕ)) (steps : ℕ) → List ℕ
trace_text code input names steps = flat_map text_line (trace_lines code input names steps (start code))
