-- What a failing branch of a run gives back.
use Rattle.std.specs.Prelude.{◌≡◌, ℕ, ◌≤◌, List, length, Some, if◌then◌else◌}
use Rattle.alma_code.specs.declared.cell.ChoiceKind.TheVariants as choice
use Rattle.alma_code.specs.declared.step.Step.TheVariants as answer
use Rattle.alma_code.specs.Picture.{PlainFrame, top_of}
use Rattle.alma_code.specs.Plain.{PlainCode}
use Rattle.alma_code.specs.Machine.{State, is_kind, step, after}

-- the entry at a height stands until so many steps behind the state: the stack is never lower
abbrev pub Stands : PlainCode → (input : List ℕ) → (height steps : ℕ) → State → Type 0
Stands code input height steps s = (n : ℕ) → n ≤ steps → height ≤ length (after code input n s).held

-- the frames at the choice point of a step from the first state to the second, which pushed an
-- entry: those before the step; of a body of FORALL those behind it, over which the carry is laid
abbrev pub frames_at_choice : State → State → List PlainFrame
frames_at_choice s t = if is_kind choice.Body (Some (top_of t.held).kind) then t.now else s.now

-- where a step pushes an entry, which stands for so many steps, and then a step pops it, all frames
-- are as they were at its choice point
abbrev pub GivesBack : PlainCode → (input : List ℕ) → Type 0
GivesBack code input =
    (s : State) (height steps : ℕ)
    → (step code input s).answer ≡ answer.Chose height
    → Stands code input height steps (step code input s).state
    → (step code input (after code input steps (step code input s).state)).answer ≡ answer.Popped height
    → (step code input (after code input steps (step code input s).state)).state.now ≡ frames_at_choice s (step code input s).state
