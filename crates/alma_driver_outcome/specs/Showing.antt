-- What a run shows on out and tells on err.
use Rattle.std.specs.Prelude.{◌≡◌, Bool, false, List, ℕ, map, Some, if◌then◌else◌}
use Rattle.alma_code.specs.declared.cell.ChoiceKind.TheVariants as choice
use Rattle.alma_code.specs.declared.step.Step.TheVariants as answer
use Rattle.alma_code.specs.Machine.{State, is_kind, step, after}
use Rattle.alma_code.specs.Picture.{top_of}
use Rattle.alma_code.specs.Plain.{PlainCode}
use Rattle.alma_code.specs.TraceText.{trace_text, watched_words}
use Rattle.alma_code_laws.specs.Undo.{Stands}
use Rattle.alma_lower_implements.specs.Implements.{printed_by}
use Rattle.alma_driver_outcome.specs.declared.showing.Showing as read
use Rattle.alma_driver_outcome.specs.declared.showing.Showing.TheVariants as showing

-- its prints, and its counts where they are asked for; or the text that traces it, with the values of watched names
pub data Showing : Type 0 where
  Prints : (stats : Bool) → Showing
  Traces : (names : List (List ℕ)) → Showing

-- whether counts are told
abbrev pub counts_shown : Showing → Bool
counts_shown (Prints stats) = stats
counts_shown (Traces names) = false

-- what a run of code on an input for so many steps writes to out
abbrev pub text_shown : PlainCode → (input : List ℕ) → (steps : ℕ) → Showing → List ℕ
text_shown code input steps (Prints stats) = printed_by code input steps
text_shown code input steps (Traces names) = trace_text code input names steps

-- what is asked to be shown
abbrev pub shown_of : read.Showing → Showing
shown_of (showing.Prints stats) = Prints stats
shown_of (showing.Traces names) = Traces (map (λ name. name.now) names.now)

-- ---- what a trace shows of watched names where a branch fails

-- the state at the choice point of a step from the first state to the second, which pushed an entry: that before the step; of a
-- body of FORALL that behind it
abbrev pub state_at_choice : State → State → State
state_at_choice s t = if is_kind choice.Body (Some (top_of t.held).kind) then t else s

-- where a step pushes an entry, which stands for so many steps, and then a step pops it, watched names are shown as at its choice point
abbrev pub ShowsValuesBack : PlainCode → (input : List ℕ) → (names : List (List ℕ)) → Type 0
ShowsValuesBack code input names =
    (s : State) (height steps : ℕ)
    → (step code input s).answer ≡ answer.Chose height
    → Stands code input height steps (step code input s).state
    → (step code input (after code input steps (step code input s).state)).answer ≡ answer.Popped height
    → watched_words code names (step code input (after code input steps (step code input s).state)).state
    ≡ watched_words code names (state_at_choice s (step code input s).state)
