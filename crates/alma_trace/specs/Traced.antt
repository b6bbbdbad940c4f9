-- The text of a run with watched places.
use Rattle.std.specs.Prelude.{ℕ, zero, suc, List, [], ◌∷◌, ◌++◌, map, flat_map, codes, nat_eq}
use Rattle.alma_base.specs.Choice.{if_true}
use Rattle.alma_code.specs.declared.step.Step.{Step}
use Rattle.alma_code.specs.declared.step.Step.TheVariants as answer
use Rattle.alma_code.specs.ListText.{text_line}
use Rattle.alma_code.specs.Machine.{State, StepResult, step}
use Rattle.alma_code.specs.Plain.{PlainCode}
use Rattle.alma_code.specs.TraceText.{step_words, unless_done}
use Rattle.alma_trace.specs.declared.watch.Watch.{Watch}
use Rattle.alma_trace.specs.Places.{watch_words}

-- the watched values of the state after a step, where the step shows them
abbrev pub shown_words : Step → List Watch → State → List (List ℕ)
shown_words (answer.Chose height) watches s = watch_words s.now watches
shown_words (answer.Popped height) watches s = watch_words s.now watches
shown_words answer.Went watches s = []
shown_words (answer.Cut height) watches s = []
shown_words (answer.Called routine frames) watches s = []
shown_words (answer.Returned frames) watches s = []
shown_words answer.Printed watches s = []
shown_words (answer.Done end) watches s = []

-- the line of a step, where it has one: the words that it has with nothing watched, and the watched values
abbrev pub traced_words : PlainCode → List Watch → Step → (printed : List ℕ) → State → List (List (List ℕ))
traced_words code watches answer bytes s =
    map (λ words. words ++ shown_words answer watches s) (step_words code [] answer bytes s)

-- the text of a step: its line, or nothing where it has none
abbrev pub step_text : PlainCode → List Watch → Step → (printed : List ℕ) → State → List ℕ
step_text code watches answer bytes s = flat_map text_line (traced_words code watches answer bytes s)

-- the line that tells that the steps ran out
abbrev pub steps_end : List (List (List ℕ))
steps_end = (codes "end" ∷ codes "steps" ∷ []) ∷ []

-- the lines of a run of at most so many steps, and those behind them where they did not end it
abbrev pub run_lines : PlainCode → (input : List ℕ) → List Watch → (behind : List (List (List ℕ))) → (steps : ℕ) → State
    → List (List (List ℕ))
run_lines code input watches behind zero s = behind
run_lines code input watches behind (suc n) s =
    let x : StepResult = step code input s in
    traced_words code watches x.answer x.printed x.state ++ unless_done x.answer (λ _. run_lines code input watches behind n x.state)

-- the text of a run of at most so many steps
abbrev pub text_of_run : PlainCode → (input : List ℕ) → List Watch → (steps : ℕ) → State → List ℕ
text_of_run code input watches steps s = flat_map text_line (run_lines code input watches steps_end steps s)

-- the text of so many steps of a run of at most the budget: that the steps ran out is told only with the last of it
abbrev pub traced_within : PlainCode → (input : List ℕ) → List Watch → (steps budget : ℕ) → State → List ℕ
traced_within code input watches steps budget s =
    flat_map text_line (run_lines code input watches (if_true (nat_eq steps budget) (λ _. steps_end) (λ _. [])) steps s)
