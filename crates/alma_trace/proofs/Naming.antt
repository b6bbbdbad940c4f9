-- Watches by the names of globals.
use Rattle.std.proofs.Common.{◌≡◌, ◌∙◌, ℕ, zero, suc, List, [], ◌∷◌, ◌++◌, map, flat_map, ap, arith, refl}
use Rattle.std.specs.Prelude.{Option, Some, Bool, true, false, codes}
use Rattle.std.specs.List.{All}
use Rattle.std.specs.Fmt.{decimal}
use Rattle.alma_base.specs.Choice.{if_true}
use Rattle.alma_code.specs.declared.step.End.{End}
use Rattle.alma_code.specs.declared.step.End.TheVariants as end
use Rattle.alma_code.specs.declared.step.Step.{Step}
use Rattle.alma_code.specs.declared.step.Step.TheVariants as answer
use Rattle.alma_code.specs.ListText.{text_line}
use Rattle.alma_code.specs.Machine.{State, StepResult, step, start}
use Rattle.alma_code.specs.Picture.{PlainFrame}
use Rattle.alma_code.specs.Plain.{PlainCode, PlainGlobal}
use Rattle.alma_code.specs.TraceText.{same_name, value_of_name, watched_words, step_words, unless_done, trace_lines, cells_text}
use Rattle.alma_trace.specs.declared.watch.Watch.{Watch}
use Rattle.alma_trace.specs.Places.{value_at, watch_words}
use Rattle.alma_trace.specs.Resolved.{IsResolved, TracesAreTheTraceText, place_of_name}
use Rattle.alma_trace.specs.Traced.{traced_words, run_lines, steps_end}

-- a choice of a value is a value of the choice
by_test : (frames : List PlainFrame) (b : Bool) (here : ℕ × ℕ) (else : Option (ℕ × ℕ))
    → value_at frames (if_true b (λ _. Some here) (λ _. else)) ≡ if_true b (λ _. cells_text frames here.0 here.1)
    (λ _. value_at frames else)
by_test frames true here else = refl
by_test frames false here else = refl

-- the value at the place of a name is the value of the name
pub value_by_name : (frames : List PlainFrame) (globals : List PlainGlobal) (name : List ℕ)
    → value_at frames (place_of_name globals name) ≡ value_of_name frames globals name
value_by_name frames [] name = refl
value_by_name frames (g ∷ rest) name =
    by_test frames (same_name g.name name) (g.slot, g.cells) (place_of_name rest name)
    ∙ ap (λ (z : List ℕ). if_true (same_name g.name name) (λ _. cells_text frames g.slot g.cells) (λ _. z)) (value_by_name frames rest name)

-- so are the values of all watches
words_by_name : (code : PlainCode) (s : State) (watches : List Watch) → All (IsResolved code) watches
    → watch_words s.now watches ≡ watched_words code (map (λ watch. watch.name.now) watches) s
words_by_name code s [] h = refl
words_by_name code s (watch ∷ rest) h =
    let here : value_at s.now watch.at ≡ value_of_name s.now code.globals watch.name.now =
    ap (value_at s.now) (h 0 watch (omega arith)) ∙ value_by_name s.now code.globals watch.name.now in
    let tail : All (IsResolved code) rest = λ k d lt. h (suc k) d (omega arith) in
    ap (λ (z : List ℕ). (watch.name.now ++ 61 ∷ z) ∷ watch_words s.now rest) here
    ∙ ap (λ (z : List (List ℕ)). (watch.name.now ++ 61 ∷ value_of_name s.now code.globals watch.name.now) ∷ z)
    (words_by_name code s rest tail)

-- the words of an end have nothing behind them
end_alone : (code : PlainCode) (names : List (List ℕ)) (e : End) (bytes : List ℕ) (s : State)
    → map (λ (words : List (List ℕ)). words ++ []) (step_words code [] (answer.Done e) bytes s) ≡ step_words code names (answer.Done e)
    bytes s
end_alone code names end.Succeeded bytes s = refl
end_alone code names end.Failed bytes s = refl
end_alone code names (end.Fault fault) bytes s = refl

-- the line of a step
step_by_name : (code : PlainCode) (watches : List Watch) (a : Step) (bytes : List ℕ) (s : State) → All (IsResolved code) watches
    → traced_words code watches a bytes s ≡ step_words code (map (λ watch. watch.name.now) watches) a bytes s
step_by_name code watches answer.Went bytes s h = refl
step_by_name code watches (answer.Chose height) bytes s h =
    ap (λ (z : List (List ℕ)). (codes "choice" ∷ decimal height ∷ z) ∷ []) (words_by_name code s watches h)
step_by_name code watches (answer.Popped height) bytes s h =
    ap (λ (z : List (List ℕ)). (codes "fail" ∷ decimal height ∷ z) ∷ []) (words_by_name code s watches h)
step_by_name code watches (answer.Cut height) bytes s h = refl
step_by_name code watches (answer.Called routine frames) bytes s h = refl
step_by_name code watches (answer.Returned frames) bytes s h = refl
step_by_name code watches answer.Printed bytes s h = refl
step_by_name code watches (answer.Done e) bytes s h = end_alone code (map (λ watch. watch.name.now) watches) e bytes s

-- the lines of a run
lines_by_name : (code : PlainCode) (input : List ℕ) (watches : List Watch) (n : ℕ) (s : State) → All (IsResolved code) watches
    → run_lines code input watches steps_end n s ≡ trace_lines code input (map (λ watch. watch.name.now) watches) n s
lines_by_name code input watches zero s h = refl
lines_by_name code input watches (suc n) s h =
    let x : StepResult = step code input s in
    ap (λ (z : List (List (List ℕ))). z ++ unless_done x.answer (λ _. run_lines code input watches steps_end n x.state))
    (step_by_name code watches x.answer x.printed x.state h)
    ∙ ap (λ (z : List (List (List ℕ))). step_words code (map (λ watch. watch.name.now) watches) x.answer x.printed x.state
    ++ unless_done x.answer (λ _. z)) (lines_by_name code input watches n x.state h)

-- the whole text
pub traces_are_the_trace_text : (code : PlainCode) (input : List ℕ) → TracesAreTheTraceText code input
traces_are_the_trace_text code input =
    λ watches steps h. ap (flat_map text_line) (lines_by_name code input watches steps (start code) h)
