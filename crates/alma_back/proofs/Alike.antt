-- What stays of a run where lines move it; and a walk of code that reads nothing shows the same on every input.
use Rattle.std.proofs.Common.{◌≡◌, ◌∙◌, ◌+◌, ◌++◌, ℕ, zero, suc, List, [], ◌∷◌, length, refl, ap}
use Rattle.std.specs.Prelude.{Bool, true, false, codes, cond, decimal}
use Rattle.alma_code.specs.Machine.{State, start}
use Rattle.alma_code.specs.Plain.{PlainCode}
use Rattle.alma_code.specs.Reads.{code_reads}
use Rattle.alma_code.specs.TraceText.{value_of_name}
use Rattle.alma_run_laws.proofs.Unread.{after_alike, prints_alike}
use Rattle.alma_trace.specs.Cuts.{can_go}
use Rattle.alma_back.specs.Script.{Line, Forward, Backward, Value, Output}
use Rattle.alma_back.specs.Session.{ahead, after_line, line_text, lines_text}
use Rattle.alma_back.specs.Standing.{Standing, runs, state_of, output_of, next_standing}

-- ---- the code and the input stay

module _ (P : PlainCode → (input : List ℕ) → Type 0) where
  -- so it is of the code and the input of a run
  abbrev Holds : Standing → Type 0
  Holds s = P s.code s.input

  kept_either : (b : Bool) (s : Standing) (steps : ℕ) → Holds s → Holds (cond b (record s { steps = steps }) s)
  kept_either true s steps h = h
  kept_either false s steps h = h

  pub kept_step : (s : Standing) → Holds s → Holds (next_standing s)
  kept_step s h = kept_either (runs s) s (s.steps + 1) h

  kept_ahead : (s : Standing) (more : ℕ) → Holds s → Holds (ahead s more)
  kept_ahead s zero h = h
  kept_ahead s (suc more) h = kept_ahead (next_standing s) more (kept_step s h)

  pub kept_after : (s : Standing) (line : Line) → Holds s → Holds (after_line s line)
  kept_after s (Forward more) h = kept_ahead s more h
  kept_after s (Backward less) h = h
  kept_after s (Value name) h = h
  kept_after s Output h = h

-- ---- code that reads nothing

-- the code of a run does so
abbrev IsQuiet : PlainCode → (input : List ℕ) → Type 0
IsQuiet code input = code_reads code ≡ false

module _ (input : List ℕ) where
  -- the same run on this input
  abbrev on : Standing → Standing
  on s = record s { input = input }

  state_alike : (s : Standing) → code_reads s.code ≡ false → state_of (on s) ≡ state_of s
  state_alike s quiet = after_alike s.code input s.input s.steps (start s.code) quiet

  output_alike : (s : Standing) → code_reads s.code ≡ false → output_of (on s) ≡ output_of s
  output_alike s quiet = prints_alike s.code input s.input s.steps (start s.code) quiet

  either_on : (b : Bool) (s : Standing) (steps : ℕ)
      → cond b (record (on s) { steps = steps }) (on s) ≡ on (cond b (record s { steps = steps }) s)
  either_on true s steps = refl
  either_on false s steps = refl

  step_alike : (s : Standing) → code_reads s.code ≡ false → next_standing (on s) ≡ on (next_standing s)
  step_alike s quiet =
      ap (λ (state : State). cond (can_go state.mode) (record (on s) { steps = s.steps + 1 }) (on s)) (state_alike s quiet)
      ∙ either_on (runs s) s (s.steps + 1)

  ahead_alike : (s : Standing) (more : ℕ) → code_reads s.code ≡ false → ahead (on s) more ≡ on (ahead s more)
  ahead_alike s zero quiet = refl
  ahead_alike s (suc more) quiet =
      ap (λ (t : Standing). ahead t more) (step_alike s quiet) ∙ ahead_alike (next_standing s) more (kept_step IsQuiet s quiet)

  line_alike : (s : Standing) (line : Line) → code_reads s.code ≡ false → after_line (on s) line ≡ on (after_line s line)
  line_alike s (Forward more) quiet = ahead_alike s more quiet
  line_alike s (Backward less) quiet = refl
  line_alike s (Value name) quiet = refl
  line_alike s Output quiet = refl

  text_alike : (s : Standing) (line : Line) → code_reads s.code ≡ false → line_text (on s) line ≡ line_text s line
  text_alike s (Forward more) quiet = refl
  text_alike s (Backward less) quiet = refl
  text_alike s (Value name) quiet =
      ap (λ (state : State). name ++ (codes "=" ++ (value_of_name state.now s.code.globals name ++ codes "\n"))) (state_alike s quiet)
  text_alike s Output quiet =
      ap (λ (bytes : List ℕ). codes "printed " ++ (decimal (length bytes) ++ codes "\n")) (output_alike s quiet)

  pub shown_alike : (s : Standing) (lines : List Line) → code_reads s.code ≡ false → lines_text (on s) lines ≡ lines_text s lines
  shown_alike s [] quiet = refl
  shown_alike s (line ∷ lines) quiet =
      let next = after_line s line in
      let still : code_reads next.code ≡ false = kept_after IsQuiet s line quiet in
      ap (λ (t : Standing). line_text t line ++ lines_text t lines) (line_alike s line quiet)
      ∙ ap (λ text. text ++ lines_text (on next) lines) (text_alike next line still)
      ∙ ap (λ rest. line_text next line ++ rest) (shown_alike next lines still)
