-- What a trace shows of watched names where a branch fails.
use Rattle.std.proofs.Common.{◌≡◌, ◌∙◌, ℕ, List, [], ◌∷◌, ◌++◌, ap, refl}
use Rattle.std.specs.Prelude.{Bool, true, false, Some, if◌then◌else◌}
use Rattle.alma_code.specs.declared.cell.ChoiceKind.TheVariants as choice
use Rattle.alma_code.specs.Machine.{State, is_kind, step, after}
use Rattle.alma_code.specs.Picture.{PlainFrame, top_of}
use Rattle.alma_code.specs.Plain.{PlainCode}
use Rattle.alma_code.specs.TraceText.{value_of_name, watched_words}
use Rattle.alma_code_laws.proofs.Undoing.{gives_back}
use Rattle.alma_driver_outcome.specs.Showing.{ShowsValuesBack, state_at_choice}

-- states with the same frames show the same values
words_alike : (code : PlainCode) (names : List (List ℕ)) (s t : State) → s.now ≡ t.now
    → watched_words code names s ≡ watched_words code names t
words_alike code [] s t e = refl
words_alike code (name ∷ rest) s t e =
    ap (λ (frames : List PlainFrame). (name ++ 61 ∷ value_of_name frames code.globals name) ∷ watched_words code rest s) e
    ∙ ap (λ (words : List (List ℕ)). (name ++ 61 ∷ value_of_name t.now code.globals name) ∷ words) (words_alike code rest s t e)

-- the frames of one of two states
frames_of : (b : Bool) (s t : State) → (if b then t.now else s.now) ≡ (if b then t else s).now
frames_of true s t = refl
frames_of false s t = refl

pub values_back : (code : PlainCode) (input : List ℕ) (names : List (List ℕ)) → ShowsValuesBack code input names
values_back code input names s height steps chose stands popped =
    let t = (step code input s).state in
    words_alike code names (step code input (after code input steps t)).state (state_at_choice s t)
    (gives_back code input s height steps chose stands popped ∙ frames_of (is_kind choice.Body (Some (top_of t.held).kind)) s t)
