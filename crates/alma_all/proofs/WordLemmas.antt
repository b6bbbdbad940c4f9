-- The number of steps that an option names.
use Rattle.std.proofs.Common.{◌≡◌, ◌∙◌, ℕ, List, [], ◌∷◌, ◌++◌, refl, sym, ap, subst}
use Rattle.std.proofs.lemmas.Bool.{eq-eqb, eqb-true}
use Rattle.std.specs.Prelude.{Bool, true, false, eqb, cond, codes, Option, None, Some}
use Rattle.alma_scan.specs.Bytes.{value_of}
use Rattle.alma_driver_words.specs.Words.{IsSetting, NamesSteps, Steps, greatest_steps, steps_digits}
use Rattle.alma_driver_words.proofs.NumberLemmas.{numeral_passes, passes_numeral}
use Rattle.alma_all.specs.All.{strip_prefix, names_steps, steps_in, steps_of_digits}

-- a text behind its front
strip_prefix_front : (front text : List ℕ) → strip_prefix front (front ++ text) ≡ Some text
strip_prefix_front [] text = refl
strip_prefix_front (x ∷ front) text = ap (λ b. cond b (strip_prefix front (front ++ text)) None) (eq-eqb x x refl)
    ∙ strip_prefix_front front text

-- what stands behind a front
cond_some : (b : Bool) (o : Option (List ℕ)) (rest : List ℕ) → cond b o None ≡ Some rest → (b ≡ true) × (o ≡ Some rest)
cond_some true o rest e = (refl, e)
cond_some false o rest e = cc e

found : (front text rest : List ℕ) → strip_prefix front text ≡ Some rest → text ≡ front ++ rest
found [] text rest e = cc e
found (x ∷ front) [] rest e = cc e
found (x ∷ front) (y ∷ text) rest e =
    let parts = cond_some (eqb x y) (strip_prefix front text) rest e in
    ap (λ k. k ∷ text) (sym (eqb-true x y parts.0)) ∙ ap (λ k. x ∷ k) (found front text rest parts.1)

-- a number of steps that digits name
steps_are : (text : List ℕ) (steps : ℕ) → NamesSteps text steps → steps_of_digits (Some text) ≡ Some steps
steps_are text steps h =
    ap (λ b. cond b (Some (value_of text)) None) (numeral_passes steps_digits greatest_steps text steps h.numeral h.least h.greatest)
    ∙ ap Some h.numeral.value

-- digits that name a number of steps name their value
digits_name : (text : List ℕ) → names_steps text ≡ true → NamesSteps text (value_of text)
digits_name text e =
    let passed = passes_numeral steps_digits greatest_steps text e in
    record { numeral = passed.0; least = passed.1; greatest = passed.2 }

-- ---- the option, as a reader knows it

pub option_is : (option : List ℕ) (steps : ℕ) → IsSetting option (Steps steps) → steps_in option ≡ Some steps
option_is option steps (digits, is, names) =
    ap steps_in is ∙ ap steps_of_digits (strip_prefix_front (codes "--steps=") digits) ∙ steps_are digits steps names

pub is_option : (option : List ℕ) (steps : ℕ) → steps_in option ≡ Some steps → IsSetting option (Steps steps)
is_option option steps e = by (strip_prefix (codes "--steps=") option) refl e
  where
    named : (text : List ℕ) (b : Bool) → names_steps text ≡ b → cond b (Some (value_of text)) None ≡ Some steps → NamesSteps text steps
    named text true is e = subst (λ (n : ℕ). NamesSteps text n) (cc e) (digits_name text is)
    named text false is e = cc e

    by : (o : Option (List ℕ)) → strip_prefix (codes "--steps=") option ≡ o → steps_of_digits o ≡ Some steps
        → IsSetting option (Steps steps)
    by None is e = cc e
    by (Some text) is e = (text, found (codes "--steps=") option text is, named text (names_steps text) refl e)

-- where a word is none
pub no_option : (option : List ℕ) → ((steps : ℕ) → IsSetting option (Steps steps) → ⊥) → steps_in option ≡ None
no_option option other = by (steps_in option) refl
  where
    by : (o : Option ℕ) → steps_in option ≡ o → o ≡ None
    by None e = refl
    by (Some steps) e = absurd (other steps (is_option option steps e))
