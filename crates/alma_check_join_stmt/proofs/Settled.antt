-- Labels that are noted.
use Rattle.std.proofs.Common.{◌≡◌, ℕ, List, [], ◌∷◌, take, refl, sym, ap, ◌∙◌}
use Rattle.std.specs.Prelude.{Bool, true, false, not, map}
use Rattle.std.proofs.lemmas.List.{take-map}
use Rattle.alma_rules.specs.Parts as parts
use Rattle.alma_check_rules.specs.declared.part.Span.{Span}
use Rattle.alma_check_rules.specs.Views.{span_view, spans_view}
use Rattle.alma_check_join_stmt.specs.Noted.{trail_for_entries}

mapped : (xs : List Span) → spans_view xs ≡ map span_view xs
mapped [] = refl
mapped (x ∷ xs) = ap (λ (l : List parts.Span). span_view x ∷ l) (mapped xs)

spans_take : (n : ℕ) (xs : List Span) → spans_view (take n xs) ≡ take n (spans_view xs)
spans_take n xs = mapped (take n xs) ∙ sym (take-map span_view n xs) ∙ ap (take n) (sym (mapped xs))

pub settled_bad : (before : ℕ) (b : Bool) (xs ys : List Span) → not b ≡ true → ys ≡ take before xs
    → spans_view ys ≡ trail_for_entries before b (spans_view xs)
settled_bad before true xs ys n h = absurd (cc)
settled_bad before false xs ys n h = ap spans_view h ∙ spans_take before xs

pub settled_fine : (before : ℕ) (b : Bool) (xs ys : List Span) → not b ≡ false → ys ≡ xs
    → spans_view ys ≡ trail_for_entries before b (spans_view xs)
settled_fine before true xs ys n h = ap spans_view h
settled_fine before false xs ys n h = absurd (cc)

pub ruleset settling = (settled_bad, settled_fine)
