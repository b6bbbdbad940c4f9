-- The labels that are noted, with one more.
use Rattle.std.proofs.Common.{◌≡◌, Vec, Global, List, [], ◌∷◌, ◌++◌, Option, None, Some, length, take, refl, sym, ap, ◌∙◌}
use Rattle.std.specs.Prelude.{option_map, option_to_list}
use Rattle.alma_rules.specs.Parts as parts
use Rattle.alma_check_rules.specs.declared.part.Span.{Span}
use Rattle.alma_check_rules.specs.Views.{span_view, spans_view, spans_in}
use Rattle.alma_check_build_expr.specs.Lists.{items_in, push}
use Rattle.alma_rules.proofs.Onwards.{nothing_behind, append_more}
use Rattle.alma_check_join_stmt.specs.Noted.{GrowsBy}
use Rattle.alma_check_join_stmt.proofs.Steps.{spans_push}

-- what a list begins with stays where more comes behind
front_stays : {A : Type 0} (old xs ys : List A) → take (length old) xs ≡ old → take (length old) (xs ++ ys) ≡ old
front_stays [] xs ys h = refl
front_stays (o ∷ os) [] ys h = absurd (cc)
front_stays (o ∷ os) (x ∷ xs) ys h =
    let e : x ≡ o = cc in
    let t : take (length os) xs ≡ os = cc in
    ap (λ k. x ∷ k) (front_stays os xs ys t) ∙ ap (λ k. k ∷ os) e

front : {A : Type 0} (old ys : List A) → take (length old) (old ++ ys) ≡ old
front [] ys = refl
front (o ∷ os) ys = ap (λ k. o ∷ k) (front os ys)

pub label_grown : (k kept : Option (Vec Span Global)) (v : Option Span) (old xs new : List parts.Span)
    → items_in k ≡ push (items_in kept) v
    → new ≡ xs ++ option_to_list (option_map span_view v) → GrowsBy old (spans_in kept) xs → GrowsBy old (spans_in k) new
label_grown None None v old xs new is h g = ap (take (length old)) h ∙ front_stays old xs _ g
label_grown None (Some ls) None old xs new is h g = ap (take (length old)) (h ∙ nothing_behind xs ∙ g) ∙ front old (spans_view ls.items)
label_grown None (Some ls) (Some x) old xs new is h g = absurd (cc)
label_grown (Some ys) None v old xs new is h g = absurd (cc)
label_grown (Some ys) (Some ls) None old xs new is h g = absurd (cc)
label_grown (Some ys) (Some ls) (Some x) old xs new is h g =
    let e : ys.items ≡ ls.items ++ x ∷ [] = cc in
    h ∙ ap (λ l. l ++ span_view x ∷ []) g ∙ append_more old (spans_view ls.items) (span_view x ∷ [])
    ∙ ap (λ l. old ++ l) (sym (spans_push ls.items x))
    ∙ ap (λ l. old ++ spans_view l) (sym e)
