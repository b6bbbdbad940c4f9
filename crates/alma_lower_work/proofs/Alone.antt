-- Which expressions put their value in place by their last instruction alone.
use Rattle.std.proofs.Common.{◌≡◌, ◌<◌, arith, ℕ, ◌⊎◌, inl, inr, Bool, true, false, List, [], ◌∷◌, length, refl, sym, ap, ◌∙◌}
use Rattle.std.specs.Prelude.{not, ◌==◌}
use Rattle.std.proofs.lemmas.Bool.Decides.{nat_tests}
use Rattle.alma_ir.specs.declared.phrase.Expr as E
use Rattle.alma_ir.specs.declared.phrase.Link as K
use Rattle.alma_ir.specs.View.{expr_of, links_list}
use Rattle.alma_ir.proofs.Views
use Rattle.alma_lower_templates.specs.Slots.{ends_alone, has_operator}

-- whether an operator stands behind the first operand
pub operator : (links : List K.Link) (n : ℕ) (none : Bool) → length links ≡ n → none ≡ (n == 0) → not none ≡ has_operator (links_list links)
operator [] n true long h = refl
operator [] n false long h = absurd (let some : 0 < n = grind (arith, nat_tests) in omega (arith, some, long))
operator (x ∷ rest) n true long h = absurd (let empty : n ≡ 0 = grind (arith, nat_tests) in omega (arith, empty, long))
operator (x ∷ rest) n false long h = refl

-- a comparison, a truth, KNOWN, CHR or a call
abbrev pub EndsNot : E.Expr → Type 0
EndsNot e = ((how : _) × (left : _) × (right : _) × (e ≡ E.Compare how left right)) ⊎ (((test : _) × (e ≡ E.Truth test)) ⊎
    (((desig : _) × (e ≡ E.Known desig)) ⊎ (((inner : _) × (e ≡ E.Chr inner)) ⊎ ((call : _) × (e ≡ E.Call call)))))

pub ends_not : (e : E.Expr) → EndsNot e → false ≡ ends_alone (expr_of e)
ends_not e (inl h) = sym (ap (λ x. ends_alone (expr_of x)) h.3 ∙ ap ends_alone (Views.compare_view h.0 h.1 h.2))
ends_not e (inr (inl h)) = sym (ap (λ x. ends_alone (expr_of x)) h.1 ∙ ap ends_alone (Views.truth_view h.0))
ends_not e (inr (inr (inl h))) = sym (ap (λ x. ends_alone (expr_of x)) h.1 ∙ ap ends_alone (Views.known_view h.0))
ends_not e (inr (inr (inr (inl h)))) = sym (ap (λ x. ends_alone (expr_of x)) h.1 ∙ ap ends_alone (Views.chr_view h.0))
ends_not e (inr (inr (inr (inr h)))) = sym (ap (λ x. ends_alone (expr_of x)) h.1 ∙ ap ends_alone (Views.callexpr_view h.0))
