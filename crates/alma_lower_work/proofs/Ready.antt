-- Which operands are ready: variables of the routine and constants.
use Rattle.std.proofs.Common.{◌≡◌, ℕ, ◌⊎◌, inl, inr, false, refl, sym, ap, ◌∙◌}
use Rattle.std.specs.Prelude.{option_map, Option, Some, None}
use Rattle.alma_ir.specs.declared.phrase.Expr as E
use Rattle.alma_ir.specs.View.{expr_of}
use Rattle.alma_ir.proofs.Views
use Rattle.alma_lower_templates.specs.Slots.{is_given, is_ready}

pub not_given : (o : Option ℕ) → None ≡ option_map (λ k. k) o → false ≡ is_given o
not_given (Some k) h = absurd (cc)
not_given None h = refl

-- an expression that is no constant and not the value of a variable
abbrev pub NotReady : E.Expr → Type 0
NotReady e = ((negated : _) × (first : _) × (links : _) × (e ≡ E.Chain negated first links)) ⊎
    (((how : _) × (left : _) × (right : _) × (e ≡ E.Compare how left right)) ⊎ (((test : _) × (e ≡ E.Truth test)) ⊎
    (((desig : _) × (e ≡ E.Known desig)) ⊎ (((inner : _) × (e ≡ E.Chr inner)) ⊎ ((call : _) × (e ≡ E.Call call))))))

pub not_ready : (e : E.Expr) → NotReady e → false ≡ is_ready (expr_of e)
not_ready e (inl h) = sym (ap (λ x. is_ready (expr_of x)) h.3 ∙ ap is_ready (Views.chain_view h.0 h.1 h.2))
not_ready e (inr (inl h)) = sym (ap (λ x. is_ready (expr_of x)) h.3 ∙ ap is_ready (Views.compare_view h.0 h.1 h.2))
not_ready e (inr (inr (inl h))) = sym (ap (λ x. is_ready (expr_of x)) h.1 ∙ ap is_ready (Views.truth_view h.0))
not_ready e (inr (inr (inr (inl h)))) = sym (ap (λ x. is_ready (expr_of x)) h.1 ∙ ap is_ready (Views.known_view h.0))
not_ready e (inr (inr (inr (inr (inl h))))) = sym (ap (λ x. is_ready (expr_of x)) h.1 ∙ ap is_ready (Views.chr_view h.0))
not_ready e (inr (inr (inr (inr (inr h))))) = sym (ap (λ x. is_ready (expr_of x)) h.1 ∙ ap is_ready (Views.callexpr_view h.0))
