-- Which expressions are tests of inequality.
use Rattle.std.proofs.Common.{◌≡◌, ◌⊎◌, inl, inr, false, ap, ◌∙◌}
use Rattle.alma_ir.specs.declared.phrase.Cmp.{Cmp}
use Rattle.alma_ir.specs.declared.phrase.Cmp.TheVariants as cmp
use Rattle.alma_ir.specs.declared.phrase.Expr as E
use Rattle.alma_ir.specs.Tree.{Expr, Compare}
use Rattle.alma_ir.specs.View.{expr_of}
use Rattle.alma_ir.proofs.Views
use Rattle.alma_lower_work.specs.Puts.{is_unequal}

-- another comparison
abbrev pub IsOther : Cmp → Type 0
IsOther how = (how ≡ cmp.Equal) ⊎ ((how ≡ cmp.Less) ⊎ ((how ≡ cmp.LessEq) ⊎ ((how ≡ cmp.Greater) ⊎ (how ≡ cmp.GreaterEq))))

other_is : (how : Cmp) (x y : Expr) → IsOther how → is_unequal (Compare how x y) ≡ false
other_is how x y (inl h) = ap (λ k. is_unequal (Compare k x y)) h
other_is how x y (inr (inl h)) = ap (λ k. is_unequal (Compare k x y)) h
other_is how x y (inr (inr (inl h))) = ap (λ k. is_unequal (Compare k x y)) h
other_is how x y (inr (inr (inr (inl h)))) = ap (λ k. is_unequal (Compare k x y)) h
other_is how x y (inr (inr (inr (inr h)))) = ap (λ k. is_unequal (Compare k x y)) h

pub other_comparison : (e : E.Expr) (how : Cmp) (x y : Expr) → expr_of e ≡ Compare how x y → IsOther how → is_unequal (expr_of e) ≡ false
other_comparison e how x y is h = ap is_unequal is ∙ other_is how x y h

-- an expression that is no comparison
abbrev pub NoComparison : E.Expr → Type 0
NoComparison e = ((n : _) × (e ≡ E.Const n))
    ⊎ (((desig : _) × (e ≡ E.Load desig)) ⊎ (((negated : _) × (first : _) × (links : _) × (e ≡ E.Chain negated first links)) ⊎
    (((test : _) × (e ≡ E.Truth test)) ⊎ (((desig : _) × (e ≡ E.Known desig))
    ⊎ (((inner : _) × (e ≡ E.Chr inner)) ⊎ ((call : _) × (e ≡ E.Call call)))))))

pub no_inequality : (e : E.Expr) → NoComparison e → is_unequal (expr_of e) ≡ false
no_inequality e (inl h) = ap (λ x. is_unequal (expr_of x)) h.1 ∙ ap is_unequal (Views.const_view h.0)
no_inequality e (inr (inl h)) = ap (λ x. is_unequal (expr_of x)) h.1 ∙ ap is_unequal (Views.load_view h.0)
no_inequality e (inr (inr (inl h))) = ap (λ x. is_unequal (expr_of x)) h.3 ∙ ap is_unequal (Views.chain_view h.0 h.1 h.2)
no_inequality e (inr (inr (inr (inl h)))) = ap (λ x. is_unequal (expr_of x)) h.1 ∙ ap is_unequal (Views.truth_view h.0)
no_inequality e (inr (inr (inr (inr (inl h))))) = ap (λ x. is_unequal (expr_of x)) h.1 ∙ ap is_unequal (Views.known_view h.0)
no_inequality e (inr (inr (inr (inr (inr (inl h)))))) = ap (λ x. is_unequal (expr_of x)) h.1 ∙ ap is_unequal (Views.chr_view h.0)
no_inequality e (inr (inr (inr (inr (inr (inr h)))))) = ap (λ x. is_unequal (expr_of x)) h.1 ∙ ap is_unequal (Views.callexpr_view h.0)
