-- Variables that stand in a slot of their own, and what stands in none.
use Rattle.std.proofs.Common.{◌≡◌, ℕ, ◌⊎◌, inl, inr, sym, ap, ◌∙◌, None}
use Rattle.std.specs.Prelude.{option_map, Option, Result, Ok, Err, IfOk}
use Rattle.alma_ir.specs.declared.phrase.Desig.{Desig}
use Rattle.alma_ir.specs.declared.phrase.Expr as E
use Rattle.alma_ir.specs.declared.phrase.Root.{Root}
use Rattle.alma_ir.specs.declared.phrase.Root.TheVariants as root
use Rattle.alma_ir.specs.Tree.{a_desig, Sels}
use Rattle.alma_ir.specs.View.{desig_of, expr_of}
use Rattle.alma_ir.proofs.Views
use Rattle.alma_lower_templates.specs.Slots.{bare, bare_desig}

-- another root than a variable of the routine
abbrev pub NotLocal : Root → Type 0
NotLocal r = ((from : ℕ) × (r ≡ root.Global from)) ⊎ (((from : ℕ) × (r ≡ root.Param from)) ⊎
    (((links : ℕ) × (from : ℕ) × (r ≡ root.Outer links from)) ⊎ ((links : ℕ) × (from : ℕ) × (r ≡ root.OuterParam links from))))

-- another root than a variable of the routine stands in no slot of its own
pub elsewhere : (f : ℕ → ℕ) (r : Root) (cells : ℕ) (sels : Sels) → NotLocal r → None ≡ option_map f (bare_desig (a_desig r cells sels))
elsewhere f r cells sels (inl h) = sym (ap (λ x. option_map f (bare_desig (a_desig x cells sels))) h.1)
elsewhere f r cells sels (inr (inl h)) = sym (ap (λ x. option_map f (bare_desig (a_desig x cells sels))) h.1)
elsewhere f r cells sels (inr (inr (inl h))) = sym (ap (λ x. option_map f (bare_desig (a_desig x cells sels))) h.2)
elsewhere f r cells sels (inr (inr (inr h))) = sym (ap (λ x. option_map f (bare_desig (a_desig x cells sels))) h.2)

-- an expression that is not the value of a variable
abbrev pub NotLoad : E.Expr → Type 0
NotLoad e = ((n : _) × (e ≡ E.Const n)) ⊎ (((negated : _) × (first : _) × (links : _) × (e ≡ E.Chain negated first links)) ⊎
    (((how : _) × (left : _) × (right : _) × (e ≡ E.Compare how left right)) ⊎ (((test : _) × (e ≡ E.Truth test)) ⊎
    (((desig : _) × (e ≡ E.Known desig)) ⊎ (((inner : _) × (e ≡ E.Chr inner)) ⊎ ((call : _) × (e ≡ E.Call call)))))))

-- its value stands in no slot yet
pub not_yet : (f : ℕ → ℕ) (e : E.Expr) → NotLoad e → None ≡ option_map f (bare (expr_of e))
not_yet f e (inl h) = sym (ap (λ x. option_map f (bare (expr_of x))) h.1 ∙ ap (λ x. option_map f (bare x)) (Views.const_view h.0))
not_yet f e (inr (inl h)) = sym (ap (λ x. option_map f (bare (expr_of x))) h.3
    ∙ ap (λ x. option_map f (bare x)) (Views.chain_view h.0 h.1 h.2))
not_yet f e (inr (inr (inl h))) =
    sym (ap (λ x. option_map f (bare (expr_of x))) h.3 ∙ ap (λ x. option_map f (bare x)) (Views.compare_view h.0 h.1 h.2))
not_yet f e (inr (inr (inr (inl h)))) =
    sym (ap (λ x. option_map f (bare (expr_of x))) h.1 ∙ ap (λ x. option_map f (bare x)) (Views.truth_view h.0))
not_yet f e (inr (inr (inr (inr (inl h))))) =
    sym (ap (λ x. option_map f (bare (expr_of x))) h.1 ∙ ap (λ x. option_map f (bare x)) (Views.known_view h.0))
not_yet f e (inr (inr (inr (inr (inr (inl h)))))) =
    sym (ap (λ x. option_map f (bare (expr_of x))) h.1 ∙ ap (λ x. option_map f (bare x)) (Views.chr_view h.0))
not_yet f e (inr (inr (inr (inr (inr (inr h)))))) =
    sym (ap (λ x. option_map f (bare (expr_of x))) h.1 ∙ ap (λ x. option_map f (bare x)) (Views.callexpr_view h.0))

-- the value of a variable stands where the variable does
pub loaded : {X : Type 0} (f : ℕ → ℕ) (r : Result (Option ℕ) X) (e : E.Expr) (d : Desig) → e ≡ E.Load d
    → IfOk r (λ o. o ≡ option_map f (bare_desig (desig_of d))) → IfOk r (λ o. o ≡ option_map f (bare (expr_of e)))
loaded f (Ok o) e d is h = h ∙ sym (ap (λ x. option_map f (bare (expr_of x))) is ∙ ap (λ x. option_map f (bare x)) (Views.load_view d))
loaded f (Err x) e d is h = h
