-- What an expression alone is, part by part.
use Rattle.std.proofs.Common.{◌≡◌, ℕ, Box, Global, None, Some, refl, ap, ◌∙◌}
use Rattle.std.specs.Prelude.{true, false}
use Rattle.alma_tree.specs.declared.phrase.Expr as de
use Rattle.alma_tree.specs.declared.phrase.Compared as dc
use Rattle.alma_tree.specs.declared.phrase.Simple as di
use Rattle.alma_tree.specs.declared.phrase.Term as dm
use Rattle.alma_tree.specs.declared.phrase.Factor as dr
use Rattle.alma_tree.specs.declared.phrase.Primary as dp
use Rattle.alma_rules.specs.Numbered as tree
use Rattle.alma_rules.specs.View as view
use Rattle.alma_rules.proofs.Rows as rows
use Rattle.alma_check_join_expr.specs.Exactly.{only_primary}
use Rattle.alma_check_join_expr.specs.Single.{one_term, one_factor}
use Rattle.alma_check_join_expr.specs.Alone.{factor_alone, term_alone, simple_alone}

-- ---- relations
related : (n : ℕ) (s : tree.Simple) (o : _) (y : tree.Simple) → only_primary (tree.expr n s (tree.compared o y)) ≡ None
unfolding only_primary
related n s o y = refl

unrelated : (n : ℕ) (s : tree.Simple) → only_primary (tree.expr n s tree.no_relation) ≡ simple_alone s
unfolding only_primary
unrelated n s = refl

pub expr_related : (e : de.Expr) (b : Box dc.Compared Global) → (de.out-Expr e).right ≡ Some b → only_primary (view.view_expr e) ≡ None
expr_related e b h =
    ap only_primary (rows.expr_is e) ∙ ap (λ r. only_primary
    (tree.expr (de.out-Expr e).node (view.view_simple (de.out-Expr e).left) (view.compared_of r))) h
    ∙ related (de.out-Expr e).node _ _ _

pub expr_unrelated : (e : de.Expr) → (de.out-Expr e).right ≡ None
    → only_primary (view.view_expr e) ≡ simple_alone (view.view_simple (de.out-Expr e).left)
expr_unrelated e h =
    ap only_primary (rows.expr_is e) ∙ ap (λ r. only_primary
    (tree.expr (de.out-Expr e).node (view.view_simple (de.out-Expr e).left) (view.compared_of r))) h
    ∙ unrelated (de.out-Expr e).node _

-- ---- sums
one_sum : (m : ℕ) (sign : _) (t : tree.Term) (rest : tree.TermTail) → one_term sign rest ≡ true
    → simple_alone (tree.simple m sign t rest) ≡ term_alone t
unfolding simple_alone
one_sum m sign t rest h = rw h refl

more_sum : (m : ℕ) (sign : _) (t : tree.Term) (rest : tree.TermTail) → one_term sign rest ≡ false
    → simple_alone (tree.simple m sign t rest) ≡ None
unfolding simple_alone
more_sum m sign t rest h = rw h refl

pub simple_one : (t : di.Simple) → one_term (di.out-Simple t).sign (view.terms_of (di.out-Simple t).more.items) ≡ true
    → simple_alone (view.view_simple t) ≡ term_alone (view.view_term (di.out-Simple t).first.value)
simple_one t h = ap simple_alone (rows.simple_is t) ∙ one_sum _ _ _ _ h

pub simple_more : (t : di.Simple) → one_term (di.out-Simple t).sign (view.terms_of (di.out-Simple t).more.items) ≡ false
    → simple_alone (view.view_simple t) ≡ None
simple_more t h = ap simple_alone (rows.simple_is t) ∙ more_sum _ _ _ _ h

-- ---- products
one_product : (k : ℕ) (f : tree.Factor) (rest : tree.FactorTail) → one_factor rest ≡ true → term_alone (tree.term k f rest) ≡ factor_alone f
unfolding term_alone
one_product k f rest h = rw h refl

more_product : (k : ℕ) (f : tree.Factor) (rest : tree.FactorTail) → one_factor rest ≡ false → term_alone (tree.term k f rest) ≡ None
unfolding term_alone
more_product k f rest h = rw h refl

pub term_more : (t : dm.Term) → one_factor (view.factors_of (dm.out-Term t).more.items) ≡ false
    → term_alone (view.view_term t) ≡ None
term_more t h = ap term_alone (rows.term_is t) ∙ more_product _ _ _ h

-- ---- factors
plain_alone : (n : ℕ) (p : dp.Primary) → factor_alone (view.view_factor (dr.Plain n p)) ≡ Some (view.view_primary p)
unfolding factor_alone
plain_alone n p = refl

not_alone : (n : ℕ) (p : dp.Primary) → factor_alone (view.view_factor (dr.Not n p)) ≡ None
unfolding factor_alone
not_alone n p = refl

term_one : (t : dm.Term) (f : dr.Factor) → one_factor (view.factors_of (dm.out-Term t).more.items) ≡ true → (dm.out-Term t).first ≡ f
    → term_alone (view.view_term t) ≡ factor_alone (view.view_factor f)
term_one t f h is = ap term_alone (rows.term_is t) ∙ one_product _ _ _ h ∙ ap (λ x. factor_alone (view.view_factor x)) is

pub term_plain : (t : dm.Term) (n : ℕ) (p : dp.Primary) → one_factor (view.factors_of (dm.out-Term t).more.items) ≡ true
    → (dm.out-Term t).first ≡ dr.Plain n p
    → term_alone (view.view_term t) ≡ Some (view.view_primary p)
term_plain t n p h is = term_one t (dr.Plain n p) h is ∙ plain_alone n p

pub term_not : (t : dm.Term) (n : ℕ) (p : dp.Primary) → one_factor (view.factors_of (dm.out-Term t).more.items) ≡ true
    → (dm.out-Term t).first ≡ dr.Not n p
    → term_alone (view.view_term t) ≡ None
term_not t n p h is = term_one t (dr.Not n p) h is ∙ not_alone n p
