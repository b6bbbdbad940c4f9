-- What stands in parentheses: one statement that is an expression, or statements.
use Rattle.std.proofs.Common.{◌≡◌, ℕ, true, false, List, [], ◌∷◌, length, Option, None, Some, refl, ap, ◌∙◌, arith}
use Rattle.std.specs.Prelude.{◌==◌, Vec, vec_len}
use Rattle.std.specs.declared.alloc.Global.{Global}
use Rattle.alma_tree.specs.declared.phrase.Stmts as ds
use Rattle.alma_tree.specs.declared.phrase.Stmt as dt
use Rattle.alma_tree.specs.declared.phrase.Expr as de
use Rattle.alma_rules.specs.Places as places
use Rattle.alma_rules.specs.Places.{Step}
use Rattle.alma_rules.specs.View as view

counted : (v : Vec dt.Stmt Global) → length v.items ≡ vec_len v
counted v = omega (arith, v.ok)

-- more than one statement
more_by : (n : ℕ) (xs : List dt.Stmt) (f : Option Step) (g : Step) → (length xs == 0) ≡ false
    → places.first_step (places.only_step n (view.stmts_of xs) f) g ≡ g
more_by n [] f g h = absurd (cc)
more_by n (x ∷ xs) f g h = refl

pub inside_more : (s : ds.Stmts) (g : Step) → (vec_len s.more == 0) ≡ false → places.first_step (places.mark_only (view.view_stmts s)) g ≡ g
unfolding places.mark_expr
inside_more s g h = more_by s.node s.more.items (places.mark_value (view.view_stmt s.first.value)) g (ap (λ k. k == 0) (counted s.more) ∙ h)

-- one statement, by what it is
one_by : (n : ℕ) (xs : List dt.Stmt) (f : Step) (g : Step) → (length xs == 0) ≡ true
    → places.first_step (places.only_step n (view.stmts_of xs) (Some f)) g ≡ places.whole n f
one_by n [] f g h = refl
one_by n (x ∷ xs) f g h = absurd (grind (arith, h))

pub inside_value : (s : ds.Stmts) (g : Step) (m : ℕ) (e : de.Expr) → (vec_len s.more == 0) ≡ true → s.first.value ≡ dt.Value m e
    → places.first_step (places.mark_only (view.view_stmts s)) g ≡ places.whole s.node
    (places.whole m (places.mark_expr (view.view_expr e)))
unfolding places.mark_expr
inside_value s g m e h is =
    ap (λ x. places.first_step (places.only_step s.node (view.stmts_of s.more.items) (places.mark_value (view.view_stmt x))) g) is
    ∙ one_by s.node s.more.items (places.whole m (places.mark_expr (view.view_expr e))) g (ap (λ k. k == 0) (counted s.more) ∙ h)

value_not : (x : dt.Stmt) → ((m : ℕ) (e : de.Expr) → x ≡ dt.Value m e → ⊥) → places.mark_value (view.view_stmt x) ≡ None
unfolding places.mark_expr
value_not (dt.Nothing k) h = refl
value_not (dt.Assign' k m l shape row e) h = refl
value_not (dt.Value k e) h = absurd (h k e refl)
value_not (dt.If' k e m b y shape row shape2 row2 o) h = refl
value_not (dt.While' k e m b y shape row) h = refl
value_not (dt.Repeat' k m b y shape row e) h = refl
value_not (dt.For' k l low high by m b y shape row) h = refl
value_not (dt.Some' k l low high m b y shape row) h = refl
value_not (dt.Case' k e b a shape row o) h = refl
value_not (dt.Either' k m b y shape row shape2 row2) h = refl
value_not (dt.Forall' k m b y shape row m2 b2 y2 shape2 row2) h = refl
value_not (dt.Commit' k m b y shape row) h = refl
value_not (dt.Return' k e) h = refl
value_not (dt.Read' k m l shape row shape2 row2) h = refl
value_not (dt.Write k es) h = refl
value_not (dt.Writeln' k a) h = refl

not_by : (n : ℕ) (xs : List dt.Stmt) (g : Step) → places.first_step (places.only_step n (view.stmts_of xs) None) g ≡ g
not_by n [] g = refl
not_by n (x ∷ xs) g = refl

pub inside_other : (s : ds.Stmts) (g : Step) → ((m : ℕ) (e : de.Expr) → s.first.value ≡ dt.Value m e → ⊥)
    → places.first_step (places.mark_only (view.view_stmts s)) g ≡ g
unfolding places.mark_expr
inside_other s g h =
    ap (λ f. places.first_step (places.only_step s.node (view.stmts_of s.more.items) f) g) (value_not s.first.value h)
    ∙ not_by s.node s.more.items g
