-- What an expression exactly is, step by step.
use Rattle.std.proofs.Common.{◌≡◌, ℕ, Option, None, Some, refl, sym}
use Rattle.std.specs.Prelude.{option_and_then}
use Rattle.alma_tree.specs.declared.leaf.Sign.{Sign}
use Rattle.alma_tree.specs.declared.phrase.Args as dg
use Rattle.alma_tree.specs.declared.phrase.Exprs as dx
use Rattle.alma_rules.specs.Numbered as tree
use Rattle.alma_rules.specs.View as view
use Rattle.alma_rules.specs.ExprRules as rules
use Rattle.alma_rules.specs.Nodes as nodes
use Rattle.alma_check_join_expr.specs.Alone.{factor_alone, term_alone, simple_alone}
use Rattle.alma_check_join_expr.specs.Exactly.{only_primary, named_by, literal_of}

-- ---- what is read off the primary that an expression is, and where there is nothing to read
abbrev read : {A : Type 0} → (tree.Primary → Option A) → tree.Expr → Option A
read f e = option_and_then f (only_primary e)

signed : {A : Type 0} (f : tree.Primary → Option A) (n m : ℕ) (g : Sign) (t : tree.Term) (ts : tree.TermTail) (r : tree.Compared)
    → read f (tree.expr n (tree.simple m (Some g) t ts) r) ≡ None
unfolding only_primary factor_alone term_alone simple_alone
signed f n m g t ts (tree.compared o y) = refl
signed f n m g t ts tree.no_relation = refl

negated : {A : Type 0} (f : tree.Primary → Option A) (n m k i : ℕ) (p : tree.Primary) (fs : tree.FactorTail) (ts : tree.TermTail)
    (r : tree.Compared)
    → read f (tree.expr n (tree.simple m None (tree.term k (tree.not_factor i p) fs) ts) r) ≡ None
unfolding only_primary factor_alone term_alone simple_alone
negated f n m k i p fs ts (tree.compared o y) = refl
negated f n m k i p fs (tree.more_term o u us) tree.no_relation = refl
negated f n m k i p (tree.more_factor o g gs) tree.no_term tree.no_relation = refl
negated f n m k i p tree.no_factor tree.no_term tree.no_relation = refl

lacking : {A : Type 0} (f : tree.Primary → Option A) (p : tree.Primary) → f p ≡ None
    → (n m k i : ℕ) (fs : tree.FactorTail) (ts : tree.TermTail) (r : tree.Compared)
    → read f (tree.expr n (tree.simple m None (tree.term k (tree.factor i p) fs) ts) r) ≡ None
unfolding only_primary factor_alone term_alone simple_alone
lacking f p h n m k i fs ts (tree.compared o y) = refl
lacking f p h n m k i fs (tree.more_term o u us) tree.no_relation = refl
lacking f p h n m k i (tree.more_factor o g gs) tree.no_term tree.no_relation = refl
lacking f p h n m k i tree.no_factor tree.no_term tree.no_relation = h

pub exactly_by : (e : tree.Expr) → rules.exactly e ≡ option_and_then named_by (only_primary e)
unfolding only_primary named_by factor_alone term_alone simple_alone
exactly_by (tree.expr n (tree.simple m (Some g) t ts) r) = sym (signed named_by n m g t ts r)
exactly_by (tree.expr n (tree.simple m None (tree.term k (tree.not_factor i p) fs) ts) r) = sym (negated named_by n m k i p fs ts r)
exactly_by (tree.expr n (tree.simple m None (tree.term k (tree.factor i (tree.number j t)) fs) ts) r) =
    sym (lacking named_by (tree.number j t) refl n m k i fs ts r)
exactly_by (tree.expr n (tree.simple m None (tree.term k (tree.factor i (tree.literal j t)) fs) ts) r) =
    sym (lacking named_by (tree.literal j t) refl n m k i fs ts r)
exactly_by (tree.expr n (tree.simple m None (tree.term k (tree.factor i (tree.named j d tree.no_args)) tree.no_factor) tree.no_term)
    tree.no_relation) = refl
exactly_by (tree.expr n (tree.simple m None (tree.term k (tree.factor i (tree.named j d tree.no_args)) tree.no_factor) tree.no_term)
    (tree.compared o y)) = refl
exactly_by (tree.expr n (tree.simple m None (tree.term k (tree.factor i (tree.named j d tree.no_args)) tree.no_factor)
    (tree.more_term z u us)) tree.no_relation) = refl
exactly_by (tree.expr n (tree.simple m None (tree.term k (tree.factor i (tree.named j d tree.no_args)) tree.no_factor)
    (tree.more_term z u us)) (tree.compared o y)) = refl
exactly_by (tree.expr n (tree.simple m None (tree.term k (tree.factor i (tree.named j d tree.no_args)) (tree.more_factor q g gs))
    tree.no_term) tree.no_relation) = refl
exactly_by (tree.expr n (tree.simple m None (tree.term k (tree.factor i (tree.named j d tree.no_args)) (tree.more_factor q g gs))
    tree.no_term) (tree.compared o y)) = refl
exactly_by (tree.expr n (tree.simple m None (tree.term k (tree.factor i (tree.named j d tree.no_args)) (tree.more_factor q g gs))
    (tree.more_term z u us)) tree.no_relation) = refl
exactly_by (tree.expr n (tree.simple m None (tree.term k (tree.factor i (tree.named j d tree.no_args)) (tree.more_factor q g gs))
    (tree.more_term z u us)) (tree.compared o y)) = refl
exactly_by (tree.expr n (tree.simple m None (tree.term k (tree.factor i (tree.named j d tree.empty_args)) fs) ts) r) =
    sym (lacking named_by (tree.named j d tree.empty_args) refl n m k i fs ts r)
exactly_by (tree.expr n (tree.simple m None (tree.term k (tree.factor i (tree.named j d (tree.args x))) fs) ts) r) =
    sym (lacking named_by (tree.named j d (tree.args x)) refl n m k i fs ts r)
exactly_by (tree.expr n (tree.simple m None (tree.term k (tree.factor i (tree.paren j b)) fs) ts) r) =
    sym (lacking named_by (tree.paren j b) refl n m k i fs ts r)
exactly_by (tree.expr n (tree.simple m None (tree.term k (tree.factor i (tree.known j d)) fs) ts) r) =
    sym (lacking named_by (tree.known j d) refl n m k i fs ts r)
exactly_by (tree.expr n (tree.simple m None (tree.term k (tree.factor i (tree.ord j v)) fs) ts) r) =
    sym (lacking named_by (tree.ord j v) refl n m k i fs ts r)
exactly_by (tree.expr n (tree.simple m None (tree.term k (tree.factor i (tree.chr j v)) fs) ts) r) =
    sym (lacking named_by (tree.chr j v) refl n m k i fs ts r)

pub item_by : (e : tree.Expr) → nodes.item_literal e ≡ option_and_then literal_of (only_primary e)
unfolding only_primary literal_of factor_alone term_alone simple_alone
item_by (tree.expr n (tree.simple m (Some g) t ts) r) = sym (signed literal_of n m g t ts r)
item_by (tree.expr n (tree.simple m None (tree.term k (tree.not_factor i p) fs) ts) r) = sym (negated literal_of n m k i p fs ts r)
item_by (tree.expr n (tree.simple m None (tree.term k (tree.factor i (tree.number j t)) fs) ts) r) =
    sym (lacking literal_of (tree.number j t) refl n m k i fs ts r)
item_by (tree.expr n (tree.simple m None (tree.term k (tree.factor i (tree.literal j t)) tree.no_factor) tree.no_term) tree.no_relation) =
    refl
item_by (tree.expr n (tree.simple m None (tree.term k (tree.factor i (tree.literal j t)) tree.no_factor) tree.no_term) (tree.compared o y))
    = refl
item_by (tree.expr n (tree.simple m None (tree.term k (tree.factor i (tree.literal j t)) tree.no_factor) (tree.more_term z u us))
    tree.no_relation) = refl
item_by (tree.expr n (tree.simple m None (tree.term k (tree.factor i (tree.literal j t)) tree.no_factor) (tree.more_term z u us))
    (tree.compared o y)) = refl
item_by (tree.expr n (tree.simple m None (tree.term k (tree.factor i (tree.literal j t)) (tree.more_factor q g gs)) tree.no_term)
    tree.no_relation) = refl
item_by (tree.expr n (tree.simple m None (tree.term k (tree.factor i (tree.literal j t)) (tree.more_factor q g gs)) tree.no_term)
    (tree.compared o y)) = refl
item_by (tree.expr n (tree.simple m None (tree.term k (tree.factor i (tree.literal j t)) (tree.more_factor q g gs)) (tree.more_term z u us))
    tree.no_relation) = refl
item_by (tree.expr n (tree.simple m None (tree.term k (tree.factor i (tree.literal j t)) (tree.more_factor q g gs)) (tree.more_term z u us))
    (tree.compared o y)) = refl
item_by (tree.expr n (tree.simple m None (tree.term k (tree.factor i (tree.named j d tree.no_args)) fs) ts) r) =
    sym (lacking literal_of (tree.named j d tree.no_args) refl n m k i fs ts r)
item_by (tree.expr n (tree.simple m None (tree.term k (tree.factor i (tree.named j d tree.empty_args)) fs) ts) r) =
    sym (lacking literal_of (tree.named j d tree.empty_args) refl n m k i fs ts r)
item_by (tree.expr n (tree.simple m None (tree.term k (tree.factor i (tree.named j d (tree.args x))) fs) ts) r) =
    sym (lacking literal_of (tree.named j d (tree.args x)) refl n m k i fs ts r)
item_by (tree.expr n (tree.simple m None (tree.term k (tree.factor i (tree.paren j b)) fs) ts) r) =
    sym (lacking literal_of (tree.paren j b) refl n m k i fs ts r)
item_by (tree.expr n (tree.simple m None (tree.term k (tree.factor i (tree.known j d)) fs) ts) r) =
    sym (lacking literal_of (tree.known j d) refl n m k i fs ts r)
item_by (tree.expr n (tree.simple m None (tree.term k (tree.factor i (tree.ord j v)) fs) ts) r) =
    sym (lacking literal_of (tree.ord j v) refl n m k i fs ts r)
item_by (tree.expr n (tree.simple m None (tree.term k (tree.factor i (tree.chr j v)) fs) ts) r) =
    sym (lacking literal_of (tree.chr j v) refl n m k i fs ts r)

-- a name that is called is no designator alone
pub called_not : (n : ℕ) (d : tree.Desig) (a : dg.Args) → None ≡ named_by (tree.named n d (view.args_of (Some a)))
unfolding named_by
called_not n d a = by (dg.out-Args a).values
  where
    by : (v : Option dx.Exprs) → None ≡ named_by (tree.named n d (view.args_values v))
    by None = refl
    by (Some es) = refl

pub named_any : (n : ℕ) (d : tree.Desig) (a : tree.Args) → named_by (tree.named n d a) ≡ named_by (tree.named 0 d a)
unfolding named_by
named_any n d tree.no_args = refl
named_any n d tree.empty_args = refl
named_any n d (tree.args es) = refl
