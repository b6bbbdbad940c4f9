-- What the walk says of arguments, as the code meets them.
use Rattle.std.proofs.Common.{◌≡◌, ℕ, ◌+◌, ◌<◌, zero, suc, List, [], ◌∷◌, Option, Some, length, get_or, drop, refl, sym, ap, ◌∙◌, arith}
use Rattle.std.specs.Prelude.{slice_get}
use Rattle.alma_tree.specs.declared.phrase.Expr as de
use Rattle.alma_tree.specs.declared.phrase.Exprs as dx
use Rattle.alma_ir.specs.Tree as ir
use Rattle.alma_rules.specs.View as view
use Rattle.alma_rules.specs.Judgement.{Judgement, and_then, with}
use Rattle.alma_rules.specs.Scene.{Scene, FormalOf}
use Rattle.alma_rules.specs.Nodes as nodes
use Rattle.alma_rules.specs.Walk.{judge_expr, judge_arguments, judge_argument_tail}
use Rattle.alma_rules.specs.Appends.{append_args}
use Rattle.alma_rules.proofs.Exprs.{arguments_at, arguments_next, count_is}
use Rattle.alma_rules.proofs.Rows as rows
use Rattle.alma_check_join_stmt.specs.Onward.{onward_args}
use Rattle.alma_check_phrases.proofs.Begins.{begun}

-- ---- formals by their places
dropped_first : {A : Type 0} (k : ℕ) (xs : List A) → slice_get (drop k xs) 0 ≡ slice_get xs k
dropped_first zero xs = refl
dropped_first (suc k) [] = refl
dropped_first (suc k) (x ∷ xs) = dropped_first k xs

dropped_none : {A : Type 0} (k : ℕ) → drop {A = A} k [] ≡ []
dropped_none zero = refl
dropped_none (suc k) = refl

suc_more : (k : ℕ) → suc (k + 1) ≡ suc k + 1
suc_more k = omega arith

dropped_again : {A : Type 0} (k : ℕ) (xs : List A) → drop 1 (drop k xs) ≡ drop (k + 1) xs
dropped_again zero xs = refl
dropped_again (suc k) [] = sym (dropped_none (suc k + 1))
dropped_again (suc k) (x ∷ xs) = dropped_again k xs ∙ ap (λ n. drop n (x ∷ xs)) (suc_more k)

module _ (s : Scene) where
  -- an argument with its formal, where there is one
  abbrev pub argument : ℕ → Option FormalOf → de.Expr → Judgement ir.Arg
  argument n f e = nodes.judged_argument s f (view.view_expr e) (judge_expr s n (view.view_expr e))

  -- the first argument, with which the list begins
  pub arguments_begin : (n : ℕ) (formals : List FormalOf) (t : dx.Exprs) (f : Option FormalOf) (xs : Option ir.Args)
      → f ≡ slice_get formals 0 → xs ≡ Some ir.no_args
      → judge_arguments s n formals (view.view_exprs t)
      ≡ onward_args xs (with nodes.cons_arg (and_then (argument n f (dx.out-Exprs t).first.value)
      (λ m. judge_argument_tail s m (drop 1 formals) (view.exprs_of (dx.out-Exprs t).more.items))))
  arguments_begin n formals t f xs is h =
      arguments_at s n formals t ∙ rw (sym is) (begun append_args ir.no_args xs _ (λ b. refl) h)

  -- one more argument
  pub arguments_turn : (n i : ℕ) (formals : List FormalOf) (all : List de.Expr) (e : de.Expr) (f : Option FormalOf) → i < length all
      → e ≡ get_or all i e → f ≡ slice_get formals (i + 1)
      → judge_argument_tail s n (drop (i + 1) formals) (view.exprs_of (drop i all))
      ≡ with nodes.cons_arg (and_then (argument n f e)
      (λ m. judge_argument_tail s m (drop (i + 1 + 1) formals) (view.exprs_of (drop (i + 1) all))))
  arguments_turn n i formals all e f h is place =
      arguments_next s n i (drop (i + 1) formals) all e h is
      ∙ rw (dropped_first (i + 1) formals ∙ sym place, dropped_again (i + 1) formals) refl

pub args_last : (xs : ir.Args) → append_args xs ir.no_args ≡ xs
args_last ir.no_args = refl
args_last (ir.more_args x xs) = ap (ir.more_args x) (args_last xs)

-- how many arguments there are
pub count_at : (s : Scene) (t : dx.Exprs) → nodes.argument_count (view.view_exprs t) ≡ 1 + length (dx.out-Exprs t).more.items
count_at s t = ap nodes.argument_count (rows.exprs_is t) ∙ ap (λ n. 1 + n) (count_is s (dx.out-Exprs t).more.items)
