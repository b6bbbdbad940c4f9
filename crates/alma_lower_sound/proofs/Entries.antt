-- Tables that hold what a program names, each once, have few entries, and ranges in order.
use Rattle.std.proofs.Common.{◌≡◌, inl, inr, ℕ, zero, suc, ◌+◌, ◌*◌, ◌<◌, ◌≤◌, Bool, true, false, List, [], ◌∷◌, ◌++◌, length, get_or}
use Rattle.std.proofs.Common.{Option, Some, None, ℤ, pos, negsuc, refl, sym, ap, ◌∙◌, subst, arith}
use Rattle.std.specs.Prelude.{sum_by, ◌≤ℤ◌, int_le}
use Rattle.std.specs.List.{AllByRecursion, Contains, IsDistinct, list_all}
use Rattle.std.proofs.lemmas.Bool.{and_from}
use Rattle.std.proofs.lemmas.List.{length-append}
use Rattle.std.proofs.lemmas.List.Sums.{sum_by-cons, sum_by-append, sum_by-le-sum_by}
use Rattle.std.proofs.lemmas.List.Elements.{Contains-append_left, Contains-append_right, Contains-append_cases}
use Rattle.std.proofs.lemmas.Int.{ints}
use Rattle.std.proofs.lemmas.Map.Keys.{IsDistinct-head, IsDistinct-tail}
use Rattle.alma_base.specs.Numbers.{char_range}
use Rattle.alma_base.specs.declared.number.Range.{Range}
use Rattle.alma_code.specs.Plain.{PlainCode}
use Rattle.alma_code.specs.Records.{text_byte_count}
use Rattle.alma_ir.specs.Tree.{Program, Routine, routine_at, no_routine, Stmts, Stmt, Arms, CaseArms, Else, Branches, Loop, ReturnExpr}
use Rattle.alma_ir.specs.Tree.{Test, Tests, Expr, Links, Args, Arg, Desig, Sels, Sel, no_stmts, more_stmts, TestStmt, Assign, CopyCells, If}
use Rattle.alma_ir.specs.Tree.{While, Repeat, ForTo, SomeOf, Case, Either, Forall, Commit, Return, Read, WriteExpr, WriteText, WriteLine}
use Rattle.alma_ir.specs.Tree.{no_arms, more_arms, no_cases, more_cases, no_else, else_part, no_branches, more_branches, a_loop, no_result}
use Rattle.alma_ir.specs.Tree.{some_result, Value, Bind, Unify, SameCells, Seq, And, Or, Not, CallTest, no_tests, more_tests, Const, Load}
use Rattle.alma_ir.specs.Tree.{Chain, Compare, Truth, Known, Chr, CallExpr, no_links, more_links, no_args, more_args, ByValue, ByCells}
use Rattle.alma_ir.specs.Tree.{ByPlace, MixValue, MixPlace, a_desig, no_sels, more_sels, Field, Index}
use Rattle.alma_ir.specs.Phrases.{Phrase, StmtPhrase, TestPhrase, ExprPhrase, ArgPhrase, DesigPhrase, SelPhrase, stmts_phrases}
use Rattle.alma_ir.specs.Phrases.{stmt_phrases, arms_phrases, cases_phrases, else_phrases, branches_phrases, loop_phrases, return_phrases}
use Rattle.alma_ir.specs.Phrases.{test_phrases, tests_phrases, expr_phrases, links_phrases, args_phrases, arg_phrases, desig_phrases}
use Rattle.alma_ir.specs.Phrases.{sels_phrases, sel_phrases}
use Rattle.alma_ir.specs.Count.{nodes, routines_nodes, stmts_nodes, stmt_nodes, arms_nodes, cases_nodes, else_nodes, branches_nodes}
use Rattle.alma_ir.specs.Count.{loop_nodes, return_nodes, test_nodes, tests_nodes, expr_nodes, links_nodes, args_nodes, arg_nodes}
use Rattle.alma_ir.specs.Count.{desig_nodes, sels_nodes, sel_nodes}
use Rattle.alma_ir.specs.Checked.{IsChecked, IsOrdered, labels_of, ranges_of, text_bytes}
use Rattle.alma_ir.proofs.Each.{each_of_append}
use Rattle.alma_lower_templates.specs.Tables.{same_range, same_text}
use Rattle.alma_lower_templates.proofs.Exists.{range_itself, text_itself}
use Rattle.alma_lower_sound.specs.Entries.{HoldsEachOnce, of_each, program_phrases, program_ranges, program_texts, result_range, texts_of}

-- ---- entries of a table

-- a list round one of its elements
record Split {A : Type 0} (xs : List A) (x : A) : Type 0 where
  before : List A
  after : List A
  is : xs ≡ before ++ (x ∷ after)

split : {A : Type 0} (xs : List A) (k : ℕ) (x : A) → k < length xs → get_or xs k x ≡ x → Split xs x
split [] k x lt e = absurd (omega (arith, lt))
split (y ∷ ys) zero x lt e = record { before = []; after = ys; is = ap (λ z. z ∷ ys) e }
split (y ∷ ys) (suc k) x lt e =
    let z = split ys k x (omega (arith, lt)) e in
    record { before = y ∷ z.before; after = z.after; is = ap (λ l. y ∷ l) z.is }

-- what is among the others, if it is not the one
among_others : {A : Type 0} (before after : List A) (x y : A) → (x ≡ y → ⊥) → Contains (before ++ (x ∷ after)) y
    → Contains (before ++ after) y
among_others before after x y apart h = elim (Contains-append_cases before (x ∷ after) y h) [
  | inl early ↦ Contains-append_left before after y early
  | inr late ↦ Contains-append_right before after y (behind late.0 late.1 late.2)
]
  where
    behind : (k : ℕ) → k < length (x ∷ after) → get_or (x ∷ after) k y ≡ y → Contains after y
    behind zero lt e = absurd (apart e)
    behind (suc k) lt e = (k, omega (arith, lt), e)

module _ {A : Type 0} (same : A → A → Bool) (itself : (a : A) → same a a ≡ true) (weight : A → ℕ) where
  others : (before after : List A) (x : A) (ys : List A) → AllByRecursion (λ y. Contains (before ++ (x ∷ after)) y) ys
      → AllByRecursion (λ y. same x y ≡ false) ys → AllByRecursion (λ y. Contains (before ++ after) y) ys
  others before after x [] h d = tt
  others before after x (y ∷ ys) h d = (
    among_others before after x y
        (λ e. let bad : true ≡ false = sym (itself x) ∙ ap (same x) e ∙ d.0 in absurd (cc)) h.0,
    others before after x ys h.1 d.1,
  )

  -- entries that are among these, no two alike, weigh no more than these
  pub entries_weigh : (entries all : List A) → AllByRecursion (λ x. Contains all x) entries → IsDistinct same entries
      → sum_by weight entries ≤ sum_by weight all
  entries_weigh [] all h d = omega arith
  entries_weigh (x ∷ xs) all h d =
      let z = split all h.0.0 x h.0.1 h.0.2 in
      let there = subst (λ l. AllByRecursion (λ y. Contains l y) xs) z.is h.1 in
      let rest = entries_weigh xs (z.before ++ z.after) (others z.before z.after x xs there (IsDistinct-head same x xs d))
      (IsDistinct-tail same x xs d) in
      omega (
        arith,
        rest,
        sum_by-cons weight x xs,
        sum_by-append weight z.before z.after,
        ap (sum_by weight) z.is,
        sum_by-append weight z.before (x ∷ z.after),
        sum_by-cons weight x z.after,
      )

ones : {A : Type 0} (xs : List A) → sum_by (λ x. 1) xs ≡ length xs
ones [] = refl
ones (x ∷ xs) = omega (arith, sum_by-cons (λ y. 1) x xs, ones xs)

sum_of_each : {A B : Type 0} (weight : B → ℕ) (f : A → List B) (xs : List A)
    → sum_by weight (of_each f xs) ≡ sum_by (λ x. sum_by weight (f x)) xs
sum_of_each weight f [] = refl
sum_of_each weight f (x ∷ xs) = omega (
  arith,
  sum_by-append weight (f x) (of_each f xs),
  sum_by-cons (λ y. sum_by weight (f y)) x xs,
  sum_of_each weight f xs,
)

-- ---- what phrases name, by nodes

-- two for each phrase, and the labels of CASE
abbrev cap : Phrase → ℕ
cap (StmtPhrase (Case e arms rest)) = 2 + length (labels_of arms)
cap _ = 2

module _ (f : Phrase → ℕ) (small : (x : Phrase) → f x ≤ cap x) where
  two : (xs ys : List Phrase) → sum_by f (xs ++ ys) ≡ sum_by f xs + sum_by f ys
  two xs ys = sum_by-append f xs ys

  first : (x : Phrase) (xs : List Phrase) → sum_by f (x ∷ xs) ≡ f x + sum_by f xs
  first x xs = sum_by-cons f x xs

  mutual
    unfolding stmts_phrases

    pub stmts_name : (x : Stmts) → sum_by f (stmts_phrases x) ≤ 2 * stmts_nodes x
    stmts_name no_stmts = omega arith
    stmts_name (more_stmts line x rest) = omega (arith, two (stmt_phrases x) (stmts_phrases rest), stmt_names x, stmts_name rest)

    stmt_names : (x : Stmt) → sum_by f (stmt_phrases x) ≤ 2 * stmt_nodes x
    stmt_names (TestStmt t) = omega (arith, first (StmtPhrase (TestStmt t)) (test_phrases t), small (StmtPhrase (TestStmt t)), test_names t)
    stmt_names (Assign d e range) = omega (
      arith,
      first (StmtPhrase (Assign d e range)) (desig_phrases d ++ expr_phrases e),
      two (desig_phrases d) (expr_phrases e),
      small (StmtPhrase (Assign d e range)),
      desig_names d,
      expr_names e,
    )
    stmt_names (CopyCells d e) = omega (
      arith,
      first (StmtPhrase (CopyCells d e)) (desig_phrases d ++ desig_phrases e),
      two (desig_phrases d) (desig_phrases e),
      small (StmtPhrase (CopyCells d e)),
      desig_names d,
      desig_names e,
    )
    stmt_names (If arms rest) = omega (
      arith,
      first (StmtPhrase (If arms rest)) (arms_phrases arms ++ stmts_phrases rest),
      two (arms_phrases arms) (stmts_phrases rest),
      small (StmtPhrase (If arms rest)),
      arms_name arms,
      stmts_name rest,
    )
    stmt_names (While t body) = omega (
      arith,
      first (StmtPhrase (While t body)) (test_phrases t ++ stmts_phrases body),
      two (test_phrases t) (stmts_phrases body),
      small (StmtPhrase (While t body)),
      test_names t,
      stmts_name body,
    )
    stmt_names (Repeat body t) = omega (
      arith,
      first (StmtPhrase (Repeat body t)) (stmts_phrases body ++ test_phrases t),
      two (stmts_phrases body) (test_phrases t),
      small (StmtPhrase (Repeat body t)),
      test_names t,
      stmts_name body,
    )
    stmt_names (ForTo l) = omega (arith, first (StmtPhrase (ForTo l)) (loop_phrases l), small (StmtPhrase (ForTo l)), loop_names l)
    stmt_names (SomeOf l) = omega (arith, first (StmtPhrase (SomeOf l)) (loop_phrases l), small (StmtPhrase (SomeOf l)), loop_names l)
    stmt_names (Case e arms rest) =
        let parts = expr_phrases e ++ cases_phrases arms in
        omega (
          arith,
          first (StmtPhrase (Case e arms rest)) (parts ++ else_phrases rest),
          two parts (else_phrases rest),
          two (expr_phrases e) (cases_phrases arms),
          small (StmtPhrase (Case e arms rest)),
          expr_names e,
          cases_name arms,
          else_names rest,
        )
    stmt_names (Either x) = omega (
      arith,
      first (StmtPhrase (Either x)) (branches_phrases x),
      small (StmtPhrase (Either x)),
      branches_name x,
    )
    stmt_names (Forall x y) = omega (
      arith,
      first (StmtPhrase (Forall x y)) (stmts_phrases x ++ stmts_phrases y),
      two (stmts_phrases x) (stmts_phrases y),
      small (StmtPhrase (Forall x y)),
      stmts_name x,
      stmts_name y,
    )
    stmt_names (Commit x) = omega (arith, first (StmtPhrase (Commit x)) (stmts_phrases x), small (StmtPhrase (Commit x)), stmts_name x)
    stmt_names (Return e) = omega (arith, first (StmtPhrase (Return e)) (return_phrases e), small (StmtPhrase (Return e)), return_names e)
    stmt_names (Read d how range) = omega (
      arith,
      first (StmtPhrase (Read d how range)) (desig_phrases d),
      small (StmtPhrase (Read d how range)),
      desig_names d,
    )
    stmt_names (WriteExpr e how) = omega (
      arith,
      first (StmtPhrase (WriteExpr e how)) (expr_phrases e),
      small (StmtPhrase (WriteExpr e how)),
      expr_names e,
    )
    stmt_names (WriteText text) = omega (arith, first (StmtPhrase (WriteText text)) [], small (StmtPhrase (WriteText text)))
    stmt_names WriteLine = omega (arith, first (StmtPhrase WriteLine) [], small (StmtPhrase WriteLine))

    arms_name : (x : Arms) → sum_by f (arms_phrases x) ≤ 2 * arms_nodes x
    arms_name no_arms = omega arith
    arms_name (more_arms t body rest) = omega (
      arith,
      two (test_phrases t ++ stmts_phrases body) (arms_phrases rest),
      two (test_phrases t) (stmts_phrases body),
      test_names t,
      stmts_name body,
      arms_name rest,
    )

    cases_name : (x : CaseArms) → length (labels_of x) + sum_by f (cases_phrases x) ≤ 2 * cases_nodes x
    cases_name no_cases = omega arith
    cases_name (more_cases labels body rest) =
        omega (
          arith,
          two (stmts_phrases body) (cases_phrases rest),
          length-append labels (labels_of rest),
          stmts_name body,
          cases_name rest,
        )

    else_names : (x : Else) → sum_by f (else_phrases x) ≤ 2 * else_nodes x
    else_names no_else = omega arith
    else_names (else_part body) = stmts_name body

    branches_name : (x : Branches) → sum_by f (branches_phrases x) ≤ 2 * branches_nodes x
    branches_name no_branches = omega arith
    branches_name (more_branches body rest) =
        omega (arith, two (stmts_phrases body) (branches_phrases rest), stmts_name body, branches_name rest)

    loop_names : (x : Loop) → sum_by f (loop_phrases x) ≤ 2 * loop_nodes x
    loop_names (a_loop d range counter limit from to by body) =
        let one = desig_phrases d ++ expr_phrases from in
        omega (
          arith,
          two (one ++ expr_phrases to) (stmts_phrases body),
          two one (expr_phrases to),
          two (desig_phrases d) (expr_phrases from),
          desig_names d,
          expr_names from,
          expr_names to,
          stmts_name body,
        )

    return_names : (x : ReturnExpr) → sum_by f (return_phrases x) ≤ 2 * return_nodes x
    return_names no_result = omega arith
    return_names (some_result e) = expr_names e

    test_names : (x : Test) → sum_by f (test_phrases x) ≤ 2 * test_nodes x
    test_names (Value e) = omega (arith, first (TestPhrase (Value e)) (expr_phrases e), small (TestPhrase (Value e)), expr_names e)
    test_names (Bind d e range left) = omega (
      arith,
      first (TestPhrase (Bind d e range left)) (desig_phrases d ++ expr_phrases e),
      two (desig_phrases d) (expr_phrases e),
      small (TestPhrase (Bind d e range left)),
      desig_names d,
      expr_names e,
    )
    test_names (Unify d range e range2) = omega (
      arith,
      first (TestPhrase (Unify d range e range2)) (desig_phrases d ++ desig_phrases e),
      two (desig_phrases d) (desig_phrases e),
      small (TestPhrase (Unify d range e range2)),
      desig_names d,
      desig_names e,
    )
    test_names (SameCells d e) = omega (
      arith,
      first (TestPhrase (SameCells d e)) (desig_phrases d ++ desig_phrases e),
      two (desig_phrases d) (desig_phrases e),
      small (TestPhrase (SameCells d e)),
      desig_names d,
      desig_names e,
    )
    test_names (Seq x) = omega (arith, first (TestPhrase (Seq x)) (stmts_phrases x), small (TestPhrase (Seq x)), stmts_name x)
    test_names (And ts) = omega (arith, first (TestPhrase (And ts)) (tests_phrases ts), small (TestPhrase (And ts)), tests_name ts)
    test_names (Or ts) = omega (arith, first (TestPhrase (Or ts)) (tests_phrases ts), small (TestPhrase (Or ts)), tests_name ts)
    test_names (Not t) = omega (arith, first (TestPhrase (Not t)) (test_phrases t), small (TestPhrase (Not t)), test_names t)
    test_names (CallTest called args up) = omega (
      arith,
      first (TestPhrase (CallTest called args up)) (args_phrases args),
      small (TestPhrase (CallTest called args up)),
      args_name args,
    )

    tests_name : (x : Tests) → sum_by f (tests_phrases x) ≤ 2 * tests_nodes x
    tests_name no_tests = omega arith
    tests_name (more_tests t rest) = omega (arith, two (test_phrases t) (tests_phrases rest), test_names t, tests_name rest)

    expr_names : (x : Expr) → sum_by f (expr_phrases x) ≤ 2 * expr_nodes x
    expr_names (Const n) = omega (arith, first (ExprPhrase (Const n)) [], small (ExprPhrase (Const n)))
    expr_names (Load d) = omega (arith, first (ExprPhrase (Load d)) (desig_phrases d), small (ExprPhrase (Load d)), desig_names d)
    expr_names (Chain negated e links) = omega (
      arith,
      first (ExprPhrase (Chain negated e links)) (expr_phrases e ++ links_phrases links),
      two (expr_phrases e) (links_phrases links),
      small (ExprPhrase (Chain negated e links)),
      expr_names e,
      links_name links,
    )
    expr_names (Compare how x y) = omega (
      arith,
      first (ExprPhrase (Compare how x y)) (expr_phrases x ++ expr_phrases y),
      two (expr_phrases x) (expr_phrases y),
      small (ExprPhrase (Compare how x y)),
      expr_names x,
      expr_names y,
    )
    expr_names (Truth t) = omega (arith, first (ExprPhrase (Truth t)) (test_phrases t), small (ExprPhrase (Truth t)), test_names t)
    expr_names (Known d) = omega (arith, first (ExprPhrase (Known d)) (desig_phrases d), small (ExprPhrase (Known d)), desig_names d)
    expr_names (Chr e) = omega (arith, first (ExprPhrase (Chr e)) (expr_phrases e), small (ExprPhrase (Chr e)), expr_names e)
    expr_names (CallExpr called args up) = omega (
      arith,
      first (ExprPhrase (CallExpr called args up)) (args_phrases args),
      small (ExprPhrase (CallExpr called args up)),
      args_name args,
    )

    links_name : (x : Links) → sum_by f (links_phrases x) ≤ 2 * links_nodes x
    links_name no_links = omega arith
    links_name (more_links how e rest) = omega (arith, two (expr_phrases e) (links_phrases rest), expr_names e, links_name rest)

    args_name : (x : Args) → sum_by f (args_phrases x) ≤ 2 * args_nodes x
    args_name no_args = omega arith
    args_name (more_args a rest) = omega (arith, two (arg_phrases a) (args_phrases rest), arg_names a, args_name rest)

    arg_names : (x : Arg) → sum_by f (arg_phrases x) ≤ 2 * arg_nodes x
    arg_names (ByValue e range) = omega (
      arith,
      first (ArgPhrase (ByValue e range)) (expr_phrases e),
      small (ArgPhrase (ByValue e range)),
      expr_names e,
    )
    arg_names (ByCells d) = omega (arith, first (ArgPhrase (ByCells d)) (desig_phrases d), small (ArgPhrase (ByCells d)), desig_names d)
    arg_names (ByPlace d) = omega (arith, first (ArgPhrase (ByPlace d)) (desig_phrases d), small (ArgPhrase (ByPlace d)), desig_names d)
    arg_names (MixValue e range) = omega (
      arith,
      first (ArgPhrase (MixValue e range)) (expr_phrases e),
      small (ArgPhrase (MixValue e range)),
      expr_names e,
    )
    arg_names (MixPlace d) = omega (arith, first (ArgPhrase (MixPlace d)) (desig_phrases d), small (ArgPhrase (MixPlace d)), desig_names d)

    desig_names : (x : Desig) → sum_by f (desig_phrases x) ≤ 2 * desig_nodes x
    desig_names (a_desig root cells sels) = omega (
      arith,
      first (DesigPhrase (a_desig root cells sels)) (sels_phrases sels),
      small (DesigPhrase (a_desig root cells sels)),
      sels_name sels,
    )

    sels_name : (x : Sels) → sum_by f (sels_phrases x) ≤ 2 * sels_nodes x
    sels_name no_sels = omega arith
    sels_name (more_sels x rest) = omega (arith, two (sel_phrases x) (sels_phrases rest), sel_names x, sels_name rest)

    sel_names : (x : Sel) → sum_by f (sel_phrases x) ≤ 2 * sel_nodes x
    sel_names (Field offset cells) = omega (arith, first (SelPhrase (Field offset cells)) [], small (SelPhrase (Field offset cells)))
    sel_names (Index e range cells) = omega (
      arith,
      first (SelPhrase (Index e range cells)) (expr_phrases e),
      small (SelPhrase (Index e range cells)),
      expr_names e,
    )

-- ---- the ranges and the texts of a program

ranges_small : (x : Phrase) → sum_by (λ range. 1) (ranges_of x) ≤ cap x
ranges_small (StmtPhrase (Assign d e range)) = omega (arith, ones (range ∷ []))
ranges_small (StmtPhrase (ForTo (a_loop d range counter limit from to by body))) = omega (arith, ones (range ∷ []))
ranges_small (StmtPhrase (SomeOf (a_loop d range counter limit from to by body))) = omega (arith, ones (range ∷ []))
ranges_small (StmtPhrase (Case e arms rest)) = omega (arith, ones (labels_of arms))
ranges_small (StmtPhrase (Read d how range)) = omega (arith, ones (range ∷ []))
ranges_small (TestPhrase (Bind d e range left)) = omega (arith, ones (range ∷ []))
ranges_small (TestPhrase (Unify d range e range2)) = omega (arith, ones (range ∷ range2 ∷ []))
ranges_small (ArgPhrase (ByValue e range)) = omega (arith, ones (range ∷ []))
ranges_small (ArgPhrase (MixValue e range)) = omega (arith, ones (range ∷ []))
ranges_small (SelPhrase (Index e range cells)) = omega (arith, ones (range ∷ []))
ranges_small x = omega arith

texts_small : (x : Phrase) → sum_by (λ text. 1) (texts_of x) ≤ cap x
texts_small (StmtPhrase (WriteText text)) = omega (arith, ones (text ∷ []))
texts_small x = omega arith

bytes_same : (x : Phrase) → sum_by length (texts_of x) ≤ text_bytes x
bytes_same (StmtPhrase (WriteText text)) = let none : List (List ℕ) = [] in omega (arith, sum_by-cons length text none)
bytes_same x = omega arith

-- of all routines, where a phrase names few
all_name : (f : Phrase → ℕ) → ((x : Phrase) → f x ≤ cap x) → (rs : List Routine)
    → sum_by f (of_each (λ r. stmts_phrases r.body) rs) + length rs ≤ 2 * routines_nodes rs
all_name f small [] = omega arith
all_name f small (r ∷ rs) = omega (
  arith,
  sum_by-append f (stmts_phrases r.body) (of_each (λ x. stmts_phrases x.body) rs),
  stmts_name f small r.body,
  all_name f small rs,
)

result_small : (o : Option Range) → sum_by (λ range. 1) (result_range o) ≤ 1
result_small None = omega arith
result_small (Some range) = omega (arith, ones (range ∷ []))

results_few : (rs : List Routine) → sum_by (λ range. 1) (of_each (λ r. result_range r.result) rs) ≤ length rs
results_few [] = omega arith
results_few (r ∷ rs) = omega (
  arith,
  sum_by-append (λ range. 1) (result_range r.result) (of_each (λ x. result_range x.result) rs),
  result_small r.result,
  results_few rs,
)

few_program_ranges : (p : Program) → sum_by (λ range. 1) (program_ranges p) ≤ 1 + 2 * nodes p
few_program_ranges p =
    let phrases = of_each ranges_of (program_phrases p) in
    let results = of_each (λ r. result_range r.result) p.routines in
    omega (
      arith,
      sum_by-cons (λ range. 1) char_range (phrases ++ results),
      sum_by-append (λ range. 1) phrases results,
      sum_of_each (λ range. 1) ranges_of (program_phrases p),
      all_name (λ x. sum_by (λ range. 1) (ranges_of x)) ranges_small p.routines,
      results_few p.routines,
    )

few_program_texts : (p : Program) → sum_by (λ text. 1) (program_texts p) ≤ 2 * nodes p
few_program_texts p = omega (
  arith,
  sum_of_each (λ text. 1) texts_of (program_phrases p),
  all_name (λ x. sum_by (λ text. 1) (texts_of x)) texts_small p.routines,
)

bytes_of_routines : (rs : List Routine) → sum_by length (of_each texts_of (of_each (λ r. stmts_phrases r.body) rs)) ≤ sum_by
    (λ r. sum_by text_bytes (stmts_phrases r.body)) rs
bytes_of_routines [] = omega arith
bytes_of_routines (r ∷ rs) =
    let mine = stmts_phrases r.body in
    let others = of_each (λ x. stmts_phrases x.body) rs in
    omega (
      arith,
      sum_of_each length texts_of (mine ++ others),
      sum_of_each length texts_of others,
      sum_by-append (λ x. sum_by length (texts_of x)) mine others,
      sum_by-le-sum_by (λ x. sum_by length (texts_of x)) text_bytes mine bytes_same,
      sum_by-cons (λ x. sum_by text_bytes (stmts_phrases x.body)) r rs,
      bytes_of_routines rs,
    )

module _ (p : Program) (code : PlainCode) (held : HoldsEachOnce p code) where
  pub few_ranges : length code.ranges ≤ 1 + 2 * nodes p
  few_ranges = omega (
    arith,
    ones code.ranges,
    entries_weigh same_range range_itself (λ range. 1) code.ranges (program_ranges p) held.ranges.among held.ranges.distinct,
    few_program_ranges p,
  )

  pub few_texts : length code.texts ≤ 2 * nodes p
  few_texts = omega (
    arith,
    ones code.texts,
    entries_weigh same_text text_itself (λ text. 1) code.texts (program_texts p) held.texts.among held.texts.distinct,
    few_program_texts p,
  )

  pub few_text_bytes : text_byte_count code ≤ sum_by (λ r. sum_by text_bytes (stmts_phrases r.body)) p.routines
  few_text_bytes = omega (
    arith,
    entries_weigh same_text text_itself length code.texts (program_texts p) held.texts.among
        held.texts.distinct,
    bytes_of_routines p.routines,
  )

-- ---- ranges in order

each_routine : (P : Routine → Type 0) (rs : List Routine) → ((r : ℕ) → r < length rs → P (get_or rs r no_routine)) → AllByRecursion P rs
each_routine P [] h = tt
each_routine P (r ∷ rs) h = (h 0 (omega arith), each_routine P rs (λ i lt. h (suc i) (omega (arith, lt))))

all_of_each : {A B : Type 0} (P : B → Type 0) (f : A → List B) (xs : List A) → AllByRecursion (λ x. AllByRecursion P (f x)) xs
    → AllByRecursion P (of_each f xs)
all_of_each P f [] h = tt
all_of_each P f (x ∷ xs) h = each_of_append P (f x) (of_each f xs) h.0 (all_of_each P f xs h.1)

holds_there : {A : Type 0} (P : A → Type 0) (xs : List A) (k : ℕ) (x : A) → k < length xs → get_or xs k x ≡ x → AllByRecursion P xs → P x
holds_there P [] k x lt e h = absurd (omega (arith, lt))
holds_there P (y ∷ ys) zero x lt e h = subst P e h.0
holds_there P (y ∷ ys) (suc k) x lt e h = holds_there P ys k x (omega (arith, lt)) e h.1

ordered_true : (a b : ℤ) → a ≤ℤ b → int_le a b ≡ true
ordered_true (pos a) (pos b) h = grind (arith, ints)
ordered_true (pos a) (negsuc b) h = grind (arith, ints)
ordered_true (negsuc a) (pos b) h = grind (arith, ints)
ordered_true (negsuc a) (negsuc b) h = grind (arith, ints)

module _ (p : Program) (checked : IsChecked p) where
  results_ordered : (o : Option Range) → ((range : Range) → o ≡ Some range → IsOrdered range) → AllByRecursion IsOrdered (result_range o)
  results_ordered None h = tt
  results_ordered (Some range) h = (h range refl, tt)

  phrases_ordered : AllByRecursion (λ x. AllByRecursion IsOrdered (ranges_of x)) (program_phrases p)
  phrases_ordered =
      all_of_each (λ x. AllByRecursion IsOrdered (ranges_of x)) (λ r. stmts_phrases r.body) p.routines
      (each_routine (λ r. AllByRecursion (λ x. AllByRecursion IsOrdered (ranges_of x)) (stmts_phrases r.body)) p.routines
      (λ r lt. checked.ranges r lt))

  program_ordered : AllByRecursion IsOrdered (program_ranges p)
  program_ordered = (
    omega (arith, ints),
    each_of_append IsOrdered (of_each ranges_of (program_phrases p)) (of_each (λ r. result_range r.result) p.routines)
        (all_of_each IsOrdered ranges_of (program_phrases p) phrases_ordered)
        (all_of_each IsOrdered (λ r. result_range r.result) p.routines
        (each_routine (λ r. AllByRecursion IsOrdered (result_range r.result)) p.routines
        (λ r lt. results_ordered (routine_at p r).result (checked.head_ranges r lt).result))),
  )

  entries_ordered : (entries : List Range) → AllByRecursion (λ x. Contains (program_ranges p) x) entries
      → list_all (λ t. int_le t.low t.high) entries ≡ true
  entries_ordered [] h = refl
  entries_ordered (x ∷ xs) h =
      and_from (int_le x.low x.high) (list_all (λ t. int_le t.low t.high) xs)
      (ordered_true x.low x.high (holds_there IsOrdered (program_ranges p) h.0.0 x h.0.1 h.0.2 program_ordered))
      (entries_ordered xs h.1)

  pub ranges_ordered : (code : PlainCode) → HoldsEachOnce p code → list_all (λ t. int_le t.low t.high) code.ranges ≡ true
  ranges_ordered code held = entries_ordered code.ranges held.ranges.among
