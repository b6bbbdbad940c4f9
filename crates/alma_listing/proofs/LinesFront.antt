-- The phrases with their lines have the first lines alone: what stands behind them is not handed out.
use Rattle.std.proofs.Common.{◌≡◌, ℕ, zero, suc, true, false, ◌+◌, ◌-◌, ◌<◌, ◌≤◌, List, [], ◌∷◌, ◌++◌, length, get_or, drop, refl, sym, ap}
use Rattle.std.proofs.Common.{◌∙◌, arith, length-drop}
use Rattle.alma_ir.specs.Tree.{Stmts, Stmt, Arms, CaseArms, Else, Branches, Loop, ReturnExpr, Test, Tests, Expr, Links, Args, Arg, Desig}
use Rattle.alma_ir.specs.Tree.{Sels, Sel, no_stmts, more_stmts, TestStmt, Assign, CopyCells, If, While, Repeat, ForTo, SomeOf, Case, Either}
use Rattle.alma_ir.specs.Tree.{Forall, Commit, Return, Read, WriteExpr, WriteText, WriteLine, no_arms, more_arms, no_cases, more_cases}
use Rattle.alma_ir.specs.Tree.{no_else, else_part, no_branches, more_branches, a_loop, no_result, some_result, Value, Bind, Unify}
use Rattle.alma_ir.specs.Tree.{SameCells, Seq, And, Or, Not, CallTest, no_tests, more_tests, Const, Load, Chain, Compare, Truth, Known, Chr}
use Rattle.alma_ir.specs.Tree.{CallExpr, no_links, more_links, no_args, more_args, ByValue, ByCells, ByPlace, MixValue, MixPlace, a_desig}
use Rattle.alma_ir.specs.Tree.{no_sels, more_sels, Field, Index}
use Rattle.alma_ir.specs.Lines.{stmt_count, behind, stmts_with, stmt_with, arms_with, cases_with, else_with, branches_with, loop_with}
use Rattle.alma_ir.specs.Lines.{return_with, test_with, tests_with, expr_with, links_with, args_with, arg_with, desig_with, sels_with}
use Rattle.alma_ir.specs.Lines.{sel_with}
use Rattle.alma_ir.specs.Phrases.{Phrase, stmts_phrases, stmt_phrases, arms_phrases, cases_phrases, else_phrases, branches_phrases}
use Rattle.alma_ir.specs.Phrases.{loop_phrases, return_phrases, test_phrases, tests_phrases, expr_phrases, links_phrases, args_phrases}
use Rattle.alma_ir.specs.Phrases.{arg_phrases, desig_phrases, sels_phrases, sel_phrases}
use Rattle.alma_ir.proofs.LinesBack.{count_sum}
use Rattle.alma_rules.specs.Parts.{append_stmts}

-- the first n lines are the same
abbrev Agree : ℕ → List ℕ → List ℕ → Type 0
Agree n l m = (j : ℕ) → j < n → get_or l j 0 ≡ get_or m j 0

get_behind : (a j : ℕ) (l : List ℕ) → get_or (drop a l) j 0 ≡ get_or l (a + j) 0
get_behind zero j l = let e : j ≡ 0 + j = omega arith in ap (λ n. get_or l n 0) e
get_behind (suc a) j [] = refl
get_behind (suc a) j (x ∷ l) = let e : suc (a + j) ≡ suc a + j = omega arith in get_behind a j l ∙ ap (λ n. get_or (x ∷ l) n 0) e

fr : {n : ℕ} (a : ℕ) (l m : List ℕ) → Agree n l m → a ≤ n → Agree a l m
fr a l m h le j lt = h j (omega (arith, le, lt))

bk : {n : ℕ} (a k : ℕ) (l m : List ℕ) → Agree n l m → a + k ≤ n → Agree k (drop a l) (drop a m)
bk a k l m h le j lt = get_behind a j l ∙ h (a + j) (omega (arith, le, lt)) ∙ sym (get_behind a j m)

peel : (xs : List Phrase) (l m : List ℕ) → ((j : ℕ) → suc j < suc (stmt_count xs) → get_or l j 0 ≡ get_or m j 0) → Agree (stmt_count xs) l m
peel xs l m h j lt = h j (omega (arith, lt))

some_stmt : (x : Stmt) → 0 < stmt_count (stmt_phrases x)
unfolding stmts_phrases
some_stmt (TestStmt t) = omega arith
some_stmt (Assign d e range) = omega arith
some_stmt (CopyCells d e) = omega arith
some_stmt (If arms rest) = omega arith
some_stmt (While t body) = omega arith
some_stmt (Repeat body t) = omega arith
some_stmt (ForTo x) = omega arith
some_stmt (SomeOf x) = omega arith
some_stmt (Case e arms rest) = omega arith
some_stmt (Either x) = omega arith
some_stmt (Forall x y) = omega arith
some_stmt (Commit x) = omega arith
some_stmt (Return e) = omega arith
some_stmt (Read d how range) = omega arith
some_stmt (WriteExpr e how) = omega arith
some_stmt (WriteText text) = omega arith
some_stmt WriteLine = omega arith

mutual
  unfolding stmts_phrases stmts_with

  pub stmts_front : (x : Stmts) (l m : List ℕ) → Agree (stmt_count (stmts_phrases x)) l m → stmts_with x l ≡ stmts_with x m
  stmts_front no_stmts l m h = refl
  stmts_front (more_stmts line x rest) l m h =
      let sum : stmt_count (stmt_phrases x ++ stmts_phrases rest) ≡ stmt_count (stmt_phrases x) + stmt_count (stmts_phrases rest) =
      count_sum (stmt_phrases x) (stmts_phrases rest) in
      λ i. more_stmts (h 0 (omega (arith, sum, some_stmt x)) i)
      (stmt_front x (drop 1 l) (drop 1 m)
      (λ j lt. bk 1 (stmt_count (stmt_phrases x) - 1) l m h (omega (arith, sum, some_stmt x)) j (omega (arith, lt))) i)
      (stmts_front rest (behind (stmt_phrases x) l) (behind (stmt_phrases x) m)
      (bk (stmt_count (stmt_phrases x)) (stmt_count (stmts_phrases rest)) l m h (omega (arith, sum))) i)

  stmt_front : (x : Stmt) (l m : List ℕ) → ((j : ℕ) → suc j < stmt_count (stmt_phrases x) → get_or l j 0 ≡ get_or m j 0) →
      stmt_with x l ≡ stmt_with x m
  stmt_front (TestStmt t) l m h = λ i. TestStmt (test_front t l m (peel (test_phrases t) l m h) i)
  stmt_front (Assign d e range) l m h =
      λ i. Assign (desig_front d l m
      (fr (stmt_count (desig_phrases d)) l m (peel (desig_phrases d ++ expr_phrases e) l m h)
      (omega (arith, count_sum (desig_phrases d) (expr_phrases e)))) i)
      (expr_front e (behind (desig_phrases d) l) (behind (desig_phrases d) m)
      (bk (stmt_count (desig_phrases d)) (stmt_count (expr_phrases e)) l m (peel (desig_phrases d ++ expr_phrases e) l m h)
      (omega (arith, count_sum (desig_phrases d) (expr_phrases e)))) i) range
  stmt_front (CopyCells d e) l m h =
      λ i. CopyCells (desig_front d l m
      (fr (stmt_count (desig_phrases d)) l m (peel (desig_phrases d ++ desig_phrases e) l m h)
      (omega (arith, count_sum (desig_phrases d) (desig_phrases e)))) i)
      (desig_front e (behind (desig_phrases d) l) (behind (desig_phrases d) m)
      (bk (stmt_count (desig_phrases d)) (stmt_count (desig_phrases e)) l m (peel (desig_phrases d ++ desig_phrases e) l m h)
      (omega (arith, count_sum (desig_phrases d) (desig_phrases e)))) i)
  stmt_front (If arms rest) l m h =
      λ i. If (arms_front arms l m
      (fr (stmt_count (arms_phrases arms)) l m (peel (arms_phrases arms ++ stmts_phrases rest) l m h)
      (omega (arith, count_sum (arms_phrases arms) (stmts_phrases rest)))) i)
      (stmts_front rest (behind (arms_phrases arms) l) (behind (arms_phrases arms) m)
      (bk (stmt_count (arms_phrases arms)) (stmt_count (stmts_phrases rest)) l m (peel (arms_phrases arms ++ stmts_phrases rest) l m h)
      (omega (arith, count_sum (arms_phrases arms) (stmts_phrases rest)))) i)
  stmt_front (While t body) l m h =
      λ i. While (test_front t l m
      (fr (stmt_count (test_phrases t)) l m (peel (test_phrases t ++ stmts_phrases body) l m h)
      (omega (arith, count_sum (test_phrases t) (stmts_phrases body)))) i)
      (stmts_front body (behind (test_phrases t) l) (behind (test_phrases t) m)
      (bk (stmt_count (test_phrases t)) (stmt_count (stmts_phrases body)) l m (peel (test_phrases t ++ stmts_phrases body) l m h)
      (omega (arith, count_sum (test_phrases t) (stmts_phrases body)))) i)
  stmt_front (Repeat body t) l m h =
      λ i. Repeat (stmts_front body l m
      (fr (stmt_count (stmts_phrases body)) l m (peel (stmts_phrases body ++ test_phrases t) l m h)
      (omega (arith, count_sum (stmts_phrases body) (test_phrases t)))) i)
      (test_front t (behind (stmts_phrases body) l) (behind (stmts_phrases body) m)
      (bk (stmt_count (stmts_phrases body)) (stmt_count (test_phrases t)) l m (peel (stmts_phrases body ++ test_phrases t) l m h)
      (omega (arith, count_sum (stmts_phrases body) (test_phrases t)))) i)
  stmt_front (ForTo x) l m h = λ i. ForTo (loop_front x l m (peel (loop_phrases x) l m h) i)
  stmt_front (SomeOf x) l m h = λ i. SomeOf (loop_front x l m (peel (loop_phrases x) l m h) i)
  stmt_front (Case e arms rest) l m h =
      λ i. Case (expr_front e l m
      (fr (stmt_count (expr_phrases e)) l m (peel (expr_phrases e ++ cases_phrases arms ++ else_phrases rest) l m h)
      (omega (
        arith,
        count_sum (expr_phrases e) (cases_phrases arms),
        count_sum (expr_phrases e ++ cases_phrases arms)
            (else_phrases rest),
      ))) i)
      (cases_front arms (behind (expr_phrases e) l) (behind (expr_phrases e) m)
      (fr (stmt_count (cases_phrases arms)) (behind (expr_phrases e) l) (behind (expr_phrases e) m)
      (bk (stmt_count (expr_phrases e)) (stmt_count (cases_phrases arms) + (stmt_count (else_phrases rest))) l m
      (peel (expr_phrases e ++ cases_phrases arms ++ else_phrases rest) l m h)
      (omega (
        arith,
        count_sum (expr_phrases e) (cases_phrases arms),
        count_sum (expr_phrases e ++ cases_phrases arms)
            (else_phrases rest),
      )))
      (omega (
        arith,
        count_sum (expr_phrases e) (cases_phrases arms),
        count_sum (expr_phrases e ++ cases_phrases arms)
            (else_phrases rest),
      ))) i)
      (else_front rest (behind (cases_phrases arms) (behind (expr_phrases e) l)) (behind (cases_phrases arms) (behind (expr_phrases e) m))
      (bk (stmt_count (cases_phrases arms)) (stmt_count (else_phrases rest)) (behind (expr_phrases e) l) (behind (expr_phrases e) m)
      (bk (stmt_count (expr_phrases e)) (stmt_count (cases_phrases arms) + (stmt_count (else_phrases rest))) l m
      (peel (expr_phrases e ++ cases_phrases arms ++ else_phrases rest) l m h)
      (omega (
        arith,
        count_sum (expr_phrases e) (cases_phrases arms),
        count_sum (expr_phrases e ++ cases_phrases arms)
            (else_phrases rest),
      )))
      (omega (
        arith,
        count_sum (expr_phrases e) (cases_phrases arms),
        count_sum (expr_phrases e ++ cases_phrases arms)
            (else_phrases rest),
      ))) i)
  stmt_front (Either x) l m h = λ i. Either (branches_front x l m (peel (branches_phrases x) l m h) i)
  stmt_front (Forall x y) l m h =
      λ i. Forall (stmts_front x l m
      (fr (stmt_count (stmts_phrases x)) l m (peel (stmts_phrases x ++ stmts_phrases y) l m h)
      (omega (arith, count_sum (stmts_phrases x) (stmts_phrases y)))) i)
      (stmts_front y (behind (stmts_phrases x) l) (behind (stmts_phrases x) m)
      (bk (stmt_count (stmts_phrases x)) (stmt_count (stmts_phrases y)) l m (peel (stmts_phrases x ++ stmts_phrases y) l m h)
      (omega (arith, count_sum (stmts_phrases x) (stmts_phrases y)))) i)
  stmt_front (Commit x) l m h = λ i. Commit (stmts_front x l m (peel (stmts_phrases x) l m h) i)
  stmt_front (Return e) l m h = λ i. Return (return_front e l m (peel (return_phrases e) l m h) i)
  stmt_front (Read d how range) l m h = λ i. Read (desig_front d l m (peel (desig_phrases d) l m h) i) how range
  stmt_front (WriteExpr e how) l m h = λ i. WriteExpr (expr_front e l m (peel (expr_phrases e) l m h) i) how
  stmt_front (WriteText text) l m h = refl
  stmt_front WriteLine l m h = refl

  arms_front : (x : Arms) (l m : List ℕ) → Agree (stmt_count (arms_phrases x)) l m → arms_with x l ≡ arms_with x m
  arms_front no_arms l m h = refl
  arms_front (more_arms t body rest) l m h =
      λ i. more_arms (test_front t l m
      (fr (stmt_count (test_phrases t)) l m h
      (omega (
        arith,
        count_sum (test_phrases t) (stmts_phrases body),
        count_sum (test_phrases t ++ stmts_phrases body)
            (arms_phrases rest),
      ))) i)
      (stmts_front body (behind (test_phrases t) l) (behind (test_phrases t) m)
      (fr (stmt_count (stmts_phrases body)) (behind (test_phrases t) l) (behind (test_phrases t) m)
      (bk (stmt_count (test_phrases t)) (stmt_count (stmts_phrases body) + (stmt_count (arms_phrases rest))) l m h
      (omega (
        arith,
        count_sum (test_phrases t) (stmts_phrases body),
        count_sum (test_phrases t ++ stmts_phrases body)
            (arms_phrases rest),
      )))
      (omega (
        arith,
        count_sum (test_phrases t) (stmts_phrases body),
        count_sum (test_phrases t ++ stmts_phrases body)
            (arms_phrases rest),
      ))) i)
      (arms_front rest (behind (stmts_phrases body) (behind (test_phrases t) l)) (behind (stmts_phrases body) (behind (test_phrases t) m))
      (bk (stmt_count (stmts_phrases body)) (stmt_count (arms_phrases rest)) (behind (test_phrases t) l) (behind (test_phrases t) m)
      (bk (stmt_count (test_phrases t)) (stmt_count (stmts_phrases body) + (stmt_count (arms_phrases rest))) l m h
      (omega (
        arith,
        count_sum (test_phrases t) (stmts_phrases body),
        count_sum (test_phrases t ++ stmts_phrases body)
            (arms_phrases rest),
      )))
      (omega (
        arith,
        count_sum (test_phrases t) (stmts_phrases body),
        count_sum (test_phrases t ++ stmts_phrases body)
            (arms_phrases rest),
      ))) i)

  cases_front : (x : CaseArms) (l m : List ℕ) → Agree (stmt_count (cases_phrases x)) l m → cases_with x l ≡ cases_with x m
  cases_front no_cases l m h = refl
  cases_front (more_cases labels body rest) l m h =
      λ i. more_cases labels
      (stmts_front body l m
      (fr (stmt_count (stmts_phrases body)) l m h (omega (arith, count_sum (stmts_phrases body) (cases_phrases rest)))) i)
      (cases_front rest (behind (stmts_phrases body) l) (behind (stmts_phrases body) m)
      (bk (stmt_count (stmts_phrases body)) (stmt_count (cases_phrases rest)) l m h
      (omega (arith, count_sum (stmts_phrases body) (cases_phrases rest)))) i)

  else_front : (x : Else) (l m : List ℕ) → Agree (stmt_count (else_phrases x)) l m → else_with x l ≡ else_with x m
  else_front no_else l m h = refl
  else_front (else_part body) l m h = λ i. else_part (stmts_front body l m h i)

  branches_front : (x : Branches) (l m : List ℕ) → Agree (stmt_count (branches_phrases x)) l m → branches_with x l ≡ branches_with x m
  branches_front no_branches l m h = refl
  branches_front (more_branches body rest) l m h =
      λ i. more_branches (stmts_front body l m
      (fr (stmt_count (stmts_phrases body)) l m h (omega (arith, count_sum (stmts_phrases body) (branches_phrases rest)))) i)
      (branches_front rest (behind (stmts_phrases body) l) (behind (stmts_phrases body) m)
      (bk (stmt_count (stmts_phrases body)) (stmt_count (branches_phrases rest)) l m h
      (omega (arith, count_sum (stmts_phrases body) (branches_phrases rest)))) i)

  loop_front : (x : Loop) (l m : List ℕ) → Agree (stmt_count (loop_phrases x)) l m → loop_with x l ≡ loop_with x m
  loop_front (a_loop d range counter limit from to by body) l m h =
      λ i. a_loop (desig_front d l m
      (fr (stmt_count (desig_phrases d)) l m h
      (omega (
        arith,
        count_sum (desig_phrases d) (expr_phrases from),
        count_sum (desig_phrases d ++ expr_phrases from) (expr_phrases to),
        count_sum (desig_phrases d ++ expr_phrases from ++ expr_phrases to) (stmts_phrases body),
      ))) i) range counter limit
      (expr_front from (behind (desig_phrases d) l) (behind (desig_phrases d) m)
      (fr (stmt_count (expr_phrases from)) (behind (desig_phrases d) l) (behind (desig_phrases d) m)
      (bk (stmt_count (desig_phrases d))
      (stmt_count (expr_phrases from) + (stmt_count (expr_phrases to) + (stmt_count (stmts_phrases body)))) l m h
      (omega (
        arith,
        count_sum (desig_phrases d) (expr_phrases from),
        count_sum (desig_phrases d ++ expr_phrases from) (expr_phrases to),
        count_sum (desig_phrases d ++ expr_phrases from ++ expr_phrases to) (stmts_phrases body),
      )))
      (omega (
        arith,
        count_sum (desig_phrases d) (expr_phrases from),
        count_sum (desig_phrases d ++ expr_phrases from) (expr_phrases to),
        count_sum (desig_phrases d ++ expr_phrases from ++ expr_phrases to) (stmts_phrases body),
      ))) i)
      (expr_front to (behind (expr_phrases from) (behind (desig_phrases d) l)) (behind (expr_phrases from) (behind (desig_phrases d) m))
      (fr (stmt_count (expr_phrases to)) (behind (expr_phrases from) (behind (desig_phrases d) l))
      (behind (expr_phrases from) (behind (desig_phrases d) m))
      (bk (stmt_count (expr_phrases from)) (stmt_count (expr_phrases to) + (stmt_count (stmts_phrases body))) (behind (desig_phrases d) l)
      (behind (desig_phrases d) m)
      (bk (stmt_count (desig_phrases d))
      (stmt_count (expr_phrases from) + (stmt_count (expr_phrases to) + (stmt_count (stmts_phrases body)))) l m h
      (omega (
        arith,
        count_sum (desig_phrases d) (expr_phrases from),
        count_sum (desig_phrases d ++ expr_phrases from) (expr_phrases to),
        count_sum (desig_phrases d ++ expr_phrases from ++ expr_phrases to) (stmts_phrases body),
      )))
      (omega (
        arith,
        count_sum (desig_phrases d) (expr_phrases from),
        count_sum (desig_phrases d ++ expr_phrases from) (expr_phrases to),
        count_sum (desig_phrases d ++ expr_phrases from ++ expr_phrases to) (stmts_phrases body),
      )))
      (omega (
        arith,
        count_sum (desig_phrases d) (expr_phrases from),
        count_sum (desig_phrases d ++ expr_phrases from) (expr_phrases to),
        count_sum (desig_phrases d ++ expr_phrases from ++ expr_phrases to) (stmts_phrases body),
      ))) i) by
      (stmts_front body (behind (expr_phrases to) (behind (expr_phrases from) (behind (desig_phrases d) l)))
      (behind (expr_phrases to) (behind (expr_phrases from) (behind (desig_phrases d) m)))
      (bk (stmt_count (expr_phrases to)) (stmt_count (stmts_phrases body)) (behind (expr_phrases from) (behind (desig_phrases d) l))
      (behind (expr_phrases from) (behind (desig_phrases d) m))
      (bk (stmt_count (expr_phrases from)) (stmt_count (expr_phrases to) + (stmt_count (stmts_phrases body))) (behind (desig_phrases d) l)
      (behind (desig_phrases d) m)
      (bk (stmt_count (desig_phrases d))
      (stmt_count (expr_phrases from) + (stmt_count (expr_phrases to) + (stmt_count (stmts_phrases body)))) l m h
      (omega (
        arith,
        count_sum (desig_phrases d) (expr_phrases from),
        count_sum (desig_phrases d ++ expr_phrases from) (expr_phrases to),
        count_sum (desig_phrases d ++ expr_phrases from ++ expr_phrases to) (stmts_phrases body),
      )))
      (omega (
        arith,
        count_sum (desig_phrases d) (expr_phrases from),
        count_sum (desig_phrases d ++ expr_phrases from) (expr_phrases to),
        count_sum (desig_phrases d ++ expr_phrases from ++ expr_phrases to) (stmts_phrases body),
      )))
      (omega (
        arith,
        count_sum (desig_phrases d) (expr_phrases from),
        count_sum (desig_phrases d ++ expr_phrases from) (expr_phrases to),
        count_sum (desig_phrases d ++ expr_phrases from ++ expr_phrases to) (stmts_phrases body),
      ))) i)

  return_front : (x : ReturnExpr) (l m : List ℕ) → Agree (stmt_count (return_phrases x)) l m → return_with x l ≡ return_with x m
  return_front no_result l m h = refl
  return_front (some_result e) l m h = λ i. some_result (expr_front e l m h i)

  test_front : (x : Test) (l m : List ℕ) → Agree (stmt_count (test_phrases x)) l m → test_with x l ≡ test_with x m
  test_front (Value e) l m h = λ i. Value (expr_front e l m h i)
  test_front (Bind d e range true) l m h =
      λ i. Bind (desig_front d l m (fr (stmt_count (desig_phrases d)) l m h (omega (arith, count_sum (desig_phrases d) (expr_phrases e))))
      i) (expr_front e (behind (desig_phrases d) l) (behind (desig_phrases d) m)
      (bk (stmt_count (desig_phrases d)) (stmt_count (expr_phrases e)) l m h
      (omega (arith, count_sum (desig_phrases d) (expr_phrases e)))) i) range true
  test_front (Bind d e range false) l m h =
      λ i. Bind (desig_front d (behind (expr_phrases e) l) (behind (expr_phrases e) m)
      (bk (stmt_count (expr_phrases e)) (stmt_count (desig_phrases d)) l m h
      (omega (arith, count_sum (desig_phrases d) (expr_phrases e)))) i)
      (expr_front e l m (fr (stmt_count (expr_phrases e)) l m h (omega (arith, count_sum (desig_phrases d) (expr_phrases e)))) i) range
      false
  test_front (Unify d range e range2) l m h =
      λ i. Unify (desig_front d l m
      (fr (stmt_count (desig_phrases d)) l m h (omega (arith, count_sum (desig_phrases d) (desig_phrases e)))) i) range
      (desig_front e (behind (desig_phrases d) l) (behind (desig_phrases d) m)
      (bk (stmt_count (desig_phrases d)) (stmt_count (desig_phrases e)) l m h
      (omega (arith, count_sum (desig_phrases d) (desig_phrases e)))) i) range2
  test_front (SameCells d e) l m h =
      λ i. SameCells (desig_front d l m
      (fr (stmt_count (desig_phrases d)) l m h (omega (arith, count_sum (desig_phrases d) (desig_phrases e)))) i)
      (desig_front e (behind (desig_phrases d) l) (behind (desig_phrases d) m)
      (bk (stmt_count (desig_phrases d)) (stmt_count (desig_phrases e)) l m h
      (omega (arith, count_sum (desig_phrases d) (desig_phrases e)))) i)
  test_front (Seq x) l m h = λ i. Seq (stmts_front x l m h i)
  test_front (And ts) l m h = λ i. And (tests_front ts l m h i)
  test_front (Or ts) l m h = λ i. Or (tests_front ts l m h i)
  test_front (Not t) l m h = λ i. Not (test_front t l m h i)
  test_front (CallTest r args up) l m h = λ i. CallTest r (args_front args l m h i) up

  tests_front : (x : Tests) (l m : List ℕ) → Agree (stmt_count (tests_phrases x)) l m → tests_with x l ≡ tests_with x m
  tests_front no_tests l m h = refl
  tests_front (more_tests t rest) l m h =
      λ i. more_tests (test_front t l m
      (fr (stmt_count (test_phrases t)) l m h (omega (arith, count_sum (test_phrases t) (tests_phrases rest)))) i)
      (tests_front rest (behind (test_phrases t) l) (behind (test_phrases t) m)
      (bk (stmt_count (test_phrases t)) (stmt_count (tests_phrases rest)) l m h
      (omega (arith, count_sum (test_phrases t) (tests_phrases rest)))) i)

  expr_front : (x : Expr) (l m : List ℕ) → Agree (stmt_count (expr_phrases x)) l m → expr_with x l ≡ expr_with x m
  expr_front (Const v) l m h = refl
  expr_front (Load d) l m h = λ i. Load (desig_front d l m h i)
  expr_front (Chain negated e links) l m h =
      λ i. Chain negated (expr_front e l m
      (fr (stmt_count (expr_phrases e)) l m h (omega (arith, count_sum (expr_phrases e) (links_phrases links)))) i)
      (links_front links (behind (expr_phrases e) l) (behind (expr_phrases e) m)
      (bk (stmt_count (expr_phrases e)) (stmt_count (links_phrases links)) l m h
      (omega (arith, count_sum (expr_phrases e) (links_phrases links)))) i)
  expr_front (Compare how x y) l m h =
      λ i. Compare how (expr_front x l m
      (fr (stmt_count (expr_phrases x)) l m h (omega (arith, count_sum (expr_phrases x) (expr_phrases y)))) i)
      (expr_front y (behind (expr_phrases x) l) (behind (expr_phrases x) m)
      (bk (stmt_count (expr_phrases x)) (stmt_count (expr_phrases y)) l m h (omega (arith, count_sum (expr_phrases x) (expr_phrases y)))) i)
  expr_front (Truth t) l m h = λ i. Truth (test_front t l m h i)
  expr_front (Known d) l m h = λ i. Known (desig_front d l m h i)
  expr_front (Chr e) l m h = λ i. Chr (expr_front e l m h i)
  expr_front (CallExpr r args up) l m h = λ i. CallExpr r (args_front args l m h i) up

  links_front : (x : Links) (l m : List ℕ) → Agree (stmt_count (links_phrases x)) l m → links_with x l ≡ links_with x m
  links_front no_links l m h = refl
  links_front (more_links how e rest) l m h =
      λ i. more_links how (expr_front e l m
      (fr (stmt_count (expr_phrases e)) l m h (omega (arith, count_sum (expr_phrases e) (links_phrases rest)))) i)
      (links_front rest (behind (expr_phrases e) l) (behind (expr_phrases e) m)
      (bk (stmt_count (expr_phrases e)) (stmt_count (links_phrases rest)) l m h
      (omega (arith, count_sum (expr_phrases e) (links_phrases rest)))) i)

  args_front : (x : Args) (l m : List ℕ) → Agree (stmt_count (args_phrases x)) l m → args_with x l ≡ args_with x m
  args_front no_args l m h = refl
  args_front (more_args a rest) l m h =
      λ i. more_args (arg_front a l m
      (fr (stmt_count (arg_phrases a)) l m h (omega (arith, count_sum (arg_phrases a) (args_phrases rest)))) i)
      (args_front rest (behind (arg_phrases a) l) (behind (arg_phrases a) m)
      (bk (stmt_count (arg_phrases a)) (stmt_count (args_phrases rest)) l m h
      (omega (arith, count_sum (arg_phrases a) (args_phrases rest)))) i)

  arg_front : (x : Arg) (l m : List ℕ) → Agree (stmt_count (arg_phrases x)) l m → arg_with x l ≡ arg_with x m
  arg_front (ByValue e range) l m h = λ i. ByValue (expr_front e l m h i) range
  arg_front (ByCells d) l m h = λ i. ByCells (desig_front d l m h i)
  arg_front (ByPlace d) l m h = λ i. ByPlace (desig_front d l m h i)
  arg_front (MixValue e range) l m h = λ i. MixValue (expr_front e l m h i) range
  arg_front (MixPlace d) l m h = λ i. MixPlace (desig_front d l m h i)

  desig_front : (x : Desig) (l m : List ℕ) → Agree (stmt_count (desig_phrases x)) l m → desig_with x l ≡ desig_with x m
  desig_front (a_desig root cells sels) l m h = λ i. a_desig root cells (sels_front sels l m h i)

  sels_front : (x : Sels) (l m : List ℕ) → Agree (stmt_count (sels_phrases x)) l m → sels_with x l ≡ sels_with x m
  sels_front no_sels l m h = refl
  sels_front (more_sels x rest) l m h =
      λ i. more_sels (sel_front x l m
      (fr (stmt_count (sel_phrases x)) l m h (omega (arith, count_sum (sel_phrases x) (sels_phrases rest)))) i)
      (sels_front rest (behind (sel_phrases x) l) (behind (sel_phrases x) m)
      (bk (stmt_count (sel_phrases x)) (stmt_count (sels_phrases rest)) l m h
      (omega (arith, count_sum (sel_phrases x) (sels_phrases rest)))) i)

  sel_front : (x : Sel) (l m : List ℕ) → Agree (stmt_count (sel_phrases x)) l m → sel_with x l ≡ sel_with x m
  sel_front (Field offset cells) l m h = refl
  sel_front (Index e range cells) l m h = λ i. Index (expr_front e l m h i) range cells

get_front : (l m : List ℕ) (j : ℕ) → j < length l → get_or (l ++ m) j 0 ≡ get_or l j 0
get_front [] m j lt = absurd (omega (arith, lt))
get_front (x ∷ l) m zero lt = refl
get_front (x ∷ l) m (suc j) lt = get_front l m j (omega (arith, lt))

drop_front : (a : ℕ) (l m : List ℕ) → a ≤ length l → drop a (l ++ m) ≡ drop a l ++ m
drop_front zero l m le = refl
drop_front (suc a) [] m le = absurd (omega (arith, le))
drop_front (suc a) (x ∷ l) m le = drop_front a l m (omega (arith, le))

-- so of the statements in front the lines in front
pub with_append : (x y : Stmts) (l m : List ℕ) → length l ≡ stmt_count (stmts_phrases x) → stmts_with (append_stmts x y) (l ++ m) ≡
    append_stmts (stmts_with x l) (stmts_with y m)
unfolding stmts_phrases stmts_with
with_append no_stmts y [] m e = refl
with_append no_stmts y (n ∷ l) m e = absurd (omega (arith, e))
with_append (more_stmts line x rest) y l m e =
    let sum : stmt_count (stmt_phrases x ++ stmts_phrases rest) ≡ stmt_count (stmt_phrases x) + stmt_count (stmts_phrases rest) =
    count_sum (stmt_phrases x) (stmts_phrases rest) in
    let some : 0 < stmt_count (stmt_phrases x) = some_stmt x in
    let inside : (j : ℕ) → suc j < stmt_count (stmt_phrases x) → get_or (drop 1 (l ++ m)) j 0 ≡ get_or (drop 1 l) j 0 =
    λ j lt. get_behind 1 j (l ++ m) ∙ get_front l m (1 + j) (omega (arith, e, sum, lt)) ∙ sym (get_behind 1 j l) in
    let back : stmts_with (append_stmts rest y) (behind (stmt_phrases x) (l ++ m)) ≡ append_stmts
    (stmts_with rest (behind (stmt_phrases x) l)) (stmts_with y m) =
    ap (stmts_with (append_stmts rest y)) (drop_front (stmt_count (stmt_phrases x)) l m (omega (arith, e, sum)))
    ∙ with_append rest y (behind (stmt_phrases x) l) m (length-drop (stmt_count (stmt_phrases x)) l ∙ omega (arith, e, sum)) in
    λ i. more_stmts (get_front l m 0 (omega (arith, e, sum, some)) i) (stmt_front x (drop 1 (l ++ m)) (drop 1 l) inside i) (back i)
