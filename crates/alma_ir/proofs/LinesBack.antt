-- The phrases with their lines have exactly the lines that were handed out, in order.
use Rattle.std.proofs.Common.{◌≡◌, ℕ, zero, suc, true, false, ◌+◌, ◌≤◌, List, [], ◌∷◌, ◌++◌, length, get_or, take, drop, refl, sym, ap, ◌∙◌}
use Rattle.std.proofs.Common.{subst, arith, length-drop}
use Rattle.std.proofs.Math.Seq.{take-length}
use Rattle.alma_ir.specs.Tree.{Stmts, Stmt, Arms, CaseArms, Else, Branches, Loop, ReturnExpr, Test, Tests, Expr, Links, Args, Arg, Desig}
use Rattle.alma_ir.specs.Tree.{Sels, Sel, no_stmts, more_stmts, Routine, TestStmt, Assign, CopyCells, If, While, Repeat, ForTo, SomeOf}
use Rattle.alma_ir.specs.Tree.{Case, Either, Forall, Commit, Return, Read, WriteExpr, WriteText, WriteLine, no_arms, more_arms, no_cases}
use Rattle.alma_ir.specs.Tree.{more_cases, no_else, else_part, no_branches, more_branches, a_loop, no_result, some_result, Value, Bind}
use Rattle.alma_ir.specs.Tree.{Unify, SameCells, Seq, And, Or, Not, CallTest, no_tests, more_tests, Const, Load, Chain, Compare, Truth}
use Rattle.alma_ir.specs.Tree.{Known, Chr, CallExpr, no_links, more_links, no_args, more_args, ByValue, ByCells, ByPlace, MixValue}
use Rattle.alma_ir.specs.Tree.{MixPlace, a_desig, no_sels, more_sels, Field, Index}
use Rattle.alma_ir.specs.Lines.{stmt_count, behind, body_with_lines, stmts_with, stmt_with, arms_with, cases_with, else_with, branches_with}
use Rattle.alma_ir.specs.Lines.{loop_with, return_with, test_with, tests_with, expr_with, links_with, args_with, arg_with, desig_with}
use Rattle.alma_ir.specs.Lines.{sels_with, sel_with}
use Rattle.alma_ir.specs.Phrases.{Phrase, StmtPhrase, TestPhrase, ExprPhrase, ArgPhrase, DesigPhrase, SelPhrase, stmts_phrases}
use Rattle.alma_ir.specs.Phrases.{stmt_phrases, arms_phrases, cases_phrases, else_phrases, branches_phrases, loop_phrases, return_phrases}
use Rattle.alma_ir.specs.Phrases.{test_phrases, tests_phrases, expr_phrases, links_phrases, args_phrases, arg_phrases, desig_phrases}
use Rattle.alma_ir.specs.Phrases.{sels_phrases, sel_phrases}

-- ---- the lines that phrases have, of a statement those inside it

abbrev mutual
  pub stmts_lines : Stmts → List ℕ
  stmts_lines no_stmts = []
  stmts_lines (more_stmts line x rest) = (line ∷ stmt_lines x) ++ stmts_lines rest

  pub stmt_lines : Stmt → List ℕ
  stmt_lines (TestStmt t) = test_lines t
  stmt_lines (Assign d e range) = desig_lines d ++ expr_lines e
  stmt_lines (CopyCells d e) = desig_lines d ++ desig_lines e
  stmt_lines (If arms rest) = arms_lines arms ++ stmts_lines rest
  stmt_lines (While t body) = test_lines t ++ stmts_lines body
  stmt_lines (Repeat body t) = stmts_lines body ++ test_lines t
  stmt_lines (ForTo each) = loop_lines each
  stmt_lines (SomeOf each) = loop_lines each
  stmt_lines (Case e arms rest) = (expr_lines e ++ cases_lines arms) ++ else_lines rest
  stmt_lines (Either bs) = branches_lines bs
  stmt_lines (Forall x y) = stmts_lines x ++ stmts_lines y
  stmt_lines (Commit x) = stmts_lines x
  stmt_lines (Return e) = return_lines e
  stmt_lines (Read d how range) = desig_lines d
  stmt_lines (WriteExpr e how) = expr_lines e
  stmt_lines (WriteText text) = []
  stmt_lines WriteLine = []

  pub arms_lines : Arms → List ℕ
  arms_lines no_arms = []
  arms_lines (more_arms t body rest) = (test_lines t ++ stmts_lines body) ++ arms_lines rest

  pub cases_lines : CaseArms → List ℕ
  cases_lines no_cases = []
  cases_lines (more_cases labels body rest) = stmts_lines body ++ cases_lines rest

  pub else_lines : Else → List ℕ
  else_lines no_else = []
  else_lines (else_part body) = stmts_lines body

  pub branches_lines : Branches → List ℕ
  branches_lines no_branches = []
  branches_lines (more_branches body rest) = stmts_lines body ++ branches_lines rest

  pub loop_lines : Loop → List ℕ
  loop_lines (a_loop d range counter limit from to by body) = ((desig_lines d ++ expr_lines from) ++ expr_lines to) ++ stmts_lines body

  pub return_lines : ReturnExpr → List ℕ
  return_lines no_result = []
  return_lines (some_result e) = expr_lines e

  pub test_lines : Test → List ℕ
  test_lines (Value e) = expr_lines e
  test_lines (Bind d e range true) = desig_lines d ++ expr_lines e
  test_lines (Bind d e range false) = expr_lines e ++ desig_lines d
  test_lines (Unify d range e range2) = desig_lines d ++ desig_lines e
  test_lines (SameCells d e) = desig_lines d ++ desig_lines e
  test_lines (Seq x) = stmts_lines x
  test_lines (And ts) = tests_lines ts
  test_lines (Or ts) = tests_lines ts
  test_lines (Not t) = test_lines t
  test_lines (CallTest r args up) = args_lines args

  pub tests_lines : Tests → List ℕ
  tests_lines no_tests = []
  tests_lines (more_tests t rest) = test_lines t ++ tests_lines rest

  pub expr_lines : Expr → List ℕ
  expr_lines (Const n) = []
  expr_lines (Load d) = desig_lines d
  expr_lines (Chain negated e links) = expr_lines e ++ links_lines links
  expr_lines (Compare how x y) = expr_lines x ++ expr_lines y
  expr_lines (Truth t) = test_lines t
  expr_lines (Known d) = desig_lines d
  expr_lines (Chr e) = expr_lines e
  expr_lines (CallExpr r args up) = args_lines args

  pub links_lines : Links → List ℕ
  links_lines no_links = []
  links_lines (more_links how e rest) = expr_lines e ++ links_lines rest

  pub args_lines : Args → List ℕ
  args_lines no_args = []
  args_lines (more_args a rest) = arg_lines a ++ args_lines rest

  pub arg_lines : Arg → List ℕ
  arg_lines (ByValue e range) = expr_lines e
  arg_lines (ByCells d) = desig_lines d
  arg_lines (ByPlace d) = desig_lines d
  arg_lines (MixValue e range) = expr_lines e
  arg_lines (MixPlace d) = desig_lines d

  pub desig_lines : Desig → List ℕ
  desig_lines (a_desig root cells sels) = sels_lines sels

  pub sels_lines : Sels → List ℕ
  sels_lines no_sels = []
  sels_lines (more_sels x rest) = sel_lines x ++ sels_lines rest

  pub sel_lines : Sel → List ℕ
  sel_lines (Field offset cells) = []
  sel_lines (Index e range cells) = expr_lines e

-- ---- taking in two

abbrev none : List ℕ
none = []

take_none : (n : ℕ) → take n none ≡ none
take_none zero = refl
take_none (suc n) = refl

take_two : (m n : ℕ) (ls : List ℕ) → take (m + n) ls ≡ take m ls ++ take n (drop m ls)
take_two zero n ls = let e : 0 + n ≡ n = omega arith in ap (λ k. take k ls) e
take_two (suc m) n [] = take_none (suc m + n) ∙ sym (take_none n)
take_two (suc m) n (l ∷ ls) =
    let e : suc m + n ≡ suc (m + n) = omega arith in
    ap (λ k. take k (l ∷ ls)) e ∙ ap (λ s. l ∷ s) (take_two m n ls)

pub drop_two : (m n : ℕ) (ls : List ℕ) → drop (m + n) ls ≡ drop n (drop m ls)
drop_two zero n ls = let e : 0 + n ≡ n = omega arith in ap (λ k. drop k ls) e
drop_two (suc m) n [] = drop_none (suc m + n) ∙ sym (drop_none n)
  where
    drop_none : (k : ℕ) → drop k none ≡ none
    drop_none zero = refl
    drop_none (suc k) = refl
drop_two (suc m) n (l ∷ ls) =
    let e : suc m + n ≡ suc (m + n) = omega arith in
    ap (λ k. drop k (l ∷ ls)) e ∙ drop_two m n ls

pub count_sum : (xs ys : List Phrase) → stmt_count (xs ++ ys) ≡ stmt_count xs + stmt_count ys
count_sum [] ys = omega arith
count_sum (StmtPhrase x ∷ rest) ys = omega (arith, count_sum rest ys)
count_sum (TestPhrase t ∷ rest) ys = count_sum rest ys
count_sum (ExprPhrase e ∷ rest) ys = count_sum rest ys
count_sum (ArgPhrase a ∷ rest) ys = count_sum rest ys
count_sum (DesigPhrase d ∷ rest) ys = count_sum rest ys
count_sum (SelPhrase x ∷ rest) ys = count_sum rest ys

-- the lines a are those of the phrases xs
abbrev Are : (a : List ℕ) (xs : List Phrase) (ls : List ℕ) → Type 0
Are a xs ls = a ≡ take (stmt_count xs) ls

abbrev Enough : (xs : List Phrase) (ls : List ℕ) → Type 0
Enough xs ls = stmt_count xs ≤ length ls

front : (xs ys : List Phrase) (ls : List ℕ) → Enough (xs ++ ys) ls → Enough xs ls
front xs ys ls le = omega (arith, le, count_sum xs ys)

back : (xs ys : List Phrase) (ls : List ℕ) → Enough (xs ++ ys) ls → Enough ys (behind xs ls)
back xs ys ls le = omega (arith, le, count_sum xs ys, length-drop (stmt_count xs) ls)

pub behind_two : (xs ys : List Phrase) (ls : List ℕ) → behind (xs ++ ys) ls ≡ behind ys (behind xs ls)
behind_two xs ys ls = ap (λ n. drop n ls) (count_sum xs ys) ∙ drop_two (stmt_count xs) (stmt_count ys) ls

two : (xs ys : List Phrase) (ls a b : List ℕ) → Are a xs ls → Are b ys (behind xs ls) → Are (a ++ b) (xs ++ ys) ls
two xs ys ls a b h k =
    ap (λ s. s ++ b) h ∙ ap (λ s. take (stmt_count xs) ls ++ s) k ∙ sym (take_two (stmt_count xs) (stmt_count ys) ls)
    ∙ ap (λ n. take n ls) (sym (count_sum xs ys))

-- behind the phrases before, said as the phrases with lines say it
moved : (us ys : List Phrase) (b ls ms : List ℕ) → ls ≡ ms → Are b ys ms → Are b ys ls
moved us ys b ls ms e h = h ∙ ap (take (stmt_count ys)) (sym e)

enough_moved : (ys : List Phrase) (ls ms : List ℕ) → ls ≡ ms → Enough ys ls → Enough ys ms
enough_moved ys ls ms e h = subst (Enough ys) e h

-- a statement counts itself
counted : (x : Stmt) → 1 ≤ stmt_count (stmt_phrases x)
unfolding stmts_phrases
counted (TestStmt t) = omega arith
counted (Assign d e range) = omega arith
counted (CopyCells d e) = omega arith
counted (If arms rest) = omega arith
counted (While t body) = omega arith
counted (Repeat body t) = omega arith
counted (ForTo each) = omega arith
counted (SomeOf each) = omega arith
counted (Case e arms rest) = omega arith
counted (Either bs) = omega arith
counted (Forall x y) = omega arith
counted (Commit x) = omega arith
counted (Return e) = omega arith
counted (Read d how range) = omega arith
counted (WriteExpr e how) = omega arith
counted (WriteText text) = omega arith
counted WriteLine = omega arith

-- a statement with its line, and those behind it
own_back : (line : ℕ) (x : Stmt) (rest : Stmts) (ls : List ℕ) → Enough (stmt_phrases x ++ stmts_phrases rest) ls
    → ((l : ℕ) (ms : List ℕ) → Enough (stmt_phrases x) (l ∷ ms) → Are (l ∷ stmt_lines (stmt_with x ms)) (stmt_phrases x) (l ∷ ms))
    → ((ms : List ℕ) → Enough (stmts_phrases rest) ms → Are (stmts_lines (stmts_with rest ms)) (stmts_phrases rest) ms)
    → Are ((get_or ls 0 0 ∷ stmt_lines (stmt_with x (drop 1 ls))) ++ stmts_lines (stmts_with rest (behind (stmt_phrases x) ls)))
    (stmt_phrases x ++ stmts_phrases rest) ls
own_back line x rest [] le of_x of_rest = absurd (omega (arith, le, count_sum (stmt_phrases x) (stmts_phrases rest), counted x))
own_back line x rest (l ∷ ls) le of_x of_rest =
    two (stmt_phrases x) (stmts_phrases rest) (l ∷ ls) (l ∷ stmt_lines (stmt_with x ls))
    (stmts_lines (stmts_with rest (behind (stmt_phrases x) (l ∷ ls))))
    (of_x l ls (front (stmt_phrases x) (stmts_phrases rest) (l ∷ ls) le))
    (of_rest (behind (stmt_phrases x) (l ∷ ls)) (back (stmt_phrases x) (stmts_phrases rest) (l ∷ ls) le))

-- ---- by induction

mutual
  unfolding stmts_with stmts_phrases

  pub stmts_back : (x : Stmts) (ls : List ℕ) → Enough (stmts_phrases x) ls → Are (stmts_lines (stmts_with x ls)) (stmts_phrases x) ls
  stmts_back no_stmts ls le = refl
  stmts_back (more_stmts line x rest) ls le =
      own_back line x rest ls le (λ l ms some. stmt_back x l ms some) (λ ms some. stmts_back rest ms some)

  stmt_back : (x : Stmt) (l : ℕ) (ls : List ℕ) → Enough (stmt_phrases x) (l ∷ ls)
      → Are (l ∷ stmt_lines (stmt_with x ls)) (stmt_phrases x) (l ∷ ls)
  stmt_back (TestStmt t) l ls le = ap (λ s. l ∷ s) (test_back t ls (omega (arith, le)))
  stmt_back (Assign d e range) l ls le = let some : Enough (desig_phrases d ++ expr_phrases e) ls = omega (arith, le) in
      ap (λ s. l ∷ s) (two (desig_phrases d) (expr_phrases e) ls (desig_lines (desig_with d ls))
      (expr_lines (expr_with e (behind (desig_phrases d) ls))) (desig_back d ls (front (desig_phrases d) (expr_phrases e) ls some))
      (expr_back e (behind (desig_phrases d) ls) (back (desig_phrases d) (expr_phrases e) ls some)))
  stmt_back (CopyCells d e) l ls le = let some : Enough (desig_phrases d ++ desig_phrases e) ls = omega (arith, le) in
      ap (λ s. l ∷ s) (two (desig_phrases d) (desig_phrases e) ls (desig_lines (desig_with d ls))
      (desig_lines (desig_with e (behind (desig_phrases d) ls))) (desig_back d ls (front (desig_phrases d) (desig_phrases e) ls some))
      (desig_back e (behind (desig_phrases d) ls) (back (desig_phrases d) (desig_phrases e) ls some)))
  stmt_back (If arms rest) l ls le = let some : Enough (arms_phrases arms ++ stmts_phrases rest) ls = omega (arith, le) in
      ap (λ s. l ∷ s) (two (arms_phrases arms) (stmts_phrases rest) ls (arms_lines (arms_with arms ls))
      (stmts_lines (stmts_with rest (behind (arms_phrases arms) ls)))
      (arms_back arms ls (front (arms_phrases arms) (stmts_phrases rest) ls some))
      (stmts_back rest (behind (arms_phrases arms) ls) (back (arms_phrases arms) (stmts_phrases rest) ls some)))
  stmt_back (While t body) l ls le = let some : Enough (test_phrases t ++ stmts_phrases body) ls = omega (arith, le) in
      ap (λ s. l ∷ s) (two (test_phrases t) (stmts_phrases body) ls (test_lines (test_with t ls))
      (stmts_lines (stmts_with body (behind (test_phrases t) ls))) (test_back t ls (front (test_phrases t) (stmts_phrases body) ls some))
      (stmts_back body (behind (test_phrases t) ls) (back (test_phrases t) (stmts_phrases body) ls some)))
  stmt_back (Repeat body t) l ls le = let some : Enough (stmts_phrases body ++ test_phrases t) ls = omega (arith, le) in
      ap (λ s. l ∷ s) (two (stmts_phrases body) (test_phrases t) ls (stmts_lines (stmts_with body ls))
      (test_lines (test_with t (behind (stmts_phrases body) ls))) (stmts_back body ls (front (stmts_phrases body) (test_phrases t) ls some))
      (test_back t (behind (stmts_phrases body) ls) (back (stmts_phrases body) (test_phrases t) ls some)))
  stmt_back (ForTo each) l ls le = ap (λ s. l ∷ s) (loop_back each ls (omega (arith, le)))
  stmt_back (SomeOf each) l ls le = ap (λ s. l ∷ s) (loop_back each ls (omega (arith, le)))
  stmt_back (Case e arms rest) l ls le = let some : Enough ((expr_phrases e ++ cases_phrases arms) ++ else_phrases rest) ls =
      omega (arith, le) in ap (λ s. l ∷ s) (two (expr_phrases e ++ cases_phrases arms) (else_phrases rest) ls
      (expr_lines (expr_with e ls) ++ cases_lines (cases_with arms (behind (expr_phrases e) ls)))
      (else_lines (else_with rest (behind (cases_phrases arms) (behind (expr_phrases e) ls))))
      (two (expr_phrases e) (cases_phrases arms) ls (expr_lines (expr_with e ls))
      (cases_lines (cases_with arms (behind (expr_phrases e) ls)))
      (expr_back e ls (front (expr_phrases e) (cases_phrases arms) ls
      (front (expr_phrases e ++ cases_phrases arms) (else_phrases rest) ls some)))
      (cases_back arms (behind (expr_phrases e) ls)
      (back (expr_phrases e) (cases_phrases arms) ls (front (expr_phrases e ++ cases_phrases arms) (else_phrases rest) ls some))))
      (moved [] (else_phrases rest) (else_lines (else_with rest (behind (cases_phrases arms) (behind (expr_phrases e) ls))))
      (behind (expr_phrases e ++ cases_phrases arms) ls) (behind (cases_phrases arms) (behind (expr_phrases e) ls))
      (behind_two (expr_phrases e) (cases_phrases arms) ls)
      (else_back rest (behind (cases_phrases arms) (behind (expr_phrases e) ls))
      (enough_moved (else_phrases rest) (behind (expr_phrases e ++ cases_phrases arms) ls)
      (behind (cases_phrases arms) (behind (expr_phrases e) ls)) (behind_two (expr_phrases e) (cases_phrases arms) ls)
      (back (expr_phrases e ++ cases_phrases arms) (else_phrases rest) ls some)))))
  stmt_back (Either bs) l ls le = ap (λ s. l ∷ s) (branches_back bs ls (omega (arith, le)))
  stmt_back (Forall x y) l ls le = let some : Enough (stmts_phrases x ++ stmts_phrases y) ls = omega (arith, le) in
      ap (λ s. l ∷ s) (two (stmts_phrases x) (stmts_phrases y) ls (stmts_lines (stmts_with x ls))
      (stmts_lines (stmts_with y (behind (stmts_phrases x) ls))) (stmts_back x ls (front (stmts_phrases x) (stmts_phrases y) ls some))
      (stmts_back y (behind (stmts_phrases x) ls) (back (stmts_phrases x) (stmts_phrases y) ls some)))
  stmt_back (Commit x) l ls le = ap (λ s. l ∷ s) (stmts_back x ls (omega (arith, le)))
  stmt_back (Return e) l ls le = ap (λ s. l ∷ s) (return_back e ls (omega (arith, le)))
  stmt_back (Read d how range) l ls le = ap (λ s. l ∷ s) (desig_back d ls (omega (arith, le)))
  stmt_back (WriteExpr e how) l ls le = ap (λ s. l ∷ s) (expr_back e ls (omega (arith, le)))
  stmt_back (WriteText text) l ls le = refl
  stmt_back WriteLine l ls le = refl

  arms_back : (x : Arms) (ls : List ℕ) → Enough (arms_phrases x) ls → Are (arms_lines (arms_with x ls)) (arms_phrases x) ls
  arms_back no_arms ls le = refl
  arms_back (more_arms t body rest) ls le = let some : Enough ((test_phrases t ++ stmts_phrases body) ++ arms_phrases rest) ls = le in
      two (test_phrases t ++ stmts_phrases body) (arms_phrases rest) ls
      (test_lines (test_with t ls) ++ stmts_lines (stmts_with body (behind (test_phrases t) ls)))
      (arms_lines (arms_with rest (behind (stmts_phrases body) (behind (test_phrases t) ls))))
      (two (test_phrases t) (stmts_phrases body) ls (test_lines (test_with t ls))
      (stmts_lines (stmts_with body (behind (test_phrases t) ls)))
      (test_back t ls (front (test_phrases t) (stmts_phrases body) ls
      (front (test_phrases t ++ stmts_phrases body) (arms_phrases rest) ls some)))
      (stmts_back body (behind (test_phrases t) ls)
      (back (test_phrases t) (stmts_phrases body) ls (front (test_phrases t ++ stmts_phrases body) (arms_phrases rest) ls some))))
      (moved [] (arms_phrases rest) (arms_lines (arms_with rest (behind (stmts_phrases body) (behind (test_phrases t) ls))))
      (behind (test_phrases t ++ stmts_phrases body) ls) (behind (stmts_phrases body) (behind (test_phrases t) ls))
      (behind_two (test_phrases t) (stmts_phrases body) ls)
      (arms_back rest (behind (stmts_phrases body) (behind (test_phrases t) ls))
      (enough_moved (arms_phrases rest) (behind (test_phrases t ++ stmts_phrases body) ls)
      (behind (stmts_phrases body) (behind (test_phrases t) ls)) (behind_two (test_phrases t) (stmts_phrases body) ls)
      (back (test_phrases t ++ stmts_phrases body) (arms_phrases rest) ls some))))

  cases_back : (x : CaseArms) (ls : List ℕ) → Enough (cases_phrases x) ls → Are (cases_lines (cases_with x ls)) (cases_phrases x) ls
  cases_back no_cases ls le = refl
  cases_back (more_cases labels body rest) ls le = let some : Enough (stmts_phrases body ++ cases_phrases rest) ls = le in
      two (stmts_phrases body) (cases_phrases rest) ls (stmts_lines (stmts_with body ls))
      (cases_lines (cases_with rest (behind (stmts_phrases body) ls)))
      (stmts_back body ls (front (stmts_phrases body) (cases_phrases rest) ls some))
      (cases_back rest (behind (stmts_phrases body) ls) (back (stmts_phrases body) (cases_phrases rest) ls some))

  else_back : (x : Else) (ls : List ℕ) → Enough (else_phrases x) ls → Are (else_lines (else_with x ls)) (else_phrases x) ls
  else_back no_else ls le = refl
  else_back (else_part body) ls le = stmts_back body ls le

  branches_back : (x : Branches) (ls : List ℕ) → Enough (branches_phrases x) ls
      → Are (branches_lines (branches_with x ls)) (branches_phrases x) ls
  branches_back no_branches ls le = refl
  branches_back (more_branches body rest) ls le = let some : Enough (stmts_phrases body ++ branches_phrases rest) ls = le in
      two (stmts_phrases body) (branches_phrases rest) ls (stmts_lines (stmts_with body ls))
      (branches_lines (branches_with rest (behind (stmts_phrases body) ls)))
      (stmts_back body ls (front (stmts_phrases body) (branches_phrases rest) ls some))
      (branches_back rest (behind (stmts_phrases body) ls) (back (stmts_phrases body) (branches_phrases rest) ls some))

  loop_back : (x : Loop) (ls : List ℕ) → Enough (loop_phrases x) ls → Are (loop_lines (loop_with x ls)) (loop_phrases x) ls
  loop_back (a_loop d range counter limit from to by body) ls le =
      let some : Enough (((desig_phrases d ++ expr_phrases from) ++ expr_phrases to) ++ stmts_phrases body) ls = le in
      two ((desig_phrases d ++ expr_phrases from) ++ expr_phrases to) (stmts_phrases body) ls
      ((desig_lines (desig_with d ls) ++ expr_lines (expr_with from (behind (desig_phrases d) ls)))
      ++ expr_lines (expr_with to (behind (expr_phrases from) (behind (desig_phrases d) ls))))
      (stmts_lines (stmts_with body (behind (expr_phrases to) (behind (expr_phrases from) (behind (desig_phrases d) ls)))))
      (two (desig_phrases d ++ expr_phrases from) (expr_phrases to) ls
      (desig_lines (desig_with d ls) ++ expr_lines (expr_with from (behind (desig_phrases d) ls)))
      (expr_lines (expr_with to (behind (expr_phrases from) (behind (desig_phrases d) ls))))
      (two (desig_phrases d) (expr_phrases from) ls (desig_lines (desig_with d ls))
      (expr_lines (expr_with from (behind (desig_phrases d) ls)))
      (desig_back d ls (front (desig_phrases d) (expr_phrases from) ls
      (front (desig_phrases d ++ expr_phrases from) (expr_phrases to) ls
      (front ((desig_phrases d ++ expr_phrases from) ++ expr_phrases to) (stmts_phrases body) ls some))))
      (expr_back from (behind (desig_phrases d) ls)
      (back (desig_phrases d) (expr_phrases from) ls
      (front (desig_phrases d ++ expr_phrases from) (expr_phrases to) ls
      (front ((desig_phrases d ++ expr_phrases from) ++ expr_phrases to) (stmts_phrases body) ls some)))))
      (moved [] (expr_phrases to) (expr_lines (expr_with to (behind (expr_phrases from) (behind (desig_phrases d) ls))))
      (behind (desig_phrases d ++ expr_phrases from) ls) (behind (expr_phrases from) (behind (desig_phrases d) ls))
      (behind_two (desig_phrases d) (expr_phrases from) ls)
      (expr_back to (behind (expr_phrases from) (behind (desig_phrases d) ls))
      (enough_moved (expr_phrases to) (behind (desig_phrases d ++ expr_phrases from) ls)
      (behind (expr_phrases from) (behind (desig_phrases d) ls)) (behind_two (desig_phrases d) (expr_phrases from) ls)
      (back (desig_phrases d ++ expr_phrases from) (expr_phrases to) ls
      (front ((desig_phrases d ++ expr_phrases from) ++ expr_phrases to) (stmts_phrases body) ls some))))))
      (moved [] (stmts_phrases body) (stmts_lines
      (stmts_with body (behind (expr_phrases to) (behind (expr_phrases from) (behind (desig_phrases d) ls)))))
      (behind ((desig_phrases d ++ expr_phrases from) ++ expr_phrases to) ls)
      (behind (expr_phrases to) (behind (expr_phrases from) (behind (desig_phrases d) ls)))
      (behind_two (desig_phrases d ++ expr_phrases from) (expr_phrases to) ls
      ∙ ap (behind (expr_phrases to)) (behind_two (desig_phrases d) (expr_phrases from) ls))
      (stmts_back body (behind (expr_phrases to) (behind (expr_phrases from) (behind (desig_phrases d) ls)))
      (enough_moved (stmts_phrases body) (behind ((desig_phrases d ++ expr_phrases from) ++ expr_phrases to) ls)
      (behind (expr_phrases to) (behind (expr_phrases from) (behind (desig_phrases d) ls)))
      (behind_two (desig_phrases d ++ expr_phrases from) (expr_phrases to) ls
      ∙ ap (behind (expr_phrases to)) (behind_two (desig_phrases d) (expr_phrases from) ls))
      (back ((desig_phrases d ++ expr_phrases from) ++ expr_phrases to) (stmts_phrases body) ls some))))

  return_back : (x : ReturnExpr) (ls : List ℕ) → Enough (return_phrases x) ls → Are (return_lines (return_with x ls)) (return_phrases x) ls
  return_back no_result ls le = refl
  return_back (some_result e) ls le = expr_back e ls le

  test_back : (x : Test) (ls : List ℕ) → Enough (test_phrases x) ls → Are (test_lines (test_with x ls)) (test_phrases x) ls
  test_back (Value e) ls le = expr_back e ls le
  test_back (Bind d e range true) ls le = let some : Enough (desig_phrases d ++ expr_phrases e) ls = le in
      two (desig_phrases d) (expr_phrases e) ls (desig_lines (desig_with d ls)) (expr_lines (expr_with e (behind (desig_phrases d) ls)))
      (desig_back d ls (front (desig_phrases d) (expr_phrases e) ls some))
      (expr_back e (behind (desig_phrases d) ls) (back (desig_phrases d) (expr_phrases e) ls some))
  test_back (Bind d e range false) ls le =
      let same : stmt_count (desig_phrases d ++ expr_phrases e) ≡ stmt_count (expr_phrases e ++ desig_phrases d) =
      omega (arith, count_sum (desig_phrases d) (expr_phrases e), count_sum (expr_phrases e) (desig_phrases d)) in
      let given : Enough (desig_phrases d ++ expr_phrases e) ls = le in
      let some : Enough (expr_phrases e ++ desig_phrases d) ls = omega (arith, given, same) in
      two (expr_phrases e) (desig_phrases d) ls (expr_lines (expr_with e ls)) (desig_lines (desig_with d (behind (expr_phrases e) ls)))
      (expr_back e ls (front (expr_phrases e) (desig_phrases d) ls some))
      (desig_back d (behind (expr_phrases e) ls) (back (expr_phrases e) (desig_phrases d) ls some))
      ∙ ap (λ n. take n ls) (sym same)
  test_back (Unify d range e range2) ls le = let some : Enough (desig_phrases d ++ desig_phrases e) ls = le in
      two (desig_phrases d) (desig_phrases e) ls (desig_lines (desig_with d ls)) (desig_lines (desig_with e (behind (desig_phrases d) ls)))
      (desig_back d ls (front (desig_phrases d) (desig_phrases e) ls some))
      (desig_back e (behind (desig_phrases d) ls) (back (desig_phrases d) (desig_phrases e) ls some))
  test_back (SameCells d e) ls le = let some : Enough (desig_phrases d ++ desig_phrases e) ls = le in
      two (desig_phrases d) (desig_phrases e) ls (desig_lines (desig_with d ls)) (desig_lines (desig_with e (behind (desig_phrases d) ls)))
      (desig_back d ls (front (desig_phrases d) (desig_phrases e) ls some))
      (desig_back e (behind (desig_phrases d) ls) (back (desig_phrases d) (desig_phrases e) ls some))
  test_back (Seq x) ls le = stmts_back x ls le
  test_back (And ts) ls le = tests_back ts ls le
  test_back (Or ts) ls le = tests_back ts ls le
  test_back (Not t) ls le = test_back t ls le
  test_back (CallTest r args up) ls le = args_back args ls le

  tests_back : (x : Tests) (ls : List ℕ) → Enough (tests_phrases x) ls → Are (tests_lines (tests_with x ls)) (tests_phrases x) ls
  tests_back no_tests ls le = refl
  tests_back (more_tests t rest) ls le = let some : Enough (test_phrases t ++ tests_phrases rest) ls = le in
      two (test_phrases t) (tests_phrases rest) ls (test_lines (test_with t ls))
      (tests_lines (tests_with rest (behind (test_phrases t) ls))) (test_back t ls (front (test_phrases t) (tests_phrases rest) ls some))
      (tests_back rest (behind (test_phrases t) ls) (back (test_phrases t) (tests_phrases rest) ls some))

  expr_back : (x : Expr) (ls : List ℕ) → Enough (expr_phrases x) ls → Are (expr_lines (expr_with x ls)) (expr_phrases x) ls
  expr_back (Const n) ls le = refl
  expr_back (Load d) ls le = desig_back d ls le
  expr_back (Chain negated e links) ls le = let some : Enough (expr_phrases e ++ links_phrases links) ls = le in
      two (expr_phrases e) (links_phrases links) ls (expr_lines (expr_with e ls))
      (links_lines (links_with links (behind (expr_phrases e) ls))) (expr_back e ls (front (expr_phrases e) (links_phrases links) ls some))
      (links_back links (behind (expr_phrases e) ls) (back (expr_phrases e) (links_phrases links) ls some))
  expr_back (Compare how x y) ls le = let some : Enough (expr_phrases x ++ expr_phrases y) ls = le in
      two (expr_phrases x) (expr_phrases y) ls (expr_lines (expr_with x ls)) (expr_lines (expr_with y (behind (expr_phrases x) ls)))
      (expr_back x ls (front (expr_phrases x) (expr_phrases y) ls some))
      (expr_back y (behind (expr_phrases x) ls) (back (expr_phrases x) (expr_phrases y) ls some))
  expr_back (Truth t) ls le = test_back t ls le
  expr_back (Known d) ls le = desig_back d ls le
  expr_back (Chr e) ls le = expr_back e ls le
  expr_back (CallExpr r args up) ls le = args_back args ls le

  links_back : (x : Links) (ls : List ℕ) → Enough (links_phrases x) ls → Are (links_lines (links_with x ls)) (links_phrases x) ls
  links_back no_links ls le = refl
  links_back (more_links how e rest) ls le = let some : Enough (expr_phrases e ++ links_phrases rest) ls = le in
      two (expr_phrases e) (links_phrases rest) ls (expr_lines (expr_with e ls))
      (links_lines (links_with rest (behind (expr_phrases e) ls))) (expr_back e ls (front (expr_phrases e) (links_phrases rest) ls some))
      (links_back rest (behind (expr_phrases e) ls) (back (expr_phrases e) (links_phrases rest) ls some))

  args_back : (x : Args) (ls : List ℕ) → Enough (args_phrases x) ls → Are (args_lines (args_with x ls)) (args_phrases x) ls
  args_back no_args ls le = refl
  args_back (more_args a rest) ls le = let some : Enough (arg_phrases a ++ args_phrases rest) ls = le in
      two (arg_phrases a) (args_phrases rest) ls (arg_lines (arg_with a ls)) (args_lines (args_with rest (behind (arg_phrases a) ls)))
      (arg_back a ls (front (arg_phrases a) (args_phrases rest) ls some))
      (args_back rest (behind (arg_phrases a) ls) (back (arg_phrases a) (args_phrases rest) ls some))

  arg_back : (x : Arg) (ls : List ℕ) → Enough (arg_phrases x) ls → Are (arg_lines (arg_with x ls)) (arg_phrases x) ls
  arg_back (ByValue e range) ls le = expr_back e ls le
  arg_back (ByCells d) ls le = desig_back d ls le
  arg_back (ByPlace d) ls le = desig_back d ls le
  arg_back (MixValue e range) ls le = expr_back e ls le
  arg_back (MixPlace d) ls le = desig_back d ls le

  desig_back : (x : Desig) (ls : List ℕ) → Enough (desig_phrases x) ls → Are (desig_lines (desig_with x ls)) (desig_phrases x) ls
  desig_back (a_desig root cells sels) ls le = sels_back sels ls le

  sels_back : (x : Sels) (ls : List ℕ) → Enough (sels_phrases x) ls → Are (sels_lines (sels_with x ls)) (sels_phrases x) ls
  sels_back no_sels ls le = refl
  sels_back (more_sels x rest) ls le = let some : Enough (sel_phrases x ++ sels_phrases rest) ls = le in
      two (sel_phrases x) (sels_phrases rest) ls (sel_lines (sel_with x ls)) (sels_lines (sels_with rest (behind (sel_phrases x) ls)))
      (sel_back x ls (front (sel_phrases x) (sels_phrases rest) ls some))
      (sels_back rest (behind (sel_phrases x) ls) (back (sel_phrases x) (sels_phrases rest) ls some))

  sel_back : (x : Sel) (ls : List ℕ) → Enough (sel_phrases x) ls → Are (sel_lines (sel_with x ls)) (sel_phrases x) ls
  sel_back (Field offset cells) ls le = refl
  sel_back (Index e range cells) ls le = expr_back e ls le

-- the body of a routine with its lines has exactly the lines of the routine
pub body_lines : (r : Routine) → length r.lines ≡ stmt_count (stmts_phrases r.body) → stmts_lines (body_with_lines r) ≡ r.lines
body_lines r e = stmts_back r.body r.lines (omega (arith, e)) ∙ ap (λ n. take n r.lines) (sym e) ∙ take-length r.lines
