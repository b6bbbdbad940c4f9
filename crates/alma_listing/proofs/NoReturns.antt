-- A RETURN stands in statements of a checked program exactly where the walk over the statements alone finds one.
use Rattle.std.proofs.Common.{◌≡◌, Bool, true, false, List, ◌∷◌, ◌++◌, refl, sym, ap, ◌∙◌, true≢false}
use Rattle.std.specs.Prelude.{◌||◌}
use Rattle.std.specs.List.{AllByRecursion}
use Rattle.alma_ir.specs.declared.phrase.Stmt as S
use Rattle.alma_ir.specs.declared.phrase.Arm.{Arm}
use Rattle.alma_ir.specs.declared.phrase.CaseArm.{CaseArm}
use Rattle.alma_ir.specs.declared.phrase.Branch.{Branch}
use Rattle.alma_ir.specs.View.{stmts_list, stmt_of, arms_list, cases_list, branches_list}
use Rattle.alma_ir.specs.Tree.{Stmts, Stmt, Arms, CaseArms, Else, Branches, Loop, Test, Tests, Expr, Links, Args, Arg, Desig, Sels, Sel}
use Rattle.alma_ir.specs.Tree.{no_stmts, more_stmts, TestStmt, Assign, CopyCells, If, While, Repeat, ForTo, SomeOf, Case, Either, Forall}
use Rattle.alma_ir.specs.Tree.{Commit, Return, Read, WriteExpr, WriteText, WriteLine, no_arms, more_arms, no_cases, more_cases, no_else}
use Rattle.alma_ir.specs.Tree.{else_part, no_branches, more_branches, a_loop, Value, Bind, Unify, SameCells, Seq, And, Or, Not, CallTest}
use Rattle.alma_ir.specs.Tree.{no_tests, more_tests, Const, Load, Chain, Compare, Truth, Known, Chr, CallExpr, no_links, more_links}
use Rattle.alma_ir.specs.Tree.{no_args, more_args, ByValue, ByCells, ByPlace, MixValue, MixPlace, a_desig, no_sels, more_sels, Field, Index}
use Rattle.alma_ir.specs.Phrases.{Phrase, stmts_phrases, stmt_phrases, arms_phrases, cases_phrases, else_phrases, branches_phrases}
use Rattle.alma_ir.specs.Phrases.{loop_phrases, test_phrases, tests_phrases, expr_phrases, links_phrases, args_phrases, arg_phrases}
use Rattle.alma_ir.specs.Phrases.{desig_phrases, sels_phrases, sel_phrases}
use Rattle.alma_ir.specs.Checked.{IsNoReturn, ReturnsStay}
use Rattle.alma_ir.proofs.Each.{each_of_front, each_of_back, each_of_append}
use Rattle.alma_listing.specs.Inner.{stmts_return, stmt_returns, arms_return, cases_return, else_returns, branches_return, loop_returns}

abbrev Plain : List Phrase → Type 0
Plain xs = AllByRecursion IsNoReturn xs

abbrev Stay : List Phrase → Type 0
Stay xs = AllByRecursion ReturnsStay xs

two : (xs ys : List Phrase) → (Stay xs → Plain xs) → (Stay ys → Plain ys) → Stay (xs ++ ys) → Plain (xs ++ ys)
two xs ys f g h = each_of_append IsNoReturn xs ys (f (each_of_front ReturnsStay xs ys h)) (g (each_of_back ReturnsStay xs ys h))

both_false : (a b : Bool) → (a || b) ≡ false → (a ≡ false) × (b ≡ false)
both_false true b e = absurd (true≢false e)
both_false false b e = (refl, e)

in_either : (a b : Bool) → (a || b) ≡ true → (a ≡ true → ⊥) → (b ≡ true → ⊥) → ⊥
in_either true b e f g = f refl
in_either false b e f g = g e

-- ---- lists as the program holds them

pub stmts_step : (x : S.Stmt) (xs : List S.Stmt) → stmts_return (stmts_list (x ∷ xs)) ≡
    (stmt_returns (stmt_of x) || stmts_return (stmts_list xs))
unfolding stmts_return
stmts_step x xs = refl

pub arms_step : (x : Arm) (xs : List Arm) → arms_return (arms_list (x ∷ xs)) ≡
    (stmts_return (stmts_list x.body.items) || arms_return (arms_list xs))
unfolding stmts_return
arms_step x xs = refl

pub cases_step : (x : CaseArm) (xs : List CaseArm) → cases_return (cases_list (x ∷ xs)) ≡
    (stmts_return (stmts_list x.body.items) || cases_return (cases_list xs))
unfolding stmts_return
cases_step x xs = refl

pub branches_step : (x : Branch) (xs : List Branch) → branches_return (branches_list (x ∷ xs)) ≡
    (stmts_return (stmts_list x.body.items) || branches_return (branches_list xs))
unfolding stmts_return
branches_step x xs = refl

pub none_at_end : (stmts_return no_stmts ≡ false) × (arms_return no_arms ≡ false) × (cases_return no_cases ≡ false) ×
    (branches_return no_branches ≡ false)
unfolding stmts_return
none_at_end = (refl, refl, refl, refl)

-- the first of two is found, or it is not and the second decides
pub then_is : (r a b s : Bool) → r ≡ a → true ≡ a → s ≡ (a || b) → r ≡ s
then_is r a b s h hit e = h ∙ sym hit ∙ ap (λ z. z || b) hit ∙ sym e

pub else_is : (r a b s : Bool) → r ≡ b → false ≡ a → s ≡ (a || b) → r ≡ s
else_is r a b s h miss e = h ∙ ap (λ z. z || b) miss ∙ sym e

pub none_is : (r a s : Bool) → r ≡ a → s ≡ (a || false) → r ≡ s
none_is true true s h e = sym e
none_is true false s h e = h ∙ sym e
none_is false true s h e = h ∙ sym e
none_is false false s h e = sym e

-- ---- tests and expressions hold statements in sequences alone, where no RETURN stands

mutual
  unfolding stmts_phrases

  test_plain : (x : Test) → Stay (test_phrases x) → Plain (test_phrases x)
  test_plain (Value e) h = (tt, expr_plain e h.1)
  test_plain (Bind d e range left) h = (tt, two (desig_phrases d) (expr_phrases e) (desig_plain d) (expr_plain e) h.1)
  test_plain (Unify d range e range2) h = (tt, two (desig_phrases d) (desig_phrases e) (desig_plain d) (desig_plain e) h.1)
  test_plain (SameCells d e) h = (tt, two (desig_phrases d) (desig_phrases e) (desig_plain d) (desig_plain e) h.1)
  test_plain (Seq x) h = (tt, h.0)
  test_plain (And ts) h = (tt, tests_plain ts h.1)
  test_plain (Or ts) h = (tt, tests_plain ts h.1)
  test_plain (Not t) h = (tt, test_plain t h.1)
  test_plain (CallTest r args up) h = (tt, args_plain args h.1)

  tests_plain : (x : Tests) → Stay (tests_phrases x) → Plain (tests_phrases x)
  tests_plain no_tests h = tt
  tests_plain (more_tests t rest) h = two (test_phrases t) (tests_phrases rest) (test_plain t) (tests_plain rest) h

  expr_plain : (x : Expr) → Stay (expr_phrases x) → Plain (expr_phrases x)
  expr_plain (Const v) h = (tt, tt)
  expr_plain (Load d) h = (tt, desig_plain d h.1)
  expr_plain (Chain negated e links) h = (tt, two (expr_phrases e) (links_phrases links) (expr_plain e) (links_plain links) h.1)
  expr_plain (Compare how x y) h = (tt, two (expr_phrases x) (expr_phrases y) (expr_plain x) (expr_plain y) h.1)
  expr_plain (Truth t) h = (tt, test_plain t h.1)
  expr_plain (Known d) h = (tt, desig_plain d h.1)
  expr_plain (Chr e) h = (tt, expr_plain e h.1)
  expr_plain (CallExpr r args up) h = (tt, args_plain args h.1)

  links_plain : (x : Links) → Stay (links_phrases x) → Plain (links_phrases x)
  links_plain no_links h = tt
  links_plain (more_links how e rest) h = two (expr_phrases e) (links_phrases rest) (expr_plain e) (links_plain rest) h

  args_plain : (x : Args) → Stay (args_phrases x) → Plain (args_phrases x)
  args_plain no_args h = tt
  args_plain (more_args a rest) h = two (arg_phrases a) (args_phrases rest) (arg_plain a) (args_plain rest) h

  arg_plain : (x : Arg) → Stay (arg_phrases x) → Plain (arg_phrases x)
  arg_plain (ByValue e range) h = (tt, expr_plain e h.1)
  arg_plain (ByCells d) h = (tt, desig_plain d h.1)
  arg_plain (ByPlace d) h = (tt, desig_plain d h.1)
  arg_plain (MixValue e range) h = (tt, expr_plain e h.1)
  arg_plain (MixPlace d) h = (tt, desig_plain d h.1)

  desig_plain : (x : Desig) → Stay (desig_phrases x) → Plain (desig_phrases x)
  desig_plain (a_desig at cells sels) h = (tt, sels_plain sels h.1)

  sels_plain : (x : Sels) → Stay (sels_phrases x) → Plain (sels_phrases x)
  sels_plain no_sels h = tt
  sels_plain (more_sels x rest) h = two (sel_phrases x) (sels_phrases rest) (sel_plain x) (sels_plain rest) h

  sel_plain : (x : Sel) → Stay (sel_phrases x) → Plain (sel_phrases x)
  sel_plain (Field offset cells) h = (tt, tt)
  sel_plain (Index e range cells) h = (tt, expr_plain e h.1)

-- ---- where none is found there is none

mutual
  unfolding stmts_phrases stmts_return

  pub stmts_plain : (x : Stmts) → stmts_return x ≡ false → Stay (stmts_phrases x) → Plain (stmts_phrases x)
  stmts_plain no_stmts none h = tt
  stmts_plain (more_stmts line x rest) none h =
      let b : (stmt_returns x ≡ false) × (stmts_return rest ≡ false) = both_false (stmt_returns x) (stmts_return rest) none in
      two (stmt_phrases x) (stmts_phrases rest) (stmt_plain x b.0) (stmts_plain rest b.1) h

  stmt_plain : (x : Stmt) → stmt_returns x ≡ false → Stay (stmt_phrases x) → Plain (stmt_phrases x)
  stmt_plain (TestStmt t) none h = (tt, test_plain t h.1)
  stmt_plain (Assign d e range) none h = (tt, two (desig_phrases d) (expr_phrases e) (desig_plain d) (expr_plain e) h.1)
  stmt_plain (CopyCells d e) none h = (tt, two (desig_phrases d) (desig_phrases e) (desig_plain d) (desig_plain e) h.1)
  stmt_plain (If arms rest) none h =
      let b : (arms_return arms ≡ false) × (stmts_return rest ≡ false) = both_false (arms_return arms) (stmts_return rest) none in
      (tt, two (arms_phrases arms) (stmts_phrases rest) (arms_plain arms b.0) (stmts_plain rest b.1) h.1)
  stmt_plain (While t body) none h = (tt, two (test_phrases t) (stmts_phrases body) (test_plain t) (stmts_plain body none) h.1)
  stmt_plain (Repeat body t) none h = (tt, two (stmts_phrases body) (test_phrases t) (stmts_plain body none) (test_plain t) h.1)
  stmt_plain (ForTo x) none h = (tt, loop_plain x none h.1)
  stmt_plain (SomeOf x) none h = (tt, loop_plain x none h.1)
  stmt_plain (Case e arms rest) none h =
      let b : (cases_return arms ≡ false) × (else_returns rest ≡ false) = both_false (cases_return arms) (else_returns rest) none in (
        tt,
        two (expr_phrases e ++ cases_phrases arms) (else_phrases rest)
            (two (expr_phrases e) (cases_phrases arms) (expr_plain e) (cases_plain arms b.0)) (else_plain rest b.1) h.1,
      )
  stmt_plain (Either x) none h = (tt, branches_plain x none h.1)
  stmt_plain (Forall x y) none h = (tt, each_of_append IsNoReturn (stmts_phrases x) (stmts_phrases y) h.0.0 h.0.1)
  stmt_plain (Commit x) none h = (tt, h.0)
  stmt_plain (Return e) none h = absurd (true≢false none)
  stmt_plain (Read d how range) none h = (tt, desig_plain d h.1)
  stmt_plain (WriteExpr e how) none h = (tt, expr_plain e h.1)
  stmt_plain (WriteText text) none h = (tt, tt)
  stmt_plain WriteLine none h = (tt, tt)

  arms_plain : (x : Arms) → arms_return x ≡ false → Stay (arms_phrases x) → Plain (arms_phrases x)
  arms_plain no_arms none h = tt
  arms_plain (more_arms t body rest) none h =
      let b : (stmts_return body ≡ false) × (arms_return rest ≡ false) = both_false (stmts_return body) (arms_return rest) none in
      two (test_phrases t ++ stmts_phrases body) (arms_phrases rest)
      (two (test_phrases t) (stmts_phrases body) (test_plain t) (stmts_plain body b.0)) (arms_plain rest b.1) h

  cases_plain : (x : CaseArms) → cases_return x ≡ false → Stay (cases_phrases x) → Plain (cases_phrases x)
  cases_plain no_cases none h = tt
  cases_plain (more_cases labels body rest) none h =
      let b : (stmts_return body ≡ false) × (cases_return rest ≡ false) = both_false (stmts_return body) (cases_return rest) none in
      two (stmts_phrases body) (cases_phrases rest) (stmts_plain body b.0) (cases_plain rest b.1) h

  else_plain : (x : Else) → else_returns x ≡ false → Stay (else_phrases x) → Plain (else_phrases x)
  else_plain no_else none h = tt
  else_plain (else_part body) none h = stmts_plain body none h

  branches_plain : (x : Branches) → branches_return x ≡ false → Stay (branches_phrases x) → Plain (branches_phrases x)
  branches_plain no_branches none h = tt
  branches_plain (more_branches body rest) none h =
      let b : (stmts_return body ≡ false) × (branches_return rest ≡ false) = both_false (stmts_return body) (branches_return rest) none in
      two (stmts_phrases body) (branches_phrases rest) (stmts_plain body b.0) (branches_plain rest b.1) h

  loop_plain : (x : Loop) → loop_returns x ≡ false → Stay (loop_phrases x) → Plain (loop_phrases x)
  loop_plain (a_loop d range counter limit from to by body) none h =
      two ((desig_phrases d ++ expr_phrases from) ++ expr_phrases to) (stmts_phrases body)
      (two (desig_phrases d ++ expr_phrases from) (expr_phrases to)
      (two (desig_phrases d) (expr_phrases from) (desig_plain d) (expr_plain from)) (expr_plain to)) (stmts_plain body none) h

-- ---- where one is found there is one

mutual
  unfolding stmts_phrases stmts_return

  pub stmts_some : (x : Stmts) → stmts_return x ≡ true → Plain (stmts_phrases x) → ⊥
  stmts_some no_stmts some h = true≢false (sym some)
  stmts_some (more_stmts line x rest) some h =
      in_either (stmt_returns x) (stmts_return rest) some
      (λ e. stmt_some x e (each_of_front IsNoReturn (stmt_phrases x) (stmts_phrases rest) h))
      (λ e. stmts_some rest e (each_of_back IsNoReturn (stmt_phrases x) (stmts_phrases rest) h))

  stmt_some : (x : Stmt) → stmt_returns x ≡ true → Plain (stmt_phrases x) → ⊥
  stmt_some (TestStmt t) some h = true≢false (sym some)
  stmt_some (Assign d e range) some h = true≢false (sym some)
  stmt_some (CopyCells d e) some h = true≢false (sym some)
  stmt_some (If arms rest) some h =
      in_either (arms_return arms) (stmts_return rest) some
      (λ e. arms_some arms e (each_of_front IsNoReturn (arms_phrases arms) (stmts_phrases rest) h.1))
      (λ e. stmts_some rest e (each_of_back IsNoReturn (arms_phrases arms) (stmts_phrases rest) h.1))
  stmt_some (While t body) some h = stmts_some body some (each_of_back IsNoReturn (test_phrases t) (stmts_phrases body) h.1)
  stmt_some (Repeat body t) some h = stmts_some body some (each_of_front IsNoReturn (stmts_phrases body) (test_phrases t) h.1)
  stmt_some (ForTo x) some h = loop_some x some h.1
  stmt_some (SomeOf x) some h = loop_some x some h.1
  stmt_some (Case e arms rest) some h =
      let front : List Phrase = expr_phrases e ++ cases_phrases arms in
      in_either (cases_return arms) (else_returns rest) some
      (λ f. cases_some arms f
      (each_of_back IsNoReturn (expr_phrases e) (cases_phrases arms) (each_of_front IsNoReturn front (else_phrases rest) h.1)))
      (λ f. else_some rest f (each_of_back IsNoReturn front (else_phrases rest) h.1))
  stmt_some (Either x) some h = branches_some x some h.1
  stmt_some (Forall x y) some h = true≢false (sym some)
  stmt_some (Commit x) some h = true≢false (sym some)
  stmt_some (Return e) some h = h.0
  stmt_some (Read d how range) some h = true≢false (sym some)
  stmt_some (WriteExpr e how) some h = true≢false (sym some)
  stmt_some (WriteText text) some h = true≢false (sym some)
  stmt_some WriteLine some h = true≢false (sym some)

  arms_some : (x : Arms) → arms_return x ≡ true → Plain (arms_phrases x) → ⊥
  arms_some no_arms some h = true≢false (sym some)
  arms_some (more_arms t body rest) some h =
      let front : List Phrase = test_phrases t ++ stmts_phrases body in
      in_either (stmts_return body) (arms_return rest) some
      (λ e. stmts_some body e
      (each_of_back IsNoReturn (test_phrases t) (stmts_phrases body) (each_of_front IsNoReturn front (arms_phrases rest) h)))
      (λ e. arms_some rest e (each_of_back IsNoReturn front (arms_phrases rest) h))

  cases_some : (x : CaseArms) → cases_return x ≡ true → Plain (cases_phrases x) → ⊥
  cases_some no_cases some h = true≢false (sym some)
  cases_some (more_cases labels body rest) some h =
      in_either (stmts_return body) (cases_return rest) some
      (λ e. stmts_some body e (each_of_front IsNoReturn (stmts_phrases body) (cases_phrases rest) h))
      (λ e. cases_some rest e (each_of_back IsNoReturn (stmts_phrases body) (cases_phrases rest) h))

  else_some : (x : Else) → else_returns x ≡ true → Plain (else_phrases x) → ⊥
  else_some no_else some h = true≢false (sym some)
  else_some (else_part body) some h = stmts_some body some h

  branches_some : (x : Branches) → branches_return x ≡ true → Plain (branches_phrases x) → ⊥
  branches_some no_branches some h = true≢false (sym some)
  branches_some (more_branches body rest) some h =
      in_either (stmts_return body) (branches_return rest) some
      (λ e. stmts_some body e (each_of_front IsNoReturn (stmts_phrases body) (branches_phrases rest) h))
      (λ e. branches_some rest e (each_of_back IsNoReturn (stmts_phrases body) (branches_phrases rest) h))

  loop_some : (x : Loop) → loop_returns x ≡ true → Plain (loop_phrases x) → ⊥
  loop_some (a_loop d range counter limit from to by body) some h =
      stmts_some body some (each_of_back IsNoReturn ((desig_phrases d ++ expr_phrases from) ++ expr_phrases to) (stmts_phrases body) h)
