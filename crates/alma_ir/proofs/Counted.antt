-- What is counted as a sum, and what one value counts.
use Rattle.std.proofs.Common.{◌≡◌, ℕ, ◌+◌, List, [], ◌∷◌, ◌++◌, refl, length, ap, ◌∙◌, arith}
use Rattle.std.specs.Prelude.{Vec, Some, None, sum_by}
use Rattle.std.specs.declared.alloc.Global.{Global}
use Rattle.alma_ir.specs.declared.phrase.Stmt as S
use Rattle.alma_ir.specs.declared.phrase.Test as T
use Rattle.alma_ir.specs.declared.phrase.Expr as E
use Rattle.alma_ir.specs.declared.phrase.Arg as A
use Rattle.alma_ir.specs.declared.phrase.Sel as L
use Rattle.alma_ir.specs.declared.phrase.Desig as D
use Rattle.alma_ir.specs.declared.phrase.Arm.{Arm}
use Rattle.alma_ir.specs.declared.phrase.CaseArm.{CaseArm}
use Rattle.alma_ir.specs.declared.phrase.Branch.{Branch}
use Rattle.alma_ir.specs.declared.phrase.Loop.{Loop}
use Rattle.alma_ir.specs.declared.phrase.Link.{Link}
use Rattle.alma_ir.specs.declared.phrase.Call.{Call}
use Rattle.alma_ir.specs.View.{stmt_of, test_of, expr_of, arg_of, sel_of, desig_of, loop_of, stmts_list, tests_list, args_list, sels_list}
use Rattle.alma_ir.specs.View.{arms_list, cases_list, branches_list, links_list}
use Rattle.alma_ir.specs.Tree.{Stmt, TestStmt, Assign, CopyCells, If, While, Repeat, ForTo, SomeOf, Case, Either, Forall, Commit, Return}
use Rattle.alma_ir.specs.Tree.{Read, WriteExpr, WriteText, WriteLine}
use Rattle.alma_ir.specs.Checked.{text_bytes}
use Rattle.alma_ir.specs.Lines.{stmt_count}
use Rattle.alma_ir.specs.Inner.Measures.{own, weight, amount, parts}
use Rattle.alma_ir.specs.Phrases.{Phrase, StmtPhrase, TestPhrase, ExprPhrase, ArgPhrase, DesigPhrase, SelPhrase}
use Rattle.alma_ir.specs.declared.inside.Measure.{Measure}
use Rattle.alma_ir.specs.declared.inside.Measure.TheVariants as measure
use Rattle.alma_ir.specs.Phrases.{stmts_phrases, stmt_phrases, arms_phrases, cases_phrases, branches_phrases, loop_phrases, test_phrases}
use Rattle.alma_ir.specs.Phrases.{tests_phrases, expr_phrases, links_phrases, args_phrases, arg_phrases, desig_phrases, sels_phrases}
use Rattle.alma_ir.specs.Phrases.{sel_phrases}
use Rattle.alma_ir.proofs.Views
use Rattle.std.proofs.lemmas.List.Recursion.{is_sum_by}

module _ (m : Measure) where
  amount_sum : (xs ys : List Phrase) → amount m (xs ++ ys) ≡ amount m xs + amount m ys
  unfolding amount
  amount_sum [] ys = omega arith
  amount_sum (x ∷ xs) ys = omega (arith, amount_sum xs ys)

  -- what an element of a list counts
  abbrev pub of_stmt : S.Stmt → ℕ
  of_stmt x = own m (stmt_of x) + amount m (parts (stmt_of x))

  abbrev pub of_test : T.Test → ℕ
  of_test x = amount m (test_phrases (test_of x))

  abbrev pub of_arg : A.Arg → ℕ
  of_arg x = amount m (arg_phrases (arg_of x))

  abbrev pub of_sel : L.Sel → ℕ
  of_sel x = amount m (sel_phrases (sel_of x))

  abbrev pub of_link : Link → ℕ
  of_link x = amount m (expr_phrases (expr_of x.operand))

  abbrev pub of_arm : Arm → ℕ
  of_arm x = amount m (test_phrases (test_of x.cond)) + amount m (stmts_phrases (stmts_list x.body.items))

  abbrev pub of_case : CaseArm → ℕ
  of_case x = amount m (stmts_phrases (stmts_list x.body.items))

  abbrev pub of_branch : Branch → ℕ
  of_branch x = amount m (stmts_phrases (stmts_list x.body.items))

  stmt_first : (x : Stmt) → stmt_phrases x ≡ StmtPhrase x ∷ parts x
  unfolding stmts_phrases amount
  stmt_first (TestStmt t) = refl
  stmt_first (Assign d e range) = refl
  stmt_first (CopyCells d e) = refl
  stmt_first (If arms rest) = refl
  stmt_first (While t body) = refl
  stmt_first (Repeat body t) = refl
  stmt_first (ForTo l) = refl
  stmt_first (SomeOf l) = refl
  stmt_first (Case e arms rest) = refl
  stmt_first (Either branches) = refl
  stmt_first (Forall x y) = refl
  stmt_first (Commit x) = refl
  stmt_first (Return e) = refl
  stmt_first (Read d how range) = refl
  stmt_first (WriteExpr e how) = refl
  stmt_first (WriteText text) = refl
  stmt_first WriteLine = refl

  pub stmts_sum : (xs : List S.Stmt) → amount m (stmts_phrases (stmts_list xs)) ≡ sum_by of_stmt xs
  unfolding stmts_phrases amount
  stmts_sum = is_sum_by (λ xs. amount m (stmts_phrases (stmts_list xs))) of_stmt refl
      (λ x rest. amount_sum (stmt_phrases (stmt_of x)) (stmts_phrases (stmts_list rest))
      ∙ ap (λ xs. amount m xs + amount m (stmts_phrases (stmts_list rest))) (stmt_first (stmt_of x)))

  pub tests_sum : (xs : List T.Test) → amount m (tests_phrases (tests_list xs)) ≡ sum_by of_test xs
  unfolding stmts_phrases amount
  tests_sum = is_sum_by (λ xs. amount m (tests_phrases (tests_list xs))) of_test refl
      (λ x rest. amount_sum (test_phrases (test_of x)) (tests_phrases (tests_list rest)))

  pub args_sum : (xs : List A.Arg) → amount m (args_phrases (args_list xs)) ≡ sum_by of_arg xs
  unfolding stmts_phrases amount
  args_sum = is_sum_by (λ xs. amount m (args_phrases (args_list xs))) of_arg refl
      (λ x rest. amount_sum (arg_phrases (arg_of x)) (args_phrases (args_list rest)))

  pub sels_sum : (xs : List L.Sel) → amount m (sels_phrases (sels_list xs)) ≡ sum_by of_sel xs
  unfolding stmts_phrases amount
  sels_sum = is_sum_by (λ xs. amount m (sels_phrases (sels_list xs))) of_sel refl
      (λ x rest. amount_sum (sel_phrases (sel_of x)) (sels_phrases (sels_list rest)))

  pub links_sum : (xs : List Link) → amount m (links_phrases (links_list xs)) ≡ sum_by of_link xs
  unfolding stmts_phrases amount
  links_sum = is_sum_by (λ xs. amount m (links_phrases (links_list xs))) of_link refl
      (λ x rest. amount_sum (expr_phrases (expr_of x.operand)) (links_phrases (links_list rest)))

  pub arms_sum : (xs : List Arm) → amount m (arms_phrases (arms_list xs)) ≡ sum_by of_arm xs
  unfolding stmts_phrases amount
  arms_sum = is_sum_by (λ xs. amount m (arms_phrases (arms_list xs))) of_arm refl
      (λ x rest. omega (
        arith,
        amount_sum (test_phrases (test_of x.cond) ++ stmts_phrases (stmts_list x.body.items))
            (arms_phrases (arms_list rest)),
        amount_sum (test_phrases (test_of x.cond)) (stmts_phrases (stmts_list x.body.items)),
      ))

  pub cases_sum : (xs : List CaseArm) → amount m (cases_phrases (cases_list xs)) ≡ sum_by of_case xs
  unfolding stmts_phrases amount
  cases_sum = is_sum_by (λ xs. amount m (cases_phrases (cases_list xs))) of_case refl
      (λ x rest. amount_sum (stmts_phrases (stmts_list x.body.items)) (cases_phrases (cases_list rest)))

  pub branches_sum : (xs : List Branch) → amount m (branches_phrases (branches_list xs)) ≡ sum_by of_branch xs
  unfolding stmts_phrases amount
  branches_sum = is_sum_by (λ xs. amount m (branches_phrases (branches_list xs))) of_branch refl
      (λ x rest. amount_sum (stmts_phrases (stmts_list x.body.items)) (branches_phrases (branches_list rest)))

  -- ---- what a value made by a variant counts

  pub teststmt_count : (t : T.Test) → amount m (parts (stmt_of (S.Test t))) ≡ amount m (test_phrases (test_of t))
  unfolding stmts_phrases amount
  teststmt_count t = omega (arith, ap (λ x. amount m (parts x)) (Views.teststmt_view t))

  pub assign_count : (d : D.Desig) (e : E.Expr) (r : _) → amount m (parts (stmt_of (S.Assign d e r)))
      ≡ amount m (desig_phrases (desig_of d)) + amount m (expr_phrases (expr_of e))
  unfolding stmts_phrases amount
  assign_count d e r = omega (
    arith,
    ap (λ x. amount m (parts x)) (Views.assign_view d e r),
    amount_sum (desig_phrases (desig_of d))
        (expr_phrases (expr_of e)),
  )

  pub copycells_count : (d d' : D.Desig) → amount m (parts (stmt_of (S.CopyCells d d')))
      ≡ amount m (desig_phrases (desig_of d)) + amount m (desig_phrases (desig_of d'))
  unfolding stmts_phrases amount
  copycells_count d d' = omega (
    arith,
    ap (λ x. amount m (parts x)) (Views.copycells_view d d'),
    amount_sum
        (desig_phrases (desig_of d)) (desig_phrases (desig_of d')),
  )

  pub if_count : (a : Vec Arm Global) (v : Vec S.Stmt Global)
      → amount m (parts (stmt_of (S.If a v))) ≡ amount m (arms_phrases (arms_list a.items)) + amount m
      (stmts_phrases (stmts_list v.items))
  unfolding stmts_phrases amount
  if_count a v = omega (
    arith,
    ap (λ x. amount m (parts x)) (Views.if_view a v),
    amount_sum (arms_phrases (arms_list a.items))
        (stmts_phrases (stmts_list v.items)),
  )

  pub while_count : (t : T.Test) (v : Vec S.Stmt Global) → amount m (parts (stmt_of (S.While t v)))
      ≡ amount m (test_phrases (test_of t)) + amount m (stmts_phrases (stmts_list v.items))
  unfolding stmts_phrases amount
  while_count t v = omega (
    arith,
    ap (λ x. amount m (parts x)) (Views.while_view t v),
    amount_sum (test_phrases (test_of t))
        (stmts_phrases (stmts_list v.items)),
  )

  pub repeat_count : (v : Vec S.Stmt Global) (t : T.Test) → amount m (parts (stmt_of (S.Repeat v t)))
      ≡ amount m (stmts_phrases (stmts_list v.items)) + amount m (test_phrases (test_of t))
  unfolding stmts_phrases amount
  repeat_count v t = omega (
    arith,
    ap (λ x. amount m (parts x)) (Views.repeat_view v t),
    amount_sum
        (stmts_phrases (stmts_list v.items)) (test_phrases (test_of t)),
  )

  pub forto_count : (l : Loop) → amount m (parts (stmt_of (S.ForTo l))) ≡ amount m (loop_phrases (loop_of l))
  unfolding stmts_phrases amount
  forto_count l = omega (arith, ap (λ x. amount m (parts x)) (Views.forto_view l))

  pub someof_count : (l : Loop) → amount m (parts (stmt_of (S.SomeOf l))) ≡ amount m (loop_phrases (loop_of l))
  unfolding stmts_phrases amount
  someof_count l = omega (arith, ap (λ x. amount m (parts x)) (Views.someof_view l))

  pub case_none_count : (e : E.Expr) (v : Vec CaseArm Global)
      → amount m (parts (stmt_of (S.Case e v None)))
      ≡ amount m (expr_phrases (expr_of e)) + amount m (cases_phrases (cases_list v.items))
  unfolding stmts_phrases amount
  case_none_count e v =
      let view : amount m (parts (stmt_of (S.Case e v None)))
      ≡ (amount m ((expr_phrases (expr_of e) ++ cases_phrases (cases_list v.items)) ++ [])) = ap
      (λ x. amount m (parts x)) (Views.case_view e v None) in
      omega (
        arith,
        view,
        amount_sum (expr_phrases (expr_of e) ++ cases_phrases (cases_list v.items)) [],
        amount_sum
            (expr_phrases (expr_of e)) (cases_phrases (cases_list v.items)),
      )

  pub case_some_count : (e : E.Expr) (v : Vec CaseArm Global) (w : Vec S.Stmt Global)
      → amount m (parts (stmt_of (S.Case e v (Some w))))
      ≡ amount m (expr_phrases (expr_of e)) + amount m (cases_phrases (cases_list v.items)) + amount m
      (stmts_phrases (stmts_list w.items))
  unfolding stmts_phrases amount
  case_some_count e v w =
      let view : amount m (parts (stmt_of (S.Case e v (Some w))))
      ≡ (amount m ((expr_phrases (expr_of e) ++ cases_phrases (cases_list v.items)) ++ stmts_phrases (stmts_list w.items))) = ap
      (λ x. amount m (parts x)) (Views.case_view e v (Some w)) in
      omega (
        arith,
        view,
        amount_sum (expr_phrases (expr_of e) ++ cases_phrases (cases_list v.items))
            (stmts_phrases (stmts_list w.items)),
        amount_sum (expr_phrases (expr_of e)) (cases_phrases (cases_list v.items)),
      )

  pub return_none_count : amount m (parts (stmt_of (S.Return None))) ≡ 0
  unfolding stmts_phrases amount
  return_none_count = omega (arith, ap (λ x. amount m (parts x)) (Views.return_view None))

  pub return_some_count : (e : E.Expr) → amount m (parts (stmt_of (S.Return (Some e)))) ≡ amount m (expr_phrases (expr_of e))
  unfolding stmts_phrases amount
  return_some_count e = omega (arith, ap (λ x. amount m (parts x)) (Views.return_view (Some e)))

  pub either_count : (v : Vec Branch Global) → amount m (parts (stmt_of (S.Either v)))
      ≡ amount m (branches_phrases (branches_list v.items))
  unfolding stmts_phrases amount
  either_count v = omega (arith, ap (λ x. amount m (parts x)) (Views.either_view v))

  pub forall_count : (v w : Vec S.Stmt Global) → amount m (parts (stmt_of (S.Forall v w)))
      ≡ amount m (stmts_phrases (stmts_list v.items)) + amount m (stmts_phrases (stmts_list w.items))
  unfolding stmts_phrases amount
  forall_count v w = omega (
    arith,
    ap (λ x. amount m (parts x)) (Views.forall_view v w),
    amount_sum
        (stmts_phrases (stmts_list v.items)) (stmts_phrases (stmts_list w.items)),
  )

  pub commit_count : (v : Vec S.Stmt Global) → amount m (parts (stmt_of (S.Commit v)))
      ≡ amount m (stmts_phrases (stmts_list v.items))
  unfolding stmts_phrases amount
  commit_count v = omega (arith, ap (λ x. amount m (parts x)) (Views.commit_view v))

  pub read_count : (d : D.Desig) (how r : _) → amount m (parts (stmt_of (S.Read d how r))) ≡ amount m (desig_phrases (desig_of d))
  unfolding stmts_phrases amount
  read_count d how r = omega (arith, ap (λ x. amount m (parts x)) (Views.read_view d how r))

  pub writeexpr_count : (e : E.Expr) (how : _) → amount m (parts (stmt_of (S.WriteExpr e how)))
      ≡ amount m (expr_phrases (expr_of e))
  unfolding stmts_phrases amount
  writeexpr_count e how = omega (arith, ap (λ x. amount m (parts x)) (Views.writeexpr_view e how))

  pub writetext_count : (v : _) → amount m (parts (stmt_of (S.WriteText v))) ≡ 0
  unfolding stmts_phrases amount
  writetext_count v = omega (arith, ap (λ x. amount m (parts x)) (Views.writetext_view v))

  pub writeline_count : amount m (parts (stmt_of S.WriteLine)) ≡ 0
  unfolding stmts_phrases amount
  writeline_count = omega (arith, ap (λ x. amount m (parts x)) (Views.writeline_view))

  pub value_count : (e : E.Expr) → amount m (test_phrases (test_of (T.Value e))) ≡ amount m (expr_phrases (expr_of e))
  unfolding stmts_phrases amount
  value_count e = omega (arith, ap (λ x. amount m (test_phrases x)) (Views.value_view e))

  pub bind_count : (d : D.Desig) (e : E.Expr) (r left : _) → amount m (test_phrases (test_of (T.Bind d e r left)))
      ≡ amount m (desig_phrases (desig_of d)) + amount m (expr_phrases (expr_of e))
  unfolding stmts_phrases amount
  bind_count d e r left = omega (
    arith,
    ap (λ x. amount m (test_phrases x)) (Views.bind_view d e r left),
    amount_sum
        (desig_phrases (desig_of d)) (expr_phrases (expr_of e)),
  )

  pub unify_count : (d : D.Desig) (r : _) (d' : D.Desig) (r' : _)
      → amount m (test_phrases (test_of (T.Unify d r d' r')))
      ≡ amount m (desig_phrases (desig_of d)) + amount m (desig_phrases (desig_of d'))
  unfolding stmts_phrases amount
  unify_count d r d' r' = omega (
    arith,
    ap (λ x. amount m (test_phrases x)) (Views.unify_view d r d' r'),
    amount_sum
        (desig_phrases (desig_of d)) (desig_phrases (desig_of d')),
  )

  pub samecells_count : (d d' : D.Desig) → amount m (test_phrases (test_of (T.SameCells d d')))
      ≡ amount m (desig_phrases (desig_of d)) + amount m (desig_phrases (desig_of d'))
  unfolding stmts_phrases amount
  samecells_count d d' = omega (
    arith,
    ap (λ x. amount m (test_phrases x)) (Views.samecells_view d d'),
    amount_sum
        (desig_phrases (desig_of d)) (desig_phrases (desig_of d')),
  )

  pub seq_count : (v : Vec S.Stmt Global) → amount m (test_phrases (test_of (T.Seq v))) ≡ amount m (stmts_phrases (stmts_list v.items))
  unfolding stmts_phrases amount
  seq_count v = omega (arith, ap (λ x. amount m (test_phrases x)) (Views.seq_view v))

  pub and_count : (v : Vec T.Test Global) → amount m (test_phrases (test_of (T.And v))) ≡ amount m (tests_phrases (tests_list v.items))
  unfolding stmts_phrases amount
  and_count v = omega (arith, ap (λ x. amount m (test_phrases x)) (Views.and_view v))

  pub or_count : (v : Vec T.Test Global) → amount m (test_phrases (test_of (T.Or v))) ≡ amount m (tests_phrases (tests_list v.items))
  unfolding stmts_phrases amount
  or_count v = omega (arith, ap (λ x. amount m (test_phrases x)) (Views.or_view v))

  pub not_count : (t : _) → amount m (test_phrases (test_of (T.Not t))) ≡ amount m (test_phrases (test_of t.value))
  unfolding stmts_phrases amount
  not_count t = omega (arith, ap (λ x. amount m (test_phrases x)) (Views.not_view t))

  pub calltest_count : (c : Call) → amount m (test_phrases (test_of (T.Call c))) ≡ amount m (args_phrases (args_list c.args.items))
  unfolding stmts_phrases amount
  calltest_count c = omega (arith, ap (λ x. amount m (test_phrases x)) (Views.calltest_view c))

  pub const_count : (n : _) → amount m (expr_phrases (expr_of (E.Const n))) ≡ 0
  unfolding stmts_phrases amount
  const_count n = omega (arith, ap (λ x. amount m (expr_phrases x)) (Views.const_view n))

  pub load_count : (d : D.Desig) → amount m (expr_phrases (expr_of (E.Load d))) ≡ amount m (desig_phrases (desig_of d))
  unfolding stmts_phrases amount
  load_count d = omega (arith, ap (λ x. amount m (expr_phrases x)) (Views.load_view d))

  pub chain_count : (neg : _) (e : _) (v : Vec Link Global) → amount m (expr_phrases (expr_of (E.Chain neg e v)))
      ≡ amount m (expr_phrases (expr_of e.value)) + amount m (links_phrases (links_list v.items))
  unfolding stmts_phrases amount
  chain_count neg e v = omega (
    arith,
    ap (λ x. amount m (expr_phrases x)) (Views.chain_view neg e v),
    amount_sum
        (expr_phrases (expr_of e.value)) (links_phrases (links_list v.items)),
  )

  pub compare_count : (c a b : _) → amount m (expr_phrases (expr_of (E.Compare c a b)))
      ≡ amount m (expr_phrases (expr_of a.value)) + amount m (expr_phrases (expr_of b.value))
  unfolding stmts_phrases amount
  compare_count c a b = omega (
    arith,
    ap (λ x. amount m (expr_phrases x)) (Views.compare_view c a b),
    amount_sum
        (expr_phrases (expr_of a.value)) (expr_phrases (expr_of b.value)),
  )

  pub truth_count : (t : _) → amount m (expr_phrases (expr_of (E.Truth t))) ≡ amount m (test_phrases (test_of t.value))
  unfolding stmts_phrases amount
  truth_count t = omega (arith, ap (λ x. amount m (expr_phrases x)) (Views.truth_view t))

  pub known_count : (d : D.Desig) → amount m (expr_phrases (expr_of (E.Known d))) ≡ amount m (desig_phrases (desig_of d))
  unfolding stmts_phrases amount
  known_count d = omega (arith, ap (λ x. amount m (expr_phrases x)) (Views.known_view d))

  pub chr_count : (e : _) → amount m (expr_phrases (expr_of (E.Chr e))) ≡ amount m (expr_phrases (expr_of e.value))
  unfolding stmts_phrases amount
  chr_count e = omega (arith, ap (λ x. amount m (expr_phrases x)) (Views.chr_view e))

  pub callexpr_count : (c : Call) → amount m (expr_phrases (expr_of (E.Call c))) ≡ amount m (args_phrases (args_list c.args.items))
  unfolding stmts_phrases amount
  callexpr_count c = omega (arith, ap (λ x. amount m (expr_phrases x)) (Views.callexpr_view c))

  pub byvalue_count : (e : E.Expr) (r : _) → amount m (arg_phrases (arg_of (A.Value e r))) ≡ amount m (expr_phrases (expr_of e))
  unfolding stmts_phrases amount
  byvalue_count e r = omega (arith, ap (λ x. amount m (arg_phrases x)) (Views.byvalue_view e r))

  pub bycells_count : (d : D.Desig) → amount m (arg_phrases (arg_of (A.Cells d))) ≡ amount m (desig_phrases (desig_of d))
  unfolding stmts_phrases amount
  bycells_count d = omega (arith, ap (λ x. amount m (arg_phrases x)) (Views.bycells_view d))

  pub byplace_count : (d : D.Desig) → amount m (arg_phrases (arg_of (A.Place d))) ≡ amount m (desig_phrases (desig_of d))
  unfolding stmts_phrases amount
  byplace_count d = omega (arith, ap (λ x. amount m (arg_phrases x)) (Views.byplace_view d))

  pub mixvalue_count : (e : E.Expr) (r : _) → amount m (arg_phrases (arg_of (A.MixValue e r))) ≡ amount m (expr_phrases (expr_of e))
  unfolding stmts_phrases amount
  mixvalue_count e r = omega (arith, ap (λ x. amount m (arg_phrases x)) (Views.mixvalue_view e r))

  pub mixplace_count : (d : D.Desig) → amount m (arg_phrases (arg_of (A.MixPlace d))) ≡ amount m (desig_phrases (desig_of d))
  unfolding stmts_phrases amount
  mixplace_count d = omega (arith, ap (λ x. amount m (arg_phrases x)) (Views.mixplace_view d))

  pub field_count : (o c : _) → amount m (sel_phrases (sel_of (L.Field o c))) ≡ 0
  unfolding stmts_phrases amount
  field_count o c = omega (arith, ap (λ x. amount m (sel_phrases x)) (Views.field_view o c))

  pub index_count : (e : E.Expr) (r c : _) → amount m (sel_phrases (sel_of (L.Index e r c))) ≡ amount m (expr_phrases (expr_of e))
  unfolding stmts_phrases amount
  index_count e r c = omega (arith, ap (λ x. amount m (sel_phrases x)) (Views.index_view e r c))

  pub loop_count : (l : Loop) → amount m (loop_phrases (loop_of l))
      ≡ amount m (desig_phrases (desig_of l.var)) + amount m (expr_phrases (expr_of l.from)) + amount m
      (expr_phrases (expr_of l.to)) + amount m (stmts_phrases (stmts_list l.body.items))
  unfolding stmts_phrases amount
  loop_count l = omega (
    arith,
    amount_sum ((desig_phrases (desig_of l.var) ++ expr_phrases (expr_of l.from)) ++ expr_phrases (expr_of l.to))
        (stmts_phrases (stmts_list l.body.items)),
    amount_sum (desig_phrases (desig_of l.var) ++ expr_phrases (expr_of l.from))
        (expr_phrases (expr_of l.to)),
    amount_sum (desig_phrases (desig_of l.var)) (expr_phrases (expr_of l.from)),
  )

  pub desig_count : (d : D.Desig) → amount m (desig_phrases (desig_of d)) ≡ amount m (sels_phrases (sels_list d.sels.items))
  unfolding stmts_phrases amount
  desig_count d = omega arith

-- ---- what the public functions count

pub statements_amount : (xs : List Phrase) → amount measure.Statements xs ≡ stmt_count xs
unfolding amount
statements_amount [] = refl
statements_amount (StmtPhrase x ∷ rest) = omega (arith, statements_amount rest)
statements_amount (TestPhrase t ∷ rest) = omega (arith, statements_amount rest)
statements_amount (ExprPhrase e ∷ rest) = omega (arith, statements_amount rest)
statements_amount (ArgPhrase a ∷ rest) = omega (arith, statements_amount rest)
statements_amount (DesigPhrase d ∷ rest) = omega (arith, statements_amount rest)
statements_amount (SelPhrase x ∷ rest) = omega (arith, statements_amount rest)

texts_weight : (x : Phrase) → weight measure.TextBytes x ≡ text_bytes x
texts_weight (StmtPhrase x) = refl
texts_weight (TestPhrase t) = refl
texts_weight (ExprPhrase e) = refl
texts_weight (ArgPhrase a) = refl
texts_weight (DesigPhrase d) = refl
texts_weight (SelPhrase x) = refl

pub texts_amount : (xs : List Phrase) → amount measure.TextBytes xs ≡ sum_by text_bytes xs
unfolding amount
texts_amount = is_sum_by (amount measure.TextBytes) text_bytes refl (λ x rest. ap (λ n. n + amount measure.TextBytes rest) (texts_weight x))

-- a statement that prints no text has no bytes of texts
pub no_bytes : (x : S.Stmt) → ((text : _) → x ≡ S.WriteText text → ⊥) → text_bytes (StmtPhrase (stmt_of x)) ≡ 0
unfolding stmt_of
no_bytes (S.Test t) h = refl
no_bytes (S.Assign' r c v sels e range) h = refl
no_bytes (S.CopyCells' r c v sels r2 c2 v2 sels2) h = refl
no_bytes (S.If' v arms w rest) h = refl
no_bytes (S.While' t v body) h = refl
no_bytes (S.Repeat' v body t) h = refl
no_bytes (S.ForTo' r c v sels range counter limit from to by w body) h = refl
no_bytes (S.SomeOf' r c v sels range counter limit from to by w body) h = refl
no_bytes (S.Case' e v arms rest) h = refl
no_bytes (S.Either' v branches) h = refl
no_bytes (S.Forall' v a w b) h = refl
no_bytes (S.Commit' v a) h = refl
no_bytes (S.Return' e) h = refl
no_bytes (S.Read' r c v sels how range) h = refl
no_bytes (S.WriteExpr e how) h = refl
no_bytes (S.WriteText v) h = absurd (h v refl)
no_bytes S.WriteLine h = refl

pub text_bytes_of : (v : _) → text_bytes (StmtPhrase (stmt_of (S.WriteText v))) ≡ length v.items
unfolding stmt_of
text_bytes_of v = refl

-- all of these, for tactics
pub ruleset counted = (
  teststmt_count,
  assign_count,
  copycells_count,
  if_count,
  while_count,
  repeat_count,
  forto_count,
  someof_count,
  case_none_count,
  case_some_count,
  return_none_count,
  return_some_count,
  either_count,
  forall_count,
  commit_count,
  read_count,
  writeexpr_count,
  writetext_count,
  writeline_count,
  value_count,
  bind_count,
  unify_count,
  samecells_count,
  seq_count,
  and_count,
  or_count,
  not_count,
  calltest_count,
  const_count,
  load_count,
  chain_count,
  compare_count,
  truth_count,
  known_count,
  chr_count,
  callexpr_count,
  byvalue_count,
  bycells_count,
  byplace_count,
  mixvalue_count,
  mixplace_count,
  field_count,
  index_count,
  loop_count,
  desig_count,
  stmts_sum,
  tests_sum,
  args_sum,
  sels_sum,
  links_sum,
  arms_sum,
  cases_sum,
  branches_sum,
)
