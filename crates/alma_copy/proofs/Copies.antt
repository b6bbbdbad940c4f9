-- What is made of the copies of its parts is the copy of a phrase.
use Rattle.std.proofs.Common.{◌≡◌, ℕ, ℤ, ◌+◌, ◌<◌, ◌≤◌, List, [], ◌∷◌, ◌++◌, length, get_or, take, map, refl, sym, ap, ◌∙◌, subst, Box}
use Rattle.std.specs.Prelude.{Vec, Box, Some, None, Result, Ok, Err, IfOk, IsOkAnd}
use Rattle.std.proofs.lemmas.List.{take_all, take_more, map-append}
use Rattle.std.specs.declared.alloc.Global.{Global}
use Rattle.alma_ir.specs.declared.phrase.Stmt as S
use Rattle.alma_ir.specs.declared.phrase.Test as T
use Rattle.alma_ir.specs.declared.phrase.Expr as E
use Rattle.alma_ir.specs.declared.phrase.Arg as A
use Rattle.alma_ir.specs.declared.phrase.Sel as L
use Rattle.alma_ir.specs.declared.phrase.Desig as D
use Rattle.alma_ir.specs.declared.phrase.Arm.{Arm}
use Rattle.alma_ir.specs.declared.phrase.CaseArm.{CaseArm}
use Rattle.alma_ir.specs.declared.phrase.Branch.{Branch}
use Rattle.alma_ir.specs.declared.phrase.Loop.{Loop}
use Rattle.alma_ir.specs.declared.phrase.Link.{Link}
use Rattle.alma_ir.specs.declared.phrase.Call.{Call}
use Rattle.alma_ir.specs.declared.phrase.Op.{Op}
use Rattle.alma_ir.specs.declared.phrase.Root.{Root}
use Rattle.alma_base.specs.declared.number.Range.{Range}
use Rattle.alma_ir.specs.Tree as tree
use Rattle.alma_ir.specs.View.{stmts_list, stmt_of, arms_list, cases_list, branches_list, loop_of, tests_list, test_of, expr_of, links_list}
use Rattle.alma_ir.specs.View.{args_list, arg_of, desig_of, sels_list, sel_of}
use Rattle.alma_ir.proofs.Views
use Rattle.alma_copy.specs.Moved.{Moves, moved_root, moved_stmts, moved_stmt, moved_arms, moved_cases, moved_branches, moved_loop}
use Rattle.alma_copy.specs.Moved.{moved_test, moved_tests, moved_expr, moved_links, moved_args, moved_arg, moved_desig, moved_sels}
use Rattle.alma_copy.specs.Moved.{moved_sel}

-- ---- parts and loops

-- what holds of a part that is there
pub held : {X F : Type 0} (P : X → Type 0) (r : Result X F) (x : X) → IfOk r P → r ≡ Ok x → P x
held P r x h is = subst (λ y. IfOk y P) is h

-- a turn puts the copy of its item behind
pub next : {X Y Z : Type 0} (f : Y → Z) (g : X → Z) (xs : List X) (i : ℕ) (x : X) (ys new : List Y) (y : Y) → i < length xs →
    x ≡ get_or xs i x →
    map f ys ≡ map g (take i xs) → f y ≡ g x → new ≡ ys ++ (y ∷ []) → map f new ≡ map g (take (i + 1) xs)
next f g xs i x ys new y within is before one pushed =
    ap (map f) pushed ∙ map-append f ys (y ∷ []) ∙ (λ k. before k ++ (one k ∷ []))
    ∙ sym (ap (map g) (take_more xs i x within ∙ ap (λ z. take i xs ++ (z ∷ [])) (sym is)) ∙ map-append g (take i xs) (x ∷ []))

-- the same where the copy was handed on as it was answered
pub next_part : {X Y Z F : Type 0} (f : Y → Z) (g : X → Z) (xs : List X) (i : ℕ) (x : X) (ys new : List Y) (r : Result Y F) →
    i < length xs → x ≡ get_or xs i x →
    map f ys ≡ map g (take i xs) → IfOk r (λ y. f y ≡ g x) → IsOkAnd r (λ y. new ≡ ys ++ (y ∷ [])) → map f new ≡ map g (take (i + 1) xs)
next_part f g xs i x ys new (Ok y) within is before one pushed = next f g xs i x ys new y within is before one pushed
next_part f g xs i x ys new (Err e) within is before one pushed = absurd pushed

-- behind the last turn all are there
pub ended : {X Y Z : Type 0} (f : Y → Z) (g : X → Z) (xs : List X) (i : ℕ) (ys : List Y) → length xs ≤ i → map f ys ≡ map g (take i xs) →
    map f ys ≡ map g xs
ended f g xs i ys end h = h ∙ ap (map g) (take_all i xs end)

-- ---- an item and its copy, and lists of them

abbrev pub of_stmt : S.Stmt → tree.Stmt
of_stmt x = stmt_of x

abbrev pub stmt_copy : Moves → S.Stmt → tree.Stmt
stmt_copy m x = moved_stmt m (stmt_of x)

abbrev stmts_from : List (tree.Stmt) → tree.Stmts
stmts_from [] = tree.no_stmts
stmts_from (z ∷ zs) = tree.more_stmts 0 z (stmts_from zs)

stmts_are : (xs : List S.Stmt) → stmts_list xs ≡ stmts_from (map of_stmt xs)
stmts_are [] = refl
stmts_are (x ∷ xs) = ap (λ rest. tree.more_stmts 0 (of_stmt x) rest) (stmts_are xs)

stmts_moved : (m : Moves) (xs : List S.Stmt) → moved_stmts m (stmts_list xs) ≡ stmts_from (map (stmt_copy m) xs)
unfolding moved_stmts
stmts_moved m [] = refl
stmts_moved m (x ∷ xs) = ap (λ rest. tree.more_stmts 0 (stmt_copy m x) rest) (stmts_moved m xs)

pub stmts_copy : (m : Moves) (xs ys : List S.Stmt) → map of_stmt ys ≡ map (stmt_copy m) xs → stmts_list ys ≡ moved_stmts m (stmts_list xs)
stmts_copy m xs ys h = stmts_are ys ∙ ap stmts_from h ∙ sym (stmts_moved m xs)

abbrev pub of_test : T.Test → tree.Test
of_test x = test_of x

abbrev pub test_copy : Moves → T.Test → tree.Test
test_copy m x = moved_test m (test_of x)

abbrev tests_from : List (tree.Test) → tree.Tests
tests_from [] = tree.no_tests
tests_from (z ∷ zs) = tree.more_tests z (tests_from zs)

tests_are : (xs : List T.Test) → tests_list xs ≡ tests_from (map of_test xs)
tests_are [] = refl
tests_are (x ∷ xs) = ap (λ rest. tree.more_tests (of_test x) rest) (tests_are xs)

tests_moved : (m : Moves) (xs : List T.Test) → moved_tests m (tests_list xs) ≡ tests_from (map (test_copy m) xs)
unfolding moved_stmts
tests_moved m [] = refl
tests_moved m (x ∷ xs) = ap (λ rest. tree.more_tests (test_copy m x) rest) (tests_moved m xs)

pub tests_copy : (m : Moves) (xs ys : List T.Test) → map of_test ys ≡ map (test_copy m) xs → tests_list ys ≡ moved_tests m (tests_list xs)
tests_copy m xs ys h = tests_are ys ∙ ap tests_from h ∙ sym (tests_moved m xs)

abbrev pub of_arg : A.Arg → tree.Arg
of_arg x = arg_of x

abbrev pub arg_copy : Moves → A.Arg → tree.Arg
arg_copy m x = moved_arg m (arg_of x)

abbrev args_from : List (tree.Arg) → tree.Args
args_from [] = tree.no_args
args_from (z ∷ zs) = tree.more_args z (args_from zs)

args_are : (xs : List A.Arg) → args_list xs ≡ args_from (map of_arg xs)
args_are [] = refl
args_are (x ∷ xs) = ap (λ rest. tree.more_args (of_arg x) rest) (args_are xs)

args_moved : (m : Moves) (xs : List A.Arg) → moved_args m (args_list xs) ≡ args_from (map (arg_copy m) xs)
unfolding moved_stmts
args_moved m [] = refl
args_moved m (x ∷ xs) = ap (λ rest. tree.more_args (arg_copy m x) rest) (args_moved m xs)

pub args_copy : (m : Moves) (xs ys : List A.Arg) → map of_arg ys ≡ map (arg_copy m) xs → args_list ys ≡ moved_args m (args_list xs)
args_copy m xs ys h = args_are ys ∙ ap args_from h ∙ sym (args_moved m xs)

abbrev pub of_sel : L.Sel → tree.Sel
of_sel x = sel_of x

abbrev pub sel_copy : Moves → L.Sel → tree.Sel
sel_copy m x = moved_sel m (sel_of x)

abbrev sels_from : List (tree.Sel) → tree.Sels
sels_from [] = tree.no_sels
sels_from (z ∷ zs) = tree.more_sels z (sels_from zs)

sels_are : (xs : List L.Sel) → sels_list xs ≡ sels_from (map of_sel xs)
sels_are [] = refl
sels_are (x ∷ xs) = ap (λ rest. tree.more_sels (of_sel x) rest) (sels_are xs)

sels_moved : (m : Moves) (xs : List L.Sel) → moved_sels m (sels_list xs) ≡ sels_from (map (sel_copy m) xs)
unfolding moved_stmts
sels_moved m [] = refl
sels_moved m (x ∷ xs) = ap (λ rest. tree.more_sels (sel_copy m x) rest) (sels_moved m xs)

pub sels_copy : (m : Moves) (xs ys : List L.Sel) → map of_sel ys ≡ map (sel_copy m) xs → sels_list ys ≡ moved_sels m (sels_list xs)
sels_copy m xs ys h = sels_are ys ∙ ap sels_from h ∙ sym (sels_moved m xs)

abbrev pub of_link : Link → Op × tree.Expr
of_link x = (x.op, expr_of x.operand)

abbrev pub link_copy : Moves → Link → Op × tree.Expr
link_copy m x = (x.op, moved_expr m (expr_of x.operand))

abbrev links_from : List (Op × tree.Expr) → tree.Links
links_from [] = tree.no_links
links_from (z ∷ zs) = tree.more_links z.0 z.1 (links_from zs)

links_are : (xs : List Link) → links_list xs ≡ links_from (map of_link xs)
links_are [] = refl
links_are (x ∷ xs) = ap (λ rest. tree.more_links (of_link x).0 (of_link x).1 rest) (links_are xs)

links_moved : (m : Moves) (xs : List Link) → moved_links m (links_list xs) ≡ links_from (map (link_copy m) xs)
unfolding moved_stmts
links_moved m [] = refl
links_moved m (x ∷ xs) = ap (λ rest. tree.more_links (link_copy m x).0 (link_copy m x).1 rest) (links_moved m xs)

pub links_copy : (m : Moves) (xs ys : List Link) → map of_link ys ≡ map (link_copy m) xs → links_list ys ≡ moved_links m (links_list xs)
links_copy m xs ys h = links_are ys ∙ ap links_from h ∙ sym (links_moved m xs)

abbrev pub of_arm : Arm → tree.Test × tree.Stmts
of_arm x = (test_of x.cond, stmts_list x.body.items)

abbrev pub arm_copy : Moves → Arm → tree.Test × tree.Stmts
arm_copy m x = (moved_test m (test_of x.cond), moved_stmts m (stmts_list x.body.items))

abbrev arms_from : List (tree.Test × tree.Stmts) → tree.Arms
arms_from [] = tree.no_arms
arms_from (z ∷ zs) = tree.more_arms z.0 z.1 (arms_from zs)

arms_are : (xs : List Arm) → arms_list xs ≡ arms_from (map of_arm xs)
arms_are [] = refl
arms_are (x ∷ xs) = ap (λ rest. tree.more_arms (of_arm x).0 (of_arm x).1 rest) (arms_are xs)

arms_moved : (m : Moves) (xs : List Arm) → moved_arms m (arms_list xs) ≡ arms_from (map (arm_copy m) xs)
unfolding moved_stmts
arms_moved m [] = refl
arms_moved m (x ∷ xs) = ap (λ rest. tree.more_arms (arm_copy m x).0 (arm_copy m x).1 rest) (arms_moved m xs)

pub arms_copy : (m : Moves) (xs ys : List Arm) → map of_arm ys ≡ map (arm_copy m) xs → arms_list ys ≡ moved_arms m (arms_list xs)
arms_copy m xs ys h = arms_are ys ∙ ap arms_from h ∙ sym (arms_moved m xs)

abbrev pub of_case : CaseArm → List Range × tree.Stmts
of_case x = (x.labels.items, stmts_list x.body.items)

abbrev pub case_copy : Moves → CaseArm → List Range × tree.Stmts
case_copy m x = (x.labels.items, moved_stmts m (stmts_list x.body.items))

abbrev cases_from : List (List Range × tree.Stmts) → tree.CaseArms
cases_from [] = tree.no_cases
cases_from (z ∷ zs) = tree.more_cases z.0 z.1 (cases_from zs)

cases_are : (xs : List CaseArm) → cases_list xs ≡ cases_from (map of_case xs)
cases_are [] = refl
cases_are (x ∷ xs) = ap (λ rest. tree.more_cases (of_case x).0 (of_case x).1 rest) (cases_are xs)

cases_moved : (m : Moves) (xs : List CaseArm) → moved_cases m (cases_list xs) ≡ cases_from (map (case_copy m) xs)
unfolding moved_stmts
cases_moved m [] = refl
cases_moved m (x ∷ xs) = ap (λ rest. tree.more_cases (case_copy m x).0 (case_copy m x).1 rest) (cases_moved m xs)

pub cases_copy : (m : Moves) (xs ys : List CaseArm) → map of_case ys ≡ map (case_copy m) xs → cases_list ys ≡ moved_cases m (cases_list xs)
cases_copy m xs ys h = cases_are ys ∙ ap cases_from h ∙ sym (cases_moved m xs)

abbrev pub of_branch : Branch → tree.Stmts
of_branch x = stmts_list x.body.items

abbrev pub branch_copy : Moves → Branch → tree.Stmts
branch_copy m x = moved_stmts m (stmts_list x.body.items)

abbrev branches_from : List (tree.Stmts) → tree.Branches
branches_from [] = tree.no_branches
branches_from (z ∷ zs) = tree.more_branches z (branches_from zs)

branches_are : (xs : List Branch) → branches_list xs ≡ branches_from (map of_branch xs)
branches_are [] = refl
branches_are (x ∷ xs) = ap (λ rest. tree.more_branches (of_branch x) rest) (branches_are xs)

branches_moved : (m : Moves) (xs : List Branch) → moved_branches m (branches_list xs) ≡ branches_from (map (branch_copy m) xs)
unfolding moved_stmts
branches_moved m [] = refl
branches_moved m (x ∷ xs) = ap (λ rest. tree.more_branches (branch_copy m x) rest) (branches_moved m xs)

pub branches_copy : (m : Moves) (xs ys : List Branch) → map of_branch ys ≡ map (branch_copy m) xs → branches_list ys ≡ moved_branches m
    (branches_list xs)
branches_copy m xs ys h = branches_are ys ∙ ap branches_from h ∙ sym (branches_moved m xs)

-- ---- what a part becomes

abbrev pub by_stmts : Moves → List S.Stmt → tree.Stmts
by_stmts m xs = moved_stmts m (stmts_list xs)

abbrev pub by_tests : Moves → List T.Test → tree.Tests
by_tests m xs = moved_tests m (tests_list xs)

abbrev pub by_args : Moves → List A.Arg → tree.Args
by_args m xs = moved_args m (args_list xs)

abbrev pub by_sels : Moves → List L.Sel → tree.Sels
by_sels m xs = moved_sels m (sels_list xs)

abbrev pub by_links : Moves → List Link → tree.Links
by_links m xs = moved_links m (links_list xs)

abbrev pub by_arms : Moves → List Arm → tree.Arms
by_arms m xs = moved_arms m (arms_list xs)

abbrev pub by_cases : Moves → List CaseArm → tree.CaseArms
by_cases m xs = moved_cases m (cases_list xs)

abbrev pub by_branches : Moves → List Branch → tree.Branches
by_branches m xs = moved_branches m (branches_list xs)

abbrev pub by_expr : Moves → E.Expr → tree.Expr
by_expr m x = moved_expr m (expr_of x)

abbrev pub by_test : Moves → T.Test → tree.Test
by_test m x = moved_test m (test_of x)

-- ---- a phrase of each form: where its parts are copies, what is made of them is its copy

module _ (m : Moves) where
  pub teststmt_copy : (x : S.Stmt) (a a2 : T.Test) → x ≡ S.Test a → test_of a2 ≡ moved_test m (test_of a) →
      stmt_of (S.Test a2) ≡ moved_stmt m (stmt_of x)
  unfolding moved_stmts
  teststmt_copy x a a2 is of_a =
      Views.teststmt_view a2 ∙ (λ i. tree.TestStmt (of_a i)) ∙ sym (ap (moved_stmt m) (ap stmt_of is ∙ Views.teststmt_view a))

  pub assign_copy : (x : S.Stmt) (a a2 : D.Desig) (b b2 : E.Expr) (c : _) → x ≡ S.Assign a b c → desig_of a2 ≡ moved_desig m
      (desig_of a) → expr_of b2 ≡ moved_expr m (expr_of b) → stmt_of (S.Assign a2 b2 c) ≡ moved_stmt m (stmt_of x)
  unfolding moved_stmts
  assign_copy x a a2 b b2 c is of_a of_b =
      Views.assign_view a2 b2 c ∙ (λ i. tree.Assign (of_a i) (of_b i) c) ∙ sym (ap (moved_stmt m) (ap stmt_of is ∙ Views.assign_view a b c))

  pub copycells_copy : (x : S.Stmt) (a a2 : D.Desig) (b b2 : D.Desig) → x ≡ S.CopyCells a b → desig_of a2 ≡ moved_desig m (desig_of a) →
      desig_of b2 ≡ moved_desig m (desig_of b) → stmt_of (S.CopyCells a2 b2) ≡ moved_stmt m (stmt_of x)
  unfolding moved_stmts
  copycells_copy x a a2 b b2 is of_a of_b =
      Views.copycells_view a2 b2 ∙ (λ i. tree.CopyCells (of_a i) (of_b i))
      ∙ sym (ap (moved_stmt m) (ap stmt_of is ∙ Views.copycells_view a b))

  pub if_copy : (x : S.Stmt) (a a2 : Vec Arm Global) (b b2 : Vec S.Stmt Global) → x ≡ S.If a b → arms_list a2.items ≡ moved_arms m
      (arms_list a.items) → stmts_list b2.items ≡ moved_stmts m (stmts_list b.items) → stmt_of (S.If a2 b2) ≡ moved_stmt m (stmt_of x)
  unfolding moved_stmts
  if_copy x a a2 b b2 is of_a of_b =
      Views.if_view a2 b2 ∙ (λ i. tree.If (of_a i) (of_b i)) ∙ sym (ap (moved_stmt m) (ap stmt_of is ∙ Views.if_view a b))

  pub while_copy : (x : S.Stmt) (a a2 : T.Test) (b b2 : Vec S.Stmt Global) → x ≡ S.While a b → test_of a2 ≡ moved_test m (test_of a) →
      stmts_list b2.items ≡ moved_stmts m (stmts_list b.items) → stmt_of (S.While a2 b2) ≡ moved_stmt m (stmt_of x)
  unfolding moved_stmts
  while_copy x a a2 b b2 is of_a of_b =
      Views.while_view a2 b2 ∙ (λ i. tree.While (of_a i) (of_b i)) ∙ sym (ap (moved_stmt m) (ap stmt_of is ∙ Views.while_view a b))

  pub repeat_copy : (x : S.Stmt) (a a2 : Vec S.Stmt Global) (b b2 : T.Test) → x ≡ S.Repeat a b → stmts_list a2.items ≡ moved_stmts m
      (stmts_list a.items) → test_of b2 ≡ moved_test m (test_of b) → stmt_of (S.Repeat a2 b2) ≡ moved_stmt m (stmt_of x)
  unfolding moved_stmts
  repeat_copy x a a2 b b2 is of_a of_b =
      Views.repeat_view a2 b2 ∙ (λ i. tree.Repeat (of_a i) (of_b i)) ∙ sym (ap (moved_stmt m) (ap stmt_of is ∙ Views.repeat_view a b))

  pub forto_copy : (x : S.Stmt) (a a2 : Loop) → x ≡ S.ForTo a → loop_of a2 ≡ moved_loop m (loop_of a) → stmt_of (S.ForTo a2) ≡ moved_stmt
      m (stmt_of x)
  unfolding moved_stmts
  forto_copy x a a2 is of_a =
      Views.forto_view a2 ∙ (λ i. tree.ForTo (of_a i)) ∙ sym (ap (moved_stmt m) (ap stmt_of is ∙ Views.forto_view a))

  pub someof_copy : (x : S.Stmt) (a a2 : Loop) → x ≡ S.SomeOf a → loop_of a2 ≡ moved_loop m (loop_of a) →
      stmt_of (S.SomeOf a2) ≡ moved_stmt m (stmt_of x)
  unfolding moved_stmts
  someof_copy x a a2 is of_a =
      Views.someof_view a2 ∙ (λ i. tree.SomeOf (of_a i)) ∙ sym (ap (moved_stmt m) (ap stmt_of is ∙ Views.someof_view a))

  pub either_copy : (x : S.Stmt) (a a2 : Vec Branch Global) → x ≡ S.Either a → branches_list a2.items ≡ moved_branches m
      (branches_list a.items) → stmt_of (S.Either a2) ≡ moved_stmt m (stmt_of x)
  unfolding moved_stmts
  either_copy x a a2 is of_a =
      Views.either_view a2 ∙ (λ i. tree.Either (of_a i)) ∙ sym (ap (moved_stmt m) (ap stmt_of is ∙ Views.either_view a))

  pub forall_copy : (x : S.Stmt) (a a2 : Vec S.Stmt Global) (b b2 : Vec S.Stmt Global) → x ≡ S.Forall a b →
      stmts_list a2.items ≡ moved_stmts m (stmts_list a.items) → stmts_list b2.items ≡ moved_stmts m (stmts_list b.items) →
      stmt_of (S.Forall a2 b2) ≡ moved_stmt m (stmt_of x)
  unfolding moved_stmts
  forall_copy x a a2 b b2 is of_a of_b =
      Views.forall_view a2 b2 ∙ (λ i. tree.Forall (of_a i) (of_b i)) ∙ sym (ap (moved_stmt m) (ap stmt_of is ∙ Views.forall_view a b))

  pub commit_copy : (x : S.Stmt) (a a2 : Vec S.Stmt Global) → x ≡ S.Commit a → stmts_list a2.items ≡ moved_stmts m (stmts_list a.items) →
      stmt_of (S.Commit a2) ≡ moved_stmt m (stmt_of x)
  unfolding moved_stmts
  commit_copy x a a2 is of_a =
      Views.commit_view a2 ∙ (λ i. tree.Commit (of_a i)) ∙ sym (ap (moved_stmt m) (ap stmt_of is ∙ Views.commit_view a))

  pub read_copy : (x : S.Stmt) (a a2 : D.Desig) (b : _) (c : _) → x ≡ S.Read a b c → desig_of a2 ≡ moved_desig m (desig_of a) →
      stmt_of (S.Read a2 b c) ≡ moved_stmt m (stmt_of x)
  unfolding moved_stmts
  read_copy x a a2 b c is of_a =
      Views.read_view a2 b c ∙ (λ i. tree.Read (of_a i) b c) ∙ sym (ap (moved_stmt m) (ap stmt_of is ∙ Views.read_view a b c))

  pub writeexpr_copy : (x : S.Stmt) (a a2 : E.Expr) (b : _) → x ≡ S.WriteExpr a b → expr_of a2 ≡ moved_expr m (expr_of a) →
      stmt_of (S.WriteExpr a2 b) ≡ moved_stmt m (stmt_of x)
  unfolding moved_stmts
  writeexpr_copy x a a2 b is of_a =
      Views.writeexpr_view a2 b ∙ (λ i. tree.WriteExpr (of_a i) b) ∙ sym (ap (moved_stmt m) (ap stmt_of is ∙ Views.writeexpr_view a b))

  pub value_copy : (x : T.Test) (a a2 : E.Expr) → x ≡ T.Value a → expr_of a2 ≡ moved_expr m (expr_of a) →
      test_of (T.Value a2) ≡ moved_test m (test_of x)
  unfolding moved_stmts
  value_copy x a a2 is of_a =
      Views.value_view a2 ∙ (λ i. tree.Value (of_a i)) ∙ sym (ap (moved_test m) (ap test_of is ∙ Views.value_view a))

  pub bind_copy : (x : T.Test) (a a2 : D.Desig) (b b2 : E.Expr) (c : _) (d : _) → x ≡ T.Bind a b c d → desig_of a2 ≡ moved_desig m
      (desig_of a) → expr_of b2 ≡ moved_expr m (expr_of b) → test_of (T.Bind a2 b2 c d) ≡ moved_test m (test_of x)
  unfolding moved_stmts
  bind_copy x a a2 b b2 c d is of_a of_b =
      Views.bind_view a2 b2 c d ∙ (λ i. tree.Bind (of_a i) (of_b i) c d) ∙ sym (ap (moved_test m) (ap test_of is ∙ Views.bind_view a b c d))

  pub unify_copy : (x : T.Test) (a a2 : D.Desig) (b : _) (c c2 : D.Desig) (d : _) → x ≡ T.Unify a b c d → desig_of a2 ≡ moved_desig m
      (desig_of a) → desig_of c2 ≡ moved_desig m (desig_of c) → test_of (T.Unify a2 b c2 d) ≡ moved_test m (test_of x)
  unfolding moved_stmts
  unify_copy x a a2 b c c2 d is of_a of_c =
      Views.unify_view a2 b c2 d ∙ (λ i. tree.Unify (of_a i) b (of_c i) d)
      ∙ sym (ap (moved_test m) (ap test_of is ∙ Views.unify_view a b c d))

  pub samecells_copy : (x : T.Test) (a a2 : D.Desig) (b b2 : D.Desig) → x ≡ T.SameCells a b → desig_of a2 ≡ moved_desig m (desig_of a) →
      desig_of b2 ≡ moved_desig m (desig_of b) → test_of (T.SameCells a2 b2) ≡ moved_test m (test_of x)
  unfolding moved_stmts
  samecells_copy x a a2 b b2 is of_a of_b =
      Views.samecells_view a2 b2 ∙ (λ i. tree.SameCells (of_a i) (of_b i))
      ∙ sym (ap (moved_test m) (ap test_of is ∙ Views.samecells_view a b))

  pub seq_copy : (x : T.Test) (a a2 : Vec S.Stmt Global) → x ≡ T.Seq a → stmts_list a2.items ≡ moved_stmts m (stmts_list a.items) →
      test_of (T.Seq a2) ≡ moved_test m (test_of x)
  unfolding moved_stmts
  seq_copy x a a2 is of_a =
      Views.seq_view a2 ∙ (λ i. tree.Seq (of_a i)) ∙ sym (ap (moved_test m) (ap test_of is ∙ Views.seq_view a))

  pub and_copy : (x : T.Test) (a a2 : Vec T.Test Global) → x ≡ T.And a → tests_list a2.items ≡ moved_tests m (tests_list a.items) →
      test_of (T.And a2) ≡ moved_test m (test_of x)
  unfolding moved_stmts
  and_copy x a a2 is of_a =
      Views.and_view a2 ∙ (λ i. tree.And (of_a i)) ∙ sym (ap (moved_test m) (ap test_of is ∙ Views.and_view a))

  pub or_copy : (x : T.Test) (a a2 : Vec T.Test Global) → x ≡ T.Or a → tests_list a2.items ≡ moved_tests m (tests_list a.items) →
      test_of (T.Or a2) ≡ moved_test m (test_of x)
  unfolding moved_stmts
  or_copy x a a2 is of_a =
      Views.or_view a2 ∙ (λ i. tree.Or (of_a i)) ∙ sym (ap (moved_test m) (ap test_of is ∙ Views.or_view a))

  pub not_copy : (x : T.Test) (a a2 : Box T.Test Global) → x ≡ T.Not a → test_of a2.value ≡ moved_test m (test_of a.value) →
      test_of (T.Not a2) ≡ moved_test m (test_of x)
  unfolding moved_stmts
  not_copy x a a2 is of_a =
      Views.not_view a2 ∙ (λ i. tree.Not (of_a i)) ∙ sym (ap (moved_test m) (ap test_of is ∙ Views.not_view a))

  pub load_copy : (x : E.Expr) (a a2 : D.Desig) → x ≡ E.Load a → desig_of a2 ≡ moved_desig m (desig_of a) →
      expr_of (E.Load a2) ≡ moved_expr m (expr_of x)
  unfolding moved_stmts
  load_copy x a a2 is of_a =
      Views.load_view a2 ∙ (λ i. tree.Load (of_a i)) ∙ sym (ap (moved_expr m) (ap expr_of is ∙ Views.load_view a))

  pub chain_copy : (x : E.Expr) (a : _) (b b2 : Box E.Expr Global) (c c2 : Vec Link Global) → x ≡ E.Chain a b c →
      expr_of b2.value ≡ moved_expr m (expr_of b.value) → links_list c2.items ≡ moved_links m (links_list c.items) →
      expr_of (E.Chain a b2 c2) ≡ moved_expr m (expr_of x)
  unfolding moved_stmts
  chain_copy x a b b2 c c2 is of_b of_c =
      Views.chain_view a b2 c2 ∙ (λ i. tree.Chain a (of_b i) (of_c i)) ∙ sym (ap (moved_expr m) (ap expr_of is ∙ Views.chain_view a b c))

  pub compare_copy : (x : E.Expr) (a : _) (b b2 : Box E.Expr Global) (c c2 : Box E.Expr Global) → x ≡ E.Compare a b c →
      expr_of b2.value ≡ moved_expr m (expr_of b.value) → expr_of c2.value ≡ moved_expr m (expr_of c.value) → expr_of (E.Compare a b2 c2)
      ≡ moved_expr m (expr_of x)
  unfolding moved_stmts
  compare_copy x a b b2 c c2 is of_b of_c =
      Views.compare_view a b2 c2 ∙ (λ i. tree.Compare a (of_b i) (of_c i))
      ∙ sym (ap (moved_expr m) (ap expr_of is ∙ Views.compare_view a b c))

  pub truth_copy : (x : E.Expr) (a a2 : Box T.Test Global) → x ≡ E.Truth a → test_of a2.value ≡ moved_test m (test_of a.value) →
      expr_of (E.Truth a2) ≡ moved_expr m (expr_of x)
  unfolding moved_stmts
  truth_copy x a a2 is of_a =
      Views.truth_view a2 ∙ (λ i. tree.Truth (of_a i)) ∙ sym (ap (moved_expr m) (ap expr_of is ∙ Views.truth_view a))

  pub known_copy : (x : E.Expr) (a a2 : D.Desig) → x ≡ E.Known a → desig_of a2 ≡ moved_desig m (desig_of a) →
      expr_of (E.Known a2) ≡ moved_expr m (expr_of x)
  unfolding moved_stmts
  known_copy x a a2 is of_a =
      Views.known_view a2 ∙ (λ i. tree.Known (of_a i)) ∙ sym (ap (moved_expr m) (ap expr_of is ∙ Views.known_view a))

  pub chr_copy : (x : E.Expr) (a a2 : Box E.Expr Global) → x ≡ E.Chr a → expr_of a2.value ≡ moved_expr m (expr_of a.value) →
      expr_of (E.Chr a2) ≡ moved_expr m (expr_of x)
  unfolding moved_stmts
  chr_copy x a a2 is of_a =
      Views.chr_view a2 ∙ (λ i. tree.Chr (of_a i)) ∙ sym (ap (moved_expr m) (ap expr_of is ∙ Views.chr_view a))

  pub byvalue_copy : (x : A.Arg) (a a2 : E.Expr) (b : _) → x ≡ A.Value a b → expr_of a2 ≡ moved_expr m (expr_of a) →
      arg_of (A.Value a2 b) ≡ moved_arg m (arg_of x)
  unfolding moved_stmts
  byvalue_copy x a a2 b is of_a =
      Views.byvalue_view a2 b ∙ (λ i. tree.ByValue (of_a i) b) ∙ sym (ap (moved_arg m) (ap arg_of is ∙ Views.byvalue_view a b))

  pub bycells_copy : (x : A.Arg) (a a2 : D.Desig) → x ≡ A.Cells a → desig_of a2 ≡ moved_desig m (desig_of a) →
      arg_of (A.Cells a2) ≡ moved_arg m (arg_of x)
  unfolding moved_stmts
  bycells_copy x a a2 is of_a =
      Views.bycells_view a2 ∙ (λ i. tree.ByCells (of_a i)) ∙ sym (ap (moved_arg m) (ap arg_of is ∙ Views.bycells_view a))

  pub byplace_copy : (x : A.Arg) (a a2 : D.Desig) → x ≡ A.Place a → desig_of a2 ≡ moved_desig m (desig_of a) →
      arg_of (A.Place a2) ≡ moved_arg m (arg_of x)
  unfolding moved_stmts
  byplace_copy x a a2 is of_a =
      Views.byplace_view a2 ∙ (λ i. tree.ByPlace (of_a i)) ∙ sym (ap (moved_arg m) (ap arg_of is ∙ Views.byplace_view a))

  pub mixvalue_copy : (x : A.Arg) (a a2 : E.Expr) (b : _) → x ≡ A.MixValue a b → expr_of a2 ≡ moved_expr m (expr_of a) →
      arg_of (A.MixValue a2 b) ≡ moved_arg m (arg_of x)
  unfolding moved_stmts
  mixvalue_copy x a a2 b is of_a =
      Views.mixvalue_view a2 b ∙ (λ i. tree.MixValue (of_a i) b) ∙ sym (ap (moved_arg m) (ap arg_of is ∙ Views.mixvalue_view a b))

  pub mixplace_copy : (x : A.Arg) (a a2 : D.Desig) → x ≡ A.MixPlace a → desig_of a2 ≡ moved_desig m (desig_of a) →
      arg_of (A.MixPlace a2) ≡ moved_arg m (arg_of x)
  unfolding moved_stmts
  mixplace_copy x a a2 is of_a =
      Views.mixplace_view a2 ∙ (λ i. tree.MixPlace (of_a i)) ∙ sym (ap (moved_arg m) (ap arg_of is ∙ Views.mixplace_view a))

  pub index_copy : (x : L.Sel) (a a2 : E.Expr) (b : _) (c : _) → x ≡ L.Index a b c → expr_of a2 ≡ moved_expr m (expr_of a) →
      sel_of (L.Index a2 b c) ≡ moved_sel m (sel_of x)
  unfolding moved_stmts
  index_copy x a a2 b c is of_a =
      Views.index_view a2 b c ∙ (λ i. tree.Index (of_a i) b c) ∙ sym (ap (moved_sel m) (ap sel_of is ∙ Views.index_view a b c))

  pub case_none_copy : (x : S.Stmt) (a a2 : E.Expr) (b b2 : Vec CaseArm Global) → x ≡ S.Case a b None → expr_of a2 ≡ moved_expr m
      (expr_of a) → cases_list b2.items ≡ moved_cases m (cases_list b.items) → stmt_of (S.Case a2 b2 None) ≡ moved_stmt m (stmt_of x)
  unfolding moved_stmts
  case_none_copy x a a2 b b2 is of_a of_b =
      Views.case_view a2 b2 None ∙ (λ i. tree.Case (of_a i) (of_b i) tree.no_else)
      ∙ sym (ap (moved_stmt m) (ap stmt_of is ∙ Views.case_view a b None))

  pub case_some_copy : (x : S.Stmt) (a a2 : E.Expr) (b b2 : Vec CaseArm Global) (d d2 : Vec S.Stmt Global) → x ≡ S.Case a b (Some d) →
      expr_of a2 ≡ moved_expr m (expr_of a) → cases_list b2.items ≡ moved_cases m (cases_list b.items) → stmts_list d2.items ≡ moved_stmts
      m (stmts_list d.items) → stmt_of (S.Case a2 b2 (Some d2)) ≡ moved_stmt m (stmt_of x)
  unfolding moved_stmts
  case_some_copy x a a2 b b2 d d2 is of_a of_b of_d =
      Views.case_view a2 b2 (Some d2) ∙ (λ i. tree.Case (of_a i) (of_b i) (tree.else_part (of_d i)))
      ∙ sym (ap (moved_stmt m) (ap stmt_of is ∙ Views.case_view a b (Some d)))

  pub return_none_copy : (x : S.Stmt) → x ≡ S.Return None → stmt_of (S.Return None) ≡ moved_stmt m (stmt_of x)
  unfolding moved_stmts
  return_none_copy x is = Views.return_view None ∙ sym (ap (moved_stmt m) (ap stmt_of is ∙ Views.return_view None))

  pub return_some_copy : (x : S.Stmt) (a a2 : E.Expr) → x ≡ S.Return (Some a) → expr_of a2 ≡ moved_expr m (expr_of a) →
      stmt_of (S.Return (Some a2)) ≡ moved_stmt m (stmt_of x)
  unfolding moved_stmts
  return_some_copy x a a2 is of_a =
      Views.return_view (Some a2) ∙ (λ i. tree.Return (tree.some_result (of_a i)))
      ∙ sym (ap (moved_stmt m) (ap stmt_of is ∙ Views.return_view (Some a)))

  pub writetext_copy : (x : S.Stmt) (a a2 : Vec ℕ Global) → x ≡ S.WriteText a → a2.items ≡ a.items → stmt_of (S.WriteText a2) ≡ moved_stmt
      m (stmt_of x)
  unfolding moved_stmts
  writetext_copy x a a2 is same =
      Views.writetext_view a2 ∙ ap tree.WriteText same ∙ sym (ap (moved_stmt m) (ap stmt_of is ∙ Views.writetext_view a))

  pub writeline_copy : (x : S.Stmt) → x ≡ S.WriteLine → stmt_of S.WriteLine ≡ moved_stmt m (stmt_of x)
  unfolding moved_stmts
  writeline_copy x is = Views.writeline_view ∙ sym (ap (moved_stmt m) (ap stmt_of is ∙ Views.writeline_view))

  pub calltest_copy : (x : T.Test) (a b : Call) → x ≡ T.Call a → b.routine ≡ m.routine a.routine → args_list b.args.items ≡ moved_args m
      (args_list a.args.items) → b.up ≡ a.up → test_of (T.Call b) ≡ moved_test m (test_of x)
  unfolding moved_stmts
  calltest_copy x a b is routine args up =
      Views.calltest_view b ∙ (λ i. tree.CallTest (routine i) (args i) (up i))
      ∙ sym (ap (moved_test m) (ap test_of is ∙ Views.calltest_view a))

  pub callexpr_copy : (x : E.Expr) (a b : Call) → x ≡ E.Call a → b.routine ≡ m.routine a.routine → args_list b.args.items ≡ moved_args m
      (args_list a.args.items) → b.up ≡ a.up → expr_of (E.Call b) ≡ moved_expr m (expr_of x)
  unfolding moved_stmts
  callexpr_copy x a b is routine args up =
      Views.callexpr_view b ∙ (λ i. tree.CallExpr (routine i) (args i) (up i))
      ∙ sym (ap (moved_expr m) (ap expr_of is ∙ Views.callexpr_view a))

  pub const_copy : (x : E.Expr) (n n2 : _) → x ≡ E.Const n → n2 ≡ n → expr_of (E.Const n2) ≡ moved_expr m (expr_of x)
  unfolding moved_stmts
  const_copy x n n2 is same = Views.const_view n2 ∙ ap tree.Const same ∙ sym (ap (moved_expr m) (ap expr_of is ∙ Views.const_view n))

  pub loop_copy : (x : Loop) (var : tree.Desig) (range : Range) (counter limit : ℕ) (from to : tree.Expr) (by : ℤ) (body : tree.Stmts) →
      var ≡ moved_desig m (desig_of x.var) → range ≡ x.range → counter ≡ m.own x.counter → limit ≡ m.own x.limit →
      from ≡ moved_expr m (expr_of x.from) → to ≡ moved_expr m (expr_of x.to) → by ≡ x.by →
      body ≡ moved_stmts m (stmts_list x.body.items) → tree.a_loop var range counter limit from to by body ≡ moved_loop m (loop_of x)
  unfolding moved_stmts
  loop_copy x var range counter limit from to by body of_var of_range of_counter of_limit of_from of_to of_by of_body =
      λ i. tree.a_loop (of_var i) (of_range i) (of_counter i) (of_limit i) (of_from i) (of_to i) (of_by i) (of_body i)

  pub desig_copy : (x : D.Desig) (at : Root) (cells : ℕ) (sels : tree.Sels) → at ≡ moved_root m x.root → cells ≡ x.cells →
      sels ≡ moved_sels m (sels_list x.sels.items) → tree.a_desig at cells sels ≡ moved_desig m (desig_of x)
  unfolding moved_stmts
  desig_copy x at cells sels of_at of_cells of_sels = λ i. tree.a_desig (of_at i) (of_cells i) (of_sels i)

  pub field_copy : (x : L.Sel) (o n : _) → x ≡ L.Field o n → sel_of (L.Field o n) ≡ moved_sel m (sel_of x)
  unfolding moved_stmts
  field_copy x o n is = Views.field_view o n ∙ sym (ap (moved_sel m) (ap sel_of is ∙ Views.field_view o n))
