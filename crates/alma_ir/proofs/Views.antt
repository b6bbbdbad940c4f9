-- What a value made by a variant stands for.
use Rattle.std.proofs.Common.{◌≡◌, refl, sym, ap, ◌∙◌}
use Rattle.std.specs.Prelude.{Vec, Option, Some, None}
use Rattle.std.specs.declared.alloc.Global.{Global}
use Rattle.alma_ir.specs.declared.phrase.Stmt as S
use Rattle.alma_ir.specs.declared.phrase.Test as T
use Rattle.alma_ir.specs.declared.phrase.Expr as E
use Rattle.alma_ir.specs.declared.phrase.Arg as A
use Rattle.alma_ir.specs.declared.phrase.Sel as L
use Rattle.alma_ir.specs.declared.phrase.Desig as D
use Rattle.alma_ir.specs.declared.phrase.Arm.{Arm}
use Rattle.alma_ir.specs.declared.phrase.CaseArm.{CaseArm}
use Rattle.alma_ir.specs.declared.phrase.Branch.{Branch}
use Rattle.alma_ir.specs.declared.phrase.Loop.{Loop}
use Rattle.alma_ir.specs.declared.phrase.Link.{Link}
use Rattle.alma_ir.specs.declared.phrase.Call.{Call}
use Rattle.alma_ir.specs.declared.phrase.Arg.TheBlock as B
use Rattle.alma_ir.specs.Tree
use Rattle.alma_ir.specs.View

-- ---- a row of phrases is the list of its items

pub stmts_row : (n : _) (k : B.Row_of-Stmt n) → View.stmts_of k ≡ View.stmts_list (B.items-the_row-Stmt n k)
unfolding View.stmts_of
stmts_row n B.end_of-Stmt = refl
stmts_row n (B.more_of-Stmt x rest) = ap (Tree.more_stmts 0 (View.stmt_of x)) (stmts_row _ rest)

pub stmts_held : (v : Vec S.Stmt Global) → View.stmts_of (B.hidden-the_row-Stmt-3 v) ≡ View.stmts_list v.items
stmts_held v = stmts_row _ (B.hidden-the_row-Stmt-3 v) ∙ ap View.stmts_list (B.items_hidden-the_row-Stmt-3 v)

pub tests_row : (n : _) (k : B.Row_of-Test n) → View.tests_of k ≡ View.tests_list (B.items-the_row-Test n k)
unfolding View.stmts_of
tests_row n B.end_of-Test = refl
tests_row n (B.more_of-Test x rest) = ap (Tree.more_tests (View.test_of x)) (tests_row _ rest)

pub tests_held : (v : Vec T.Test Global) → View.tests_of (B.hidden-the_row-Test-7 v) ≡ View.tests_list v.items
tests_held v = tests_row _ (B.hidden-the_row-Test-7 v) ∙ ap View.tests_list (B.items_hidden-the_row-Test-7 v)

pub args_row : (n : _) (k : B.Row_of-Arg n) → View.args_of k ≡ View.args_list (B.items-the_row-Arg n k)
unfolding View.stmts_of
args_row n B.end_of-Arg = refl
args_row n (B.more_of-Arg x rest) = ap (Tree.more_args (View.arg_of x)) (args_row _ rest)

pub args_held : (v : Vec A.Arg Global) → View.args_of (B.hidden-the_row-Arg-2 v) ≡ View.args_list v.items
args_held v = args_row _ (B.hidden-the_row-Arg-2 v) ∙ ap View.args_list (B.items_hidden-the_row-Arg-2 v)

pub sels_row : (n : _) (k : B.Row_of-Sel n) → View.sels_of k ≡ View.sels_list (B.items-the_row-Sel n k)
unfolding View.stmts_of
sels_row n B.end_of-Sel = refl
sels_row n (B.more_of-Sel x rest) = ap (Tree.more_sels (View.sel_of x)) (sels_row _ rest)

pub sels_held : (v : Vec L.Sel Global) → View.sels_of (B.hidden-the_row-Sel-0 v) ≡ View.sels_list v.items
sels_held v = sels_row _ (B.hidden-the_row-Sel-0 v) ∙ ap View.sels_list (B.items_hidden-the_row-Sel-0 v)

-- the statements of a vector that is put together again
pub stmts_shown : (v : _) (k : _) → View.stmts_of k ≡ View.stmts_list (B.shown-the_row-Stmt-3 v k).items
stmts_shown v k = stmts_row _ k ∙ ap View.stmts_list (sym (B.items_shown-the_row-Stmt-3 v k))

pub links_row : (n : _) (k : B.Row_of-Link n) → View.links_of k ≡ View.links_list (B.items-the_row-Link n k)
unfolding View.stmts_of
links_row n B.end_of-Link = refl
links_row n (B.more_of-Link op e rest) = ap (Tree.more_links op (View.expr_of e)) (links_row _ rest)

pub links_held : (v : Vec Link Global) → View.links_of (B.hidden-the_row-Link-1 v) ≡ View.links_list v.items
links_held v = links_row _ (B.hidden-the_row-Link-1 v) ∙ ap View.links_list (B.items_hidden-the_row-Link-1 v)

pub arms_row : (n : _) (k : B.Row_of-Arm n) → View.arms_of k ≡ View.arms_list (B.items-the_row-Arm n k)
unfolding View.stmts_of
arms_row n B.end_of-Arm = refl
arms_row n (B.more_of-Arm t v body rest) =
    ap (λ b. Tree.more_arms (View.test_of t) b (View.arms_of rest)) (stmts_shown v body) ∙
    ap (Tree.more_arms (View.test_of t) (View.stmts_list (B.shown-the_row-Stmt-3 v body).items)) (arms_row _ rest)

pub arms_held : (v : Vec Arm Global) → View.arms_of (B.hidden-the_row-Arm-4 v) ≡ View.arms_list v.items
arms_held v = arms_row _ (B.hidden-the_row-Arm-4 v) ∙ ap View.arms_list (B.items_hidden-the_row-Arm-4 v)

pub cases_row : (n : _) (k : B.Row_of-CaseArm n) → View.cases_of k ≡ View.cases_list (B.items-the_row-CaseArm n k)
unfolding View.stmts_of
cases_row n B.end_of-CaseArm = refl
cases_row n (B.more_of-CaseArm ls v body rest) =
    ap (λ b. Tree.more_cases ls.items b (View.cases_of rest)) (stmts_shown v body) ∙
    ap (Tree.more_cases ls.items (View.stmts_list (B.shown-the_row-Stmt-3 v body).items)) (cases_row _ rest)

pub cases_held : (v : Vec CaseArm Global) → View.cases_of (B.hidden-the_row-CaseArm-5 v) ≡ View.cases_list v.items
cases_held v = cases_row _ (B.hidden-the_row-CaseArm-5 v) ∙ ap View.cases_list (B.items_hidden-the_row-CaseArm-5 v)

pub branches_row : (n : _) (k : B.Row_of-Branch n) → View.branches_of k ≡ View.branches_list (B.items-the_row-Branch n k)
unfolding View.stmts_of
branches_row n B.end_of-Branch = refl
branches_row n (B.more_of-Branch v body rest) =
    ap (λ b. Tree.more_branches b (View.branches_of rest)) (stmts_shown v body) ∙
    ap (Tree.more_branches (View.stmts_list (B.shown-the_row-Stmt-3 v body).items)) (branches_row _ rest)

pub branches_held : (v : Vec Branch Global) → View.branches_of (B.hidden-the_row-Branch-6 v) ≡ View.branches_list v.items
branches_held v = branches_row _ (B.hidden-the_row-Branch-6 v) ∙ ap View.branches_list (B.items_hidden-the_row-Branch-6 v)

-- ---- statements

pub teststmt_view : (t : T.Test) → View.stmt_of (S.Test t) ≡ Tree.TestStmt (View.test_of t)
unfolding View.stmts_of
teststmt_view t = refl

pub assign_view : (d : D.Desig) (e : E.Expr) (r : _) → View.stmt_of (S.Assign d e r) ≡ Tree.Assign (View.desig_of d) (View.expr_of e) r
unfolding View.stmts_of
assign_view d e r = ap (λ x. Tree.Assign (Tree.a_desig d.root d.cells x) (View.expr_of e) r) (sels_held d.sels)

pub copycells_view : (d e : D.Desig) → View.stmt_of (S.CopyCells d e) ≡ Tree.CopyCells (View.desig_of d) (View.desig_of e)
unfolding View.stmts_of
copycells_view d e = rw (sels_held d.sels, sels_held e.sels)

pub if_view : (a : Vec Arm Global) (v : Vec S.Stmt Global)
    → View.stmt_of (S.If a v) ≡ Tree.If (View.arms_list a.items) (View.stmts_list v.items)
unfolding View.stmts_of
if_view a v = rw (arms_held a, stmts_held v)

pub while_view : (t : T.Test) (v : Vec S.Stmt Global) → View.stmt_of (S.While t v) ≡ Tree.While (View.test_of t) (View.stmts_list v.items)
unfolding View.stmts_of
while_view t v = ap (Tree.While (View.test_of t)) (stmts_held v)

pub repeat_view : (v : Vec S.Stmt Global) (t : T.Test)
    → View.stmt_of (S.Repeat v t) ≡ Tree.Repeat (View.stmts_list v.items) (View.test_of t)
unfolding View.stmts_of
repeat_view v t = ap (λ x. Tree.Repeat x (View.test_of t)) (stmts_held v)

pub forto_view : (l : Loop) → View.stmt_of (S.ForTo l) ≡ Tree.ForTo (View.loop_of l)
unfolding View.stmts_of
forto_view l = rw (sels_held l.var.sels, stmts_held l.body)

pub someof_view : (l : Loop) → View.stmt_of (S.SomeOf l) ≡ Tree.SomeOf (View.loop_of l)
unfolding View.stmts_of
someof_view l = rw (sels_held l.var.sels, stmts_held l.body)

pub either_view : (v : Vec Branch Global) → View.stmt_of (S.Either v) ≡ Tree.Either (View.branches_list v.items)
unfolding View.stmts_of
either_view v = ap Tree.Either (branches_held v)

pub forall_view : (v w : Vec S.Stmt Global) → View.stmt_of (S.Forall v w) ≡ Tree.Forall (View.stmts_list v.items) (View.stmts_list w.items)
unfolding View.stmts_of
forall_view v w = rw (stmts_held v, stmts_held w)

pub commit_view : (v : Vec S.Stmt Global) → View.stmt_of (S.Commit v) ≡ Tree.Commit (View.stmts_list v.items)
unfolding View.stmts_of
commit_view v = ap Tree.Commit (stmts_held v)

pub load_view : (d : D.Desig) → View.expr_of (E.Load d) ≡ Tree.Load (View.desig_of d)
unfolding View.stmts_of
load_view d = ap (λ x. Tree.Load (Tree.a_desig d.root d.cells x)) (sels_held d.sels)

pub chain_view : (neg : _) (e : _) (v : Vec Link Global)
    → View.expr_of (E.Chain neg e v) ≡ Tree.Chain neg (View.expr_of e.value) (View.links_list v.items)
unfolding View.stmts_of
chain_view neg e v = ap (Tree.Chain neg (View.expr_of e.value)) (links_held v)

pub not_view : (t : _) → View.test_of (T.Not t) ≡ Tree.Not (View.test_of t.value)
unfolding View.stmts_of
not_view t = refl

pub callexpr_view : (c : Call) → View.expr_of (E.Call c) ≡ Tree.CallExpr c.routine (View.args_list c.args.items) c.up
unfolding View.stmts_of
callexpr_view c = ap (λ a. Tree.CallExpr c.routine a c.up) (args_held c.args)

pub return_view : (x : Option E.Expr) → View.stmt_of (S.Return x) ≡ Tree.Return (View.return_option x)
unfolding View.stmts_of
return_view None = refl
return_view (Some e) = refl

pub case_view : (e : E.Expr) (v : Vec CaseArm Global) (x : Option (Vec S.Stmt Global))
    → View.stmt_of (S.Case e v x) ≡ Tree.Case (View.expr_of e) (View.cases_list v.items) (View.else_option x)
unfolding View.stmts_of
case_view e v None = rw (cases_held v)
case_view e v (Some w) = rw (cases_held v, stmts_held w)

pub read_view : (d : D.Desig) (how r : _) → View.stmt_of (S.Read d how r) ≡ Tree.Read (View.desig_of d) how r
unfolding View.stmts_of
read_view d how r = rw (sels_held d.sels)

pub writeexpr_view : (e : E.Expr) (how : _) → View.stmt_of (S.WriteExpr e how) ≡ Tree.WriteExpr (View.expr_of e) how
unfolding View.stmts_of
writeexpr_view e how = refl

pub writetext_view : (v : _) → View.stmt_of (S.WriteText v) ≡ Tree.WriteText v.items
unfolding View.stmts_of
writetext_view v = refl

pub writeline_view : View.stmt_of S.WriteLine ≡ Tree.WriteLine
unfolding View.stmts_of
writeline_view = refl

-- ---- tests

pub value_view : (e : E.Expr) → View.test_of (T.Value e) ≡ Tree.Value (View.expr_of e)
unfolding View.stmts_of
value_view e = refl

pub bind_view : (d : D.Desig) (e : E.Expr) (r left : _)
    → View.test_of (T.Bind d e r left) ≡ Tree.Bind (View.desig_of d) (View.expr_of e) r left
unfolding View.stmts_of
bind_view d e r left = rw (sels_held d.sels)

pub unify_view : (d : D.Desig) (r : _) (e : D.Desig) (r' : _)
    → View.test_of (T.Unify d r e r') ≡ Tree.Unify (View.desig_of d) r (View.desig_of e) r'
unfolding View.stmts_of
unify_view d r e r' = rw (sels_held d.sels, sels_held e.sels)

pub samecells_view : (d e : D.Desig) → View.test_of (T.SameCells d e) ≡ Tree.SameCells (View.desig_of d) (View.desig_of e)
unfolding View.stmts_of
samecells_view d e = rw (sels_held d.sels, sels_held e.sels)

pub seq_view : (v : Vec S.Stmt Global) → View.test_of (T.Seq v) ≡ Tree.Seq (View.stmts_list v.items)
unfolding View.stmts_of
seq_view v = rw (stmts_held v)

pub and_view : (v : Vec T.Test Global) → View.test_of (T.And v) ≡ Tree.And (View.tests_list v.items)
unfolding View.stmts_of
and_view v = rw (tests_held v)

pub or_view : (v : Vec T.Test Global) → View.test_of (T.Or v) ≡ Tree.Or (View.tests_list v.items)
unfolding View.stmts_of
or_view v = rw (tests_held v)

pub calltest_view : (c : Call) → View.test_of (T.Call c) ≡ Tree.CallTest c.routine (View.args_list c.args.items) c.up
unfolding View.stmts_of
calltest_view c = rw (args_held c.args)

-- ---- expressions

pub const_view : (n : _) → View.expr_of (E.Const n) ≡ Tree.Const n
unfolding View.stmts_of
const_view n = refl

pub compare_view : (c a b : _) → View.expr_of (E.Compare c a b) ≡ Tree.Compare c (View.expr_of a.value) (View.expr_of b.value)
unfolding View.stmts_of
compare_view c a b = refl

pub truth_view : (t : _) → View.expr_of (E.Truth t) ≡ Tree.Truth (View.test_of t.value)
unfolding View.stmts_of
truth_view t = refl

pub known_view : (d : D.Desig) → View.expr_of (E.Known d) ≡ Tree.Known (View.desig_of d)
unfolding View.stmts_of
known_view d = rw (sels_held d.sels)

pub chr_view : (e : _) → View.expr_of (E.Chr e) ≡ Tree.Chr (View.expr_of e.value)
unfolding View.stmts_of
chr_view e = refl

-- ---- arguments and selectors

pub byvalue_view : (e : E.Expr) (r : _) → View.arg_of (A.Value e r) ≡ Tree.ByValue (View.expr_of e) r
unfolding View.stmts_of
byvalue_view e r = refl

pub bycells_view : (d : D.Desig) → View.arg_of (A.Cells d) ≡ Tree.ByCells (View.desig_of d)
unfolding View.stmts_of
bycells_view d = rw (sels_held d.sels)

pub byplace_view : (d : D.Desig) → View.arg_of (A.Place d) ≡ Tree.ByPlace (View.desig_of d)
unfolding View.stmts_of
byplace_view d = rw (sels_held d.sels)

pub mixvalue_view : (e : E.Expr) (r : _) → View.arg_of (A.MixValue e r) ≡ Tree.MixValue (View.expr_of e) r
unfolding View.stmts_of
mixvalue_view e r = refl

pub mixplace_view : (d : D.Desig) → View.arg_of (A.MixPlace d) ≡ Tree.MixPlace (View.desig_of d)
unfolding View.stmts_of
mixplace_view d = rw (sels_held d.sels)

pub field_view : (o c : _) → View.sel_of (L.Field o c) ≡ Tree.Field o c
unfolding View.stmts_of
field_view o c = refl

pub index_view : (e : E.Expr) (r c : _) → View.sel_of (L.Index e r c) ≡ Tree.Index (View.expr_of e) r c
unfolding View.stmts_of
index_view e r c = refl

-- all of these, for tactics
pub ruleset viewed = (
  teststmt_view,
  assign_view,
  copycells_view,
  if_view,
  while_view,
  repeat_view,
  forto_view,
  someof_view,
  either_view,
  forall_view,
  commit_view,
  load_view,
  chain_view,
  not_view,
  callexpr_view,
  return_view,
  case_view,
  read_view,
  writeexpr_view,
  writetext_view,
  writeline_view,
  value_view,
  bind_view,
  unify_view,
  samecells_view,
  seq_view,
  and_view,
  or_view,
  calltest_view,
  const_view,
  compare_view,
  truth_view,
  known_view,
  chr_view,
  byvalue_view,
  bycells_view,
  byplace_view,
  mixvalue_view,
  mixplace_view,
  field_view,
  index_view,
)
