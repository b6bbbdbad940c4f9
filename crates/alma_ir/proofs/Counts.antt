-- Counts of nodes as sums, and what one value counts.
use Rattle.std.proofs.Common.{◌≡◌, ℕ, ◌+◌, List, length, refl, ap, ◌∙◌, arith}
use Rattle.std.specs.Prelude.{Vec, Some, None, sum_by, map}
use Rattle.std.specs.declared.alloc.Global.{Global}
use Rattle.alma_ir.specs.declared.phrase.Stmt as S
use Rattle.alma_ir.specs.declared.phrase.Test as T
use Rattle.alma_ir.specs.declared.phrase.Expr as E
use Rattle.alma_ir.specs.declared.phrase.Arg as A
use Rattle.alma_ir.specs.declared.phrase.Sel as L
use Rattle.alma_ir.specs.declared.phrase.Desig as D
use Rattle.alma_ir.specs.declared.phrase.Arm.{Arm}
use Rattle.alma_ir.specs.declared.phrase.CaseArm.{CaseArm}
use Rattle.alma_ir.specs.declared.phrase.Branch.{Branch}
use Rattle.alma_ir.specs.declared.phrase.Loop.{Loop}
use Rattle.alma_ir.specs.declared.phrase.Link.{Link}
use Rattle.alma_ir.specs.declared.phrase.Call.{Call}
use Rattle.alma_ir.specs.declared.program.Routine.{Routine}
use Rattle.alma_ir.specs.View.{stmt_of, test_of, expr_of, arg_of, sel_of, desig_of, loop_of, routine_of, stmts_list, tests_list, args_list}
use Rattle.alma_ir.specs.View.{sels_list, arms_list, cases_list, branches_list, links_list}
use Rattle.alma_ir.specs.Count.{stmts_nodes, stmt_nodes, arms_nodes, cases_nodes, branches_nodes, test_nodes, tests_nodes, expr_nodes}
use Rattle.alma_ir.specs.Count.{links_nodes, args_nodes, arg_nodes, desig_nodes, sels_nodes, sel_nodes, loop_nodes, routines_nodes}
use Rattle.alma_ir.specs.Count.{saturate}
use Rattle.alma_ir.proofs.Views
use Rattle.std.proofs.lemmas.List.Recursion.{is_sum_by}

-- what an element of a list counts
abbrev pub of_stmt : S.Stmt → ℕ
of_stmt x = stmt_nodes (stmt_of x)

abbrev pub of_test : T.Test → ℕ
of_test x = test_nodes (test_of x)

abbrev pub of_expr : E.Expr → ℕ
of_expr x = expr_nodes (expr_of x)

abbrev pub of_arg : A.Arg → ℕ
of_arg x = arg_nodes (arg_of x)

abbrev pub of_sel : L.Sel → ℕ
of_sel x = sel_nodes (sel_of x)

abbrev pub of_link : Link → ℕ
of_link x = expr_nodes (expr_of x.operand)

abbrev pub of_arm : Arm → ℕ
of_arm x = 1 + test_nodes (test_of x.cond) + stmts_nodes (stmts_list x.body.items)

abbrev pub of_case : CaseArm → ℕ
of_case x = 1 + length x.labels.items + stmts_nodes (stmts_list x.body.items)

abbrev pub of_branch : Branch → ℕ
of_branch x = 1 + stmts_nodes (stmts_list x.body.items)

abbrev pub of_routine : Routine → ℕ
of_routine x = 1 + stmts_nodes (stmts_list x.body.items)

-- what a part counts, stopped at 2^64-1
abbrev pub by_expr : E.Expr → ℕ
by_expr e = saturate (expr_nodes (expr_of e))

abbrev pub by_test : T.Test → ℕ
by_test t = saturate (test_nodes (test_of t))

abbrev pub by_stmts : List S.Stmt → ℕ
by_stmts xs = saturate (stmts_nodes (stmts_list xs))

abbrev pub by_tests : List T.Test → ℕ
by_tests xs = saturate (tests_nodes (tests_list xs))

abbrev pub by_args : List A.Arg → ℕ
by_args xs = saturate (args_nodes (args_list xs))

abbrev pub by_arms : List Arm → ℕ
by_arms xs = saturate (arms_nodes (arms_list xs))

abbrev pub by_cases : List CaseArm → ℕ
by_cases xs = saturate (cases_nodes (cases_list xs))

abbrev pub by_branches : List Branch → ℕ
by_branches xs = saturate (branches_nodes (branches_list xs))

abbrev pub by_links : List Link → ℕ
by_links xs = saturate (links_nodes (links_list xs))

pub stmts_sum : (xs : List S.Stmt) → stmts_nodes (stmts_list xs) ≡ sum_by of_stmt xs
stmts_sum = is_sum_by (λ xs. stmts_nodes (stmts_list xs)) of_stmt refl (λ _ _. refl)

pub tests_sum : (xs : List T.Test) → tests_nodes (tests_list xs) ≡ sum_by of_test xs
tests_sum = is_sum_by (λ xs. tests_nodes (tests_list xs)) of_test refl (λ _ _. refl)

pub args_sum : (xs : List A.Arg) → args_nodes (args_list xs) ≡ sum_by of_arg xs
args_sum = is_sum_by (λ xs. args_nodes (args_list xs)) of_arg refl (λ _ _. refl)

pub sels_sum : (xs : List L.Sel) → sels_nodes (sels_list xs) ≡ sum_by of_sel xs
sels_sum = is_sum_by (λ xs. sels_nodes (sels_list xs)) of_sel refl (λ _ _. refl)

pub links_sum : (xs : List Link) → links_nodes (links_list xs) ≡ sum_by of_link xs
links_sum = is_sum_by (λ xs. links_nodes (links_list xs)) of_link refl (λ _ _. refl)

pub arms_sum : (xs : List Arm) → arms_nodes (arms_list xs) ≡ sum_by of_arm xs
arms_sum = is_sum_by (λ xs. arms_nodes (arms_list xs)) of_arm refl (λ _ _. refl)

pub cases_sum : (xs : List CaseArm) → cases_nodes (cases_list xs) ≡ sum_by of_case xs
cases_sum = is_sum_by (λ xs. cases_nodes (cases_list xs)) of_case refl (λ _ _. refl)

pub branches_sum : (xs : List Branch) → branches_nodes (branches_list xs) ≡ sum_by of_branch xs
branches_sum = is_sum_by (λ xs. branches_nodes (branches_list xs)) of_branch refl (λ _ _. refl)

pub routines_sum : (xs : List Routine) → routines_nodes (map routine_of xs) ≡ sum_by of_routine xs
routines_sum = is_sum_by (λ xs. routines_nodes (map routine_of xs)) of_routine refl (λ _ _. refl)

-- ---- what a value made by a variant counts

pub teststmt_nodes : (t : T.Test) → stmt_nodes (stmt_of (S.Test t)) ≡ 1 + test_nodes (test_of t)
teststmt_nodes t = ap stmt_nodes (Views.teststmt_view t)

pub assign_nodes : (d : D.Desig) (e : E.Expr) (r : _)
    → stmt_nodes (stmt_of (S.Assign d e r)) ≡ 1 + desig_nodes (desig_of d) + expr_nodes (expr_of e)
assign_nodes d e r = ap stmt_nodes (Views.assign_view d e r)

pub copycells_nodes : (d d' : D.Desig) → stmt_nodes (stmt_of (S.CopyCells d d')) ≡ 1 + desig_nodes (desig_of d) + desig_nodes (desig_of d')
copycells_nodes d d' = ap stmt_nodes (Views.copycells_view d d')

pub if_nodes : (a : Vec Arm Global) (v : Vec S.Stmt Global)
    → stmt_nodes (stmt_of (S.If a v)) ≡ 1 + arms_nodes (arms_list a.items) + stmts_nodes (stmts_list v.items)
if_nodes a v = ap stmt_nodes (Views.if_view a v)

pub while_nodes : (t : T.Test) (v : Vec S.Stmt Global)
    → stmt_nodes (stmt_of (S.While t v)) ≡ 1 + test_nodes (test_of t) + stmts_nodes (stmts_list v.items)
while_nodes t v = ap stmt_nodes (Views.while_view t v)

pub repeat_nodes : (v : Vec S.Stmt Global) (t : T.Test)
    → stmt_nodes (stmt_of (S.Repeat v t)) ≡ 1 + stmts_nodes (stmts_list v.items) + test_nodes (test_of t)
repeat_nodes v t = ap stmt_nodes (Views.repeat_view v t)

pub forto_nodes : (l : Loop) → stmt_nodes (stmt_of (S.ForTo l)) ≡ 1 + loop_nodes (loop_of l)
forto_nodes l = ap stmt_nodes (Views.forto_view l)

pub someof_nodes : (l : Loop) → stmt_nodes (stmt_of (S.SomeOf l)) ≡ 1 + loop_nodes (loop_of l)
someof_nodes l = ap stmt_nodes (Views.someof_view l)

pub case_none_nodes : (e : E.Expr) (v : Vec CaseArm Global)
    → stmt_nodes (stmt_of (S.Case e v None)) ≡ 1 + expr_nodes (expr_of e) + cases_nodes (cases_list v.items)
case_none_nodes e v = ap stmt_nodes (Views.case_view e v None) ∙ omega arith

pub case_some_nodes : (e : E.Expr) (v : Vec CaseArm Global) (w : Vec S.Stmt Global)
    → stmt_nodes (stmt_of (S.Case e v (Some w))) ≡ 1 + expr_nodes (expr_of e) + cases_nodes (cases_list v.items)
    + stmts_nodes (stmts_list w.items)
case_some_nodes e v w = ap stmt_nodes (Views.case_view e v (Some w))

pub return_none_nodes : stmt_nodes (stmt_of (S.Return None)) ≡ 1
return_none_nodes = ap stmt_nodes (Views.return_view None)

pub return_some_nodes : (e : E.Expr) → stmt_nodes (stmt_of (S.Return (Some e))) ≡ 1 + expr_nodes (expr_of e)
return_some_nodes e = ap stmt_nodes (Views.return_view (Some e))

pub either_nodes : (v : Vec Branch Global) → stmt_nodes (stmt_of (S.Either v)) ≡ 1 + branches_nodes (branches_list v.items)
either_nodes v = ap stmt_nodes (Views.either_view v)

pub forall_nodes : (v w : Vec S.Stmt Global)
    → stmt_nodes (stmt_of (S.Forall v w)) ≡ 1 + stmts_nodes (stmts_list v.items) + stmts_nodes (stmts_list w.items)
forall_nodes v w = ap stmt_nodes (Views.forall_view v w)

pub commit_nodes : (v : Vec S.Stmt Global) → stmt_nodes (stmt_of (S.Commit v)) ≡ 1 + stmts_nodes (stmts_list v.items)
commit_nodes v = ap stmt_nodes (Views.commit_view v)

pub read_nodes : (d : D.Desig) (how r : _) → stmt_nodes (stmt_of (S.Read d how r)) ≡ 1 + desig_nodes (desig_of d)
read_nodes d how r = ap stmt_nodes (Views.read_view d how r)

pub writeexpr_nodes : (e : E.Expr) (how : _) → stmt_nodes (stmt_of (S.WriteExpr e how)) ≡ 1 + expr_nodes (expr_of e)
writeexpr_nodes e how = ap stmt_nodes (Views.writeexpr_view e how)

pub writetext_nodes : (v : _) → stmt_nodes (stmt_of (S.WriteText v)) ≡ 1
writetext_nodes v = ap stmt_nodes (Views.writetext_view v)

pub writeline_nodes : stmt_nodes (stmt_of S.WriteLine) ≡ 1
writeline_nodes = ap stmt_nodes Views.writeline_view

pub value_nodes : (e : E.Expr) → test_nodes (test_of (T.Value e)) ≡ 1 + expr_nodes (expr_of e)
value_nodes e = ap test_nodes (Views.value_view e)

pub bind_nodes : (d : D.Desig) (e : E.Expr) (r left : _)
    → test_nodes (test_of (T.Bind d e r left)) ≡ 1 + desig_nodes (desig_of d) + expr_nodes (expr_of e)
bind_nodes d e r left = ap test_nodes (Views.bind_view d e r left)

pub unify_nodes : (d : D.Desig) (r : _) (d' : D.Desig) (r' : _)
    → test_nodes (test_of (T.Unify d r d' r')) ≡ 1 + desig_nodes (desig_of d) + desig_nodes (desig_of d')
unify_nodes d r d' r' = ap test_nodes (Views.unify_view d r d' r')

pub samecells_nodes : (d d' : D.Desig) → test_nodes (test_of (T.SameCells d d')) ≡ 1 + desig_nodes (desig_of d) + desig_nodes (desig_of d')
samecells_nodes d d' = ap test_nodes (Views.samecells_view d d')

pub seq_nodes : (v : Vec S.Stmt Global) → test_nodes (test_of (T.Seq v)) ≡ 1 + stmts_nodes (stmts_list v.items)
seq_nodes v = ap test_nodes (Views.seq_view v)

pub and_nodes : (v : Vec T.Test Global) → test_nodes (test_of (T.And v)) ≡ 1 + tests_nodes (tests_list v.items)
and_nodes v = ap test_nodes (Views.and_view v)

pub or_nodes : (v : Vec T.Test Global) → test_nodes (test_of (T.Or v)) ≡ 1 + tests_nodes (tests_list v.items)
or_nodes v = ap test_nodes (Views.or_view v)

pub not_nodes : (t : _) → test_nodes (test_of (T.Not t)) ≡ 1 + test_nodes (test_of t.value)
not_nodes t = ap test_nodes (Views.not_view t)

pub calltest_nodes : (c : Call) → test_nodes (test_of (T.Call c)) ≡ 1 + args_nodes (args_list c.args.items)
calltest_nodes c = ap test_nodes (Views.calltest_view c)

pub const_nodes : (n : _) → expr_nodes (expr_of (E.Const n)) ≡ 1
const_nodes n = ap expr_nodes (Views.const_view n)

pub load_nodes : (d : D.Desig) → expr_nodes (expr_of (E.Load d)) ≡ 1 + desig_nodes (desig_of d)
load_nodes d = ap expr_nodes (Views.load_view d)

pub chain_nodes : (neg : _) (e : _) (v : Vec Link Global)
    → expr_nodes (expr_of (E.Chain neg e v)) ≡ 1 + expr_nodes (expr_of e.value) + links_nodes (links_list v.items)
chain_nodes neg e v = ap expr_nodes (Views.chain_view neg e v)

pub compare_nodes : (c a b : _) → expr_nodes (expr_of (E.Compare c a b)) ≡ 1 + expr_nodes (expr_of a.value) + expr_nodes (expr_of b.value)
compare_nodes c a b = ap expr_nodes (Views.compare_view c a b)

pub truth_nodes : (t : _) → expr_nodes (expr_of (E.Truth t)) ≡ 1 + test_nodes (test_of t.value)
truth_nodes t = ap expr_nodes (Views.truth_view t)

pub known_nodes : (d : D.Desig) → expr_nodes (expr_of (E.Known d)) ≡ 1 + desig_nodes (desig_of d)
known_nodes d = ap expr_nodes (Views.known_view d)

pub chr_nodes : (e : _) → expr_nodes (expr_of (E.Chr e)) ≡ 1 + expr_nodes (expr_of e.value)
chr_nodes e = ap expr_nodes (Views.chr_view e)

pub callexpr_nodes : (c : Call) → expr_nodes (expr_of (E.Call c)) ≡ 1 + args_nodes (args_list c.args.items)
callexpr_nodes c = ap expr_nodes (Views.callexpr_view c)

pub byvalue_nodes : (e : E.Expr) (r : _) → arg_nodes (arg_of (A.Value e r)) ≡ 1 + expr_nodes (expr_of e)
byvalue_nodes e r = ap arg_nodes (Views.byvalue_view e r)

pub bycells_nodes : (d : D.Desig) → arg_nodes (arg_of (A.Cells d)) ≡ 1 + desig_nodes (desig_of d)
bycells_nodes d = ap arg_nodes (Views.bycells_view d)

pub byplace_nodes : (d : D.Desig) → arg_nodes (arg_of (A.Place d)) ≡ 1 + desig_nodes (desig_of d)
byplace_nodes d = ap arg_nodes (Views.byplace_view d)

pub mixvalue_nodes : (e : E.Expr) (r : _) → arg_nodes (arg_of (A.MixValue e r)) ≡ 1 + expr_nodes (expr_of e)
mixvalue_nodes e r = ap arg_nodes (Views.mixvalue_view e r)

pub mixplace_nodes : (d : D.Desig) → arg_nodes (arg_of (A.MixPlace d)) ≡ 1 + desig_nodes (desig_of d)
mixplace_nodes d = ap arg_nodes (Views.mixplace_view d)

pub field_nodes : (o c : _) → sel_nodes (sel_of (L.Field o c)) ≡ 1
field_nodes o c = ap sel_nodes (Views.field_view o c)

pub index_nodes : (e : E.Expr) (r c : _) → sel_nodes (sel_of (L.Index e r c)) ≡ 1 + expr_nodes (expr_of e)
index_nodes e r c = ap sel_nodes (Views.index_view e r c)
