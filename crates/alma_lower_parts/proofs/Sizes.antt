-- The nodes of an element of a list are some of those of the list.
use Rattle.std.proofs.Common.{◌≡◌, ℕ, ◌+◌, ◌<◌, ◌≤◌, List, length, get_or, ap, arith}
use Rattle.std.proofs.lemmas.List.Sums.{get_or-le-sum_by}
use Rattle.alma_ir.specs.declared.phrase.Stmt as S
use Rattle.alma_ir.specs.declared.phrase.Test as T
use Rattle.alma_ir.specs.declared.phrase.Arg as A
use Rattle.alma_ir.specs.declared.phrase.Sel as L
use Rattle.alma_ir.specs.declared.phrase.Arm.{Arm}
use Rattle.alma_ir.specs.declared.phrase.CaseArm.{CaseArm}
use Rattle.alma_ir.specs.declared.phrase.Link.{Link}
use Rattle.alma_ir.specs.View.{stmt_of, test_of, expr_of, arg_of, sel_of, stmts_list, tests_list, args_list, sels_list, arms_list}
use Rattle.alma_ir.specs.View.{cases_list, links_list}
use Rattle.alma_ir.specs.Count.{stmts_nodes, stmt_nodes, arms_nodes, cases_nodes, test_nodes, tests_nodes, expr_nodes}
use Rattle.alma_ir.specs.Count.{links_nodes, args_nodes, arg_nodes, sels_nodes, sel_nodes}
use Rattle.alma_ir.proofs.Counts.{of_stmt, of_test, of_arg, of_sel, of_link, of_arm, of_case, stmts_sum, tests_sum, args_sum}
use Rattle.alma_ir.proofs.Counts.{sels_sum, links_sum, arms_sum, cases_sum}

pub stmt_at : (xs : List S.Stmt) (i : ℕ) (x : S.Stmt) → i < length xs → x ≡ get_or xs i x
    → stmt_nodes (stmt_of x) ≤ stmts_nodes (stmts_list xs)
stmt_at xs i x lt is = omega (arith, get_or-le-sum_by of_stmt xs i x lt, stmts_sum xs, ap of_stmt is)

pub test_at : (xs : List T.Test) (i : ℕ) (x : T.Test) → i < length xs → x ≡ get_or xs i x
    → test_nodes (test_of x) ≤ tests_nodes (tests_list xs)
test_at xs i x lt is = omega (arith, get_or-le-sum_by of_test xs i x lt, tests_sum xs, ap of_test is)

pub arg_at : (xs : List A.Arg) (i : ℕ) (x : A.Arg) → i < length xs → x ≡ get_or xs i x → arg_nodes (arg_of x) ≤ args_nodes (args_list xs)
arg_at xs i x lt is = omega (arith, get_or-le-sum_by of_arg xs i x lt, args_sum xs, ap of_arg is)

pub sel_at : (xs : List L.Sel) (i : ℕ) (x : L.Sel) → i < length xs → x ≡ get_or xs i x → sel_nodes (sel_of x) ≤ sels_nodes (sels_list xs)
sel_at xs i x lt is = omega (arith, get_or-le-sum_by of_sel xs i x lt, sels_sum xs, ap of_sel is)

pub link_at : (xs : List Link) (i : ℕ) (x : Link) → i < length xs → x ≡ get_or xs i x
    → expr_nodes (expr_of x.operand) ≤ links_nodes (links_list xs)
link_at xs i x lt is = omega (arith, get_or-le-sum_by of_link xs i x lt, links_sum xs, ap of_link is)

pub arm_at : (xs : List Arm) (i : ℕ) (x : Arm) → i < length xs → x ≡ get_or xs i x
    → test_nodes (test_of x.cond) + stmts_nodes (stmts_list x.body.items) ≤ arms_nodes (arms_list xs)
arm_at xs i x lt is = omega (arith, get_or-le-sum_by of_arm xs i x lt, arms_sum xs, ap of_arm is)

pub case_at : (xs : List CaseArm) (i : ℕ) (x : CaseArm) → i < length xs → x ≡ get_or xs i x
    → stmts_nodes (stmts_list x.body.items) ≤ cases_nodes (cases_list xs)
case_at xs i x lt is = omega (arith, get_or-le-sum_by of_case xs i x lt, cases_sum xs, ap of_case is)
