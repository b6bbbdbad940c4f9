-- What goes on as parts are put together.
use Rattle.std.proofs.Common.{◌≡◌, ℕ, List, [], ◌∷◌, ◌++◌, Vec, Global, None, Some, refl, ap, sym}
use Rattle.alma_ir.specs.declared.phrase.Test as T
use Rattle.alma_ir.specs.declared.phrase.Expr as E
use Rattle.alma_ir.specs.declared.phrase.Arg as A
use Rattle.alma_ir.specs.declared.phrase.Call as K
use Rattle.alma_ir.specs.declared.phrase.Sel as L
use Rattle.alma_ir.specs.Tree as ir
use Rattle.alma_ir.specs.declared.phrase.Stmt as S
use Rattle.alma_ir.specs.View.{sels_list, sel_of, args_list, stmts_list, test_of, expr_of, stmt_of}
use Rattle.alma_ir.proofs.Views.{viewed, calltest_view, callexpr_view}
use Rattle.alma_rules.specs.Parts as parts
use Rattle.alma_check_rules.specs.declared.part.Behind.{Behind}
use Rattle.alma_check_rules.specs.Views.{operands_view, operator_view, typing_of}
use Rattle.alma_rules.specs.Parts.{with_sel}

-- one more selector
pub sels_push : (xs : List L.Sel) (x : L.Sel) → sels_list (xs ++ x ∷ []) ≡ with_sel (sels_list xs) (sel_of x)
sels_push [] x = refl
sels_push (y ∷ ys) x = ap (ir.more_sels (sel_of y)) (sels_push ys x)

-- a call
pub call_test_is : (n : ℕ) (v : Vec A.Arg Global) (up : ℕ)
    → test_of (T.Call (K.roll-Call (record { routine = n; args = v; up = up }))) ≡ ir.CallTest n (args_list v.items) up
call_test_is n v up = calltest_view (K.roll-Call (record { routine = n; args = v; up = up }))

pub call_value_is : (n : ℕ) (v : Vec A.Arg Global) (up : ℕ)
    → expr_of (E.Call (K.roll-Call (record { routine = n; args = v; up = up }))) ≡ ir.CallExpr n (args_list v.items) up
call_value_is n v up = callexpr_view (K.roll-Call (record { routine = n; args = v; up = up }))

pub no_arguments : (v : Vec A.Arg Global) → v.items ≡ [] → args_list v.items ≡ ir.no_args
no_arguments v h = ap args_list h

pub call_without : (c : parts.Callee) (args : ir.Args) → None ≡ c.heading.result
    → parts.typing_of_call (c, args) ≡ parts.boolean_typing (parts.a_test (ir.CallTest c.number args c.up))
call_without c args h = rw (sym h) refl

pub call_giving : (c : parts.Callee) (args : ir.Args) (shape : ℕ) → Some shape ≡ c.heading.result
    → parts.typing_of_call (c, args) ≡ record { shape = shape; constant = None; meaning = parts.plain (ir.CallExpr c.number args c.up) }
call_giving c args shape h = rw (sym h) refl

-- one more operand
pub operands_push : (xs : List Behind) (b : Behind)
    → operands_view (xs ++ b ∷ []) ≡ operands_view xs ++ (operator_view b.operator, typing_of b.operand) ∷ []
operands_push [] b = refl
operands_push (x ∷ xs) b = ap (λ ys. (operator_view x.operator, typing_of x.operand) ∷ ys) (operands_push xs b)

-- ---- statements behind statements

pub stmts_append : (xs ys : List S.Stmt) → stmts_list (xs ++ ys) ≡ parts.append_stmts (stmts_list xs) (stmts_list ys)
stmts_append [] ys = refl
stmts_append (x ∷ xs) ys = ap (ir.more_stmts 0 (stmt_of x)) (stmts_append xs ys)

pub ruleset steps = (viewed, sels_push, call_test_is, call_value_is, operands_push, stmts_append)
