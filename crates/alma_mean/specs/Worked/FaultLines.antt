-- Programs that end in a fault, and the line of it.
use Rattle.std.specs.Prelude.{◌≡◌, ℕ, List, [], ◌∷◌, codes, replicate, Some}
use Rattle.alma_base.specs.declared.fault.RunFault.{RunFault}
use Rattle.alma_base.specs.declared.fault.RunFault.TheVariants as fault
use Rattle.alma_ir.specs.declared.program.ArgKind.TheVariants as kind
use Rattle.alma_ir.specs.declared.phrase.Op.TheVariants as op
use Rattle.alma_ir.specs.declared.phrase.Cmp.TheVariants as cmp
use Rattle.alma_ir.specs.declared.phrase.ReadAs.TheVariants as read_as
use Rattle.alma_ir.specs.Tree.{Stmt, Expr, Program, Routine, TestStmt, Assign, If, While, Repeat, Case, Forall, Commit, Read, Value, Seq}
use Rattle.alma_ir.specs.Tree.{Not, Or, Compare, Truth, Return, some_result, no_else, else_part, more_stmts, no_stmts, ByValue}
use Rattle.alma_mean.specs.Store.{no_frame}
use Rattle.alma_mean.specs.Events.{Visit, Fault, Faulted}
use Rattle.alma_mean.specs.Meaning.{level_0, ev_stmts}
use Rattle.alma_mean.specs.Worked.Build.{stmts, arms, case_arms, tests, int, range, module_at, module_with, procedure, function, at_lines}
use Rattle.alma_mean.specs.Worked.Build.{param, var, element, number, load, operate, plus, greatest, succeed, fail, let_be, write}
use Rattle.alma_mean.specs.Worked.Build.{write_var, either, some, for, call, value_of, Gives}

-- 1 DIV 0
abbrev pub divide : Expr
divide = operate op.Div (number 1) (number 0)

-- the statements as a value, 1 where they succeed
abbrev pub truth_of : List Stmt → Expr
truth_of body = Truth (Seq (stmts body))

-- PROCEDURE p; at line 3, with its statements at these lines
abbrev pub procedure_at : List ℕ → List Stmt → Routine
procedure_at lines body = at_lines 3 lines (procedure [] 0 body)

-- PROCEDURE f(): INTEGER; at line 3
abbrev pub function_at : List ℕ → List Stmt → Routine
function_at lines body = at_lines 3 lines (function [] int 0 body)

-- a module with variables at slots 1 and 2, its statements at these lines
abbrev pub here : List ℕ → List Stmt → Program
here lines body = module_at 5 lines body []

-- the program ends in this fault at this line, and prints nothing
abbrev pub FaultsAt : ℕ → Program → RunFault → ℕ → Type 0
FaultsAt n p f line = Gives n p [] [] (Faulted f line)

-- each fault with the line at which it stands
pub record FaultLines : Type 0 where
  -- each fault stands at the line of its statement: here the second of two
  pub unknown : FaultsAt 1 (here (2 ∷ 4 ∷ []) (succeed ∷ write_var 1 ∷ [])) fault.Unknown 4
  pub out_of_range : FaultsAt 1 (here (2 ∷ 4 ∷ []) (succeed ∷ Assign (var 1) (number 10) (range 0 9) ∷ [])) fault.Range 4
  pub index : FaultsAt 1 (here (2 ∷ 4 ∷ []) (succeed ∷ Assign (element 1 2 (number 3)) (number 1) int ∷ [])) fault.Index 4
  pub overflow : FaultsAt 1 (here (2 ∷ 4 ∷ []) (succeed ∷ let_be 1 (plus greatest (number 1)) ∷ [])) fault.Overflow 4
  pub zero_divide : FaultsAt 1 (here (2 ∷ 4 ∷ []) (succeed ∷ let_be 1 divide ∷ [])) fault.ZeroDivide 4
  pub no_case : FaultsAt 1 (here (2 ∷ 4 ∷ []) (succeed ∷ Case (number 1) (case_arms []) no_else ∷ [])) fault.NoCase 4
  pub read_range : Gives 1 (here (2 ∷ 4 ∷ []) (succeed ∷ Read (var 1) read_as.Int int ∷ [])) (codes "99999999999999999999") []
      (Faulted fault.ReadRange 4)
  pub cells_full :
      FaultsAt 2 (module_at 2 (2 ∷ 4 ∷ []) (succeed ∷ call 1 [] ∷ [])
      (record (procedure [] 0 []) { declared = 1048576 } ∷ [])) fault.CellsFull 4
  pub depth_full :
      ev_stmts (module_with 1 [] (procedure [] 0 [] ∷ [])) [] level_0 (more_stmts 4 (call 1 []) no_stmts) (replicate 10000 no_frame) ≡
      Visit (Visit (Fault fault.DepthFull 4))
  -- PROCEDURE f(): INTEGER; END f;  x := f(): at the line of the procedure
  pub no_return : FaultsAt 2 (module_at 2 (5 ∷ []) (let_be 1 (value_of 1 []) ∷ []) (function_at [] [] ∷ [])) fault.NoReturn 3
  -- a fault in a procedure stands where it is, and not at the call
  pub in_a_procedure : FaultsAt 2 (module_at 1 (9 ∷ []) (call 1 [] ∷ []) (procedure_at (4 ∷ 6 ∷ []) (succeed ∷ write divide ∷ []) ∷ []))
      fault.ZeroDivide 6
  -- RETURN with a number out of the range of the result
  pub result_out_of_range :
      FaultsAt 2 (module_at 2 (9 ∷ []) (let_be 1 (value_of 1 []) ∷ [])
      (record (function_at (4 ∷ []) (Return (some_result (number 10)) ∷ [])) { result = Some (range 0 9) } ∷ [])) fault.Range 4
  -- an argument stands at the line of the call
  pub in_an_argument :
      FaultsAt 2 (module_at 1 (9 ∷ []) (call 1 (ByValue divide int ∷ []) ∷ [])
      (at_lines 3 (4 ∷ []) (procedure (param kind.Value 0 1 ∷ []) 1 (succeed ∷ [])) ∷ [])) fault.ZeroDivide 9
  -- IF 1 DIV 0 = 1 THEN .., and IF TRUE THEN TRUE; x := 1 DIV 0 END, on lines 2 to 4
  pub in_a_condition : FaultsAt 1 (here (2 ∷ 3 ∷ [])
      (If (arms ((Value (Compare cmp.Equal divide (number 1)), succeed ∷ []) ∷ [])) no_stmts ∷ [])) fault.ZeroDivide 2
  pub in_an_arm : FaultsAt 1 (here (2 ∷ 3 ∷ 4 ∷ []) (If (arms ((Value (number 1), succeed ∷ let_be 1 divide ∷ []) ∷ [])) no_stmts ∷ []))
      fault.ZeroDivide 4
  -- behind two statements inside an arm
  pub in_the_else_part : FaultsAt 1 (here (2 ∷ 3 ∷ 4 ∷ 6 ∷ [])
      (If (arms ((Value (number 0), succeed ∷ succeed ∷ []) ∷ [])) (stmts (let_be 1 divide ∷ [])) ∷ [])) fault.ZeroDivide 6
  pub behind_it : FaultsAt 1 (here (2 ∷ 3 ∷ 4 ∷ 6 ∷ [])
      (If (arms ((Value (number 0), succeed ∷ succeed ∷ []) ∷ [])) no_stmts ∷ let_be 1 divide ∷ [])) fault.ZeroDivide 6
  -- x := 0; WHILE 1 DIV (1 - x) > 0 DO x := x + 1 END:
  -- the second turn's condition, at the line of WHILE
  pub in_a_later_turn :
      FaultsAt 3 (here (2 ∷ 3 ∷ 4 ∷ []) (let_be 1 (number 0) ∷
      While (Value (Compare cmp.Greater (operate op.Div (number 1) (operate op.Sub (number 1) (load 1))) (number 0)))
      (stmts (let_be 1 (plus (load 1) (number 1)) ∷ [])) ∷ [])) fault.ZeroDivide 3
  -- REPEAT TRUE UNTIL 1 DIV 0 = 1: the condition stands behind the body, at the line of REPEAT
  pub behind_the_body : FaultsAt 1 (here (2 ∷ 3 ∷ []) (Repeat (stmts (succeed ∷ [])) (Value (Compare cmp.Equal divide (number 1))) ∷ []))
      fault.ZeroDivide 2
  -- FOR i := 1 TO 2 DO x := i DIV (2 - i) END, and SOME: the body
  pub in_a_for :
      FaultsAt 4 (here (2 ∷ 3 ∷ []) (for 2 3 (number 1) (number 2)
      (let_be 1 (operate op.Div (load 2) (operate op.Sub (number 2) (load 2))) ∷ []) ∷ [])) fault.ZeroDivide 3
  pub in_a_some :
      FaultsAt 4 (here (2 ∷ 3 ∷ 4 ∷ []) (some 2 3 (number 1) (number 2)
      (let_be 1 (operate op.Div (load 2) (operate op.Sub (number 2) (load 2))) ∷ []) ∷ fail ∷ [])) fault.ZeroDivide 3
  -- x := (TRUE; y := 1 DIV 0): a statement inside an expression has its own line
  pub in_a_sequence : FaultsAt 1 (here (2 ∷ 3 ∷ 4 ∷ []) (let_be 1 (truth_of (succeed ∷ let_be 2 divide ∷ [])) ∷ [])) fault.ZeroDivide 4
  -- a[(TRUE; TRUE)] := (y := 1 DIV 0): those of the variable come first
  pub behind_the_variable :
      FaultsAt 1 (here (2 ∷ 3 ∷ 4 ∷ 5 ∷ []) (Assign (element 1 2 (truth_of (succeed ∷ succeed ∷ []))) (truth_of (let_be 3 divide ∷ [])) int
      ∷ [])) fault.ZeroDivide 5
  -- a[f()] := 1 of a function f that gives 3: the fault of the index stands at the statement with
  -- the index, not at the RETURN of f
  pub behind_a_call :
      FaultsAt 2 (module_at 3 (8 ∷ []) (Assign (element 1 2 (value_of 1 [])) (number 1) int ∷ [])
      (function_at (4 ∷ []) (Return (some_result (number 3)) ∷ []) ∷ [])) fault.Index 8
  -- CASE 2 OF 1: TRUE | 2: x := 1 DIV 0 ELSE TRUE END
  pub in_a_case :
      FaultsAt 1 (here (2 ∷ 3 ∷ 4 ∷ 5 ∷ []) (Case (number 2)
      (case_arms ((range 1 1 ∷ [], succeed ∷ []) ∷ (range 2 2 ∷ [], let_be 1 divide ∷ []) ∷ [])) (else_part (stmts (succeed ∷ [])))
      ∷ [])) fault.ZeroDivide 4
  -- EITHER FALSE ORELSE x := 1 DIV 0 END, NOT (x := 1 DIV 0), and FALSE OR (x := 1 DIV 0)
  pub in_a_branch : FaultsAt 1 (here (2 ∷ 3 ∷ 4 ∷ []) (either ((fail ∷ []) ∷ (let_be 1 divide ∷ []) ∷ []) ∷ [])) fault.ZeroDivide 4
  pub in_a_not : FaultsAt 1 (here (2 ∷ 3 ∷ []) (TestStmt (Not (Seq (stmts (let_be 1 divide ∷ [])))) ∷ [])) fault.ZeroDivide 3
  pub in_an_or : FaultsAt 1 (here (2 ∷ 3 ∷ 4 ∷ [])
      (TestStmt (Or (tests (Seq (stmts (fail ∷ [])) ∷ Seq (stmts (let_be 1 divide ∷ [])) ∷ []))) ∷ [])) fault.ZeroDivide 4
  -- FORALL TRUE DO x := 1 DIV 0 END, and COMMIT x := 1 DIV 0 END
  pub in_a_forall : FaultsAt 1 (here (2 ∷ 3 ∷ 4 ∷ []) (Forall (stmts (succeed ∷ [])) (stmts (let_be 1 divide ∷ [])) ∷ [])) fault.ZeroDivide
      4
  pub in_a_commit : FaultsAt 1 (here (2 ∷ 3 ∷ []) (Commit (stmts (let_be 1 divide ∷ [])) ∷ [])) fault.ZeroDivide 3
