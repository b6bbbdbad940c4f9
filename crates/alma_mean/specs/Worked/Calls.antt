-- Programs with procedures and functions, and what they give.
use Rattle.std.specs.Prelude.{◌≡◌, ℕ, pos, true, [], ◌∷◌, codes, List, None, replicate}
use Rattle.alma_base.specs.declared.fault.RunFault.TheVariants as fault
use Rattle.alma_ir.specs.declared.program.ArgKind.TheVariants as kind
use Rattle.alma_ir.specs.declared.program.Param.{Param}
use Rattle.alma_ir.specs.declared.phrase.Op.TheVariants as op
use Rattle.alma_ir.specs.declared.phrase.Cmp.TheVariants as cmp
use Rattle.alma_ir.specs.Tree.{Stmt, Routine, Program, TestStmt, Assign, If, SomeOf, Return, a_loop, no_result, some_result, Value, Bind}
use Rattle.alma_ir.specs.Tree.{Compare, CallTest, no_args, ByValue, ByCells, ByPlace, MixValue, MixPlace}
use Rattle.alma_mean.specs.Store.{no_frame}
use Rattle.alma_mean.specs.Events.{Succeeded, Failed, Faulted, CutOff, Visit, Fault, Cut}
use Rattle.alma_mean.specs.Meaning.{level_0, ev_test}
use Rattle.alma_mean.specs.Worked.Build.{stmts, arms, int, range, module_with, procedure, function, param, var, global, through_param}
use Rattle.alma_mean.specs.Worked.Build.{whole, element, number, load, operate, plus, greatest, test, fail, equals, is, let_be, write}
use Rattle.alma_mean.specs.Worked.Build.{write_var, write_known, some, call, call_up, value_of, value_up, digits_of, Gives}

-- PROCEDURE p(MIX a: INTEGER); BEGIN a = 7 END p;
abbrev pub mix_is_seven : Routine
mix_is_seven = procedure (param kind.Mix 0 1 ∷ []) 2 (TestStmt (Bind (through_param 0) (number 7) int true) ∷ [])

-- PROCEDURE f(): INTEGER; BEGIN WRITE(1); RETURN 2 END f;
abbrev pub prints_and_gives : Routine
prints_and_gives = function [] int 0 (write (number 1) ∷ Return (some_result (number 2)) ∷ [])

-- PROCEDURE n(k: INTEGER): INTEGER; BEGIN IF k = 0 THEN RETURN 1
-- ELSE RETURN k * n(k - 1) END END n;
abbrev pub factorial : Routine
factorial = function (param kind.Value 0 1 ∷ []) int 1
    (If (arms ((equals 0 0, Return (some_result (number 1)) ∷ []) ∷ []))
    (stmts (Return (some_result (operate op.Mul (load 0) (value_up 1 1 (ByValue (operate op.Sub (load 0) (number 1)) int ∷ [])))) ∷ []))
    ∷ [])

-- a procedure with so many declared cells; more than its slots, which no source can say
abbrev pub declares : List Param → ℕ → Routine
declares params cells = record {
  name = codes "p";
  params = params;
  result = None;
  declared = cells;
  slots = 1;
  body = stmts [];
  level = 1;
  outer = 0;
  line = 1;
  lines = [];
}

-- a module with a procedure of no statements
abbrev pub with_empty_procedure : List Stmt → Program
with_empty_procedure body = module_with 1 body (procedure [] 0 [] ∷ [])

-- parameters of each kind, results, frames that live again, and the limits of calls
pub record CallsRun : Type 0 where
  -- p(x); WRITE(x); p(7); p(8), of MIX above
  pub mix_both_ways :
      Gives 2 (module_with 2 (call 1 (MixPlace (var 1) ∷ []) ∷ write_var 1 ∷ call 1 (MixValue (number 7) int ∷ [])
      ∷ call 1 (MixValue (number 8) int ∷ []) ∷ []) (mix_is_seven ∷ [])) [] (digits_of (7 ∷ [])) Failed
  -- PROCEDURE r(MIX b: INTEGER); BEGIN p(b) END r;  r(x); WRITE(x); r(7)
  pub mix_handed_on :
      Gives 3 (module_with 2 (call 2 (MixPlace (var 1) ∷ []) ∷ write_var 1 ∷ call 2 (MixValue (number 7) int ∷ []) ∷ [])
      (mix_is_seven ∷ procedure (param kind.Mix 0 1 ∷ []) 2 (call_up 1 1 (MixPlace (through_param 0) ∷ []) ∷ []) ∷ [])) []
      (digits_of (7 ∷ [])) Succeeded
  -- PROCEDURE q(VAR a: INTEGER); VAR l: INTEGER; BEGIN SOME l := 1 TO 3 DO a := l END END q;  q(x);
  -- x > 2; WRITE(x): the frame of q lives again twice
  pub frame_lives_again :
      Gives 5 (module_with 2 (call 1 (ByPlace (var 1) ∷ []) ∷ test (Compare cmp.Greater (load 1) (number 2)) ∷ write_var 1 ∷ [])
      (procedure (param kind.Place 0 1 ∷ []) 4 (some 1 2 (number 1) (number 3) (Assign (through_param 0) (load 1) int ∷ []) ∷ []) ∷ [])) []
      (digits_of (3 ∷ [])) Succeeded
  -- PROCEDURE f(): INTEGER; VAR l: INTEGER; BEGIN SOME l := 1 TO 3 DO RETURN l END END f;
  -- x := f(); WRITE(x); x = 2
  pub function_takes_the_first :
      Gives 3 (module_with 2 (let_be 1 (value_of 1 []) ∷ write_var 1 ∷ is 1 2 ∷ [])
      (function [] int 3 (some 0 1 (number 1) (number 3) (Return (some_result (load 0)) ∷ []) ∷ []) ∷ [])) [] (digits_of (1 ∷ [])) Failed
  -- PROCEDURE p(a: INTEGER); BEGIN a := 5; WRITE(a) END p;  x := 1; p(x); WRITE(x)
  pub value_is_a_copy :
      Gives 2 (module_with 2 (let_be 1 (number 1) ∷ call 1 (ByValue (load 1) int ∷ []) ∷ write_var 1 ∷ [])
      (procedure (param kind.Value 0 1 ∷ []) 1 (let_be 0 (number 5) ∷ write_var 0 ∷ []) ∷ [])) [] (digits_of (5 ∷ 1 ∷ [])) Succeeded
  -- PROCEDURE p(b: t); BEGIN WRITE(b[1], b[2]); b[1] := 9 END p;  a[1] := 3; a[2] := 4; p(a);
  -- WRITE(a[1])
  pub all_cells_are_copied :
      Gives 2 (module_with 3 (Assign (element 1 2 (number 1)) (number 3) int ∷ Assign (element 1 2 (number 2)) (number 4) int
      ∷ call 1 (ByCells (whole 1 2) ∷ []) ∷ write_var 1 ∷ [])
      (procedure (param kind.Cells 0 2 ∷ []) 2 (write_var 0 ∷ write_var 1 ∷ Assign (element 0 2 (number 1)) (number 9) int ∷ []) ∷ [])) []
      (digits_of (3 ∷ 4 ∷ 3 ∷ [])) Succeeded
  -- PROCEDURE p(b: t; c: INTEGER); BEGIN WRITE(b[1]) END p;  PROCEDURE f(): INTEGER;
  -- BEGIN a[1] := 7; RETURN 0 END f; a[1] := 1; p(a, f()): cells are copied after all arguments
  pub cells_are_copied_last :
      Gives 2 (module_with 3 (let_be 1 (number 1) ∷ call 1 (ByCells (whole 1 2) ∷ ByValue (value_of 2 []) int ∷ []) ∷ [])
      (procedure (param kind.Cells 0 2 ∷ param kind.Value 2 1 ∷ []) 3 (write_var 0 ∷ []) ∷
      function [] int 0 (Assign (global 1) (number 7) int ∷ Return (some_result (number 0)) ∷ []) ∷ [])) [] (digits_of (7 ∷ [])) Succeeded
  -- p(10, f()), the first parameter of [0..9]: f does not print
  pub value_is_checked_in_its_turn :
      Gives 2 (module_with 1 (call 1 (ByValue (number 10) (range 0 9) ∷ ByValue (value_of 2 []) int ∷ []) ∷ [])
      (procedure (param kind.Value 0 1 ∷ param kind.Value 1 1 ∷ []) 2 [] ∷ prints_and_gives ∷ [])) [] [] (Faulted fault.Range 1)
  -- PROCEDURE p; BEGIN x := 3 END p;  p; WRITE(x)
  pub global_is_set : Gives 2 (module_with 2 (call 1 [] ∷ write_var 1 ∷ []) (procedure [] 0 (Assign (global 1) (number 3) int ∷ []) ∷ []))
      [] (digits_of (3 ∷ [])) Succeeded
  -- PROCEDURE p; VAR l: INTEGER; BEGIN WRITE(KNOWN(l)); l := 1 END p;  p; p
  pub new_frame_is_unknown : Gives 2 (module_with 1 (call 1 [] ∷ call 1 [] ∷ [])
      (procedure [] 1 (write_known 0 ∷ let_be 0 (number 1) ∷ []) ∷ [])) [] (codes "FALSEFALSE") Succeeded
  -- PROCEDURE p; BEGIN WRITE(1); RETURN; WRITE(2) END p;  p; WRITE(3)
  pub procedure_returns : Gives 2 (module_with 1 (call 1 [] ∷ write (number 3) ∷ [])
      (procedure [] 0 (write (number 1) ∷ Return no_result ∷ write (number 2) ∷ []) ∷ [])) [] (digits_of (1 ∷ 3 ∷ [])) Succeeded
  -- WRITE(n(5)), of the factorial above
  pub function_calls_itself : Gives 7 (module_with 1 (write (value_of 1 (ByValue (number 5) int ∷ [])) ∷ []) (factorial ∷ [])) []
      (digits_of (120 ∷ [])) Succeeded
  -- PROCEDURE f(): INTEGER; BEGIN FALSE END f;  x := f()
  pub function_fails : Gives 2 (module_with 2 (let_be 1 (value_of 1 []) ∷ []) (function [] int 0 (fail ∷ []) ∷ [])) [] [] Failed
  -- PROCEDURE f(): INTEGER; END f;  x := f()
  pub function_without_return : Gives 2 (module_with 2 (let_be 1 (value_of 1 []) ∷ []) (function [] int 0 [] ∷ [])) [] []
      (Faulted fault.NoReturn 1)
  -- PROCEDURE f(): t; BEGIN RETURN 10 END f;  x := f(), t = [0..9]
  pub result_out_of_range : Gives 2 (module_with 2 (let_be 1 (value_of 1 []) ∷ [])
      (function [] (range 0 9) 0 (Return (some_result (number 10)) ∷ []) ∷ [])) [] [] (Faulted fault.Range 1)
  -- PROCEDURE f(): INTEGER; BEGIN x := 1; RETURN 2 END f;  x = f():
  -- the cell is looked at after the call
  pub cell_is_looked_at_last : Gives 2 (module_with 2 (TestStmt (Bind (var 1) (value_of 1 []) int true) ∷ [])
      (function [] int 0 (Assign (global 1) (number 1) int ∷ Return (some_result (number 2)) ∷ []) ∷ [])) [] [] Failed
  -- WRITE(9223372036854775807 + 1 + f()): f does not print
  pub sum_overflows_in_its_turn : Gives 2 (module_with 1 (write (plus (plus greatest (number 1)) (value_of 1 [])) ∷ [])
      (prints_and_gives ∷ [])) [] [] (Faulted fault.Overflow 1)
  -- p(f()), p with 1,048,576 declared cells and one variable of the module: f prints
  pub cells_full : Gives 2 (module_with 2 (call 1 (ByValue (value_of 2 []) int ∷ []) ∷ [])
      (declares (param kind.Value 0 1 ∷ []) 1048576 ∷ prints_and_gives ∷ [])) [] (digits_of (1 ∷ [])) (Faulted fault.CellsFull 1)
  -- the same with no variable of the module
  pub cells_not_full : Gives 2 (module_with 1 (call 1 [] ∷ []) (declares [] 1048576 ∷ [])) [] [] Succeeded
  -- a call where 10,000 frames live, and where one fewer lives
  pub depth_full : ev_test (with_empty_procedure []) [] level_0 (CallTest 1 no_args 0) (replicate 10000 no_frame) ≡ Visit
      (Fault fault.DepthFull 0)
  pub depth_not_full : ev_test (with_empty_procedure []) [] level_0 (CallTest 1 no_args 0) (replicate 9999 no_frame) ≡ Visit Cut
  -- a call of an empty procedure needs one level more
  pub call_at_1 : Gives 1 (with_empty_procedure (call 1 [] ∷ [])) [] [] CutOff
  pub call_at_2 : Gives 2 (with_empty_procedure (call 1 [] ∷ [])) [] [] Succeeded
  -- PROCEDURE f(): INTEGER; BEGIN WRITE(7); FALSE END f;  SOME a[f()] := 1 TO 2 DO TRUE END:
  -- the variable is located anew in each turn, also where it could not be located in the turn
  -- before
  pub some_locates_anew :
      Gives 4 (module_with 5 (SomeOf (a_loop (element 1 2 (value_of 1 [])) int 3 4 (number 1) (number 2) (pos 1) (stmts [])) ∷ [])
      (function [] int 0 (write (number 7) ∷ fail ∷ []) ∷ [])) [] (digits_of (7 ∷ 7 ∷ [])) Failed
  -- PROCEDURE f(): INTEGER; BEGIN FALSE END f;  IF f() = 1 THEN WRITE(1) ELSE WRITE(2) END:
  -- a function that fails in a condition leaves it without an alternative
  pub condition_has_none :
      Gives 3 (module_with 1 (If (arms ((Value (Compare cmp.Equal (value_of 1 []) (number 1)), write (number 1) ∷ []) ∷ []))
      (stmts (write (number 2) ∷ [])) ∷ [])
      (function [] int 0 (fail ∷ []) ∷ [])) [] (digits_of (2 ∷ [])) Succeeded
