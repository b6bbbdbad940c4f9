-- Programs with procedures inside procedures, and what they give.
use Rattle.std.specs.Prelude.{ℕ, zero, suc, ◌-◌, true, List, [], ◌∷◌, ◌++◌, codes}
use Rattle.std.specs.Fmt.{decimal}
use Rattle.alma_ir.specs.declared.program.ArgKind.TheVariants as kind
use Rattle.alma_ir.specs.declared.phrase.Cmp.TheVariants as cmp
use Rattle.alma_ir.specs.declared.phrase.Op.TheVariants as op
use Rattle.alma_ir.specs.Tree.{Stmt, Expr, Routine, Program, Assign, If, Load, Return, some_result, Value, Bind, Compare, Known, TestStmt}
use Rattle.alma_ir.specs.Tree.{ByValue, ByPlace, MixValue, MixPlace}
use Rattle.alma_mean.specs.Events.{Succeeded, Failed}
use Rattle.alma_mean.specs.Worked.Build.{stmts, arms, int, module_with, procedure, function, inside, param, var, global, through_param}
use Rattle.alma_mean.specs.Worked.Build.{outer, through_outer_param, number, load, operate, plus, test, let_be, write, write_bool}
use Rattle.alma_mean.specs.Worked.Build.{write_var, either, call, call_up, value_up, digits_of, Gives}

-- the value of a variable of a routine so many links up
abbrev pub load_outer : (links slot : ℕ) → Expr
load_outer links slot = Load (outer links slot)

-- `x = n` of a variable so many links up
abbrev pub outer_is : (links slot n : ℕ) → Stmt
outer_is links slot n = TestStmt (Bind (outer links slot) (number n) int true)

-- the variables of the routines round this one are printed, from the innermost on, before the rest
abbrev pub print_outer : (links : ℕ) → List Stmt → List Stmt
print_outer zero rest = rest
print_outer (suc links) rest = print_outer links (write (load_outer (suc links) 0) ∷ rest)

-- the last one: it prints the variables round it and sets the outermost to 9
abbrev pub innermost : (level : ℕ) → Routine
innermost level = inside level (level - 1) (procedure [] 0 (print_outer (level - 1) (Assign (outer (level - 1) 0) (number 9) int ∷ [])))

-- the routines from a level on, so many of them round the last:
-- each sets its variable to its level, calls the next and prints its variable
abbrev pub nested_from : (level more : ℕ) → List Routine
nested_from level zero = innermost level ∷ []
nested_from level (suc more) =
    inside level (level - 1) (procedure [] 1 (let_be 0 (number level) ∷ call_up 0 (suc level) [] ∷ write_var 0 ∷ []))
    ∷ nested_from (suc level) more

-- a module that calls the outermost of so many procedures inside one another
abbrev pub nested_to : (level : ℕ) → Program
nested_to level = module_with 1 (call 1 [] ∷ []) (nested_from 1 (level - 1))

-- procedures of the levels from one on, each with a call of the next,
-- and the last with these statements
abbrev pub calls_down : (level more : ℕ) → (last : List Stmt) → List Routine
calls_down level zero last = inside level (level - 1) (procedure [] 1 last) ∷ []
calls_down level (suc more) last = inside level (level - 1) (procedure [] 1 (call_up 0 (suc level) [] ∷ []))
    ∷ calls_down (suc level) more last

-- procedures inside procedures: their links, and the variables round them
pub record NestedRun : Type 0 where
  -- PROCEDURE p(VAR a: INTEGER); VAR l: INTEGER; PROCEDURE q; BEGIN l := l + 1; a := l END q;
  -- BEGIN l := 4; q; q END p;  p(x); WRITE(x)
  pub variable_and_parameter :
      Gives 3 (module_with 2 (call 1 (ByPlace (var 1) ∷ []) ∷ write_var 1 ∷ [])
      (procedure (param kind.Place 0 1 ∷ []) 2 (let_be 1 (number 4) ∷ call_up 0 2 [] ∷ call_up 0 2 [] ∷ []) ∷
      inside 2 1 (procedure [] 0 (Assign (outer 1 1) (plus (load_outer 1 1) (number 1)) int
      ∷ Assign (through_outer_param 1 0) (load_outer 1 1) int ∷ [])) ∷ [])) [] (digits_of (6 ∷ [])) Succeeded
  -- PROCEDURE p; VAR l: INTEGER; PROCEDURE q; BEGIN EITHER l = 1 ORELSE l = 2 END END q; BEGIN q;
  -- WRITE(l); x := l END p;  p; x > 1: a choice keeps the variable of the frame below
  pub choice_in_an_outer_frame :
      Gives 3 (module_with 2 (call 1 [] ∷ test (Compare cmp.Greater (load 1) (number 1)) ∷ [])
      (procedure [] 1 (call_up 0 2 [] ∷ write_var 0 ∷ Assign (global 1) (load 0) int ∷ []) ∷
      inside 2 1 (procedure [] 0 (either ((outer_is 1 0 1 ∷ []) ∷ (outer_is 1 0 2 ∷ []) ∷ []) ∷ [])) ∷ [])) [] (digits_of (1 ∷ 2 ∷ []))
      Succeeded
  -- PROCEDURE p(n: INTEGER); PROCEDURE q; BEGIN WRITE(n) END q; BEGIN IF n > 0 THEN p(n - 1) END;
  -- q END p;  p(2): each q has the frame of its own p
  pub each_has_its_own :
      Gives 5 (module_with 1 (call 1 (ByValue (number 2) int ∷ []) ∷ [])
      (procedure (param kind.Value 0 1 ∷ []) 1
      (If (arms ((Value (Compare cmp.Greater (load 0) (number 0)), call_up 1 1 (ByValue (operate op.Sub (load 0) (number 1)) int ∷ []) ∷ [])
      ∷ [])) (stmts []) ∷ call_up 0 2 [] ∷ []) ∷
      inside 2 1 (procedure [] 0 (write (load_outer 1 0) ∷ [])) ∷ [])) [] (digits_of (0 ∷ 1 ∷ 2 ∷ [])) Succeeded
  -- PROCEDURE p; VAR l: INTEGER; PROCEDURE q(k: INTEGER); BEGIN IF k > 0 THEN q(k - 1)
  -- ELSE l := l + 1 END END q; BEGIN l := 5; q(3); WRITE(l) END p;  p:
  -- the link of each q names the frame of p, also where q calls q
  pub link_passes_the_caller :
      Gives 7 (module_with 1 (call 1 [] ∷ [])
      (procedure [] 1 (let_be 0 (number 5) ∷ call_up 0 2 (ByValue (number 3) int ∷ []) ∷ write_var 0 ∷ []) ∷
      inside 2 1 (procedure (param kind.Value 0 1 ∷ []) 1
      (If (arms ((Value (Compare cmp.Greater (load 0) (number 0)), call_up 1 2 (ByValue (operate op.Sub (load 0) (number 1)) int ∷ []) ∷ [])
      ∷ []))
      (stmts (Assign (outer 1 0) (plus (load_outer 1 0) (number 1)) int ∷ [])) ∷ [])) ∷ [])) [] (digits_of (6 ∷ [])) Succeeded
  -- PROCEDURE p; VAR l: INTEGER; PROCEDURE q; BEGIN l := 7 END q; PROCEDURE r; BEGIN q;
  -- WRITE(l) END r; BEGIN r END p;  p
  pub one_beside_another :
      Gives 4 (module_with 1 (call 1 [] ∷ [])
      (procedure [] 1 (call_up 0 3 [] ∷ []) ∷
      inside 2 1 (procedure [] 0 (Assign (outer 1 0) (number 7) int ∷ [])) ∷
      inside 2 1 (procedure [] 0 (call_up 1 2 [] ∷ write (load_outer 1 0) ∷ [])) ∷ [])) [] (digits_of (7 ∷ [])) Succeeded
  -- PROCEDURE p(n: INTEGER); PROCEDURE q; BEGIN IF n = 0 THEN p(1) ELSE WRITE(n) END END q;
  -- BEGIN q; WRITE(n) END p;  p(0): the inner calls the outer again, whose frame is a new one
  pub inner_calls_outer :
      Gives 6 (module_with 1 (call 1 (ByValue (number 0) int ∷ []) ∷ [])
      (procedure (param kind.Value 0 1 ∷ []) 1 (call_up 0 2 [] ∷ write_var 0 ∷ []) ∷
      inside 2 1 (procedure [] 0
      (If (arms ((Value (Compare cmp.Equal (load_outer 1 0) (number 0)), call_up 2 1 (ByValue (number 1) int ∷ []) ∷ []) ∷ []))
      (stmts (write (load_outer 1 0) ∷ [])) ∷ [])) ∷ [])) [] (digits_of (1 ∷ 1 ∷ 0 ∷ [])) Succeeded
  -- PROCEDURE p; VAR l: INTEGER; PROCEDURE q(VAR b: INTEGER); BEGIN b := 3 END q; PROCEDURE r;
  -- BEGIN q(l) END r; BEGIN r; WRITE(l) END p;  p
  pub variable_is_handed_on :
      Gives 4 (module_with 1 (call 1 [] ∷ [])
      (procedure [] 1 (call_up 0 3 [] ∷ write_var 0 ∷ []) ∷
      inside 2 1 (procedure (param kind.Place 0 1 ∷ []) 1 (Assign (through_param 0) (number 3) int ∷ [])) ∷
      inside 2 1 (procedure [] 0 (call_up 1 2 (ByPlace (outer 1 0) ∷ []) ∷ [])) ∷ [])) [] (digits_of (3 ∷ [])) Succeeded
  -- PROCEDURE p(MIX a: INTEGER); PROCEDURE q; BEGIN WRITE(KNOWN(a)); a = 7 END q; BEGIN q END p;
  -- p(x); WRITE(x); p(7); p(8)
  pub mix_parameter_outside :
      Gives 3 (module_with 2 (call 1 (MixPlace (var 1) ∷ []) ∷ write_var 1 ∷ call 1 (MixValue (number 7) int ∷ [])
      ∷ call 1 (MixValue (number 8) int ∷ []) ∷ [])
      (procedure (param kind.Mix 0 1 ∷ []) 2 (call_up 0 2 [] ∷ []) ∷
      inside 2 1 (procedure [] 0 (write_bool (Known (through_outer_param 1 0))
      ∷ TestStmt (Bind (through_outer_param 1 0) (number 7) int true) ∷ [])) ∷ [])) []
      (codes "FALSE" ++ (decimal 7 ++ codes "TRUETRUE")) Failed
  -- PROCEDURE p; VAR l: INTEGER; PROCEDURE f(): INTEGER; BEGIN l := l + 1; RETURN l END f;
  -- BEGIN l := 1; WRITE(f() + f()) END p;  p
  pub function_inside :
      Gives 3 (module_with 1 (call 1 [] ∷ [])
      (procedure [] 1 (let_be 0 (number 1) ∷ write (plus (value_up 0 2 []) (value_up 0 2 [])) ∷ []) ∷
      inside 2 1 (function [] int 0 (Assign (outer 1 0) (plus (load_outer 1 0) (number 1)) int ∷ Return (some_result (load_outer 1 0))
      ∷ [])) ∷ [])) [] (digits_of (5 ∷ [])) Succeeded
  -- two, five and eight inside one another: the innermost prints the variables round it and sets
  -- the outermost
  pub levels_to_2 : Gives 3 (nested_to 2) [] (digits_of (1 ∷ 9 ∷ [])) Succeeded
  pub levels_to_5 : Gives 6 (nested_to 5) [] (digits_of (4 ∷ 3 ∷ 2 ∷ 1 ∷ 4 ∷ 3 ∷ 2 ∷ 9 ∷ [])) Succeeded
  pub levels_to_8 : Gives 9 (nested_to 8) [] (digits_of (7 ∷ 6 ∷ 5 ∷ 4 ∷ 3 ∷ 2 ∷ 1 ∷ 7 ∷ 6 ∷ 5 ∷ 4 ∷ 3 ∷ 2 ∷ 9 ∷ [])) Succeeded
  -- the eighth calls a procedure of the module, eight links up
  pub eight_links_up :
      Gives 10 (module_with 2 (call 1 [] ∷ write_var 1 ∷ [])
      (calls_down 1 7 (call_up 8 9 [] ∷ []) ++ procedure [] 0 (Assign (global 1) (number 3) int ∷ []) ∷ [])) [] (digits_of (3 ∷ []))
      Succeeded
