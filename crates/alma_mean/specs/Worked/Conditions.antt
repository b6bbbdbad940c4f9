-- What the conditions on a checked program let through, and what each of some refuses.
use Rattle.std.specs.Prelude.{pos, [], ◌∷◌, codes, None}
use Rattle.alma_ir.specs.declared.program.ArgKind.TheVariants as kind
use Rattle.alma_ir.specs.declared.phrase.Cmp.TheVariants as cmp
use Rattle.alma_ir.specs.Tree.{Program, Assign, Commit, Return, no_result, ForTo, a_loop, Compare, Load, ByPlace, TestStmt, Or, no_tests}
use Rattle.alma_ir.specs.Checked.{IsChecked}
use Rattle.alma_mean.specs.Worked.Nested.{nested_to}
use Rattle.alma_mean.specs.Worked.Build.{stmts, int, module_of, module_at, module_with, inside, outer, global, succeed, call_up, procedure}
use Rattle.alma_mean.specs.Worked.Build.{param, var, through_param, whole, number, load, test, let_be, write, write_var, either, some, for}
use Rattle.alma_mean.specs.Worked.Build.{call, value_of}

-- PROCEDURE q(VAR a: INTEGER); VAR l: INTEGER; BEGIN SOME l := 1 TO 3 DO a := l END END q;  q(x);
-- x > 2; WRITE(x)
abbrev pub lives_again : Program
lives_again = module_with 2 (call 1 (ByPlace (var 1) ∷ []) ∷ test (Compare cmp.Greater (load 1) (number 2)) ∷ write_var 1 ∷ [])
    (procedure (param kind.Place 0 1 ∷ []) 4 (some 1 2 (number 1) (number 3) (Assign (through_param 0) (load 1) int ∷ []) ∷ []) ∷ [])

-- one program that is let through, and one for each way in which others are refused
pub record ConditionsTell : Type 0 where
  pub let_through : IsChecked lives_again
  -- no routine
  pub no_body : IsChecked (record { name = codes "A"; globals = []; routines = [] }) → ⊥
  -- a variable at the input position
  pub takes_the_position : IsChecked (module_of 2 (let_be 0 (number 1) ∷ [])) → ⊥
  -- a variable behind the last slot
  pub slot_is_missing : IsChecked (module_of 2 (let_be 2 (number 1) ∷ [])) → ⊥
  -- a number is read from two cells
  pub two_cells : IsChecked (module_of 3 (write (Load (whole 1 2)) ∷ [])) → ⊥
  -- a step of 0
  pub no_step : IsChecked (module_of 4 (ForTo (a_loop (var 1) int 2 3 (number 1) (number 2) (pos 0) (stmts [])) ∷ [])) → ⊥
  -- counter and limit are one slot
  pub one_slot_for_both : IsChecked (module_of 4 (ForTo (a_loop (var 1) int 2 2 (number 1) (number 2) (pos 1) (stmts [])) ∷ [])) → ⊥
  -- a loop in a loop with its counter and limit
  pub same_counter_inside : IsChecked (module_of 5 (for 1 3 (number 1) (number 2) (for 2 3 (number 1) (number 2) [] ∷ []) ∷ [])) → ⊥
  -- the variable of the loop is its counter
  pub counter_is_a_variable : IsChecked (module_of 4 (for 2 2 (number 1) (number 2) [] ∷ [])) → ⊥
  -- the body of the module is called
  pub body_is_called : IsChecked (module_of 1 (call 0 [] ∷ [])) → ⊥
  -- a call with no argument for a parameter
  pub argument_is_missing : IsChecked (module_with 1 (call 1 [] ∷ []) (procedure (param kind.Value 0 1 ∷ []) 1 [] ∷ [])) → ⊥
  -- a procedure without a result in an expression
  pub result_is_missing : IsChecked (module_with 1 (write (value_of 1 []) ∷ []) (procedure [] 0 [] ∷ [])) → ⊥
  -- a parameter that does not stand at its place
  pub parameter_moved : IsChecked (module_with 1 [] (procedure (param kind.Value 1 1 ∷ []) 2 [] ∷ [])) → ⊥
  -- EITHER with no branch, OR with no operand
  pub no_branch : IsChecked (module_of 1 (either [] ∷ [])) → ⊥
  pub no_operand : IsChecked (module_of 1 (TestStmt (Or no_tests) ∷ [])) → ⊥
  -- COMMIT RETURN END
  pub return_in_commit : IsChecked (module_of 1 (Commit (stmts (Return no_result ∷ [])) ∷ [])) → ⊥
  -- a statement without a line, and one at line 0
  pub line_is_missing : IsChecked (module_at 1 [] (succeed ∷ []) []) → ⊥
  pub line_is_0 : IsChecked (module_at 1 (0 ∷ []) (succeed ∷ []) []) → ⊥
  -- a call with one link too many
  pub link_too_many : IsChecked (module_with 1 (call_up 1 1 [] ∷ []) (procedure [] 0 [] ∷ [])) → ⊥
  -- a procedure of level 2 in the body of the module, and nine inside one another
  pub level_skipped : IsChecked (module_with 1 [] (inside 2 0 (procedure [] 0 []) ∷ [])) → ⊥
  pub nine_inside : IsChecked (nested_to 9) → ⊥
  -- a variable of the module by a link, and one of the module's body as if it stood in a procedure
  pub link_to_the_body : IsChecked (module_with 2 [] (procedure [] 0 (Assign (outer 1 1) (number 1) int ∷ []) ∷ [])) → ⊥
  pub global_in_the_body : IsChecked (module_of 2 (Assign (global 1) (number 1) int ∷ [])) → ⊥
  -- a name with a digit in front
  pub bad_name : IsChecked (record {
    name = [];
    globals = record { name = codes "1a"; slot = 1; cells = 1 } ∷ [];
    routines =
        record {
          name = codes "A";
          params = [];
          result = None;
          declared = 1;
          slots = 2;
          body = stmts [];
          level = 0;
          outer = 0;
          line = 1;
          lines = [];
        } ∷ [];
  }) → ⊥
