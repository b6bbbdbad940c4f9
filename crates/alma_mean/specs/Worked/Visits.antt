-- How many visits small programs make up to their first alternative.
use Rattle.std.specs.Prelude.{[], ◌∷◌}
use Rattle.alma_ir.specs.declared.phrase.Root.TheVariants as root
use Rattle.alma_ir.specs.Tree.{If, Case, no_else, Value, Known, a_desig, Field, no_stmts}
use Rattle.alma_mean.specs.Worked.Build.{arms, case_arms, sels, range, module_of, module_with, procedure, number, succeed, write_bool}
use Rattle.alma_mean.specs.Worked.Build.{either, for, call, Visits}

-- the visits of each form that has some of its own
pub record VisitsCount : Type 0 where
  -- the node of the module's body, before and behind
  pub of_nothing : Visits 1 (module_of 1 []) 2
  -- TRUE is three nodes: statement, test and expression
  pub of_a_test : Visits 1 (module_of 1 (succeed ∷ [])) 8
  -- WRITE(KNOWN(r.g)): statement, expression, designator and selector
  pub of_a_selector : Visits 1 (module_of 3 (write_bool (Known (a_desig (root.Local 1) 2 (sels (Field 1 1 ∷ [])))) ∷ [])) 10
  -- IF TRUE THEN END: the statement, the arm, the test and the expression
  pub of_an_arm : Visits 1 (module_of 1 (If (arms ((Value (number 1), []) ∷ [])) no_stmts ∷ [])) 10
  -- CASE 5 OF 1, 4..6: END: the statement, the value, the arm,
  -- and one visit for each label that is tried
  pub of_labels : Visits 1 (module_of 1 (Case (number 5) (case_arms ((range 1 1 ∷ range 4 6 ∷ [], []) ∷ [])) no_else ∷ [])) 10
  -- EITHER END: the statement and the branch
  pub of_a_branch : Visits 1 (module_of 1 (either ([] ∷ []) ∷ [])) 6
  -- FOR i := 1 TO 1 DO END: the statement, both bounds, the variable, and one visit for the turn
  pub of_a_turn : Visits 2 (module_of 4 (for 1 2 (number 1) (number 1) [] ∷ [])) 11
  -- a call of a procedure with no statements: the statement and the test,
  -- and no node of the procedure
  pub of_a_call : Visits 2 (module_with 1 (call 1 [] ∷ []) (procedure [] 0 [] ∷ [])) 6
