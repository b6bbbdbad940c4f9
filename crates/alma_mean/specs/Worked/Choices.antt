-- Programs that choose, and what they give.
use Rattle.std.specs.Prelude.{true, pos, [], ◌∷◌, ◌++◌, codes}
use Rattle.alma_ir.specs.declared.phrase.Cmp.TheVariants as cmp
use Rattle.alma_ir.specs.Tree.{Stmt, TestStmt, If, Commit, Return, no_result, Value, Seq, And, Or, Not, Compare, Truth, Assign, SomeOf}
use Rattle.alma_ir.specs.Tree.{a_loop, Load, Bind, no_stmts}
use Rattle.alma_mean.specs.Events.{Succeeded, Failed}
use Rattle.alma_mean.specs.Worked.Build.{stmts, arms, tests, int, module_of, element, number, load, minus, test, succeed, fail, equals, is}
use Rattle.alma_mean.specs.Worked.Build.{let_be, write, write_bool, write_var, write_known, either, some, digits_of, Gives}

-- EITHER x = 1 ORELSE x = 2 END, as a statement and as a test
abbrev pub one_or_two : Stmt
one_or_two = either ((is 1 1 ∷ []) ∷ (is 1 2 ∷ []) ∷ [])

-- EITHER, SOME, COMMIT, NOT, AND, OR, tests as values and conditions
pub record ChoicesRun : Type 0 where
  -- a module with no statements
  pub empty_module : Gives 1 (module_of 1 []) [] [] Succeeded
  -- WRITE(1); FALSE
  pub false_fails : Gives 1 (module_of 1 (write (number 1) ∷ fail ∷ [])) [] (digits_of (1 ∷ [])) Failed
  -- EITHER x = 1 ORELSE x = 2 END; WRITE(x); x = 2
  pub second_branch : Gives 1 (module_of 2 (one_or_two ∷ write_var 1 ∷ is 1 2 ∷ [])) [] (digits_of (1 ∷ 2 ∷ [])) Succeeded
  -- EITHER x = 1; FALSE ORELSE WRITE(KNOWN(x)) END
  pub branch_is_undone : Gives 1 (module_of 2 (either ((is 1 1 ∷ fail ∷ []) ∷ (write_known 1 ∷ []) ∷ []) ∷ [])) [] (codes "FALSE") Succeeded
  -- a number below 0 is true: -1
  pub negative_is_true : Gives 1 (module_of 1 (test (minus 1) ∷ [])) [] [] Succeeded
  -- SOME i := 3 TO 1 DO TRUE END
  pub empty_some_fails : Gives 1 (module_of 4 (some 1 2 (number 3) (number 1) (succeed ∷ []) ∷ [])) [] [] Failed
  -- SOME x := 1 TO 3 DO TRUE END; WRITE(x); x > 2
  pub some_in_order : Gives 4 (module_of 4
      (some 1 2 (number 1) (number 3) (succeed ∷ []) ∷ write_var 1 ∷ test (Compare cmp.Greater (load 1) (number 2)) ∷ [])) []
      (digits_of (1 ∷ 2 ∷ 3 ∷ [])) Succeeded
  -- a[1] := 1; a[2] := 0; SOME a[a[1]] := 2 TO 3 DO a[1] = 3 END;
  -- WRITE(a[1], a[2]), which no source can say:
  -- the second turn locates a[a[1]] where the first one did
  pub some_from_where_the_turn_began :
      Gives 4 (module_of 5 (Assign (element 1 2 (number 1)) (number 1) int ∷ Assign (element 1 2 (number 2)) (number 0) int ∷
      SomeOf (a_loop (element 1 2 (Load (element 1 2 (number 1)))) int 3 4 (number 2) (number 3) (pos 1)
      (stmts (TestStmt (Bind (element 1 2 (number 1)) (number 3) int true) ∷ []))) ∷
      write (Load (element 1 2 (number 1))) ∷ write (Load (element 1 2 (number 2))) ∷ [])) [] (digits_of (3 ∷ 0 ∷ [])) Succeeded
  -- COMMIT EITHER x := 1 ORELSE x := 2 END END; WRITE(x); x = 2
  pub commit_takes_the_first : Gives 1 (module_of 2
      (Commit (stmts (either ((let_be 1 (number 1) ∷ []) ∷ (let_be 1 (number 2) ∷ []) ∷ []) ∷ [])) ∷ write_var 1 ∷ is 1 2 ∷ [])) []
      (digits_of (1 ∷ [])) Failed
  -- EITHER COMMIT TRUE END ORELSE WRITE(1) END; FALSE: older choices stay
  pub commit_keeps_older_choices : Gives 1
      (module_of 2 (either ((Commit (stmts (succeed ∷ [])) ∷ []) ∷ (write (number 1) ∷ []) ∷ []) ∷ fail ∷ [])) [] (digits_of (1 ∷ []))
      Failed
  -- NOT (x = 1; FALSE); WRITE(KNOWN(x))
  pub not_binds_nothing : Gives 1 (module_of 2 (TestStmt (Not (Seq (stmts (is 1 1 ∷ fail ∷ [])))) ∷ write_known 1 ∷ [])) [] (codes "FALSE")
      Succeeded
  -- NOT (WRITE(1); x = 1)
  pub not_prints : Gives 1 (module_of 2 (TestStmt (Not (Seq (stmts (write (number 1) ∷ is 1 1 ∷ [])))) ∷ [])) [] (digits_of (1 ∷ [])) Failed
  -- (x = 1) OR (x = 2); WRITE(x); x = 2
  pub or_takes_the_first : Gives 1 (module_of 2 (TestStmt (Or (tests (equals 1 1 ∷ equals 1 2 ∷ []))) ∷ write_var 1 ∷ is 1 2 ∷ [])) []
      (digits_of (1 ∷ [])) Failed
  -- (EITHER x = 1 ORELSE x = 2 END) OR TRUE; x = 2
  pub or_drops_later_alternatives : Gives 1
      (module_of 2 (TestStmt (Or (tests (Seq (stmts (one_or_two ∷ [])) ∷ Value (number 1) ∷ []))) ∷ is 1 2 ∷ [])) [] [] Failed
  -- FALSE OR (EITHER x = 1 ORELSE x = 2 END); x = 2; WRITE(x)
  pub or_keeps_all_of_the_last : Gives 1 (module_of 2
      (TestStmt (Or (tests (Value (number 0) ∷ Seq (stmts (one_or_two ∷ [])) ∷ []))) ∷ is 1 2 ∷ write_var 1 ∷ [])) [] (digits_of (2 ∷ []))
      Succeeded
  -- (EITHER x = 1 ORELSE x = 2 END) AND (x = 2); WRITE(x)
  pub and_is_a_sequence : Gives 1 (module_of 2
      (TestStmt (And (tests (Seq (stmts (one_or_two ∷ [])) ∷ equals 1 2 ∷ []))) ∷ write_var 1 ∷ [])) [] (digits_of (2 ∷ [])) Succeeded
  -- b := (EITHER x = 1; FALSE ORELSE x = 2 END); WRITE(b, x)
  pub true_value_binds : Gives 1 (module_of 3
      (let_be 1 (Truth (Seq (stmts (either ((is 2 1 ∷ fail ∷ []) ∷ (is 2 2 ∷ []) ∷ []) ∷ [])))) ∷ write_bool (load 1) ∷ write_var 2 ∷ []))
      [] (codes "TRUE" ++ digits_of (2 ∷ [])) Succeeded
  -- b := (x = 1; FALSE); WRITE(b, KNOWN(x))
  pub false_value_binds_nothing : Gives 1 (module_of 3
      (let_be 1 (Truth (Seq (stmts (is 2 1 ∷ fail ∷ [])))) ∷ write_bool (load 1) ∷ write_known 2 ∷ [])) [] (codes "FALSEFALSE") Succeeded
  -- IF (EITHER x = 1 ORELSE x = 2 END) THEN WRITE(x); x = 2 END
  pub condition_takes_the_first : Gives 1 (module_of 2
      (If (arms ((Seq (stmts (one_or_two ∷ [])), write_var 1 ∷ is 1 2 ∷ []) ∷ [])) no_stmts ∷ [])) [] (digits_of (1 ∷ [])) Failed
  -- IF (x = 1; FALSE) THEN WRITE(1) ELSIF x = 2 THEN WRITE(x) ELSE WRITE(3) END
  pub elsif_in_the_store_on_entry : Gives 1
      (module_of 2 (If (arms ((Seq (stmts (is 1 1 ∷ fail ∷ [])), write (number 1) ∷ []) ∷ (equals 1 2, write_var 1 ∷ []) ∷ []))
      (stmts (write (number 3) ∷ [])) ∷ [])) [] (digits_of (2 ∷ [])) Succeeded
  -- IF FALSE THEN WRITE(1) ELSE WRITE(2) END
  pub else_part : Gives 1 (module_of 1 (If (arms ((Value (number 0), write (number 1) ∷ []) ∷ [])) (stmts (write (number 2) ∷ [])) ∷ [])) []
      (digits_of (2 ∷ [])) Succeeded
  -- IF TRUE THEN EITHER x = 1 ORELSE x = 2 END END; x = 2; WRITE(x)
  pub body_keeps_its_choices : Gives 1 (module_of 2
      (If (arms ((Value (number 1), one_or_two ∷ []) ∷ [])) no_stmts ∷ is 1 2 ∷ write_var 1 ∷ [])) [] (digits_of (2 ∷ [])) Succeeded
  -- SOME x := 1 TO 3 DO WRITE(x); IF x >= 2 THEN RETURN END; FALSE END; WRITE(9)
  pub return_ends_the_module : Gives 4 (module_of 4
      (some 1 2 (number 1) (number 3) (write_var 1
      ∷ If (arms ((Value (Compare cmp.GreaterEq (load 1) (number 2)), Return no_result ∷ []) ∷ [])) no_stmts ∷ fail ∷ []) ∷ write (number 9)
      ∷ [])) [] (digits_of (1 ∷ 2 ∷ [])) Succeeded
