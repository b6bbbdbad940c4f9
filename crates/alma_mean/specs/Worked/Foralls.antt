-- Programs with FORALL, and what they give.
use Rattle.std.specs.Prelude.{ℕ, ◌+◌, [], ◌∷◌, codes}
use Rattle.alma_base.specs.declared.fault.RunFault.TheVariants as fault
use Rattle.alma_ir.specs.declared.phrase.Op.TheVariants as op
use Rattle.alma_ir.specs.declared.phrase.ReadAs.TheVariants as read_as
use Rattle.alma_ir.specs.Tree.{Stmt, Assign, If, Read, Load}
use Rattle.alma_mean.specs.Events.{Succeeded, Failed, Faulted}
use Rattle.alma_mean.specs.Worked.Build.{stmts, arms, int, module_of, var, element, number, load, operate, plus, succeed, fail, equals, is}
use Rattle.alma_mean.specs.Worked.Build.{let_be, write, write_var, write_known, either, forall, some, for, digits_of, Gives}

-- SOME i := 1 TO n DO TRUE END, i and its hidden slots from a slot on
abbrev pub choose_to : ℕ → ℕ → Stmt
choose_to slot n = some slot (slot + 1) (number 1) (number n) (succeed ∷ [])

-- FORALL and its carry
pub record ForallsRun : Type 0 where
  -- n := 0; FORALL SOME i := 1 TO 3 DO TRUE END DO n := n + 1; WRITE(i) END; WRITE(n)
  pub carry_counts : Gives 4 (module_of 5
      (let_be 1 (number 0) ∷ forall (choose_to 2 3 ∷ []) (let_be 1 (plus (load 1) (number 1)) ∷ write_var 2 ∷ []) ∷ write_var 1 ∷ [])) []
      (digits_of (1 ∷ 2 ∷ 3 ∷ 3 ∷ [])) Succeeded
  -- FORALL SOME i := 1 TO 2 DO x := i END DO x := x + 10; WRITE(x) END; WRITE(x)
  pub carry_is_over_the_alternative : Gives 3
      (module_of 5 (forall (some 2 3 (number 1) (number 2) (let_be 1 (load 2) ∷ []) ∷ [])
      (let_be 1 (plus (load 1) (number 10)) ∷ write_var 1 ∷ []) ∷ write_var 1 ∷ [])) [] (digits_of (11 ∷ 21 ∷ 21 ∷ [])) Succeeded
  -- FORALL SOME i := 1 TO 2 DO TRUE END DO a[i] := i END; WRITE(a[1], a[2])
  pub carry_grows : Gives 3 (module_of 6
      (forall (choose_to 3 2 ∷ []) (Assign (element 1 2 (load 3)) (load 3) int ∷ []) ∷ write (Load (element 1 2 (number 1)))
      ∷ write (Load (element 1 2 (number 2))) ∷ [])) [] (digits_of (1 ∷ 2 ∷ [])) Succeeded
  -- FORALL FALSE DO WRITE(1) END; WRITE(2)
  pub no_alternative : Gives 1 (module_of 1 (forall (fail ∷ []) (write (number 1) ∷ []) ∷ write (number 2) ∷ [])) [] (digits_of (2 ∷ []))
      Succeeded
  -- FORALL SOME i := 1 TO 2 DO TRUE END DO n := i; i = 1 END; WRITE(n)
  pub failed_part_adds_nothing : Gives 3 (module_of 5 (forall (choose_to 2 2 ∷ []) (let_be 1 (load 2) ∷ is 2 1 ∷ []) ∷ write_var 1 ∷ [])) []
      (digits_of (1 ∷ [])) Succeeded
  -- FORALL x := 1 DO TRUE END; WRITE(KNOWN(x))
  pub alternative_is_undone : Gives 1 (module_of 2 (forall (let_be 1 (number 1) ∷ []) (succeed ∷ []) ∷ write_known 1 ∷ [])) []
      (codes "FALSE") Succeeded
  -- n := 0; FORALL EITHER WRITE(n) ORELSE WRITE(n) END DO n := n + 1 END; WRITE(n)
  pub alternatives_never_see_the_carry : Gives 1
      (module_of 2 (let_be 1 (number 0) ∷ forall (either ((write_var 1 ∷ []) ∷ (write_var 1 ∷ []) ∷ []) ∷ [])
      (let_be 1 (plus (load 1) (number 1)) ∷ []) ∷ write_var 1 ∷ [])) [] (digits_of (0 ∷ 0 ∷ 2 ∷ [])) Succeeded
  -- FORALL EITHER TRUE ORELSE y := 1 END DO WRITE(KNOWN(y)) END:
  -- unknown against unknown is no change
  pub unknown_is_no_change : Gives 1 (module_of 2
      (forall (either ((succeed ∷ []) ∷ (let_be 1 (number 1) ∷ []) ∷ []) ∷ []) (write_known 1 ∷ []) ∷ [])) [] (codes "FALSETRUE") Succeeded
  -- FORALL SOME x := 1 TO 2 DO y := x * 10 END DO IF x = 1 THEN y := 5 ELSE y := 20 END END;
  -- WRITE(y): a change is one from the store with the carry over it
  pub change_is_from_the_carry :
      Gives 3 (module_of 5 (forall (some 1 3 (number 1) (number 2) (let_be 2 (operate op.Mul (load 1) (number 10)) ∷ []) ∷ [])
      (If (arms ((equals 1 1, let_be 2 (number 5) ∷ []) ∷ [])) (stmts (let_be 2 (number 20) ∷ [])) ∷ []) ∷ write_var 2 ∷ [])) []
      (digits_of (20 ∷ [])) Succeeded
  -- FORALL SOME i := 1 TO 2 DO TRUE END DO READ(x); WRITE(x) END; READ(x); WRITE(x):
  -- the input position is carried
  pub position_is_carried :
      Gives 3 (module_of 5 (forall (choose_to 2 2 ∷ []) (Read (var 1) read_as.Int int ∷ write_var 1 ∷ []) ∷ Read (var 1) read_as.Int int
      ∷ write_var 1 ∷ [])) (codes "1 2 3") (digits_of (1 ∷ 2 ∷ 3 ∷ [])) Succeeded
  -- FORALL EITHER READ(x) ORELSE READ(x); READ(x); READ(x) END DO READ(y); WRITE(y) END:
  -- the position that T left is laid over the one to which S moved
  pub position_of_the_part_wins :
      Gives 3 (module_of 3 (forall
      (either ((Read (var 1) read_as.Int int ∷ [])
      ∷ (Read (var 1) read_as.Int int ∷ Read (var 1) read_as.Int int ∷ Read (var 1) read_as.Int int ∷ []) ∷ []) ∷ [])
      (Read (var 2) read_as.Int int ∷ write_var 2 ∷ []) ∷ [])) (codes "1 2 3 4") (digits_of (2 ∷ 3 ∷ [])) Succeeded
  -- FORALL EITHER TRUE ORELSE x := 1 DIV 0 END DO WRITE(1) END
  pub fault_ends_it : Gives 1 (module_of 2
      (forall (either ((succeed ∷ []) ∷ (let_be 1 (operate op.Div (number 1) (number 0)) ∷ []) ∷ []) ∷ []) (write (number 1) ∷ []) ∷ [])) []
      (digits_of (1 ∷ [])) (Faulted fault.ZeroDivide 1)
  -- FORALL EITHER TRUE ORELSE TRUE END DO WRITE(1) END; FALSE
  pub it_has_one_alternative : Gives 1 (module_of 1
      (forall (either ((succeed ∷ []) ∷ (succeed ∷ []) ∷ []) ∷ []) (write (number 1) ∷ []) ∷ fail ∷ [])) [] (digits_of (1 ∷ 1 ∷ [])) Failed
  -- FORALL TRUE DO EITHER WRITE(1) ORELSE WRITE(2) END END; FALSE
  pub part_is_committed : Gives 1 (module_of 1
      (forall (succeed ∷ []) (either ((write (number 1) ∷ []) ∷ (write (number 2) ∷ []) ∷ []) ∷ []) ∷ fail ∷ [])) [] (digits_of (1 ∷ []))
      Failed
  -- n := 0; FORALL SOME i := 1 TO 2 DO TRUE END DO FORALL SOME j := 1 TO 2 DO TRUE END
  -- DO n := n + 1 END END; WRITE(n)
  pub one_in_another : Gives 3 (module_of 8
      (let_be 1 (number 0) ∷ forall (choose_to 2 2 ∷ []) (forall (choose_to 5 2 ∷ []) (let_be 1 (plus (load 1) (number 1)) ∷ []) ∷ [])
      ∷ write_var 1 ∷ [])) [] (digits_of (4 ∷ [])) Succeeded
  -- n := 0; FORALL SOME i := 1 TO 2 DO TRUE END DO FOR j := 1 TO 2 DO n := n + j END END;
  -- WRITE(n, j)
  pub loop_in_the_part : Gives 4 (module_of 8
      (let_be 1 (number 0) ∷ forall (choose_to 2 2 ∷ []) (for 5 6 (number 1) (number 2) (let_be 1 (plus (load 1) (load 5)) ∷ []) ∷ [])
      ∷ write_var 1 ∷ write_var 5 ∷ [])) [] (digits_of (6 ∷ 2 ∷ [])) Succeeded
