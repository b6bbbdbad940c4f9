-- Programs with equations, assignments and numbers, and what they give.
use Rattle.std.specs.Prelude.{true, false, [], ◌∷◌, ◌++◌, codes, ℕ}
use Rattle.std.specs.Fmt.{decimal}
use Rattle.alma_base.specs.declared.fault.RunFault.TheVariants as fault
use Rattle.alma_ir.specs.declared.phrase.Root.TheVariants as root
use Rattle.alma_ir.specs.declared.phrase.Op.TheVariants as op
use Rattle.alma_ir.specs.declared.phrase.Cmp.{Cmp}
use Rattle.alma_ir.specs.declared.phrase.Cmp.TheVariants as cmp
use Rattle.alma_ir.specs.declared.phrase.WriteAs.TheVariants as write_as
use Rattle.alma_ir.specs.Tree.{Stmt, TestStmt, Assign, CopyCells, Case, WriteExpr, no_else, else_part, Bind, Unify, SameCells, Expr, Load}
use Rattle.alma_ir.specs.Tree.{Chain, Compare, Known, Chr, a_desig, Field, Index}
use Rattle.alma_mean.specs.Events.{Succeeded, Failed, Faulted}
use Rattle.alma_mean.specs.Worked.Build.{stmts, case_arms, links, sels, int, range, module_of, var, element, whole, number, load, minus}
use Rattle.alma_mean.specs.Worked.Build.{operate, plus, greatest, let_be, write, write_bool, write_var, write_known, write_byte, digits_of}
use Rattle.alma_mean.specs.Worked.Build.{Gives}

-- `x = y`
abbrev pub meet : ℕ → ℕ → Stmt
meet x y = TestStmt (Unify (var x) int (var y) int)

-- `a[i] = n` of an array a of two cells from a slot on
abbrev pub element_is : ℕ → ℕ → ℕ → Stmt
element_is slot index n = TestStmt (Bind (element slot 2 (number index)) (number n) int true)

-- `WRITE(a[i])`
abbrev pub write_element : ℕ → ℕ → Stmt
write_element slot index = write (Load (element slot 2 (number index)))

-- `a = b` of arrays of two cells, at slots 1 and 3
abbrev pub arrays_meet : Stmt
arrays_meet = TestStmt (SameCells (whole 1 2) (whole 3 2))

-- the least number of INTEGER
abbrev pub least : Expr
least = Chain true greatest (links ((op.Sub, number 1) ∷ []))

-- `WRITE(1 < 2)` and the like
abbrev pub write_compare : Cmp → ℕ → ℕ → Stmt
write_compare how a b = write_bool (Compare how (number a) (number b))

-- equations, assignments and CASE: what each program prints, and how it ends
pub record EquationsRun : Type 0 where
  -- x = y, with neither known
  pub both_unknown : Gives 1 (module_of 3 (meet 1 2 ∷ [])) [] [] (Faulted fault.Unknown 1)
  -- x = x
  pub unknown_with_itself : Gives 1 (module_of 2 (meet 1 1 ∷ [])) [] [] (Faulted fault.Unknown 1)
  -- y := 3; x = y; WRITE(x)
  pub left_gets_right : Gives 1 (module_of 3 (let_be 2 (number 3) ∷ meet 1 2 ∷ write_var 1 ∷ [])) [] (digits_of (3 ∷ [])) Succeeded
  -- x := 3; x = y; WRITE(y)
  pub right_gets_left : Gives 1 (module_of 3 (let_be 1 (number 3) ∷ meet 1 2 ∷ write_var 2 ∷ [])) [] (digits_of (3 ∷ [])) Succeeded
  -- x := 3; y := 4; x = y
  pub known_and_unlike : Gives 1 (module_of 3 (let_be 1 (number 3) ∷ let_be 2 (number 4) ∷ meet 1 2 ∷ [])) [] [] Failed
  -- 7 = x; WRITE(x)
  pub expression_on_the_left : Gives 1 (module_of 2 (TestStmt (Bind (var 1) (number 7) int false) ∷ write_var 1 ∷ [])) []
      (digits_of (7 ∷ [])) Succeeded
  -- x = 10, x of [0..9]
  pub binds_out_of_range : Gives 1 (module_of 2 (TestStmt (Bind (var 1) (number 10) (range 0 9) true) ∷ [])) [] [] (Faulted fault.Range 1)
  -- x := 5; x = 10, x of [0..9]: a known cell just fails
  pub known_is_not_ranged : Gives 1 (module_of 2
      (Assign (var 1) (number 5) (range 0 9) ∷ TestStmt (Bind (var 1) (number 10) (range 0 9) true) ∷ [])) [] [] Failed
  -- y := 10; x = y, x of [0..9]
  pub unifies_out_of_range : Gives 1 (module_of 3 (let_be 2 (number 10) ∷ TestStmt (Unify (var 1) (range 0 9) (var 2) int) ∷ [])) [] []
      (Faulted fault.Range 1)
  -- a[1] = 1; b[2] = 2; a = b; WRITE(a[1], a[2], b[1], b[2])
  pub arrays_complete_each_other : Gives 1
      (module_of 5 (element_is 1 1 1 ∷ element_is 3 2 2 ∷ arrays_meet ∷ write_element 1 1 ∷ write_element 1 2 ∷ write_element 3 1
      ∷ write_element 3 2 ∷ [])) [] (digits_of (1 ∷ 2 ∷ 1 ∷ 2 ∷ [])) Succeeded
  -- a[1] = 1; a = b
  pub arrays_both_unknown : Gives 1 (module_of 5 (element_is 1 1 1 ∷ arrays_meet ∷ [])) [] [] (Faulted fault.Unknown 1)
  -- a[1] = 1; b[1] = 2; a = b: it fails at the first cell, before the second faults
  pub arrays_fail_in_order : Gives 1 (module_of 5 (element_is 1 1 1 ∷ element_is 3 1 2 ∷ arrays_meet ∷ [])) [] [] Failed
  -- a[1] = 1; b[2] = 5; b := a; WRITE(b[1], KNOWN(b[2]))
  pub unknown_is_copied : Gives 1 (module_of 5
      (element_is 1 1 1 ∷ element_is 3 2 5 ∷ CopyCells (whole 3 2) (whole 1 2) ∷ write_element 3 1
      ∷ write_bool (Known (element 3 2 (number 2))) ∷ [])) [] (decimal 1 ++ codes "FALSE") Succeeded
  -- a[3] := 1
  pub index_outside : Gives 1 (module_of 3 (Assign (element 1 2 (number 3)) (number 1) int ∷ [])) [] [] (Faulted fault.Index 1)
  -- r[2].g := 4, of an array of records of two cells each; the cell is the fourth
  pub part_of_a_part : Gives 1 (module_of 5
      (Assign (a_desig (root.Local 1) 4 (sels (Index (number 2) (range 1 2) 2 ∷ Field 1 1 ∷ []))) (number 4) int ∷ write_var 4 ∷ [])) []
      (digits_of (4 ∷ [])) Succeeded
  -- x := 10, x of [0..9]
  pub assigns_out_of_range : Gives 1 (module_of 2 (Assign (var 1) (number 10) (range 0 9) ∷ [])) [] [] (Faulted fault.Range 1)
  -- WRITE(x)
  pub unknown_is_read : Gives 1 (module_of 2 (write_var 1 ∷ [])) [] [] (Faulted fault.Unknown 1)
  -- x := 3; CASE x OF 1: WRITE(1) | 2..2: WRITE(2) END
  pub no_case : Gives 1 (module_of 2
      (let_be 1 (number 3) ∷ Case (load 1) (case_arms
      ((range 1 1 ∷ [], write (number 1) ∷ []) ∷ (range 2 2 ∷ [], write (number 2) ∷ []) ∷ [])) no_else ∷ [])) [] []
      (Faulted fault.NoCase 1)
  -- CASE 5 OF 1, 4..6: WRITE(1) | 5: WRITE(2) END
  pub first_arm_that_holds : Gives 1 (module_of 1
      (Case (number 5) (case_arms ((range 1 1 ∷ range 4 6 ∷ [], write (number 1) ∷ []) ∷ (range 5 5 ∷ [], write (number 2) ∷ []) ∷ []))
      no_else ∷ [])) [] (digits_of (1 ∷ [])) Succeeded
  -- CASE 3 OF 1: WRITE(1) ELSE WRITE(2) END
  pub case_else : Gives 1 (module_of 1
      (Case (number 3) (case_arms ((range 1 1 ∷ [], write (number 1) ∷ []) ∷ [])) (else_part (stmts (write (number 2) ∷ []))) ∷ [])) []
      (digits_of (2 ∷ [])) Succeeded

-- operators, comparisons, CHR and KNOWN
pub record NumbersRun : Type 0 where
  -- x := 9223372036854775807; x := x + 1
  pub sum_overflows : Gives 1 (module_of 2 (let_be 1 greatest ∷ let_be 1 (plus (load 1) (number 1)) ∷ [])) [] [] (Faulted fault.Overflow 1)
  -- WRITE((-7) DIV 2, ' ', (-7) MOD 2, ' ', 7 MOD (-2), ' ', -7 DIV 2)
  pub division_rounds_down :
      Gives 1 (module_of 1 (write (operate op.Div (minus 7) (number 2)) ∷ write_byte 32 ∷ write (operate op.Mod (minus 7) (number 2))
      ∷ write_byte 32 ∷
      write (operate op.Mod (number 7) (minus 2)) ∷ write_byte 32 ∷ write (Chain true (operate op.Div (number 7) (number 2)) (links []))
      ∷ [])) []
      (codes "-" ++ (decimal 4 ++ (codes " " ++ (decimal 1 ++ (codes " -" ++ (decimal 1 ++ (codes " -" ++ (decimal 3 ++ [])))))))) Succeeded
  -- WRITE(1 DIV 0)
  pub div_by_zero : Gives 1 (module_of 1 (write (operate op.Div (number 1) (number 0)) ∷ [])) [] [] (Faulted fault.ZeroDivide 1)
  -- WRITE(1 MOD 0)
  pub mod_by_zero : Gives 1 (module_of 1 (write (operate op.Mod (number 1) (number 0)) ∷ [])) [] [] (Faulted fault.ZeroDivide 1)
  -- WRITE(x MOD (-1)) and WRITE(x DIV (-1)), x the least number
  pub least_mod_minus_one : Gives 1 (module_of 1 (write (operate op.Mod least (minus 1)) ∷ [])) [] (digits_of (0 ∷ [])) Succeeded
  pub least_div_minus_one : Gives 1 (module_of 1 (write (operate op.Div least (minus 1)) ∷ [])) [] [] (Faulted fault.Overflow 1)
  -- WRITE(-x), x the least number
  pub sign_overflows : Gives 1 (module_of 1 (write (Chain true least (links [])) ∷ [])) [] [] (Faulted fault.Overflow 1)
  -- WRITE(2 * 3 - 1)
  pub from_left_to_right : Gives 1 (module_of 1 (write (operate op.Sub (operate op.Mul (number 2) (number 3)) (number 1)) ∷ [])) []
      (digits_of (5 ∷ [])) Succeeded
  -- WRITE(1 <> 2, 1 < 2, 2 <= 2, 1 > 2, 2 >= 1, 1 = 2)
  pub comparisons :
      Gives 1 (module_of 1 (write_compare cmp.Unequal 1 2 ∷ write_compare cmp.Less 1 2 ∷ write_compare cmp.LessEq 2 2
      ∷ write_compare cmp.Greater 1 2 ∷
      write_compare cmp.GreaterEq 2 1 ∷ write_compare cmp.Equal 1 2 ∷ [])) [] (codes "TRUETRUETRUEFALSETRUEFALSE") Succeeded
  -- WRITE(CHR(65))
  pub chr : Gives 1 (module_of 1 (WriteExpr (Chr (number 65)) write_as.Char ∷ [])) [] (codes "A") Succeeded
  -- WRITE(CHR(256))
  pub chr_out_of_range : Gives 1 (module_of 1 (WriteExpr (Chr (number 256)) write_as.Char ∷ [])) [] [] (Faulted fault.Range 1)
  -- WRITE(KNOWN(x)); x := 1; WRITE(KNOWN(x))
  pub known : Gives 1 (module_of 2 (write_known 1 ∷ let_be 1 (number 1) ∷ write_known 1 ∷ [])) [] (codes "FALSETRUE") Succeeded
