-- Programs with loops, and what they give.
use Rattle.std.specs.Prelude.{◌≡◌, ◌+◌, ◌-◌, ◌^◌, ℕ, true, false, pos, negsuc, [], ◌∷◌, codes, replicate}
use Rattle.alma_base.specs.declared.fault.RunFault.TheVariants as fault
use Rattle.alma_ir.specs.declared.phrase.Op.TheVariants as op
use Rattle.alma_ir.specs.declared.phrase.Cmp.TheVariants as cmp
use Rattle.alma_ir.specs.Tree.{Stmt, Program, TestStmt, While, Repeat, ForTo, WriteText, Value, Bind, Seq, And, Not, Expr, Load, Known}
use Rattle.alma_ir.specs.Tree.{Compare, Chain, a_loop}
use Rattle.alma_mean.specs.Store.{Number, Unknown}
use Rattle.alma_mean.specs.Events.{Succeeded, Failed, Faulted, CutOff, Go, Visit, Alt, Fail, first}
use Rattle.alma_mean.specs.Meaning.{level, start}
use Rattle.alma_mean.specs.Worked.Build.{stmts, tests, links, int, range, module_of, module_with, procedure, var, element, number, load}
use Rattle.alma_mean.specs.Worked.Build.{plus, greatest, test, succeed, fail, equals, is, let_be, write, write_var, write_known, either}
use Rattle.alma_mean.specs.Worked.Build.{some, for, call, digits_of, Gives}

-- WHILE TRUE DO WRITE(1) END
abbrev pub write_forever : Program
write_forever = module_of 1 (While (Value (number 1)) (stmts (write (number 1) ∷ [])) ∷ [])

-- PROCEDURE p; BEGIN WRITE(1) END p;  WHILE TRUE DO p END
abbrev pub call_forever : Program
call_forever = module_with 1 (While (Value (number 1)) (stmts (call 1 [] ∷ [])) ∷ []) (procedure [] 0 (write (number 1) ∷ []) ∷ [])

-- FOR i := 3 TO 1 DO WRITE(i) END
abbrev pub empty_for : Stmt
empty_for = for 1 2 (number 3) (number 1) (write_var 1 ∷ [])

-- WHILE, REPEAT, FOR and SOME, and where they are cut off
pub record LoopsRun : Type 0 where
  -- a loop with no end is cut off at each level
  pub forever_at_4 : Gives 4 write_forever [] (digits_of (1 ∷ 1 ∷ 1 ∷ [])) CutOff
  pub forever_at_40 : Gives 40 (module_of 1 (While (Value (number 1)) (stmts (WriteText (49 ∷ []) ∷ [])) ∷ [])) [] (replicate 39 49) CutOff
  -- condition and body of a turn are taken one level below, and so is what is called there
  pub calls_at_1 : Gives 1 call_forever [] [] CutOff
  pub calls_at_2 : Gives 2 call_forever [] [] CutOff
  pub calls_at_3 : Gives 3 call_forever [] (digits_of (1 ∷ [])) CutOff
  pub calls_at_4 : Gives 4 call_forever [] (digits_of (1 ∷ 1 ∷ [])) CutOff
  pub calls_at_5 : Gives 5 call_forever [] (digits_of (1 ∷ 1 ∷ 1 ∷ [])) CutOff
  pub calls_at_6 : Gives 6 call_forever [] (digits_of (1 ∷ 1 ∷ 1 ∷ 1 ∷ [])) CutOff
  -- x := 0; WHILE x < 3 DO x := x + 1; WRITE(x) END
  pub while_counts : Gives 5 (module_of 2
      (let_be 1 (number 0) ∷ While (Value (Compare cmp.Less (load 1) (number 3)))
      (stmts (let_be 1 (plus (load 1) (number 1)) ∷ write_var 1 ∷ [])) ∷ [])) [] (digits_of (1 ∷ 2 ∷ 3 ∷ [])) Succeeded
  -- WHILE NOT KNOWN(x) AND (x = 1) DO WRITE(x) END
  pub condition_binds : Gives 3 (module_of 2
      (While (And (tests (Not (Value (Known (var 1))) ∷ equals 1 1 ∷ []))) (stmts (write_var 1 ∷ [])) ∷ [])) [] (digits_of (1 ∷ []))
      Succeeded
  -- x := 0; REPEAT x := x + 1; WRITE(x) UNTIL x = 3
  pub repeat_counts : Gives 3 (module_of 2
      (let_be 1 (number 0) ∷ Repeat (stmts (let_be 1 (plus (load 1) (number 1)) ∷ write_var 1 ∷ [])) (equals 1 3) ∷ [])) []
      (digits_of (1 ∷ 2 ∷ 3 ∷ [])) Succeeded
  -- the same at a level that is too low for the third turn
  pub repeat_is_cut_off : Gives 2 (module_of 2
      (let_be 1 (number 0) ∷ Repeat (stmts (let_be 1 (plus (load 1) (number 1)) ∷ write_var 1 ∷ [])) (equals 1 3) ∷ [])) []
      (digits_of (1 ∷ 2 ∷ [])) CutOff
  -- x := 0; REPEAT x := x + 1 UNTIL (y = x; y = 2); WRITE(x, y):
  -- a condition that fails leaves y unknown
  pub repeat_undoes_the_condition :
      Gives 2 (module_of 3 (let_be 1 (number 0)
      ∷ Repeat (stmts (let_be 1 (plus (load 1) (number 1)) ∷ []))
      (Seq (stmts (TestStmt (Bind (var 2) (load 1) int true) ∷ is 2 2 ∷ []))) ∷
      write_var 1 ∷ write_var 2 ∷ [])) [] (digits_of (2 ∷ 2 ∷ [])) Succeeded
  -- FOR i := 5 TO 1 BY -2 DO WRITE(i) END; WRITE(i)
  pub for_by_minus_two : Gives 4 (module_of 4
      (ForTo (a_loop (var 1) int 2 3 (number 5) (number 1) (negsuc 1) (stmts (write_var 1 ∷ []))) ∷ write_var 1 ∷ [])) []
      (digits_of (5 ∷ 3 ∷ 1 ∷ 1 ∷ [])) Succeeded
  -- FOR i := 3 TO 1 DO WRITE(i) END; WRITE(KNOWN(i))
  pub empty_for_does_nothing : Gives 1 (module_of 4 (empty_for ∷ write_known 1 ∷ [])) [] (codes "FALSE") Succeeded
  -- but counter and limit are stored
  pub empty_for_stores_its_bounds :
      first ((level (module_of 4 []) [] 1).stmt empty_for (start (module_of 4 []))) ≡
      Visit (Visit (Visit (Visit
      (Visit (Visit (Alt (record
      { routine = 0; link = 0; cells = Number (pos 0) ∷ Unknown ∷ Number (pos 3) ∷ Number (pos 1) ∷ [] } ∷ []) (Go tt) Fail))))))
  -- FOR i := 1 TO 3 DO WRITE(i) END, i of [1..2]
  pub for_leaves_the_range : Gives 4 (module_of 4
      (ForTo (a_loop (var 1) (range 1 2) 2 3 (number 1) (number 3) (pos 1) (stmts (write_var 1 ∷ []))) ∷ [])) [] (digits_of (1 ∷ 2 ∷ []))
      (Faulted fault.Range 1)
  -- FOR i := 9223372036854775806 TO 9223372036854775807 DO WRITE(1) END
  pub count_does_not_overflow : Gives 3 (module_of 4 (for 1 2 (number (2 ^ 63 - 2)) greatest (write (number 1) ∷ []) ∷ [])) []
      (digits_of (1 ∷ 1 ∷ [])) Succeeded
  -- x := 2; FOR i := 1 TO x DO x := 5; WRITE(i) END
  pub bounds_are_taken_once : Gives 3 (module_of 5
      (let_be 1 (number 2) ∷ for 2 3 (number 1) (load 1) (let_be 1 (number 5) ∷ write_var 2 ∷ []) ∷ [])) [] (digits_of (1 ∷ 2 ∷ []))
      Succeeded
  -- FOR i := 1 TO 3 DO WRITE(i); i := 7 END; WRITE(i)
  pub count_is_hidden : Gives 4 (module_of 4 (for 1 2 (number 1) (number 3) (write_var 1 ∷ let_be 1 (number 7) ∷ []) ∷ write_var 1 ∷ [])) []
      (digits_of (1 ∷ 2 ∷ 3 ∷ 7 ∷ [])) Succeeded
  -- FOR i := 1 TO 2 DO EITHER TRUE ORELSE WRITE(2) END; WRITE(i) END; FALSE
  pub turns_keep_their_choices :
      Gives 3 (module_of 4 (for 1 2 (number 1) (number 2) (either ((succeed ∷ []) ∷ (write (number 2) ∷ []) ∷ []) ∷ write_var 1 ∷ []) ∷ fail
      ∷ [])) []
      (digits_of (1 ∷ 2 ∷ 2 ∷ 2 ∷ 2 ∷ 1 ∷ 2 ∷ 2 ∷ 2 ∷ [])) Failed
  -- FOR i := 1 TO 60 DO WRITE('1') END
  pub sixty_turns : Gives 61 (module_of 4 (for 1 2 (number 1) (number 60) (WriteText (49 ∷ []) ∷ []) ∷ [])) [] (replicate 60 49) Succeeded

-- ---- as many queens as the board has rows, none of which attacks another

-- `x[i]`, the rows standing in the first n slots behind the input position
abbrev pub queen : ℕ → ℕ → Expr
queen n slot = Load (element 1 n (load slot))

-- `x <> y` as a statement
abbrev pub differ : Expr → Expr → Stmt
differ x y = test (Compare cmp.Unequal x y)

-- `x + y - z`
abbrev pub diagonal : ℕ → ℕ → ℕ → Expr
diagonal x y z = Chain false (load x) (links ((op.Add, load y) ∷ (op.Sub, load z) ∷ []))

-- FOR col := 1 TO n DO SOME row := 1 TO n DO
--   FOR i := 1 TO col - 1 DO x[i] <> row; x[i] <> row + col - i; x[i] <> row + i - col END;
--   x[col] = row
-- END END; FOR i := 1 TO n DO WRITE(x[i]) END
abbrev pub queens : ℕ → Program
queens n =
    let col = n + 1 in let row = n + 2 in let i = n + 3 in
    module_of (n + 12)
    (for col (n + 4) (number 1) (number n)
    (some row (n + 6) (number 1) (number n)
    (for i (n + 8) (number 1) (Chain false (load col) (links ((op.Sub, number 1) ∷ [])))
    (differ (queen n i) (load row) ∷ differ (queen n i) (diagonal row col i) ∷ differ (queen n i) (diagonal row i col) ∷ []) ∷
    TestStmt (Bind (element 1 n (load col)) (load row) int true) ∷ []) ∷ []) ∷
    for i (n + 10) (number 1) (number n) (write (queen n i) ∷ []) ∷ [])

-- the first board that is found
pub record QueensRun : Type 0 where
  pub on_four_rows : Gives 14 (queens 4) [] (digits_of (2 ∷ 4 ∷ 1 ∷ 3 ∷ [])) Succeeded
