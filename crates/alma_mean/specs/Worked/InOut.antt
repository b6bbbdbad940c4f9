-- Programs that read and write, and what they give.
use Rattle.std.specs.Prelude.{ℕ, [], ◌∷◌, ◌++◌, codes}
use Rattle.std.specs.Fmt.{decimal}
use Rattle.alma_base.specs.declared.fault.RunFault.TheVariants as fault
use Rattle.alma_ir.specs.declared.phrase.ReadAs.TheVariants as read_as
use Rattle.alma_ir.specs.declared.phrase.WriteAs.TheVariants as write_as
use Rattle.alma_ir.specs.Tree.{Stmt, Read, WriteExpr, WriteText, WriteLine}
use Rattle.alma_mean.specs.Events.{Succeeded, Failed, Faulted}
use Rattle.alma_mean.specs.Worked.Build.{int, range, module_of, var, element, number, load, minus, is, write, write_bool, write_var}
use Rattle.alma_mean.specs.Worked.Build.{write_byte, either, digits_of, Gives}

-- `READ(x)` of an INTEGER
abbrev pub read : ℕ → Stmt
read slot = Read (var slot) read_as.Int int

-- `READ(c)` of a CHAR
abbrev pub read_byte : ℕ → Stmt
read_byte slot = Read (var slot) read_as.Char (range 0 255)

-- `WRITE(c)` of a CHAR
abbrev pub write_char : ℕ → Stmt
write_char slot = WriteExpr (load slot) write_as.Char

-- READ and WRITE
pub record InOutRuns : Type 0 where
  -- EITHER READ(x); x = 6 ORELSE READ(x) END; WRITE(x): a failing branch gives the position back
  pub position_is_given_back : Gives 1 (module_of 2 (either ((read 1 ∷ is 1 6 ∷ []) ∷ (read 1 ∷ []) ∷ []) ∷ write_var 1 ∷ [])) (codes "5 6")
      (digits_of (5 ∷ [])) Succeeded
  -- READ(x); WRITE(x); READ(y)
  pub no_number : Gives 1 (module_of 3 (read 1 ∷ write_var 1 ∷ read 2 ∷ [])) (codes " 12a") (digits_of (12 ∷ [])) Failed
  pub number_too_large : Gives 1 (module_of 3 (read 1 ∷ write_var 1 ∷ read 2 ∷ [])) (codes "99999999999999999999") []
      (Faulted fault.ReadRange 1)
  -- READ(x); WRITE(x), behind space, TAB, CR and LF, and with signs
  pub blanks_are_skipped : Gives 1 (module_of 2 (read 1 ∷ write_var 1 ∷ [])) (32 ∷ 9 ∷ 13 ∷ 10 ∷ 53 ∷ []) (digits_of (5 ∷ [])) Succeeded
  pub minus_is_read : Gives 1 (module_of 2 (read 1 ∷ write_var 1 ∷ [])) (codes "-7") (codes "-" ++ digits_of (7 ∷ [])) Succeeded
  pub plus_is_read : Gives 1 (module_of 2 (read 1 ∷ write_var 1 ∷ [])) (codes "+7") (digits_of (7 ∷ [])) Succeeded
  -- EITHER READ(x) ORELSE READ(c); WRITE(c) END: a sign with no digits moves nothing
  pub sign_alone : Gives 1 (module_of 3 (either ((read 1 ∷ []) ∷ (read_byte 2 ∷ write_char 2 ∷ []) ∷ []) ∷ [])) (codes " +a") (codes " ")
      Succeeded
  -- READ(x), x of [0..9]
  pub read_out_of_range : Gives 1 (module_of 2 (Read (var 1) read_as.Int (range 0 9) ∷ [])) (codes "10") [] (Faulted fault.Range 1)
  pub too_large_comes_first : Gives 1 (module_of 2 (Read (var 1) read_as.Int (range 0 9) ∷ [])) (codes "99999999999999999999") []
      (Faulted fault.ReadRange 1)
  -- READ(c); READ(d); WRITE(d); WRITE(c)
  pub bytes : Gives 1 (module_of 3 (read_byte 1 ∷ read_byte 2 ∷ write_char 2 ∷ write_char 1 ∷ [])) (codes "a b") (codes " a") Succeeded
  -- READ(c); READ(d), at the end of the input
  pub no_byte : Gives 1 (module_of 3 (read_byte 1 ∷ read_byte 2 ∷ [])) (codes "a") [] Failed
  -- READ(c), c of ['a'..'b']
  pub byte_out_of_range : Gives 1 (module_of 2 (Read (var 1) read_as.Char (range 97 98) ∷ [])) (codes "c") [] (Faulted fault.Range 1)
  -- READ(a[3]), a of two cells: the variable is located before the input is looked at
  pub located_first : Gives 1 (module_of 3 (Read (element 1 2 (number 3)) read_as.Int int ∷ [])) [] [] (Faulted fault.Index 1)
  -- WRITE(-7, TRUE, FALSE, 'a', 'bc', ''); WRITELN
  pub items :
      Gives 1 (module_of 1 (write (minus 7) ∷ write_bool (number 1) ∷ write_bool (number 0) ∷ write_byte 97 ∷ WriteText (codes "bc")
      ∷ WriteText [] ∷ WriteLine ∷ [])) []
      (codes "-" ++ (decimal 7 ++ codes "TRUEFALSEabc\n")) Succeeded
  -- numbers that are no CHAR are printed modulo 256: 300 and -1
  pub byte_modulo : Gives 1 (module_of 1 (write_byte 300 ∷ WriteExpr (minus 1) write_as.Char ∷ [])) [] (44 ∷ 255 ∷ []) Succeeded
  -- each number but 0 is TRUE: 2
  pub other_numbers_are_true : Gives 1 (module_of 1 (write_bool (number 2) ∷ [])) [] (codes "TRUE") Succeeded
