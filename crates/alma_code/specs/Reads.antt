-- Where a code reads the input.
use Rattle.std.specs.Prelude.{Bool, true, false}
use Rattle.std.specs.List.{list_any}
use Rattle.alma_code.specs.declared.instr.Instr.{Instr}
use Rattle.alma_code.specs.declared.instr.Instr.TheVariants as I
use Rattle.alma_code.specs.Plain.{PlainCode}

-- a ReadInt or a ReadChar
abbrev pub is_read : Instr → Bool
is_read (I.ReadInt place range) = true
is_read (I.ReadChar place range) = true
is_read _ = false

-- whether the code holds one
abbrev pub code_reads : PlainCode → Bool
code_reads code = list_any is_read code.instrs
