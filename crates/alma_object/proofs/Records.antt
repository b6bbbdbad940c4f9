-- What an opcode tells of a record.
use Rattle.std.proofs.Common.{◌≡◌, ℕ, ◌∷◌, get_or, ap}
use Rattle.alma_code.specs.declared.instr.Instr.{Instr}
use Rattle.alma_code.specs.declared.instr.Instr.TheVariants as I
use Rattle.alma_object.specs.declared.record.InstrRecord.{InstrRecord}
use Rattle.alma_object.specs.View.{instr_of_record, opcode_of_record, word_of_record, value_of_record}
use Rattle.alma_object_format.specs.Instrs.{instr_at, instrs_with}

-- the instruction of a record whose opcode is n, by the record's words
abbrev pub form_of : InstrRecord → ℕ → Instr
form_of r n =
    get_or (I.Fail ∷ instrs_with (word_of_record r 1) (word_of_record r 5) (word_of_record r 9) (word_of_record r 13) (value_of_record r)) n
    I.Fail

-- is the record's instruction
pub form_is : (r : InstrRecord) (n : ℕ) → opcode_of_record r ≡ n → instr_of_record r ≡ form_of r n
unfolding instr_at
form_is r n e = ap (form_of r) e
