-- How many bytes the header of an object has, and each record behind it.
use Rattle.std.specs.Prelude.{ℕ}

-- the bytes of the header of the latest version: the magic, the version and ten counts
abbrev pub header_len : ℕ
header_len = 50

-- the bytes of the header of the first version, which has no count of lines
abbrev pub first_header_len : ℕ
first_header_len = 46

-- the bytes of the record of a routine
abbrev pub routine_len : ℕ
routine_len = 28

-- the bytes of the record of a global
abbrev pub global_len : ℕ
global_len = 12

-- the bytes of the record of a param
abbrev pub param_len : ℕ
param_len = 8

-- the bytes of the record of a run of slots
abbrev pub run_len : ℕ
run_len = 12

-- the bytes of the record of a range
abbrev pub range_len : ℕ
range_len = 16

-- the bytes of the record of a text, which is its end
abbrev pub text_end_len : ℕ
text_end_len = 4

-- the bytes of the record of an instruction
abbrev pub instr_len : ℕ
instr_len = 17

-- the bytes of the record of a line
abbrev pub line_len : ℕ
line_len = 8
