-- Code that stands at an address, each instruction with its line.
use Rattle.std.specs.Prelude.{◌≡◌, ℕ, ◌+◌, List, [], ◌∷◌, Some, slice_get}
use Rattle.alma_code.specs.Lines.{line_at}
use Rattle.alma_code.specs.Plain.{PlainCode}
use Rattle.alma_lower_templates.specs.LineInstr.{LineInstr, instrs_of, lines_of}

-- these instructions stand from an address on, at these lines
abbrev pub Stands : PlainCode → (at : ℕ) → List LineInstr → Type 0
Stands code at [] = Unit {0}
Stands code at (x ∷ rest) = (slice_get code.instrs at ≡ Some x.instr) × (line_at code at ≡ x.line) × Stands code (at + 1) rest

-- a code of these instructions and of the table of their lines holds each at its address
abbrev pub HoldsAll : Type 0
HoldsAll = (code : PlainCode) (xs : List LineInstr) → code.instrs ≡ instrs_of xs → code.lines ≡ lines_of xs → Stands code 0 xs
