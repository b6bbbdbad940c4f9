-- Instructions with the lines of the source from which they come, and code whose parts stand one behind another.
use Rattle.std.specs.Prelude.{ℕ, suc, ◌+◌, Bool, true, false, nat_eq, List, [], ◌∷◌, ◌++◌, length, map}
use Rattle.alma_code.specs.declared.code.Line.{Line}
use Rattle.alma_code.specs.declared.instr.Instr.{Instr}
use Rattle.alma_code.specs.declared.instr.Instr.TheVariants as I

-- an instruction and the line of the statement whose own it is, or 0
pub record LineInstr : Type 0 where
  pub line : ℕ
  pub instr : Instr

-- instructions of one line
abbrev pub own : (line : ℕ) → List Instr → List LineInstr
own line instrs = map (λ i. record { line = line; instr = i }) instrs

-- the instructions without their lines
abbrev pub instrs_of : List LineInstr → List Instr
instrs_of code = map (λ x. x.instr) code

-- ---- parts

-- a part, and behind it one that is given the address at which it stands
abbrev pub in_row : (at : ℕ) → List LineInstr → ((at : ℕ) → List LineInstr) → List LineInstr
in_row at code rest = code ++ rest (at + length code)

-- the first of several parts, which leaves by a jump over all, and the others
abbrev pub left_by : (line jump : ℕ) → (first rest : List LineInstr) → List LineInstr
left_by line jump first rest = first ++ (own line (I.Jump (jump + 1 + length rest) ∷ []) ++ rest)

-- the same at an address: the others are given the address at which they stand and that of the jump, to which they leave
abbrev pub leaving : (line at : ℕ) → (first : List LineInstr) → (rest : (at jump : ℕ) → List LineInstr) → List LineInstr
leaving line at first rest = left_by line (at + length first) first (rest (at + length first + 1) (at + length first))

-- ---- the table of lines

-- a record of a line at an address before others; none where the line is that of the address before
abbrev pub line_from : Bool → (at line : ℕ) → List Line → List Line
line_from true at line rest = rest
line_from false at line rest = record { at = at; line = line } ∷ rest

-- a record at each address whose line is not that of the address before it
abbrev pub lines_from : (at before : ℕ) → List LineInstr → List Line
lines_from at before [] = []
lines_from at before (x ∷ rest) = line_from (nat_eq x.line before) at x.line (lines_from (suc at) x.line rest)

-- the table of lines of a code, which begins at address 0
abbrev pub lines_of : List LineInstr → List Line
lines_of code = lines_from 0 0 code
