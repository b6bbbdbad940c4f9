-- The sources that `alma sample` runs: lines by a sequence of numbers.
use Rattle.std.specs.Prelude.{ℕ, zero, suc, ◌+◌, ◌*◌, ◌/◌, ◌%◌, List, [], ◌++◌, codes}
use Rattle.std.specs.Fmt.{decimal}

-- the number behind a number of the sequence
abbrev pub next_number : ℕ → ℕ
next_number number = (1103515245 * number + 12345) % 2147483648

-- an assignment
abbrev pub assign_line : (cell value : List ℕ) → List ℕ
assign_line cell value = codes "v[" ++ (cell ++ (codes "] := " ++ (value ++ codes ";\n")))

-- a choice between a test and an assignment
abbrev pub either_line : (cell value : List ℕ) → List ℕ
either_line cell value =
    codes "EITHER v[" ++ (cell
    ++ (codes "] = " ++ (value ++ (codes " ORELSE v[" ++ (cell ++ (codes "] := " ++ (value ++ codes " END;\n")))))))

-- an assignment for every alternative
abbrev pub forall_line : (cell value : List ℕ) → List ℕ
forall_line cell value = codes "FORALL SOME n := 0 TO " ++ (value ++ (codes " DO TRUE END DO v[" ++ (cell ++ codes "] := n END;\n")))

-- a choice that is cut
abbrev pub commit_line : (cell value : List ℕ) → List ℕ
commit_line cell value = codes "COMMIT SOME n := 0 TO " ++ (value ++ (codes " DO v[" ++ (cell ++ codes "] := n END END;\n")))

-- the line of one of the four forms
abbrev pub form_line : (form : ℕ) → (cell value : List ℕ) → List ℕ
form_line zero cell value = assign_line cell value
form_line (suc zero) cell value = either_line cell value
form_line (suc (suc zero)) cell value = forall_line cell value
form_line (suc (suc (suc others))) cell value = commit_line cell value

-- the line of a number: its form, its cell and its value
abbrev pub line_of : ℕ → List ℕ
line_of number = form_line (number / 65536 % 4) (decimal (number / 256 % 100)) (decimal (number / 16 % 9))

-- the lines of as many numbers of the sequence, from one on
abbrev pub lines_from : (count number : ℕ) → List ℕ
lines_from zero number = []
lines_from (suc count) number = line_of number ++ lines_from count (next_number number)

-- what stands before the lines
abbrev pub head_text : List ℕ
head_text = codes "MODULE S;\nVAR v: ARRAY [0..99] OF INTEGER; n: INTEGER;\nBEGIN\n"

-- what stands behind them: the cells that are known are written
abbrev pub tail_text : List ℕ
tail_text = codes "FOR n := 0 TO 99 DO IF KNOWN(v[n]) THEN WRITE(v[n]) END END\nEND S.\n"

-- the source of as many lines
unfoldable pub sample_text : (lines : ℕ) → List ℕ
sample_text lines = head_text ++ (lines_from lines 12345 ++ tail_text)
