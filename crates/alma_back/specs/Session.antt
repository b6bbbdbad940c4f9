-- What the lines of a script show of a run.
use Rattle.std.specs.Prelude.{◌-◌, ℕ, zero, suc, List, [], ◌∷◌, ◌++◌, codes, decimal, length}
use Rattle.alma_code.specs.Plain.{PlainCode}
use Rattle.alma_code.specs.TraceText.{value_of_name}
use Rattle.alma_back.specs.Standing.{Standing, standing_at_start, next_standing, state_of, output_of}
use Rattle.alma_back.specs.Script.{Line, Forward, Backward, Value, Output}

-- the run so many steps on, or at its end
abbrev pub ahead : Standing → (more : ℕ) → Standing
ahead s zero = s
ahead s (suc more) = ahead (next_standing s) more

-- the run so many steps back, or at its start
abbrev pub behind : Standing → (less : ℕ) → Standing
behind s less = record s { steps = s.steps - less }

-- where the run stands after a line
abbrev pub after_line : Standing → Line → Standing
after_line s (Forward more) = ahead s more
after_line s (Backward less) = behind s less
after_line s (Value name) = s
after_line s Output = s

-- the number of the steps
abbrev pub at_text : Standing → List ℕ
at_text s = codes "at " ++ (decimal s.steps ++ codes "\n")

-- a name with the value of the first global of that name, or - where there is none
abbrev pub value_text : Standing → (name : List ℕ) → List ℕ
value_text s name = name ++ (codes "=" ++ (value_of_name (state_of s).now s.code.globals name ++ codes "\n"))

-- how many bytes were printed
abbrev pub printed_text : Standing → List ℕ
printed_text s = codes "printed " ++ (decimal (length (output_of s)) ++ codes "\n")

-- what a line shows of the run, where it stands after it
abbrev pub line_text : Standing → Line → List ℕ
line_text s (Forward more) = at_text s
line_text s (Backward less) = at_text s
line_text s (Value name) = value_text s name
line_text s Output = printed_text s

-- what lines show, one after another
abbrev pub lines_text : Standing → List Line → List ℕ
lines_text s [] = []
lines_text s (line ∷ lines) = line_text (after_line s line) line ++ lines_text (after_line s line) lines

-- what the lines of a script show of a run from its start
abbrev pub session : PlainCode → (input : List ℕ) → List Line → List ℕ
session code input lines = lines_text (standing_at_start code input) lines
