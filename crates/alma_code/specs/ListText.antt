-- The text that lists a code.
use Rattle.std.specs.Prelude.{ℕ, suc, ◌-◌, Bool, true, false, List, [], ◌∷◌, ◌++◌, map, take, drop, length, codes, flat_map}
use Rattle.std.specs.Fmt.{decimal, signed_decimal}
use Rattle.alma_code.specs.declared.code.Line.{Line}
use Rattle.alma_code.specs.declared.instr.Instr.{Instr}
use Rattle.alma_code.specs.declared.instr.Instr.TheVariants as I
use Rattle.alma_code.specs.Plain.{PlainCode, PlainRoutine, PlainGlobal}

-- words with a space between two, and a line end
abbrev pub text_line : List (List ℕ) → List ℕ
text_line [] = 10 ∷ []
text_line (word ∷ []) = word ++ 10 ∷ []
text_line (word ∷ (next ∷ rest)) = word ++ 32 ∷ text_line (next ∷ rest)

-- the name of the form of an instruction, and its words in decimal
unfoldable pub form_words : Instr → List (List ℕ)
form_words (I.Const a v) = codes "Const" ∷ decimal a ∷ signed_decimal v ∷ []
form_words (I.Move a b) = codes "Move" ∷ decimal a ∷ decimal b ∷ []
form_words (I.Add a b c) = codes "Add" ∷ decimal a ∷ decimal b ∷ decimal c ∷ []
form_words (I.Sub a b c) = codes "Sub" ∷ decimal a ∷ decimal b ∷ decimal c ∷ []
form_words (I.Mul a b c) = codes "Mul" ∷ decimal a ∷ decimal b ∷ decimal c ∷ []
form_words (I.Div a b c) = codes "Div" ∷ decimal a ∷ decimal b ∷ decimal c ∷ []
form_words (I.Mod a b c) = codes "Mod" ∷ decimal a ∷ decimal b ∷ decimal c ∷ []
form_words (I.Neg a b) = codes "Neg" ∷ decimal a ∷ decimal b ∷ []
form_words (I.Equal a b c) = codes "Equal" ∷ decimal a ∷ decimal b ∷ decimal c ∷ []
form_words (I.Less a b c) = codes "Less" ∷ decimal a ∷ decimal b ∷ decimal c ∷ []
form_words (I.LessEq a b c) = codes "LessEq" ∷ decimal a ∷ decimal b ∷ decimal c ∷ []
form_words (I.Flip a b) = codes "Flip" ∷ decimal a ∷ decimal b ∷ []
form_words (I.InRange a b) = codes "InRange" ∷ decimal a ∷ decimal b ∷ []
form_words (I.Local a b) = codes "Local" ∷ decimal a ∷ decimal b ∷ []
form_words (I.Global a b) = codes "Global" ∷ decimal a ∷ decimal b ∷ []
form_words (I.Same a b) = codes "Same" ∷ decimal a ∷ decimal b ∷ []
form_words (I.Field a b c) = codes "Field" ∷ decimal a ∷ decimal b ∷ decimal c ∷ []
form_words (I.Index a b c d) = codes "Index" ∷ decimal a ∷ decimal b ∷ decimal c ∷ decimal d ∷ []
form_words (I.Load a b) = codes "Load" ∷ decimal a ∷ decimal b ∷ []
form_words (I.Store a b) = codes "Store" ∷ decimal a ∷ decimal b ∷ []
form_words (I.Known a b) = codes "Known" ∷ decimal a ∷ decimal b ∷ []
form_words (I.Bind a b c) = codes "Bind" ∷ decimal a ∷ decimal b ∷ decimal c ∷ []
form_words (I.Unify a b c d) = codes "Unify" ∷ decimal a ∷ decimal b ∷ decimal c ∷ decimal d ∷ []
form_words (I.CopyCells a b) = codes "CopyCells" ∷ decimal a ∷ decimal b ∷ []
form_words (I.SameCells a b) = codes "SameCells" ∷ decimal a ∷ decimal b ∷ []
form_words (I.Jump a) = codes "Jump" ∷ decimal a ∷ []
form_words (I.JumpZero a b) = codes "JumpZero" ∷ decimal a ∷ decimal b ∷ []
form_words (I.Check a) = codes "Check" ∷ decimal a ∷ []
form_words I.Fail = codes "Fail" ∷ []
form_words (I.Mark a) = codes "Mark" ∷ decimal a ∷ []
form_words (I.Cut a) = codes "Cut" ∷ decimal a ∷ []
form_words (I.Choose a) = codes "Choose" ∷ decimal a ∷ []
form_words (I.Forall a b) = codes "Forall" ∷ decimal a ∷ decimal b ∷ []
form_words (I.Overlay a b) = codes "Overlay" ∷ decimal a ∷ decimal b ∷ []
form_words (I.Keep a) = codes "Keep" ∷ decimal a ∷ []
form_words I.Finish = codes "Finish" ∷ []
form_words (I.Call a b c) = codes "Call" ∷ decimal a ∷ decimal b ∷ decimal c ∷ []
form_words I.Return = codes "Return" ∷ []
form_words (I.ReturnValue a) = codes "ReturnValue" ∷ decimal a ∷ []
form_words (I.ReadInt a b) = codes "ReadInt" ∷ decimal a ∷ decimal b ∷ []
form_words (I.ReadChar a b) = codes "ReadChar" ∷ decimal a ∷ decimal b ∷ []
form_words (I.WriteInt a) = codes "WriteInt" ∷ decimal a ∷ []
form_words (I.WriteChar a) = codes "WriteChar" ∷ decimal a ∷ []
form_words (I.WriteBool a) = codes "WriteBool" ∷ decimal a ∷ []
form_words (I.WriteText a) = codes "WriteText" ∷ decimal a ∷ []
form_words I.WriteLine = codes "WriteLine" ∷ []
form_words (I.Fault a) = codes "Fault" ∷ decimal a ∷ []
form_words (I.Step a b c d) = codes "Step" ∷ decimal a ∷ decimal b ∷ decimal c ∷ decimal d ∷ []
form_words (I.Own a) = codes "Own" ∷ decimal a ∷ []
form_words (I.Chain a b c) = codes "Chain" ∷ decimal a ∷ decimal b ∷ decimal c ∷ []
form_words (I.Outer a b c) = codes "Outer" ∷ decimal a ∷ decimal b ∷ decimal c ∷ []
form_words (I.OuterSame a b c) = codes "OuterSame" ∷ decimal a ∷ decimal b ∷ decimal c ∷ []

-- 0 or 1
abbrev pub bit_text : Bool → List ℕ
bit_text false = codes "0"
bit_text true = codes "1"

-- a variable of the module: its name, its slot and how many cells it has
abbrev pub global_words : PlainGlobal → List (List ℕ)
global_words g = codes "global" ∷ g.name ∷ decimal g.slot ∷ decimal g.cells ∷ []

-- a routine with its number
abbrev pub routine_words : ℕ → PlainRoutine → List (List ℕ)
routine_words r routine =
    codes "routine" ∷ decimal r ∷ routine.name ∷ codes "slots" ∷ decimal routine.head.slots ∷ codes "declared"
    ∷ decimal routine.head.declared
    ∷ codes "params" ∷ decimal (length routine.head.params) ∷ codes "result" ∷ bit_text routine.head.has_result ∷ []

-- instructions, the first at an address
abbrev pub instr_lines : (at : ℕ) → List Instr → List (List (List ℕ))
instr_lines at [] = []
instr_lines at (i ∷ rest) = (decimal at ∷ form_words i) ∷ instr_lines (suc at) rest

-- routines, the first with a number and from an address on, each with its instructions
abbrev pub routine_lines : PlainCode → (r at : ℕ) → List PlainRoutine → List (List (List ℕ))
routine_lines code r at [] = []
routine_lines code r at (routine ∷ rest) =
    routine_words r routine ∷ (instr_lines at (take (routine.code_end - at) (drop at code.instrs))
    ++ routine_lines code (suc r) routine.code_end rest)

-- a record of the lines: its address and the line
abbrev pub line_words : Line → List (List ℕ)
line_words x = codes "line" ∷ decimal x.at ∷ decimal x.line ∷ []

-- the lines of the text, as words
abbrev pub list_lines : PlainCode → List (List (List ℕ))
list_lines code =
    (codes "object" ∷ decimal code.version ∷ [])
    ∷ (map global_words code.globals ++ (routine_lines code 0 0 code.routines ++ map line_words code.lines))

-- the whole text
abbrev pub list_text : PlainCode → List ℕ
list_text code = flat_map text_line (list_lines code)
