-- The record of an instruction: its opcode and four words.
use Rattle.std.specs.Prelude.{if◌then◌else◌, ℕ, ◌+◌, ◌-◌, ℤ, Bool, ◌&&◌, nat_eq, nat_le, List, [], ◌∷◌, ◌++◌, get_or, drop, slice_index}
use Rattle.std.specs.List.{list_all}
use Rattle.alma_code.specs.declared.instr.Instr.{Instr}
use Rattle.alma_code.specs.declared.instr.Instr.TheVariants as I
use Rattle.alma_code.specs.Records.{latest_version}
use Rattle.alma_object_format.specs.Bytes.{words_bytes, i64_bytes, u32_at, i64_at}

-- ---- written

-- an opcode and four words
abbrev pub record_bytes : (opcode a b c d : ℕ) → List ℕ
record_bytes opcode a b c d = opcode ∷ words_bytes (a ∷ b ∷ c ∷ d ∷ [])

-- a Const, whose value takes two words
abbrev pub const_bytes : (a : ℕ) → ℤ → List ℕ
const_bytes a v = 1 ∷ (words_bytes (a ∷ []) ++ (i64_bytes v ++ words_bytes (0 ∷ [])))

-- the record of an instruction; words that the form does not use are 0
unfoldable pub instr_bytes : Instr → List ℕ
instr_bytes (I.Const a v) = const_bytes a v
instr_bytes (I.Move a b) = record_bytes 2 a b 0 0
instr_bytes (I.Add a b c) = record_bytes 3 a b c 0
instr_bytes (I.Sub a b c) = record_bytes 4 a b c 0
instr_bytes (I.Mul a b c) = record_bytes 5 a b c 0
instr_bytes (I.Div a b c) = record_bytes 6 a b c 0
instr_bytes (I.Mod a b c) = record_bytes 7 a b c 0
instr_bytes (I.Neg a b) = record_bytes 8 a b 0 0
instr_bytes (I.Equal a b c) = record_bytes 9 a b c 0
instr_bytes (I.Less a b c) = record_bytes 10 a b c 0
instr_bytes (I.LessEq a b c) = record_bytes 11 a b c 0
instr_bytes (I.Flip a b) = record_bytes 12 a b 0 0
instr_bytes (I.InRange a b) = record_bytes 13 a b 0 0
instr_bytes (I.Local a b) = record_bytes 14 a b 0 0
instr_bytes (I.Global a b) = record_bytes 15 a b 0 0
instr_bytes (I.Same a b) = record_bytes 16 a b 0 0
instr_bytes (I.Field a b c) = record_bytes 17 a b c 0
instr_bytes (I.Index a b c d) = record_bytes 18 a b c d
instr_bytes (I.Load a b) = record_bytes 19 a b 0 0
instr_bytes (I.Store a b) = record_bytes 20 a b 0 0
instr_bytes (I.Known a b) = record_bytes 21 a b 0 0
instr_bytes (I.Bind a b c) = record_bytes 22 a b c 0
instr_bytes (I.Unify a b c d) = record_bytes 23 a b c d
instr_bytes (I.CopyCells a b) = record_bytes 24 a b 0 0
instr_bytes (I.SameCells a b) = record_bytes 25 a b 0 0
instr_bytes (I.Jump a) = record_bytes 26 a 0 0 0
instr_bytes (I.JumpZero a b) = record_bytes 27 a b 0 0
instr_bytes (I.Check a) = record_bytes 28 a 0 0 0
instr_bytes I.Fail = record_bytes 29 0 0 0 0
instr_bytes (I.Mark a) = record_bytes 30 a 0 0 0
instr_bytes (I.Cut a) = record_bytes 31 a 0 0 0
instr_bytes (I.Choose a) = record_bytes 32 a 0 0 0
instr_bytes (I.Forall a b) = record_bytes 33 a b 0 0
instr_bytes (I.Overlay a b) = record_bytes 34 a b 0 0
instr_bytes (I.Keep a) = record_bytes 35 a 0 0 0
instr_bytes I.Finish = record_bytes 36 0 0 0 0
instr_bytes (I.Call a b c) = record_bytes 37 a b c 0
instr_bytes I.Return = record_bytes 38 0 0 0 0
instr_bytes (I.ReturnValue a) = record_bytes 39 a 0 0 0
instr_bytes (I.ReadInt a b) = record_bytes 40 a b 0 0
instr_bytes (I.ReadChar a b) = record_bytes 41 a b 0 0
instr_bytes (I.WriteInt a) = record_bytes 42 a 0 0 0
instr_bytes (I.WriteChar a) = record_bytes 43 a 0 0 0
instr_bytes (I.WriteBool a) = record_bytes 44 a 0 0 0
instr_bytes (I.WriteText a) = record_bytes 45 a 0 0 0
instr_bytes I.WriteLine = record_bytes 46 0 0 0 0
instr_bytes (I.Fault a) = record_bytes 47 a 0 0 0
instr_bytes (I.Step a b c d) = record_bytes 48 a b c d
instr_bytes (I.Own a) = record_bytes 49 a 0 0 0
instr_bytes (I.Chain a b c) = record_bytes 50 a b c 0
instr_bytes (I.Outer a b c) = record_bytes 51 a b c 0
instr_bytes (I.OuterSame a b c) = record_bytes 52 a b c 0

-- ---- read

-- the instructions with these words, in the order of their opcodes from 1 on; a Const has its value
abbrev pub instrs_with : (a b c d : ℕ) → ℤ → List Instr
instrs_with a b c d v =
    I.Const a v
    ∷ I.Move a b
    ∷ I.Add a b c
    ∷ I.Sub a b c
    ∷ I.Mul a b c
    ∷ I.Div a b c
    ∷ I.Mod a b c
    ∷ I.Neg a b
    ∷ I.Equal a b c
    ∷ I.Less a b c
    ∷ I.LessEq a b c
    ∷ I.Flip a b
    ∷ I.InRange a b
    ∷ I.Local a b
    ∷ I.Global a b
    ∷ I.Same a b
    ∷ I.Field a b c
    ∷ I.Index a b c d
    ∷ I.Load a b
    ∷ I.Store a b
    ∷ I.Known a b
    ∷ I.Bind a b c
    ∷ I.Unify a b c d
    ∷ I.CopyCells a b
    ∷ I.SameCells a b
    ∷ I.Jump a
    ∷ I.JumpZero a b
    ∷ I.Check a
    ∷ I.Fail
    ∷ I.Mark a
    ∷ I.Cut a
    ∷ I.Choose a
    ∷ I.Forall a b
    ∷ I.Overlay a b
    ∷ I.Keep a
    ∷ I.Finish
    ∷ I.Call a b c
    ∷ I.Return
    ∷ I.ReturnValue a
    ∷ I.ReadInt a b
    ∷ I.ReadChar a b
    ∷ I.WriteInt a
    ∷ I.WriteChar a
    ∷ I.WriteBool a
    ∷ I.WriteText a
    ∷ I.WriteLine
    ∷ I.Fault a
    ∷ I.Step a b c d
    ∷ I.Own a
    ∷ I.Chain a b c
    ∷ I.Outer a b c
    ∷ I.OuterSame a b c
    ∷ []

-- how many words the forms use, in the order of their opcodes from 1 on
abbrev pub used_words : List ℕ
used_words =
    3 ∷ 2 ∷ 3 ∷ 3 ∷ 3 ∷ 3 ∷ 3 ∷ 2 ∷ 3 ∷ 3 ∷ 3 ∷ 2 ∷ 2
    ∷ 2 ∷ 2 ∷ 2 ∷ 3 ∷ 4 ∷ 2 ∷ 2 ∷ 2 ∷ 3 ∷ 4 ∷ 2 ∷ 2 ∷ 1
    ∷ 2 ∷ 1 ∷ 0 ∷ 1 ∷ 1 ∷ 1 ∷ 2 ∷ 2 ∷ 1 ∷ 0 ∷ 3 ∷ 0 ∷ 1
    ∷ 2 ∷ 2 ∷ 1 ∷ 1 ∷ 1 ∷ 1 ∷ 0 ∷ 1 ∷ 4 ∷ 1 ∷ 3 ∷ 3 ∷ 3
    ∷ []

-- the last opcode of a version
abbrev pub last_opcode : (version : ℕ) → ℕ
last_opcode version = if nat_eq version latest_version then 52 else 48

-- the words that stand from an offset on
abbrev pub words_at : List ℕ → (at : ℕ) → List ℕ
words_at bytes at = u32_at bytes at ∷ u32_at bytes (at + 4) ∷ u32_at bytes (at + 8) ∷ u32_at bytes (at + 12) ∷ []

-- the record at an offset has an opcode of the version, and each word that the form does not use is
-- 0
unfoldable pub is_instr : (version : ℕ) → List ℕ → (at : ℕ) → Bool
is_instr version bytes at =
    (nat_le 1 (slice_index bytes at) && nat_le (slice_index bytes at) (last_opcode version))
    && list_all (λ word. nat_eq word 0) (drop (get_or used_words (slice_index bytes at - 1) 0) (words_at bytes (at + 1)))

-- the instruction whose record stands at an offset, or Fail where there is none
unfoldable pub instr_at : List ℕ → (at : ℕ) → Instr
instr_at bytes at =
    get_or (I.Fail ∷ instrs_with (u32_at bytes (at + 1)) (u32_at bytes (at + 5)) (u32_at bytes (at + 9)) (u32_at bytes (at + 13))
    (i64_at bytes (at + 5)))
    (slice_index bytes at) I.Fail
