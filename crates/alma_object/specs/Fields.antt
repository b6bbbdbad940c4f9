-- Codes whose numbers fit the fields of an object.
use Rattle.std.specs.Prelude.{ℕ, ◌<◌, ◌^◌, List, [], ◌∷◌, All, FitsSigned, ⊤}
use Rattle.std.specs.List.{flat_map}
use Rattle.std.specs.Int.{w64}
use Rattle.alma_base.specs.declared.number.Range.{Range}
use Rattle.alma_code.specs.declared.head.Run.{Run}
use Rattle.alma_code.specs.declared.instr.Instr.{Instr}
use Rattle.alma_code.specs.declared.instr.Instr.TheVariants as I
use Rattle.alma_code.specs.Plain.{PlainCode, PlainRoutine, PlainGlobal}
use Rattle.alma_code.specs.Records.{KeepsVersion, KeepsCounts, KeepsRecords}
use Rattle.alma_code.specs.Rules.{IsTable}
use Rattle.alma_object_format.specs.Object.{slot_size}

-- the words of an instruction, but for the value of a Const
unfoldable pub fields : Instr → List ℕ
fields (I.Const a v) = a ∷ []
fields (I.Move a b) = a ∷ b ∷ []
fields (I.Add a b c) = a ∷ b ∷ c ∷ []
fields (I.Sub a b c) = a ∷ b ∷ c ∷ []
fields (I.Mul a b c) = a ∷ b ∷ c ∷ []
fields (I.Div a b c) = a ∷ b ∷ c ∷ []
fields (I.Mod a b c) = a ∷ b ∷ c ∷ []
fields (I.Neg a b) = a ∷ b ∷ []
fields (I.Equal a b c) = a ∷ b ∷ c ∷ []
fields (I.Less a b c) = a ∷ b ∷ c ∷ []
fields (I.LessEq a b c) = a ∷ b ∷ c ∷ []
fields (I.Flip a b) = a ∷ b ∷ []
fields (I.InRange a b) = a ∷ b ∷ []
fields (I.Local a b) = a ∷ b ∷ []
fields (I.Global a b) = a ∷ b ∷ []
fields (I.Same a b) = a ∷ b ∷ []
fields (I.Field a b c) = a ∷ b ∷ c ∷ []
fields (I.Index a b c d) = a ∷ b ∷ c ∷ d ∷ []
fields (I.Load a b) = a ∷ b ∷ []
fields (I.Store a b) = a ∷ b ∷ []
fields (I.Known a b) = a ∷ b ∷ []
fields (I.Bind a b c) = a ∷ b ∷ c ∷ []
fields (I.Unify a b c d) = a ∷ b ∷ c ∷ d ∷ []
fields (I.CopyCells a b) = a ∷ b ∷ []
fields (I.SameCells a b) = a ∷ b ∷ []
fields (I.Jump a) = a ∷ []
fields (I.JumpZero a b) = a ∷ b ∷ []
fields (I.Check a) = a ∷ []
fields I.Fail = []
fields (I.Mark a) = a ∷ []
fields (I.Cut a) = a ∷ []
fields (I.Choose a) = a ∷ []
fields (I.Forall a b) = a ∷ b ∷ []
fields (I.Overlay a b) = a ∷ b ∷ []
fields (I.Keep a) = a ∷ []
fields I.Finish = []
fields (I.Call a b c) = a ∷ b ∷ c ∷ []
fields I.Return = []
fields (I.ReturnValue a) = a ∷ []
fields (I.ReadInt a b) = a ∷ b ∷ []
fields (I.ReadChar a b) = a ∷ b ∷ []
fields (I.WriteInt a) = a ∷ []
fields (I.WriteChar a) = a ∷ []
fields (I.WriteBool a) = a ∷ []
fields (I.WriteText a) = a ∷ []
fields I.WriteLine = []
fields (I.Fault a) = a ∷ []
fields (I.Step a b c d) = a ∷ b ∷ c ∷ d ∷ []
fields (I.Own a) = a ∷ []
fields (I.Chain a b c) = a ∷ b ∷ c ∷ []
fields (I.Outer a b c) = a ∷ b ∷ c ∷ []
fields (I.OuterSame a b c) = a ∷ b ∷ c ∷ []

-- the value of a Const is a number of INTEGER
abbrev pub FitsValue : Instr → Type 0
FitsValue (I.Const a v) = FitsSigned w64 v
FitsValue _ = ⊤

-- each word fits four bytes, and the value of a Const eight
pub record FitsInstr (instr : Instr) : Type 0 where
  pub words : All (λ word. word < 2 ^ 32) (fields instr)
  pub value : FitsValue instr

-- the number of slots of a routine, and of its declared cells, fit four bytes
pub record FitsRoutine (routine : PlainRoutine) : Type 0 where
  pub slots : routine.head.slots < 2 ^ 32
  pub declared : routine.head.declared < 2 ^ 32

-- the first slot of a global, and the number of its cells, fit four bytes
pub record FitsGlobal (global : PlainGlobal) : Type 0 where
  pub slot : global.slot < 2 ^ 32
  pub cells : global.cells < 2 ^ 32

-- the length or the routine of a run of slots, and its end, fit four bytes
pub record FitsRun (run : Run) : Type 0 where
  pub size : slot_size run.kind < 2 ^ 32
  pub end : run.end < 2 ^ 32

-- the bounds of a range are numbers of INTEGER
pub record FitsRange (range : Range) : Type 0 where
  pub low : FitsSigned w64 range.low
  pub high : FitsSigned w64 range.high

-- each number of a code fits its field; what the counts and the tables bound is not said again
pub record FitsFields (code : PlainCode) : Type 0 where
  pub routines : All FitsRoutine code.routines
  pub globals : All FitsGlobal code.globals
  pub params : All (λ param. param.cells < 2 ^ 32) (flat_map (λ r. r.head.params) code.routines)
  pub runs : All FitsRun (flat_map (λ r. r.head.runs) code.routines)
  pub ranges : All FitsRange code.ranges
  pub instrs : All FitsInstr code.instrs
  pub lines : All (λ line. line.line < 2 ^ 32) code.lines

-- a code that the format allows: its version, counts, records and tables are as they must be, and
-- its numbers fit their fields
pub record KeepsFormat (code : PlainCode) : Type 0 where
  pub version : KeepsVersion code
  pub counts : KeepsCounts code
  pub records : KeepsRecords code
  pub table : IsTable code
  pub fields : FitsFields code
