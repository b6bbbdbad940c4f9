-- What the words of an instruction name, where a rule speaks of each word by itself.
use Rattle.std.specs.Prelude.{List, [], ◌∷◌}
use Rattle.alma_code.specs.declared.instr.Instr.{Instr}
use Rattle.alma_code.specs.declared.instr.Instr.TheVariants as I
use Rattle.alma_code.specs.declared.instr.Word.{Word}
use Rattle.alma_code.specs.declared.instr.Word.TheVariants as W

-- the four words a, b, c and d
abbrev pub four : Word → Word → Word → Word → List Word
four a b c d = a ∷ b ∷ c ∷ d ∷ []

-- the words of an instruction; those of a Call, the first slot of a Global, the slot of a frame
-- that a link names, an offset and a fault's number have rules of their own
unfoldable pub words : Instr → List Word
words (I.Const a v) = four (W.Number a) W.Free W.Free W.Free
words (I.Move a b) = four (W.Number a) (W.Number b) W.Free W.Free
words (I.Add a b c) = four (W.Number a) (W.Number b) (W.Number c) W.Free
words (I.Sub a b c) = four (W.Number a) (W.Number b) (W.Number c) W.Free
words (I.Mul a b c) = four (W.Number a) (W.Number b) (W.Number c) W.Free
words (I.Div a b c) = four (W.Number a) (W.Number b) (W.Number c) W.Free
words (I.Mod a b c) = four (W.Number a) (W.Number b) (W.Number c) W.Free
words (I.Neg a b) = four (W.Number a) (W.Number b) W.Free W.Free
words (I.Equal a b c) = four (W.Number a) (W.Number b) (W.Number c) W.Free
words (I.Less a b c) = four (W.Number a) (W.Number b) (W.Number c) W.Free
words (I.LessEq a b c) = four (W.Number a) (W.Number b) (W.Number c) W.Free
words (I.Flip a b) = four (W.Number a) (W.Number b) W.Free W.Free
words (I.InRange a r) = four (W.Number a) (W.Range r) W.Free W.Free
words (I.Local a b) = four (W.Place a) (W.Slot b) W.Free W.Free
words (I.Global a b) = four (W.Place a) W.Free W.Free W.Free
words (I.Same a b) = four (W.Place a) (W.Place b) W.Free W.Free
words (I.Field a b c) = four (W.Place a) (W.Place b) W.Free W.Free
words (I.Index a b c d) = four (W.Place a) (W.Place b) (W.Number c) (W.Range d)
words (I.Load a b) = four (W.Number a) (W.Place b) W.Free W.Free
words (I.Store a b) = four (W.Place a) (W.Number b) W.Free W.Free
words (I.Known a b) = four (W.Number a) (W.Place b) W.Free W.Free
words (I.Bind a b c) = four (W.Place a) (W.Number b) (W.Range c) W.Free
words (I.Unify a b c d) = four (W.Place a) (W.Range b) (W.Place c) (W.Range d)
words (I.CopyCells a b) = four (W.Place a) (W.Place b) W.Free W.Free
words (I.SameCells a b) = four (W.Place a) (W.Place b) W.Free W.Free
words (I.Jump a) = four (W.Address a) W.Free W.Free W.Free
words (I.JumpZero a b) = four (W.Number a) (W.Address b) W.Free W.Free
words (I.Check a) = four (W.Number a) W.Free W.Free W.Free
words I.Fail = four W.Free W.Free W.Free W.Free
words (I.Mark a) = four (W.Mark a) W.Free W.Free W.Free
words (I.Cut a) = four (W.Mark a) W.Free W.Free W.Free
words (I.Choose a) = four (W.Address a) W.Free W.Free W.Free
words (I.Forall a b) = four (W.Mark a) (W.Address b) W.Free W.Free
words (I.Overlay a b) = four (W.Mark a) (W.Address b) W.Free W.Free
words (I.Keep a) = four (W.Mark a) W.Free W.Free W.Free
words I.Finish = four W.Free W.Free W.Free W.Free
words (I.Call a b c) = four W.Free W.Free W.Free W.Free
words I.Return = four W.Free W.Free W.Free W.Free
words (I.ReturnValue a) = four (W.Number a) W.Free W.Free W.Free
words (I.ReadInt a r) = four (W.Place a) (W.Range r) W.Free W.Free
words (I.ReadChar a r) = four (W.Place a) (W.Range r) W.Free W.Free
words (I.WriteInt a) = four (W.Number a) W.Free W.Free W.Free
words (I.WriteChar a) = four (W.Number a) W.Free W.Free W.Free
words (I.WriteBool a) = four (W.Number a) W.Free W.Free W.Free
words (I.WriteText t) = four (W.Text t) W.Free W.Free W.Free
words I.WriteLine = four W.Free W.Free W.Free W.Free
words (I.Fault n) = four W.Free W.Free W.Free W.Free
words (I.Step a b c d) = four (W.Number a) (W.Number b) (W.Number c) (W.Address d)
words (I.Own a) = four (W.Link a) W.Free W.Free W.Free
words (I.Chain a b c) = four (W.Link a) (W.Link b) W.Free W.Free
words (I.Outer a b c) = four (W.Place a) (W.Link b) W.Free W.Free
words (I.OuterSame a b c) = four (W.Place a) (W.Link b) W.Free W.Free
