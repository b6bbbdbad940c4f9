-- What each form does with slots of the top frame, where it goes beside the next address, and the form with its slots renamed.
use Rattle.std.specs.Prelude.{ℕ, zero, suc, Bool, true, false, if◌then◌else◌, List, [], ◌∷◌, length, Option, Some, None}
use Rattle.alma_code.specs.declared.instr.Instr.{Instr}
use Rattle.alma_code.specs.declared.instr.Instr.TheVariants as I
use Rattle.alma_code.specs.Plain.{PlainCode, head_at}

-- n slots from one on
abbrev pub slots_from : (n first : ℕ) → List ℕ
slots_from zero first = []
slots_from (suc n) first = first ∷ slots_from n (suc first)

-- the slots that it reads
unfoldable pub reads : PlainCode → Instr → List ℕ
reads code (I.Move a b) = b ∷ []
reads code (I.Add a b c) = b ∷ c ∷ []
reads code (I.Sub a b c) = b ∷ c ∷ []
reads code (I.Mul a b c) = b ∷ c ∷ []
reads code (I.Div a b c) = b ∷ c ∷ []
reads code (I.Mod a b c) = b ∷ c ∷ []
reads code (I.Neg a b) = b ∷ []
reads code (I.Equal a b c) = b ∷ c ∷ []
reads code (I.Less a b c) = b ∷ c ∷ []
reads code (I.LessEq a b c) = b ∷ c ∷ []
reads code (I.Flip a b) = b ∷ []
reads code (I.InRange a b) = a ∷ []
reads code (I.Same a b) = b ∷ []
reads code (I.Field a b c) = b ∷ []
reads code (I.Index a b c d) = b ∷ c ∷ []
reads code (I.Load a b) = b ∷ []
reads code (I.Store a b) = a ∷ b ∷ []
reads code (I.Known a b) = b ∷ []
reads code (I.Bind a b c) = a ∷ b ∷ []
reads code (I.Unify a b c d) = a ∷ c ∷ []
reads code (I.CopyCells a b) = a ∷ b ∷ []
reads code (I.SameCells a b) = a ∷ b ∷ []
reads code (I.JumpZero a b) = a ∷ []
reads code (I.Check a) = a ∷ []
reads code (I.Cut a) = a ∷ []
reads code (I.Overlay a b) = a ∷ []
reads code (I.Keep a) = a ∷ []
reads code (I.ReturnValue a) = a ∷ []
reads code (I.ReadInt a b) = a ∷ []
reads code (I.ReadChar a b) = a ∷ []
reads code (I.WriteInt a) = a ∷ []
reads code (I.WriteChar a) = a ∷ []
reads code (I.WriteBool a) = a ∷ []
reads code (I.Step a b c d) = a ∷ b ∷ c ∷ []
reads code (I.Chain a b c) = b ∷ []
reads code (I.Outer a b c) = b ∷ []
reads code (I.OuterSame a b c) = b ∷ []
reads code (I.Call r first to) = slots_from (length (head_at code r).params) first
reads code _ = []

-- the slot that it writes before the next address is reached; a Call does so where its routine has a result
unfoldable pub target_slot : PlainCode → Instr → Option ℕ
target_slot code (I.Const a b) = Some a
target_slot code (I.Move a b) = Some a
target_slot code (I.Add a b c) = Some a
target_slot code (I.Sub a b c) = Some a
target_slot code (I.Mul a b c) = Some a
target_slot code (I.Div a b c) = Some a
target_slot code (I.Mod a b c) = Some a
target_slot code (I.Neg a b) = Some a
target_slot code (I.Equal a b c) = Some a
target_slot code (I.Less a b c) = Some a
target_slot code (I.LessEq a b c) = Some a
target_slot code (I.Flip a b) = Some a
target_slot code (I.Local a b) = Some a
target_slot code (I.Global a b) = Some a
target_slot code (I.Same a b) = Some a
target_slot code (I.Field a b c) = Some a
target_slot code (I.Index a b c d) = Some a
target_slot code (I.Load a b) = Some a
target_slot code (I.Known a b) = Some a
target_slot code (I.Mark a) = Some a
target_slot code (I.Forall a b) = Some a
target_slot code (I.Step a b c d) = Some a
target_slot code (I.Own a) = Some a
target_slot code (I.Chain a b c) = Some a
target_slot code (I.Outer a b c) = Some a
target_slot code (I.OuterSame a b c) = Some a
target_slot code (I.Call r first to) = if (head_at code r).has_result then Some to else None
target_slot code _ = None

-- the address where it may go on, or a failure may go on behind it, beside the next; it has written nothing then
unfoldable pub away : Instr → Option ℕ
away (I.Jump a) = Some a
away (I.JumpZero a b) = Some b
away (I.Choose a) = Some a
away (I.Forall a b) = Some b
away (I.Overlay a b) = Some b
away (I.Step a b c d) = Some d
away _ = None

-- a carry of a FORALL may be laid over the frame before the next address is reached: by it, or by what it calls
unfoldable pub lays_over : Instr → Bool
lays_over (I.Overlay a b) = true
lays_over I.Finish = true
lays_over (I.Call r first to) = true
lays_over _ = false

-- it lays the carry of a FORALL that is done over the frames
unfoldable pub is_finish : Instr → Bool
is_finish I.Finish = true
is_finish _ = false

-- it begins a FORALL
unfoldable pub is_forall : Instr → Bool
is_forall (I.Forall a b) = true
is_forall _ = false

-- the mark slot in which it looks for the height of a FORALL
unfoldable pub body_of : Instr → Option ℕ
body_of (I.Overlay a b) = Some a
body_of (I.Keep a) = Some a
body_of _ = None

-- the same with other slots
unfoldable pub rename_slots : (slot : ℕ → ℕ) → Instr → Instr
rename_slots slot (I.Const a b) = I.Const (slot a) b
rename_slots slot (I.Move a b) = I.Move (slot a) (slot b)
rename_slots slot (I.Add a b c) = I.Add (slot a) (slot b) (slot c)
rename_slots slot (I.Sub a b c) = I.Sub (slot a) (slot b) (slot c)
rename_slots slot (I.Mul a b c) = I.Mul (slot a) (slot b) (slot c)
rename_slots slot (I.Div a b c) = I.Div (slot a) (slot b) (slot c)
rename_slots slot (I.Mod a b c) = I.Mod (slot a) (slot b) (slot c)
rename_slots slot (I.Neg a b) = I.Neg (slot a) (slot b)
rename_slots slot (I.Equal a b c) = I.Equal (slot a) (slot b) (slot c)
rename_slots slot (I.Less a b c) = I.Less (slot a) (slot b) (slot c)
rename_slots slot (I.LessEq a b c) = I.LessEq (slot a) (slot b) (slot c)
rename_slots slot (I.Flip a b) = I.Flip (slot a) (slot b)
rename_slots slot (I.InRange a b) = I.InRange (slot a) b
rename_slots slot (I.Local a b) = I.Local (slot a) b
rename_slots slot (I.Global a b) = I.Global (slot a) b
rename_slots slot (I.Same a b) = I.Same (slot a) (slot b)
rename_slots slot (I.Field a b c) = I.Field (slot a) (slot b) c
rename_slots slot (I.Index a b c d) = I.Index (slot a) (slot b) (slot c) d
rename_slots slot (I.Load a b) = I.Load (slot a) (slot b)
rename_slots slot (I.Store a b) = I.Store (slot a) (slot b)
rename_slots slot (I.Known a b) = I.Known (slot a) (slot b)
rename_slots slot (I.Bind a b c) = I.Bind (slot a) (slot b) c
rename_slots slot (I.Unify a b c d) = I.Unify (slot a) b (slot c) d
rename_slots slot (I.CopyCells a b) = I.CopyCells (slot a) (slot b)
rename_slots slot (I.SameCells a b) = I.SameCells (slot a) (slot b)
rename_slots slot (I.JumpZero a b) = I.JumpZero (slot a) b
rename_slots slot (I.Check a) = I.Check (slot a)
rename_slots slot (I.Mark a) = I.Mark (slot a)
rename_slots slot (I.Cut a) = I.Cut (slot a)
rename_slots slot (I.Forall a b) = I.Forall (slot a) b
rename_slots slot (I.Overlay a b) = I.Overlay (slot a) b
rename_slots slot (I.Keep a) = I.Keep (slot a)
rename_slots slot (I.Call a b c) = I.Call a (slot b) (slot c)
rename_slots slot (I.ReturnValue a) = I.ReturnValue (slot a)
rename_slots slot (I.ReadInt a b) = I.ReadInt (slot a) b
rename_slots slot (I.ReadChar a b) = I.ReadChar (slot a) b
rename_slots slot (I.WriteInt a) = I.WriteInt (slot a)
rename_slots slot (I.WriteChar a) = I.WriteChar (slot a)
rename_slots slot (I.WriteBool a) = I.WriteBool (slot a)
rename_slots slot (I.Step a b c d) = I.Step (slot a) (slot b) (slot c) d
rename_slots slot (I.Own a) = I.Own (slot a)
rename_slots slot (I.Chain a b c) = I.Chain (slot a) (slot b) c
rename_slots slot (I.Outer a b c) = I.Outer (slot a) (slot b) c
rename_slots slot (I.OuterSame a b c) = I.OuterSame (slot a) (slot b) c
rename_slots slot i = i
