-- What an emitter has put, and what a call of it adds.
use Rattle.std.specs.Prelude.{◌≡◌, ℕ, zero, suc, ◌+◌, List, [], ◌∷◌, ◌++◌, ◌<◌, length, map, vec_len, vec_capacity}
use Rattle.alma_base.specs.Limits.{slot_limit}
use Rattle.alma_code.specs.declared.cell.SlotKind.{SlotKind}
use Rattle.alma_code.specs.declared.instr.Instr.{Instr}
use Rattle.alma_code.specs.declared.instr.Instr.TheVariants as I
use Rattle.alma_choice.specs.declared.emit.Emit.{Emit}
use Rattle.alma_lower_templates.specs.LineInstr.{LineInstr, own}
use Rattle.alma_lower_templates.specs.Pieces.{with_last}

-- an instruction in memory beside its line
abbrev pub line_instr : Instr × ℕ → LineInstr
line_instr x = record { line = x.1; instr = x.0 }

-- the instructions so far, each with its line
abbrev pub made : Emit → List LineInstr
made e = map line_instr e.code.items

-- the same instruction with another target; one without a target stays
abbrev pub with_target : Instr → (to : ℕ) → Instr
with_target (I.Jump _) to = I.Jump to
with_target (I.JumpZero value _) to = I.JumpZero value to
with_target (I.Choose _) to = I.Choose to
with_target (I.Forall mark _) to = I.Forall mark to
with_target (I.Overlay mark _) to = I.Overlay mark to
with_target (I.Step counter limit by _) to = I.Step counter limit by to
with_target i to = i

-- the same code with the jump at an address aimed at another address
abbrev pub aim_jump : List LineInstr → (at to : ℕ) → List LineInstr
aim_jump [] at to = []
aim_jump (x ∷ rest) zero to = record { line = x.line; instr = with_target x.instr to } ∷ rest
aim_jump (x ∷ rest) (suc at) to = x ∷ aim_jump rest at to

-- b is a with this code behind its own, and with these slots behind its own
pub record Appends (a b : Emit) (code : List LineInstr) (slots : List SlotKind) : Type 0 where
  pub instrs : made b ≡ made a ++ code
  pub kinds : b.kinds.items ≡ a.kinds.items ++ slots
  pub next : b.next ≡ a.next + length slots

-- b has the same code and the same slots as a
pub record IsAsBefore (a b : Emit) : Type 0 where
  pub instrs : b.code.items ≡ a.code.items
  pub kinds : b.kinds.items ≡ a.kinds.items
  pub next : b.next ≡ a.next

-- one more slot can be taken
pub record HasSlotRoom (a : Emit) : Type 0 where
  pub limit : a.next < slot_limit
  pub memory : vec_len a.kinds < vec_capacity a.kinds

-- b is a with the jump at an address aimed at another
pub record Aims (a b : Emit) (at to : ℕ) : Type 0 where
  pub instrs : made b ≡ aim_jump (made a) at to
  pub kinds : b.kinds.items ≡ a.kinds.items
  pub next : b.next ≡ a.next

-- b is a with its last instruction changed
pub record ChangesLast (a b : Emit) (change : Instr → Instr) : Type 0 where
  pub instrs : made b ≡ with_last change (made a)
  pub kinds : b.kinds.items ≡ a.kinds.items
  pub next : b.next ≡ a.next

-- b is a behind the body of a FORALL: the cut, what is kept, and the failure, at which the overlay is aimed
pub record EndsEach (a b : Emit) (line mark inner overlay : ℕ) : Type 0 where
  pub instrs : made b ≡ aim_jump (made a ++ own line (I.Cut inner ∷ I.Keep mark ∷ [])) overlay (length (made a) + 2)
      ++ own line (I.Fail ∷ [])
  pub kinds : b.kinds.items ≡ a.kinds.items
  pub next : b.next ≡ a.next

-- b is a behind a FORALL: its finish, at which it is aimed
pub record EndsForall (a b : Emit) (line forall : ℕ) : Type 0 where
  pub instrs : made b ≡ aim_jump (made a) forall (length (made a)) ++ own line (I.Finish ∷ [])
  pub kinds : b.kinds.items ≡ a.kinds.items
  pub next : b.next ≡ a.next
