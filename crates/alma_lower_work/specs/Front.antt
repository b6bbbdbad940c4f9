-- What stands before a phrase is emitted, and what its code, slots and lines add.
use Rattle.std.specs.Prelude.{◌≡◌, ℕ, ◌+◌, List, [], ◌∷◌, ◌++◌, length, drop, Option}
use Rattle.alma_code.specs.declared.cell.SlotKind.{SlotKind}
use Rattle.alma_code.specs.declared.instr.Instr.TheVariants as I
use Rattle.alma_base.specs.declared.number.Range.{Range}
use Rattle.alma_ir.specs.Tree.{Program, routine_at}
use Rattle.alma_ir.specs.View.{program_of}
use Rattle.alma_choice.specs.Emitted.{made, aim_jump}
use Rattle.alma_lower_tables.specs.Numbers.{tables_of}
use Rattle.alma_lower_work.specs.declared.scene.Scene.{Scene}
use Rattle.alma_lower_work.specs.declared.work.Work.{Work}
use Rattle.alma_lower_templates.specs.LineInstr.{LineInstr, own}
use Rattle.alma_lower_templates.specs.Tables.{Tables}

-- where a phrase stands: its program, the tables of the code, and its routine
pub record Around : Type 0 where
  pub program : Program
  pub tables : Tables
  pub routine : ℕ

-- that of a scene in memory
unfoldable pub around : Scene → Around
around s = record { program = program_of s.program.now; tables = tables_of s.numbers.now; routine = s.routine }

-- the range of the result of the routine
abbrev pub result_of : Around → Option Range
result_of s = (routine_at s.program s.routine).result

-- the code so far, the next slot, the kinds of the slots so far, the lines that are still to be handed out, and all lines
pub record Front : Type 0 where
  pub code : List LineInstr
  pub next : ℕ
  pub kinds : List SlotKind
  pub lines : List ℕ
  pub all_lines : List ℕ

-- that of a code in the making in memory
unfoldable pub front : Work → Front
front w = record {
  code = made w.emit;
  next = w.emit.next;
  kinds = w.emit.kinds.items;
  lines = drop w.handed w.lines.items;
  all_lines = w.lines.items;
}

-- b is a with this code behind its own, given its address, the next slot and the lines; with these slots; and
-- with the lines that are left
pub record Adds (a b : Front) (code : (at lo : ℕ) → (ls : List ℕ) → List LineInstr) (slots : (ls : List ℕ) → List SlotKind)
    (pass : (ls : List ℕ) → List ℕ) : Type 0 where
  pub instrs : b.code ≡ a.code ++ code (length a.code) a.next a.lines
  pub taken : b.kinds ≡ a.kinds ++ slots a.lines
  pub next_slot : b.next ≡ a.next + length (slots a.lines)
  pub left : b.lines ≡ pass a.lines
  pub whole : b.all_lines ≡ a.all_lines

-- b is a with this code behind its own
pub record Codes (a b : Front) (code : List LineInstr) : Type 0 where
  pub instrs : b.code ≡ a.code ++ code
  pub taken : b.kinds ≡ a.kinds
  pub next_slot : b.next ≡ a.next
  pub left : b.lines ≡ a.lines
  pub whole : b.all_lines ≡ a.all_lines

-- b is a with one slot more
pub record Takes (a b : Front) (kind : SlotKind) : Type 0 where
  pub instrs : b.code ≡ a.code
  pub taken : b.kinds ≡ a.kinds ++ kind ∷ []
  pub next_slot : b.next ≡ a.next + 1
  pub left : b.lines ≡ a.lines
  pub whole : b.all_lines ≡ a.all_lines

-- b is a with its code changed
pub record Changes (a b : Front) (change : List LineInstr → List LineInstr) : Type 0 where
  pub instrs : b.code ≡ change a.code
  pub taken : b.kinds ≡ a.kinds
  pub next_slot : b.next ≡ a.next
  pub left : b.lines ≡ a.lines
  pub whole : b.all_lines ≡ a.all_lines

-- Code with a target that is still to be aimed, which is 0 until then; whatever stands behind, the change aims it.
pub record Holes (a b : Front) (aim : (to : ℕ) → List LineInstr → List LineInstr) (code : (none at lo : ℕ) → (ls : List ℕ) → List LineInstr)
    (slots : (ls : List ℕ) → List SlotKind) (pass : (ls : List ℕ) → List ℕ) : Type 0 where
  pub all : Adds a b (code 0) slots pass
  pub fills : (to : ℕ) (ys : List LineInstr) → aim to (b.code ++ ys) ≡ (a.code ++ code to (length a.code) a.next a.lines) ++ ys

-- behind the body of a FORALL: the cut, what is kept, and the failure, at which the overlay is aimed
pub record EndsEach (a b : Front) (line mark inner overlay : ℕ) : Type 0 where
  pub instrs : b.code ≡ aim_jump (a.code ++ own line (I.Cut inner ∷ I.Keep mark ∷ [])) overlay (length a.code + 2) ++ own line (I.Fail ∷ [])
  pub taken : b.kinds ≡ a.kinds
  pub next_slot : b.next ≡ a.next
  pub left : b.lines ≡ a.lines
  pub whole : b.all_lines ≡ a.all_lines

-- behind a FORALL: its finish, at which it is aimed
pub record EndsForall (a b : Front) (line forall : ℕ) : Type 0 where
  pub instrs : b.code ≡ aim_jump a.code forall (length a.code) ++ own line (I.Finish ∷ [])
  pub taken : b.kinds ≡ a.kinds
  pub next_slot : b.next ≡ a.next
  pub left : b.lines ≡ a.lines
  pub whole : b.all_lines ≡ a.all_lines

-- b is a with other lines to be handed out
pub record Turns (a b : Front) (ls : List ℕ) : Type 0 where
  pub instrs : b.code ≡ a.code
  pub taken : b.kinds ≡ a.kinds
  pub next_slot : b.next ≡ a.next
  pub left : b.lines ≡ ls
  pub whole : b.all_lines ≡ a.all_lines
