-- What is put in a row with no recursion, step by step: it serves contracts between the crates of the emitter alone.
use Rattle.std.specs.Prelude.{◌≡◌, ℕ, ◌+◌, ℤ, List, [], ◌∷◌, length, drop, Option, Some, None}
use Rattle.alma_code.specs.declared.cell.SlotKind.{SlotKind}
use Rattle.alma_code.specs.declared.cell.SlotKind.TheVariants as slot
use Rattle.alma_code.specs.declared.instr.Instr.TheVariants as I
use Rattle.alma_choice.specs.Emitted.{aim_jump}
use Rattle.alma_ir.specs.declared.phrase.Root.{Root}
use Rattle.alma_ir.specs.Tree.{Args, Sels}
use Rattle.alma_lower_work.specs.Front.{Around, Front, Adds, Codes, Takes, Changes, Holes, EndsEach, EndsForall}
use Rattle.alma_lower_templates.specs.LineInstr.{LineInstr, own}
use Rattle.alma_lower_templates.specs.Slots.{call_links, handed_slots, held_slots, root_slots, own_root, unless_bare}
use Rattle.alma_lower_templates.specs.Pieces.{held_code, some_front, truth_code}
use Rattle.alma_lower_templates.specs.Templates as T

-- ---- of any form

-- two pieces of code
pub record PutsTwo (a c : Front) (xs ys : List LineInstr) : Type 0 where
  pub b : Front
  pub first : Codes a b xs
  pub second : Codes b c ys

-- a slot, and code
pub record PutsSlot (a c : Front) (kind : SlotKind) (xs : List LineInstr) : Type 0 where
  pub b : Front
  pub takes : Takes a b kind
  pub codes : Codes b c xs

-- code, and a jump that is aimed so far behind it
pub record PutsAimed (a c : Front) (xs : List LineInstr) (at skip : ℕ) : Type 0 where
  pub b : Front
  pub codes : Codes a b xs
  pub aims : Changes b c (λ ys. aim_jump ys at (length b.code + skip))

-- ---- of places, conditions and calls

-- a slot for a place, and the place of a root in it, where it is not used in the slot of a parameter
pub record BeginsPlace (s : Around) (line : ℕ) (a c : Front) (cells : ℕ) (r : Root) (sels : Sels) (to : ℕ) : Type 0 where
  pub b : Front
  pub takes : Takes a b (slot.Place cells)
  pub to_slot : to ≡ T.slot_or s.program s.tables s.routine (own_root r sels) a.next
  pub root : Adds b c (λ at lo ls. unless_bare (own_root r sels) (own line (T.root_code s.program s.tables s.routine a.next r)))
      (λ ls. root_slots s.program s.routine r) (λ ls. ls)

-- the jump of a condition is aimed, and the condition is a number
pub record EndsTruth (line : ℕ) (a c : Front) (jump to : ℕ) : Type 0 where
  pub b : Front
  pub aims : Changes a b (λ xs. aim_jump xs jump (length a.code + 2))
  pub codes : Codes b c (truth_code line to (length b.code))

-- the jump of WHILE to its condition, which follows
pub record BeginsWhile (line : ℕ) (a b : Front) (top : ℕ) : Type 0 where
  pub top_at : top ≡ length a.code + 1
  pub codes : Codes a b (own line (I.Jump top ∷ []))

-- the slot of a result, and that of the mark of its call
pub record TakesResult (a c : Front) (to mark : ℕ) : Type 0 where
  pub b : Front
  pub takes_to : Takes a b slot.Number
  pub to_slot : to ≡ a.next
  pub takes_mark : Takes b c slot.Mark
  pub mark_slot : mark ≡ b.next

-- the link of a call, and the slots of its arguments
pub record BeginsCall (s : Around) (line called up : ℕ) (a c : Front) (args : Args) (to : ℕ) : Type 0 where
  pub b : Front
  pub link : Adds a b (λ at lo ls. own line (T.call_link_code s.program s.tables s.routine called up lo))
      (λ ls. call_links s.program s.routine called up) (λ ls. ls)
  pub slots : Adds b c (λ at lo ls. []) (λ ls. handed_slots args) (λ ls. ls)
  pub to_slot : to ≡ b.next

-- ---- of choices

-- a mark slot, and code whose jump at an address is still to be aimed
abbrev pub BeginsChoice : (a b : Front) → (jump : ℕ) → (code : (mark target : ℕ) → List LineInstr) → Type 0
BeginsChoice a b jump code =
    Holes a b (λ to xs. aim_jump xs jump to) (λ none at lo ls. code lo none) (λ ls. slot.Mark ∷ []) (λ ls. ls)

-- the end of the body of FORALL, and that of the whole
pub record EndsBoth (line mark inner overlay forall : ℕ) (a c : Front) : Type 0 where
  pub b : Front
  pub each : EndsEach a b line mark inner overlay
  pub whole : EndsForall b c line forall

-- ---- of CASE

-- the two jumps of the last label of an arm are aimed behind the jump that follows the arm
pub record EndsArm (a c : Front) (low high : ℕ) : Type 0 where
  pub b : Front
  pub target : ℕ
  pub target_at : target ≡ length a.code + 1
  pub aims_low : Changes a b (λ xs. aim_jump xs low target)
  pub aims_high : Changes b c (λ xs. aim_jump xs high target)

-- lines are handed out anew from a position on, and a jump is aimed behind
pub record EndsDead (a c : Front) (before over : ℕ) : Type 0 where
  pub b : Front
  pub code : b.code ≡ a.code
  pub kinds : b.kinds ≡ a.kinds
  pub next : b.next ≡ a.next
  pub lines : b.lines ≡ drop before a.all_lines
  pub whole : b.all_lines ≡ a.all_lines
  pub aims : Changes b c (λ xs. aim_jump xs over (length b.code + 0))

-- ---- of WHILE whose condition stands behind its body

-- the slot in which a constant is held, where there is one
abbrev pub held_slot : (constant : Option ℤ) → (lo : ℕ) → Option ℕ
held_slot (Some n) lo = Some lo
held_slot None lo = None

-- a constant that is put before a loop, in a slot of its own
pub record HoldsConstant (line : ℕ) (a b : Front) (constant : Option ℤ) (held : Option ℕ) : Type 0 where
  pub held_at : held ≡ held_slot constant a.next
  pub all : Adds a b (λ at lo ls. own line (held_code constant lo)) (λ ls. held_slots constant) (λ ls. ls)

-- ---- of FOR and SOME

-- the end of FOR: the step, and the jump over all turns is aimed behind it
pub record EndsFor (line counter limit step jump top : ℕ) (a c : Front) : Type 0 where
  pub b : Front
  pub out : ℕ
  pub out_at : out ≡ length a.code + 2
  pub codes : Codes a b (own line (I.Step counter limit step out ∷ I.Jump top ∷ []))
  pub aims : Changes b c (λ xs. aim_jump xs jump (length b.code + 0))

-- a slot for whether there are more turns, and the front
pub record BeginsSome (line : ℕ) (constant : Option ℤ) (counter limit step first : ℕ) (a c : Front) : Type 0 where
  pub b : Front
  pub takes : Takes a b slot.Number
  pub codes : Codes b c (own line (some_front (length b.code) constant counter limit step first a.next))
