-- The twelve rules of a sound code, each a test of one head or of one instruction, and the first
-- that is broken. Rules 1 to 3 are of a head, rules 4 to 12 of an instruction; "the routine" is the
-- routine r in whose code it stands.
use Rattle.std.specs.Prelude.{◌≡◌, ℕ, zero, suc, ◌+◌, ◌-◌, ◌*◌, ◌<◌, ◌≤◌, Bool, true, false, not, ◌&&◌, ◌||◌, nat_eq, nat_lt, nat_le, List}
use Rattle.std.specs.Prelude.{[], ◌∷◌, length, get_or, Option, Some, None, slice_get}
use Rattle.std.specs.List.{list_all}
use Rattle.alma_base.specs.FirstFault.{unless, or_else}
use Rattle.alma_base.specs.Limits.{cell_limit, slot_limit}
use Rattle.alma_base.specs.Numbers.{range_size}
use Rattle.alma_base.specs.declared.number.Range.{Range}
use Rattle.alma_code.specs.declared.cell.SlotKind.{SlotKind}
use Rattle.alma_code.specs.declared.cell.SlotKind.TheVariants as slot
use Rattle.alma_code.specs.declared.head.Run.{Run}
use Rattle.alma_code.specs.declared.head.ParamKind.{ParamKind}
use Rattle.alma_code.specs.declared.head.ParamKind.TheVariants as param
use Rattle.alma_code.specs.declared.head.CodeParam.{CodeParam}
use Rattle.alma_code.specs.declared.instr.Instr.{Instr}
use Rattle.alma_code.specs.declared.instr.Instr.TheVariants as I
use Rattle.alma_code.specs.declared.instr.Word.{Word}
use Rattle.alma_code.specs.declared.instr.Word.TheVariants as W
use Rattle.alma_code.specs.declared.step.VerifyFault.{VerifyFault}
use Rattle.alma_code.specs.Head.{PlainHead}
use Rattle.alma_code.specs.Kinds.{is_number, is_place, is_place_of, is_mark, is_link, is_link_of, numbers_from}
use Rattle.alma_code.specs.Layout.{RunsRise, hold_params}
use Rattle.alma_code.specs.Plain.{PlainCode, PlainGlobal, head_at, start_at, end_at, kinds_at}
use Rattle.alma_code.specs.Words.{words}
use Rattle.alma_code.specs.Machine.{no_case, no_return}

-- ---- what the tables of a code keep

-- the end of the last run, or low where there is none
abbrev pub last_end : (low : ℕ) → List Run → ℕ
last_end low [] = low
last_end low (run ∷ runs) = last_end run.end runs

-- there is a routine, the code ends never fall and the last is the number of instructions, and the
-- run ends of each routine rise from above 0
pub record IsTable (code : PlainCode) : Type 0 where
  pub some : 1 ≤ length code.routines
  pub rise : (r : ℕ) → r < length code.routines → start_at code r ≤ end_at code r
  pub last : start_at code (length code.routines) ≡ length code.instrs
  pub runs : (r : ℕ) → r < length code.routines → RunsRise 0 (head_at code r).runs (last_end 0 (head_at code r).runs)

-- ---- words of the rules

-- the cells of a place slot's places, or 0 where it is no place slot
abbrev pub place_length : Option SlotKind → ℕ
place_length (Some (slot.Place l)) = l
place_length (Some slot.Number) = 0
place_length (Some slot.Mark) = 0
place_length (Some (slot.Link q)) = 0
place_length None = 0

-- the routine of a link slot's links, or 0 where it is no link slot
abbrev pub link_routine : Option SlotKind → ℕ
link_routine (Some (slot.Link q)) = q
link_routine (Some slot.Number) = 0
link_routine (Some (slot.Place l)) = 0
link_routine (Some slot.Mark) = 0
link_routine None = 0

-- as many parts as a range has numbers fit into all; a range that is not there breaks rule 8 and
-- not this
abbrev pub has_room : Option Range → (part all : ℕ) → Bool
has_room (Some range) part all = nat_le (range_size range * part) all
has_room None part all = true

-- the first argument slot is 0 where there is no parameter
abbrev pub holds_first : List CodeParam → ℕ → Bool
holds_first [] first = nat_eq first 0
holds_first (p ∷ ps) first = true

-- an instruction after which nothing is reached by going on
abbrev pub ends_routine : Instr → Bool
ends_routine (I.Jump a) = true
ends_routine I.Fail = true
ends_routine I.Return = true
ends_routine (I.ReturnValue a) = true
ends_routine (I.Fault n) = true
ends_routine _ = false

module _ (code : PlainCode) where
  -- the kind of a slot of the routine, which is what the runs say, also beyond its slots
  abbrev pub kind_in : (r n : ℕ) → Option SlotKind
  kind_in r n = slice_get (kinds_at code r) n

  -- the length of the places of a place slot
  abbrev pub length_in : (r n : ℕ) → ℕ
  length_in r n = place_length (kind_in r n)

  -- not the input position, which is slot 0 of routine 0
  abbrev pub is_free : (r n : ℕ) → Bool
  is_free r n = nat_lt 0 (r + n)

  -- the routine to whose frames the links of a link slot lead
  abbrev pub link_in : (r n : ℕ) → ℕ
  link_in r n = link_routine (kind_in r n)

  -- n number slots from i on that leave out the input position; no slots may stand anywhere
  abbrev pub cells_in : (r i n : ℕ) → Bool
  cells_in r i zero = true
  cells_in r i (suc n) = is_free r i && numbers_from (suc n) (kinds_at code r) i

  -- an address of the routine
  abbrev pub is_address : (r at : ℕ) → Bool
  is_address r at = nat_le (start_at code r) at && nat_lt at (end_at code r)

  -- ---- rules 1 to 3

  -- a global names number slots of routine 0, from 1 on
  abbrev pub is_global : PlainGlobal → Bool
  is_global g = cells_in 0 g.slot g.cells

  -- routine 0 has no parameters and no result, and the globals are number slots of it
  abbrev pub is_main : ℕ → Bool
  is_main zero = nat_eq (length (head_at code 0).params) 0 && (not (head_at code 0).has_result && list_all is_global code.globals)
  is_main (suc r) = true

  -- rule 1: the code of the routine is not empty, and routine 0 is as the module body must be
  abbrev pub rule_1 : ℕ → Bool
  rule_1 r = nat_lt (start_at code r) (end_at code r) && is_main r

  -- the routine of a run of links is one from 1 on
  abbrev pub names_routine : SlotKind → Bool
  names_routine (slot.Link q) = nat_lt 0 q && nat_lt q (length code.routines)
  names_routine slot.Number = true
  names_routine (slot.Place n) = true
  names_routine slot.Mark = true

  -- rule 2: the runs end at the number of slots, at most 8,388,608, and those of links name
  -- routines from 1 on; the declared cells are at most as many as the slots, and at most 1,048,576
  abbrev pub rule_2 : ℕ → Bool
  rule_2 r =
      (nat_eq (last_end 0 (head_at code r).runs) (head_at code r).slots
      && (nat_le (head_at code r).slots slot_limit && list_all (λ run. names_routine run.kind) (head_at code r).runs))
      && (nat_le (head_at code r).declared (head_at code r).slots && nat_le (head_at code r).declared cell_limit)

  -- slot 0 of routine 0 is a number slot
  abbrev pub has_position : ℕ → Bool
  has_position zero = is_number (kind_in 0 0)
  has_position (suc r) = true

  -- rule 3: the first slots of the routine are those of its parameters, and slot 0 of routine 0 is
  -- a number slot
  abbrev pub rule_3 : ℕ → Bool
  rule_3 r = hold_params (kinds_at code r) (head_at code r).params 0 && has_position r

  -- ---- rules 4 to 12

  -- below the routine's slots, and not the input position
  abbrev pub is_slot : (r n : ℕ) → Bool
  is_slot r n = nat_lt n (head_at code r).slots && is_free r n

  -- a word that names a slot names one of its kind
  abbrev pub names_slot : ℕ → Word → Bool
  names_slot r (W.Number n) = is_slot r n && is_number (kind_in r n)
  names_slot r (W.Place n) = is_slot r n && is_place (kind_in r n)
  names_slot r (W.Mark n) = is_slot r n && is_mark (kind_in r n)
  names_slot r (W.Link n) = is_slot r n && is_link (kind_in r n)
  names_slot r (W.Slot n) = is_slot r n
  names_slot r (W.Range n) = true
  names_slot r (W.Text n) = true
  names_slot r (W.Address n) = true
  names_slot r W.Free = true

  -- rule 4: each slot word names a slot of the routine, of the kind that the form states, and not
  -- the input position
  abbrev pub rule_4 : ℕ → Instr → Bool
  rule_4 r i = list_all (names_slot r) (words i)

  -- rule 5: Local and Global name as many number slots as the place slot's length, Same keeps the
  -- length, and Field stays inside; Own links to the routine itself, and in the routine to which
  -- the other link leads, Chain names a link to the same routine, Outer as many number slots as the
  -- place slot's length, and OuterSame a place slot of that length
  unfoldable pub rule_5 : ℕ → Instr → Bool
  rule_5 r (I.Local a b) = cells_in r b (length_in r a)
  rule_5 r (I.Global a b) = cells_in 0 b (length_in r a)
  rule_5 r (I.Same a b) = nat_eq (length_in r a) (length_in r b)
  rule_5 r (I.Field a b c) = nat_le (c + length_in r a) (length_in r b)
  rule_5 r (I.Own a) = is_link_of r (kind_in r a)
  rule_5 r (I.Chain a b c) = is_link_of (link_in r a) (kind_in (link_in r b) c)
  rule_5 r (I.Outer a b c) = numbers_from (length_in r a) (kinds_at code (link_in r b)) c
  rule_5 r (I.OuterSame a b c) = is_place_of (length_in r a) (kind_in (link_in r b) c)
  rule_5 r _ = true

  -- rule 6: Index has a part for each number of its range
  unfoldable pub rule_6 : ℕ → Instr → Bool
  rule_6 r (I.Index a b c d) = has_room (slice_get code.ranges d) (length_in r a) (length_in r b)
  rule_6 r _ = true

  -- rule 7: what works on one cell has places of length 1, what works on many has places of equal
  -- length
  unfoldable pub rule_7 : ℕ → Instr → Bool
  rule_7 r (I.Load a b) = nat_eq (length_in r b) 1
  rule_7 r (I.Store a b) = nat_eq (length_in r a) 1
  rule_7 r (I.Known a b) = nat_eq (length_in r b) 1
  rule_7 r (I.Bind a b c) = nat_eq (length_in r a) 1
  rule_7 r (I.Unify a b c d) = nat_eq (length_in r a) 1 && nat_eq (length_in r c) 1
  rule_7 r (I.CopyCells a b) = nat_eq (length_in r a) (length_in r b)
  rule_7 r (I.SameCells a b) = nat_eq (length_in r a) (length_in r b)
  rule_7 r (I.ReadInt a t) = nat_eq (length_in r a) 1
  rule_7 r (I.ReadChar a t) = nat_eq (length_in r a) 1
  rule_7 r _ = true

  -- a word that names a range or a text names one that is there
  abbrev pub names_entry : Word → Bool
  names_entry (W.Range n) = nat_lt n (length code.ranges)
  names_entry (W.Text n) = nat_lt n (length code.texts)
  names_entry (W.Number n) = true
  names_entry (W.Place n) = true
  names_entry (W.Mark n) = true
  names_entry (W.Link n) = true
  names_entry (W.Slot n) = true
  names_entry (W.Address n) = true
  names_entry W.Free = true

  -- rule 8: each range word and each text word is below its count
  abbrev pub rule_8 : Instr → Bool
  rule_8 i = list_all names_entry (words i)

  -- a word that names an address names one of the routine
  abbrev pub names_address : ℕ → Word → Bool
  names_address r (W.Address n) = is_address r n
  names_address r (W.Number n) = true
  names_address r (W.Place n) = true
  names_address r (W.Mark n) = true
  names_address r (W.Link n) = true
  names_address r (W.Slot n) = true
  names_address r (W.Range n) = true
  names_address r (W.Text n) = true
  names_address r W.Free = true

  -- rule 9: each address word is an address of the routine
  abbrev pub rule_9 : ℕ → Instr → Bool
  rule_9 r i = list_all (names_address r) (words i)

  -- slot i of the routine can be the argument of a parameter
  abbrev pub fits_argument : ℕ → ParamKind → ℕ → (i : ℕ) → Bool
  fits_argument r param.Value n i = is_number (kind_in r i)
  fits_argument r param.Place n i = is_place_of n (kind_in r i)
  fits_argument r param.Mix n i = is_number (kind_in r i) || is_place_of 1 (kind_in r i)
  fits_argument r param.Cells n i = is_place_of n (kind_in r i)
  fits_argument r param.Link n i = is_link_of n (kind_in r i)

  -- the slots from i on can be the arguments of the parameters, and none is the input position
  abbrev pub fit_arguments : ℕ → List CodeParam → (i : ℕ) → Bool
  fit_arguments r [] i = true
  fit_arguments r (p ∷ ps) i = (is_free r i && fits_argument r p.kind p.cells i) && fit_arguments r ps (suc i)

  -- where there is a result its slot is a number slot and not the input position, and else the word
  -- is 0
  abbrev pub holds_result : ℕ → (has_result : Bool) → (to : ℕ) → Bool
  holds_result r true to = is_free r to && is_number (kind_in r to)
  holds_result r false to = nat_eq to 0

  -- the routine can call one with this head, and has an instruction after the call
  abbrev pub can_call : (r at : ℕ) → PlainHead → (first to : ℕ) → Bool
  can_call r at h first to =
      (fit_arguments r h.params first && holds_first h.params first) && (holds_result r h.has_result to && nat_lt (suc at) (end_at code r))

  -- rule 10: Call names a routine from 1 on, argument slots that match its parameters and a slot
  -- for its result, and is not the last instruction
  unfoldable pub rule_10 : ℕ → ℕ → Instr → Bool
  rule_10 r at (I.Call c first to) =
      (nat_lt 0 c && nat_lt c (length code.routines)) && can_call r at (head_at code c) first to
  rule_10 r at _ = true

  -- rule 11: the last instruction of the routine is Jump, Fail, Return, ReturnValue or Fault
  unfoldable pub rule_11 : ℕ → ℕ → Instr → Bool
  rule_11 r at i = nat_lt (suc at) (end_at code r) || ends_routine i

  -- rule 12: ReturnValue stands only in a routine with a result, Return only in one without, and
  -- Fault has the number of NoCase or NoReturn
  unfoldable pub rule_12 : ℕ → Instr → Bool
  rule_12 r (I.ReturnValue a) = (head_at code r).has_result
  rule_12 r I.Return = not (head_at code r).has_result
  rule_12 r (I.Fault n) = nat_eq n no_case || nat_eq n no_return
  rule_12 r _ = true

-- ---- the first broken rule

-- the fault that tells a rule, and the routine or the address that breaks it
abbrev pub breach : (rule at : ℕ) → VerifyFault
breach rule at = record { rule = rule; at = at }

module _ (code : PlainCode) where
  -- of the instruction at an address of the routine
  unfoldable pub instr_fault : (r at : ℕ) → Instr → Option VerifyFault
  instr_fault r at i =
      unless (rule_4 code r i) (breach 4 at)
      (unless (rule_5 code r i) (breach 5 at)
      (unless (rule_6 code r i) (breach 6 at)
      (unless (rule_7 code r i) (breach 7 at)
      (unless (rule_8 code i) (breach 8 at)
      (unless (rule_9 code r i) (breach 9 at)
      (unless (rule_10 code r at i) (breach 10 at)
      (unless (rule_11 code r at i) (breach 11 at)
      (unless (rule_12 code r i) (breach 12 at) None))))))))

  -- of n instructions of the routine from an address on
  unfoldable pub instrs_fault : (r at n : ℕ) → Option VerifyFault
  instrs_fault r at zero = None
  instrs_fault r at (suc n) = or_else (instr_fault r at (get_or code.instrs at I.Fail)) (instrs_fault r (suc at) n)

  -- of a routine: its head, then its instructions in order
  unfoldable pub routine_fault : ℕ → Option VerifyFault
  routine_fault r =
      unless (rule_1 code r) (breach 1 r)
      (unless (rule_2 code r) (breach 2 r)
      (unless (rule_3 code r) (breach 3 r)
      (instrs_fault r (start_at code r) (end_at code r - start_at code r))))

  -- of n routines from one on
  unfoldable pub routines_fault : (r n : ℕ) → Option VerifyFault
  routines_fault r zero = None
  routines_fault r (suc n) = or_else (routine_fault r) (routines_fault (suc r) n)

  -- the first broken rule of the code
  abbrev pub code_fault : Option VerifyFault
  code_fault = routines_fault 0 (length code.routines)

-- ---- sound code

-- the tables are in order, and the rules hold at each head and at each instruction
pub record IsSound (code : PlainCode) : Type 0 where
  pub table : IsTable code
  pub heads : (r : ℕ) → r < length code.routines → (rule_1 code r ≡ true) × (rule_2 code r ≡ true) × (rule_3 code r ≡ true)
  pub instrs : (r at : ℕ) → r < length code.routines → start_at code r ≤ at → at < end_at code r
      → instr_fault code r at (get_or code.instrs at I.Fail) ≡ None
