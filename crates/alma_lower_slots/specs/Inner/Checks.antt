-- What is looked for in a routine, part by part, before its slots may be renamed as stretches say.
use Rattle.std.specs.Prelude.{◌≡◌, ◌<◌, ◌≤◌, ℕ, suc, ◌+◌, ◌-◌, Bool, true, false, ◌||◌, if◌then◌else◌}
use Rattle.std.specs.Prelude.{List, [], ◌∷◌, length, get_or, Option, Some, None, slice_get}
use Rattle.std.specs.List.{list_all}
use Rattle.alma_code.specs.declared.cell.SlotKind.{SlotKind}
use Rattle.alma_code.specs.declared.instr.Instr.{Instr}
use Rattle.alma_code.specs.declared.instr.Instr.TheVariants as I
use Rattle.alma_code.specs.Kinds.{is_number}
use Rattle.alma_code.specs.Plain.{PlainCode, head_at, start_at, end_at}
use Rattle.alma_code.specs.Rules.{ends_routine}
use Rattle.alma_lower_slots.specs.declared.stretch.Stretch.{Stretch}
use Rattle.alma_lower_slots.specs.declared.sources.Sources.{Sources}
use Rattle.alma_lower_slots.specs.Slots.{slots_from, reads, target_slot, away, lays_over, is_finish, is_forall, body_of}
use Rattle.alma_lower_slots.specs.Sharing.{names_own, begins_own}
use Rattle.alma_lower_slots.specs.Stretches.{no_end, own_count, stretch_at, is_kept, is_live}

-- ---- words of an instruction

-- the slots that are there
abbrev pub slots_of : List (Option ℕ) → List ℕ
slots_of [] = []
slots_of (Some n ∷ rest) = n ∷ slots_of rest
slots_of (None ∷ rest) = slots_of rest

-- the arguments of a Call
unfoldable pub arguments : PlainCode → Instr → List ℕ
arguments code (I.Call r first to) = slots_from (length (head_at code r).params) first
arguments code _ = []

-- the slot that a Mark writes
unfoldable pub mark_of : Instr → Option ℕ
mark_of (I.Mark a) = Some a
mark_of _ = None

-- ---- jumps

-- an address is among those from which one leads to another
abbrev pub IsAmong : Sources → (at : ℕ) → Type 0
IsAmong s at = (s.first ≤ at) × (at ≤ s.last)

-- what stands for the sources of an address that is not there
abbrev pub no_sources : Sources
no_sources = record { first = 0; last = 0 }

-- where an instruction of the routine leads to one of its addresses, it is among the sources of that
pub record AreSources (code : PlainCode) (r : ℕ) (sources : List Sources) : Type 0 where
  pub all : (at t : ℕ) → start_at code r ≤ at → at < end_at code r
      → away (get_or code.instrs at I.Fail) ≡ Some t → start_at code r ≤ t → t < end_at code r
      → IsAmong (get_or sources (t - start_at code r) no_sources) at

-- those from which one leads to an address lie behind low up to high
abbrev pub Encloses : Sources → (low high : ℕ) → Type 0
Encloses s low high = (low < s.first) × (s.last ≤ high)

-- the sources of addresses after one of them is noted for a place
pub record Notes (old new : List Sources) (place at : ℕ) : Type 0 where
  pub count : length new ≡ length old
  pub wider : (k from : ℕ) → IsAmong (get_or old k no_sources) from → IsAmong (get_or new k no_sources) from
  pub noted : place < length old → IsAmong (get_or new place no_sources) at

-- after the address where an instruction leads is noted, where it leads to one
pub record NotesJump (old new : List Sources) (start at : ℕ) (to : Option ℕ) : Type 0 where
  pub count : length new ≡ length old
  pub wider : (k from : ℕ) → IsAmong (get_or old k no_sources) from → IsAmong (get_or new k no_sources) from
  pub noted : (t : ℕ) → to ≡ Some t → start ≤ t → t - start < length old → IsAmong (get_or new (t - start) no_sources) at

-- ---- stretches

-- what the slot holds at the address matters
abbrev pub matters_at : List Stretch → (at n : ℕ) → Bool
matters_at stretches at n = is_kept (stretch_at stretches n) || is_live (stretch_at stretches n) at

-- the address behind which a slot has its new number
abbrev pub begin_of : Stretch → ℕ
begin_of x = if is_kept x then 0 else x.low

-- it has its new number at the address
abbrev pub Holds : Stretch → (at : ℕ) → Type 0
Holds x at = (begin_of x < at) × (at ≤ x.high)

-- two slots that have one new number at one address are one
pub record AreApart (stretches : List Stretch) : Type 0 where
  pub apart : (m n at : ℕ) → m < length stretches → n < length stretches
      → (stretch_at stretches m).slot ≡ (stretch_at stretches n).slot
      → Holds (stretch_at stretches m) at → Holds (stretch_at stretches n) at → m ≡ n

-- the slot is there, and is written where it has its new number behind
abbrev pub WritesIn : List Stretch → (at w : ℕ) → Type 0
WritesIn stretches at w = (w < length stretches) × Holds (stretch_at stretches w) (suc at)

-- behind the instruction a carry may have been laid over the frame only where the stretch ends, and it leads nowhere else there
abbrev pub IsCalm : Instr → (at high : ℕ) → Type 0
IsCalm i at high = lays_over i ≡ true → (at ≡ high) × (away i ≡ None)

-- a slot that is not kept is written where its stretch begins, and none jumps into its stretch from outside; and a number lives
-- behind no carry there
pub record FitsSlot (code : PlainCode) (r : ℕ) (kind : Option SlotKind) (n : ℕ) (x : Stretch) : Type 0 where
  pub begins : start_at code r ≤ x.low
  pub writes : target_slot code (get_or code.instrs x.low I.Fail) ≡ Some n
  pub jumps : (at t : ℕ) → start_at code r ≤ at → at < end_at code r
      → away (get_or code.instrs at I.Fail) ≡ Some t → x.low < t → t ≤ x.high → (x.low < at) × (at ≤ x.high)
  pub calm : is_number kind ≡ true → (at : ℕ) → x.low < at → at ≤ x.high → IsCalm (get_or code.instrs at I.Fail) at x.high

-- it has a stretch, and is not kept
abbrev pub HasStretch : Stretch → Type 0
HasStretch x = (is_kept x ≡ false) × (x.low < x.high)

-- each slot that has a stretch fits the code
pub record FitSlots (code : PlainCode) (r : ℕ) (kinds : List SlotKind) (stretches : List Stretch) : Type 0 where
  pub all : (n : ℕ) → n < length stretches → HasStretch (stretch_at stretches n)
      → FitsSlot code r (slice_get kinds n) n (stretch_at stretches n)

-- what a slot that may not be there reads matters
abbrev pub matters_if : List Stretch → (at : ℕ) → Option ℕ → Bool
matters_if stretches at None = true
matters_if stretches at (Some n) = matters_at stretches at n

-- the arguments of a Call stay together
abbrev pub StayTogether : PlainCode → List Stretch → Instr → Type 0
StayTogether code stretches (I.Call c first to) = (k : ℕ) → k < length (head_at code c).params
    → (stretch_at stretches (first + k)).slot ≡ (stretch_at stretches first).slot + k
StayTogether code stretches _ = Unit {0}

-- where a Finish is next the instruction ends the flow, and away it leads to a Finish where it is a Forall, and only there
pub record FitsFlow (code : PlainCode) (at : ℕ) (i : Instr) : Type 0 where
  pub ends : is_finish (get_or code.instrs (suc at) I.Fail) ≡ true → ends_routine i ≡ true
  pub finishes : (t : ℕ) → away i ≡ Some t → is_finish (get_or code.instrs t I.Fail) ≡ is_forall i

-- an instruction fits the stretches
pub record FitsInstr (code : PlainCode) (own : List ℕ) (kinds : List SlotKind) (stretches : List Stretch) (r at : ℕ) (i : Instr) :
    Type 0 where
  pub read : list_all (λ n. matters_at stretches at n) (reads code i) ≡ true
  pub write : (w : ℕ) → target_slot code i ≡ Some w → WritesIn stretches at w
  pub flow : FitsFlow code at i
  pub places : names_own (own_count own) kinds r i ≡ true
  pub begins : begins_own (own_count own) r i ≡ true
  pub together : StayTogether code stretches i

-- each instruction of the routine does, and a word holds each of its addresses
pub record FitInstrs (code : PlainCode) (own : List ℕ) (kinds : List SlotKind) (stretches : List Stretch) (r : ℕ) : Type 0 where
  pub few : end_at code r ≤ no_end
  pub all : (at : ℕ) → start_at code r ≤ at → at < end_at code r
      → FitsInstr code own kinds stretches r at (get_or code.instrs at I.Fail)

-- the marked slots after one more is, which may not be there; what is beyond them counts as marked
pub record NotesMark (old new : List Bool) (slot : Option ℕ) : Type 0 where
  pub count : length new ≡ length old
  pub stays : (k : ℕ) → get_or old k true ≡ true → get_or new k true ≡ true
  pub noted : (a : ℕ) → slot ≡ Some a → get_or new a true ≡ true

-- the slots that a Mark of the routine writes are marked
pub record AreMarks (code : PlainCode) (r : ℕ) (marks : List Bool) : Type 0 where
  pub all : (at a : ℕ) → start_at code r ≤ at → at < end_at code r → mark_of (get_or code.instrs at I.Fail) ≡ Some a
      → get_or marks a true ≡ true

-- the slot, if it is there, is not marked
abbrev pub IsClear : List Bool → Option ℕ → Type 0
IsClear marks slot = (a : ℕ) → slot ≡ Some a → get_or marks a true ≡ false

-- where the routine looks for the height of a FORALL no Mark writes
pub record ClearBodies (code : PlainCode) (r : ℕ) : Type 0 where
  pub apart : (at at2 a : ℕ) → start_at code r ≤ at → at < end_at code r → start_at code r ≤ at2 → at2 < end_at code r
      → mark_of (get_or code.instrs at I.Fail) ≡ Some a → body_of (get_or code.instrs at2 I.Fail) ≡ Some a → ⊥

-- so it does, and it begins with no Finish
pub record FitBodies (code : PlainCode) (r : ℕ) : Type 0 where
  pub begins : is_finish (get_or code.instrs (start_at code r) I.Fail) ≡ false
  pub bodies : ClearBodies code r

-- the own slots are the first, are kept and keep their numbers
pub record KeepsOwn (own : ℕ) (stretches : List Stretch) : Type 0 where
  pub kept : (n : ℕ) → n < own → is_kept (stretch_at stretches n) ≡ true
  pub same : (n : ℕ) → n < own → (stretch_at stretches n).slot ≡ n
  pub above : (n : ℕ) → own ≤ n → n < length stretches → own ≤ (stretch_at stretches n).slot

-- what KeepsOwn says of one slot
pub record KeepsNumber (own n : ℕ) (x : Stretch) : Type 0 where
  pub kept : n < own → is_kept x ≡ true
  pub same : n < own → x.slot ≡ n
  pub above : own ≤ n → own ≤ x.slot

-- ---- new numbers

-- the ends of the last stretches that had each new number, before and after another has its
pub record Takes (old new : List ℕ) (x : Stretch) : Type 0 where
  pub grows : (k : ℕ) → get_or old k 0 ≤ get_or new k 0
  pub free : begin_of x < x.high → get_or old x.slot 0 ≤ begin_of x
  pub taken : begin_of x < x.high → x.high ≤ get_or new x.slot 0

-- the first n stretches of each new number rise, and end where these ends say
pub record Rise (stretches : List Stretch) (n : ℕ) (taken : List ℕ) : Type 0 where
  pub ends : (m : ℕ) → m < n → begin_of (stretch_at stretches m) < (stretch_at stretches m).high
      → (stretch_at stretches m).high ≤ get_or taken (stretch_at stretches m).slot 0
  pub order : (m k : ℕ) → m < k → k < n → (stretch_at stretches m).slot ≡ (stretch_at stretches k).slot
      → begin_of (stretch_at stretches m) < (stretch_at stretches m).high
      → begin_of (stretch_at stretches k) < (stretch_at stretches k).high
      → (stretch_at stretches m).high ≤ begin_of (stretch_at stretches k)
