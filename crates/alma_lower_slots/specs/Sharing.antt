-- What becomes of the slots of a code where temporaries share slots, and when that may be.
use Rattle.std.specs.Prelude.{◌≡◌, ◌⊎◌, ◌<◌, ◌≤◌, ℕ, suc, ◌+◌, Bool, true, false, ◌||◌, nat_le, nat_lt, length, get_or, sum_by}
use Rattle.std.specs.Prelude.{List, Some, slice_get}
use Rattle.std.specs.List.{list_all}
use Rattle.alma_code.specs.declared.cell.SlotKind.{SlotKind}
use Rattle.alma_code.specs.declared.instr.Instr.{Instr}
use Rattle.alma_code.specs.declared.instr.Instr.TheVariants as I
use Rattle.alma_code.specs.Kinds.{is_number}
use Rattle.alma_code.specs.Layout.{param_slots}
use Rattle.alma_code.specs.Plain.{PlainCode, PlainRoutine, routine_at, head_at, start_at, end_at, kinds_at}
use Rattle.alma_code.specs.Rules.{kind_in, place_length, link_routine, ends_routine}
use Rattle.alma_lower_slots.specs.Slots.{reads, target_slot, away, lays_over, is_finish, is_forall, body_of, rename_slots}

-- for each routine: how many slots, from 0 on, are its own and keep their numbers, so that places may name them; the new number of
-- each slot; which slots have their new number for themselves; and which of the others hold, at an address, what may yet be read
pub record Sharing : Type 0 where
  pub own : (r : ℕ) → ℕ
  pub slot : (r n : ℕ) → ℕ
  pub kept : (r n : ℕ) → Bool
  pub live : (r at n : ℕ) → Bool

-- what the slot holds at the address matters
abbrev pub matters : Sharing → (r at n : ℕ) → Bool
matters s r at n = s.kept r n || s.live r at n

-- how many slots the parameters have
abbrev pub params_slots : PlainCode → (r : ℕ) → ℕ
params_slots code r = sum_by (λ p. param_slots p.kind p.cells) (head_at code r).params

-- in a routine whose slots have these kinds: the slots that the instruction makes places of, or that it reads in another frame, are
-- own ones of their routine
unfoldable pub names_own : (own : ℕ → ℕ) → (kinds : List SlotKind) → (r : ℕ) → Instr → Bool
names_own own kinds r (I.Local a b) = nat_le (b + place_length (slice_get kinds a)) (own r)
names_own own kinds r (I.Global a b) = nat_le (b + place_length (slice_get kinds a)) (own 0)
names_own own kinds r (I.Chain a b c) = nat_le (suc c) (own (link_routine (slice_get kinds b)))
names_own own kinds r (I.Outer a b c) = nat_le (c + place_length (slice_get kinds a)) (own (link_routine (slice_get kinds b)))
names_own own kinds r (I.OuterSame a b c) = nat_le (suc c) (own (link_routine (slice_get kinds b)))
names_own own kinds r _ = true

-- also a place of no cells begins at an own slot
unfoldable pub begins_own : (own : ℕ → ℕ) → (r : ℕ) → Instr → Bool
begins_own own r (I.Local a b) = nat_lt b (own r)
begins_own own r _ = true

module _ (code : PlainCode) (s : Sharing) where
  -- the arguments of a Call stay together
  abbrev pub StaysTogether : (r : ℕ) → Instr → Type 0
  StaysTogether r (I.Call c first to) = (k : ℕ) → k < length (head_at code c).params → s.slot r (first + k) ≡ s.slot r first + k
  StaysTogether r _ = Unit {0}

  -- an instruction: what it reads is there; what matters behind it mattered before, or is written by it; and what it writes is no
  -- slot of another that matters then
  pub record SharesAt (r at : ℕ) (i : Instr) : Type 0 where
    pub read : list_all (λ n. matters s r at n) (reads code i) ≡ true
    pub next : (n : ℕ) → s.live r (suc at) n ≡ true → (s.live r at n ≡ true) ⊎ (target_slot code i ≡ Some n)
    pub jump : (t n : ℕ) → away i ≡ Some t → s.live r t n ≡ true → s.live r at n ≡ true
    pub apart : (w n : ℕ) → n < length (kinds_at code r) → target_slot code i ≡ Some w → matters s r (suc at) n ≡ true
        → s.slot r n ≡ s.slot r w → n ≡ w
    -- no number that is not kept lives where a carry may have been laid over, but one that is written then
    pub still : lays_over i ≡ true → (n : ℕ) → is_number (kind_in code r n) ≡ true → s.live r (suc at) n ≡ true
        → target_slot code i ≡ Some n
    pub still_away : lays_over i ≡ true → (t n : ℕ) → away i ≡ Some t → is_number (kind_in code r n) ≡ true → s.live r t n ≡ false
    -- a Finish is reached from a Forall alone, when all its alternatives failed
    pub ends : is_finish (get_or code.instrs (suc at) I.Fail) ≡ true → ends_routine i ≡ true
    pub finishes : (t : ℕ) → away i ≡ Some t → is_finish (get_or code.instrs t I.Fail) ≡ is_forall i
    pub places : names_own s.own (kinds_at code r) r i ≡ true
    pub begins : begins_own s.own r i ≡ true
    pub together : StaysTogether r i

  -- a routine: its parameters are among its own slots, these are kept and keep their numbers, the others come behind them, and nothing
  -- else matters where it begins
  pub record SharesIn (r : ℕ) : Type 0 where
    pub some : 1 ≤ s.own r
    pub params : params_slots code r ≤ s.own r
    pub kept : (n : ℕ) → n < s.own r → s.kept r n ≡ true
    pub same : (n : ℕ) → n < s.own r → s.slot r n ≡ n
    pub above : (n : ℕ) → s.own r ≤ n → n < length (kinds_at code r) → s.own r ≤ s.slot r n
    pub first : (n : ℕ) → s.live r (start_at code r) n ≡ false
    -- it begins with no Finish, and where it looks for the height of a FORALL no Mark writes
    pub begins : is_finish (get_or code.instrs (start_at code r) I.Fail) ≡ false
    pub bodies : (at at2 a : ℕ) → start_at code r ≤ at → at < end_at code r → start_at code r ≤ at2 → at2 < end_at code r
        → get_or code.instrs at I.Fail ≡ I.Mark a → body_of (get_or code.instrs at2 I.Fail) ≡ Some a → ⊥

  -- the whole code
  pub record Shares : Type 0 where
    pub routines : (r : ℕ) → r < length code.routines → SharesIn r
    pub instrs : (r at : ℕ) → r < length code.routines → start_at code r ≤ at → at < end_at code r
        → SharesAt r at (get_or code.instrs at I.Fail)
    pub globals : list_all (λ g. nat_le (g.slot + g.cells) (s.own 0)) code.globals ≡ true

  -- a routine and what becomes of it
  pub record IsRenamed (r : ℕ) (old new : PlainRoutine) : Type 0 where
    pub name : new.name ≡ old.name
    pub code_end : new.code_end ≡ old.code_end
    pub params : new.head.params ≡ old.head.params
    pub declared : new.head.declared ≡ old.head.declared
    pub has_result : new.head.has_result ≡ old.head.has_result

  -- what becomes of the code
  pub record Renames (new : PlainCode) : Type 0 where
    pub version : new.version ≡ code.version
    pub globals : new.globals ≡ code.globals
    pub ranges : new.ranges ≡ code.ranges
    pub texts : new.texts ≡ code.texts
    pub lines : new.lines ≡ code.lines
    pub count : length new.routines ≡ length code.routines
    pub routines : (r : ℕ) → r < length code.routines → IsRenamed r (routine_at code r) (routine_at new r)
    pub kinds : (r n : ℕ) → r < length code.routines → n < length (kinds_at code r)
        → slice_get (kinds_at new r) (s.slot r n) ≡ slice_get (kinds_at code r) n
    pub size : length new.instrs ≡ length code.instrs
    pub instrs : (r at : ℕ) → r < length code.routines → start_at code r ≤ at → at < end_at code r
        → get_or new.instrs at I.Fail ≡ rename_slots (s.slot r) (get_or code.instrs at I.Fail)
