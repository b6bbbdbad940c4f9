-- All routines are shared: the whole code is.
use Rattle.std.proofs.Common.{◌≡◌, ℕ, ◌+◌, ◌≤◌, true, nat_le, List, [], length, get_or, refl, ◌∙◌}
use Rattle.std.specs.Prelude.{sum_by}
use Rattle.std.specs.List.{list_all}
use Rattle.alma_base.specs.Limits.{slot_limit}
use Rattle.alma_code.specs.declared.cell.SlotKind.{SlotKind}
use Rattle.alma_code.specs.declared.instr.Instr.{Instr}
use Rattle.alma_code.specs.Plain.{PlainCode, PlainRoutine, routine_at}
use Rattle.alma_code.specs.Rules.{IsSound}
use Rattle.alma_lower_slots.specs.Runs.{HasHeads}
use Rattle.alma_lower_slots.specs.Sharing.{Sharing, Renames, IsRenamed}
use Rattle.alma_lower_slots.specs.Inner.Shared.{HeadOver, SharesSoFar, IsSharedOf, code_with}
use Rattle.alma_lower_slots.proofs.NewHeads.{kind_kept, has_head}
use Rattle.alma_lower_slots.proofs.SharesOf.{sharing_of, shares_of}

-- a routine is renamed
renamed_routine : (code new : PlainCode) (s : Sharing) (kinds : List SlotKind) (r : ℕ)
    → HeadOver (routine_at code r) kinds (routine_at new r) → IsRenamed code s r (routine_at code r) (routine_at new r)
renamed_routine code new s kinds r h = record {
  name = h.name;
  code_end = h.code_end;
  params = h.params;
  declared = h.declared;
  has_result = h.has_result;
}

-- so is the code
renames_of : (code : PlainCode) (own : List ℕ) (heads : List PlainRoutine) (instrs : List Instr) → IsSound code
    → (h : SharesSoFar code own (length code.routines) heads instrs)
    → Renames code (sharing_of own h.all) (code_with code heads instrs)
renames_of code own heads instrs sound h = record {
  version = refl;
  globals = refl;
  ranges = refl;
  texts = refl;
  lines = refl;
  count = h.count;
  routines = λ r lt.
      renamed_routine code (code_with code heads instrs) (sharing_of own h.all) (h.routines r lt).behind.kinds_then r
      (h.routines r lt).behind.head;
  kinds = λ r n lt below. kind_kept code (code_with code heads instrs) r (get_or h.all r []) (h.routines r lt).behind n below;
  size = h.size ∙ sound.table.last;
  instrs = λ r at lt low high. h.renames r at lt low high;
}

-- and its heads are as they must be
heads_of : (code : PlainCode) (own : List ℕ) (heads : List PlainRoutine) (instrs : List Instr) → IsSound code
    → SharesSoFar code own (length code.routines) heads instrs → sum_by (λ r. length r.head.runs) heads ≤ slot_limit
    → HasHeads code (code_with code heads instrs)
heads_of code own heads instrs sound h few = record {
  heads = λ r lt. has_head code (code_with code heads instrs) sound r lt (get_or h.all r []) (h.routines r lt).behind;
  runs = few;
}

-- all routines of a sound code are shared, and the globals are own slots: so is the code
pub whole_shared : (code : PlainCode) (own : List ℕ) (heads : List PlainRoutine) (instrs : List Instr) → IsSound code
    → SharesSoFar code own (length code.routines) heads instrs
    → list_all (λ g. nat_le (g.slot + g.cells) (get_or own 0 1)) code.globals ≡ true
    → sum_by (λ r. length r.head.runs) heads ≤ slot_limit
    → IsSharedOf code (code_with code heads instrs)
whole_shared code own heads instrs sound h globals few = record {
  sharing = sharing_of own h.all;
  shares = shares_of code own h.all (λ r lt. (h.routines r lt).fits) globals;
  renames = renames_of code own heads instrs sound h;
  heads = heads_of code own heads instrs sound h few;
}
