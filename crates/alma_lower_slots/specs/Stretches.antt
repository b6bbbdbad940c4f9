-- The sharing that stretches say: each slot that is not kept is live between two addresses.
use Rattle.std.specs.Prelude.{◌<◌, ◌≤◌, ℕ, Bool, not, ◌&&◌, nat_eq, nat_lt, nat_le, List, get_or}
use Rattle.alma_lower_slots.specs.declared.stretch.Stretch.{Stretch}
use Rattle.alma_code.specs.declared.instr.Instr.TheVariants as I
use Rattle.alma_code.specs.Plain.{PlainCode, start_at, end_at}
use Rattle.alma_lower_slots.specs.Sharing.{Sharing, SharesIn, SharesAt}

-- the end of a stretch that has none
abbrev pub no_end : ℕ
no_end = 4294967295

-- the stretch of a slot that is kept and keeps its number
abbrev pub own_stretch : ℕ → Stretch
own_stretch n = record { slot = n; low = 0; high = no_end }

-- the stretch of a slot
abbrev pub stretch_at : List Stretch → (n : ℕ) → Stretch
stretch_at stretches n = get_or stretches n (own_stretch n)

-- whether a slot with this stretch is kept: it has no end
abbrev pub is_kept : Stretch → Bool
is_kept x = nat_eq x.high no_end

-- whether a slot with this stretch is not kept, and is live at the address: it lies behind `low`, up to `high`
abbrev pub is_live : Stretch → (at : ℕ) → Bool
is_live x at = not (is_kept x) && (nat_lt x.low at && nat_le at x.high)

-- how many own slots a routine has, by these counts
abbrev pub own_count : (own : List ℕ) → ℕ → ℕ
own_count own r = get_or own r 1

-- what the stretches of a routine say, as if each routine had them, and how many own slots each has
abbrev pub sharing_in : (own : List ℕ) → (stretches : List Stretch) → Sharing
sharing_in own stretches = record {
  own = own_count own;
  slot = λ r n. (stretch_at stretches n).slot;
  kept = λ r n. is_kept (stretch_at stretches n);
  live = λ r at n. is_live (stretch_at stretches n) at;
}

-- the stretches of a routine fit its code
pub record FitsRoutine (code : PlainCode) (own : List ℕ) (stretches : List Stretch) (r : ℕ) : Type 0 where
  pub routine : SharesIn code (sharing_in own stretches) r
  pub instrs : (at : ℕ) → start_at code r ≤ at → at < end_at code r
      → SharesAt code (sharing_in own stretches) r at (get_or code.instrs at I.Fail)
