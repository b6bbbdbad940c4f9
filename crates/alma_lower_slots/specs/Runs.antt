-- The heads that renamed routines have.
use Rattle.std.specs.Prelude.{◌≡◌, ◌<◌, ◌≤◌, ℕ, true, length, slice_get}
use Rattle.alma_base.specs.Limits.{slot_limit}
use Rattle.alma_code.specs.Layout.{RunsRise}
use Rattle.alma_code.specs.Plain.{PlainCode, head_at, kinds_at}
use Rattle.alma_code.specs.Records.{runs_differ, run_count}

-- a routine of a new code: its runs are in order and as long as they can be, it has no more slots than before and its declared ones,
-- and each is of the kind of a slot that there was
pub record HasHead (code new : PlainCode) (r : ℕ) : Type 0 where
  pub rise : RunsRise 0 (head_at new r).runs (head_at new r).slots
  pub differ : runs_differ (head_at new r).runs ≡ true
  pub fewer : (head_at new r).slots ≤ (head_at code r).slots
  pub declared : (head_at new r).declared ≤ (head_at new r).slots
  pub from : (j : ℕ) → j < length (kinds_at new r) → (n : ℕ) × (n < length (kinds_at code r))
      × (slice_get (kinds_at new r) j ≡ slice_get (kinds_at code r) n)

-- all of them, and their runs are not too many
pub record HasHeads (code new : PlainCode) : Type 0 where
  pub heads : (r : ℕ) → r < length code.routines → HasHead code new r
  pub runs : run_count new ≤ slot_limit
