-- A routine of a code whose tables are in order.
use Rattle.std.specs.Prelude.{◌<◌, ℕ, length}
use Rattle.alma_code.specs.Plain.{PlainCode}
use Rattle.alma_code.specs.Rules.{IsTable}

-- the routine r is there, and the tables of the code are in order
pub record HasRoutine (code : PlainCode) (r : ℕ) : Type 0 where
  pub routine : r < length code.routines
  pub table : IsTable code
