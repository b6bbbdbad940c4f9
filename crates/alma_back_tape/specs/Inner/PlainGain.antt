-- What the carry of a FORALL gained from a body.
use Rattle.std.specs.Prelude.{ℕ, List, Option}
use Rattle.alma_code.specs.declared.cell.Cell.{Cell}
use Rattle.alma_memory_store.specs.declared.carry.SlotPlace.{SlotPlace}

-- which entry it is, counted from 0 at the bottom, the places with their cells, and what the carry had for them before
pub record PlainGain : Type 0 where
  pub at : ℕ
  pub places : List (SlotPlace × Cell)
  pub had : List (Option Cell)
