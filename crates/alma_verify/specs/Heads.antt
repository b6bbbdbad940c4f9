-- Routines in memory whose numbers fit the fields of an object.
use Rattle.std.specs.Prelude.{◌<◌, ◌^◌, All}
use Rattle.alma_code.specs.declared.code.RoutineHead.{RoutineHead}
use Rattle.alma_object.specs.Fields.{FitsRun}

-- the slots, parameters and runs of a routine fit four bytes
pub record FitsHead (routine : RoutineHead) : Type 0 where
  pub slots : routine.slots < 2 ^ 32
  pub declared : routine.declared < 2 ^ 32
  pub params : All (λ param. param.cells < 2 ^ 32) routine.params.items
  pub runs : All FitsRun routine.kinds.items
