-- The routines so far.
use Rattle.std.proofs.Common.{map}
use Rattle.alma_code.specs.Plain.{code_of, routine_of}
use Rattle.alma_lower_slots.specs.Inner.Shared.{SharesSoFar}
use Rattle.alma_lower_slots.proofs.routines.share_routines.Given as goal

abbrev pub invariant-loop-routine : goal.invariant-loop-routine
invariant-loop-routine l = SharesSoFar (code_of l.code) l.own l.routine (map routine_of l.parts.heads.items) l.parts.instrs.items
