use Rattle.std.proofs.Common.{◌≡◌, ◌++◌, take}
use Rattle.std.specs.List.{flat_map}
use Rattle.alma_object_format.specs.Object.{run_bytes}
use Rattle.alma_object.proofs.writing.push_all_runs.Given as goal

abbrev pub invariant-loop-routine : goal.invariant-loop-routine
invariant-loop-routine l = l.out.items ≡ l.initial.out.items
    ++ flat_map run_bytes (flat_map (λ r. r.kinds.items) (take l.routine-index l.code.routines.items))
