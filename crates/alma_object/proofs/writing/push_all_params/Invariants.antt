use Rattle.std.proofs.Common.{◌≡◌, ◌++◌, take}
use Rattle.std.specs.List.{flat_map}
use Rattle.alma_object_format.specs.Object.{param_bytes}
use Rattle.alma_object.proofs.writing.push_all_params.Given as goal

abbrev pub invariant-loop-routine : goal.invariant-loop-routine
invariant-loop-routine l = l.out.items ≡ l.initial.out.items
    ++ flat_map param_bytes (flat_map (λ r. r.params.items) (take l.routine-index l.code.routines.items))
