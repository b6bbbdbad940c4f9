use Rattle.std.proofs.Common.{◌≡◌, ◌-◌}
use Rattle.alma_object_format.specs.Fault.{first_fault}
use Rattle.alma_object_format.specs.Walk.{name_fault, name_count}
use Rattle.alma_object_format.proofs.walk.names_fault.Given as goal

abbrev pub invariant-loop-name : goal.invariant-loop-name
invariant-loop-name l =
    first_fault (name_fault l.bytes l.header) 0 (name_count l.bytes l.header) ≡ first_fault (name_fault l.bytes l.header) l.name
    (l.name-end - l.name)
