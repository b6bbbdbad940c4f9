use Rattle.std.proofs.Common.{◌≡◌, ◌+◌, ◌-◌, None}
use Rattle.std.specs.Prelude.{nat_eq, slice_index}
use Rattle.alma_object_format.specs.declared.fault.ObjectFault.TheVariants as fault
use Rattle.alma_base.specs.FirstFault.{unless}
use Rattle.alma_object_format.specs.Fault.{first_fault}
use Rattle.alma_object_format.specs.Header.{name_pool_at}
use Rattle.alma_object_format.specs.Walk.{can_stand, name_fault}
use Rattle.alma_object_format.proofs.walk.name_fault.Given as goal

abbrev pub invariant-loop-i : goal.invariant-loop-i
invariant-loop-i l =
    name_fault l.bytes l.header l.fn.name ≡ first_fault
    (λ i. unless (can_stand (nat_eq i l.start) (slice_index l.bytes (name_pool_at l.header + i)))
    (fault.BadName (name_pool_at l.header + i)) None)
    l.i (l.i-end - l.i)
