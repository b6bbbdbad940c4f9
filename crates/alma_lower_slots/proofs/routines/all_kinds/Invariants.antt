-- The kinds so far.
use Rattle.std.proofs.Common.{◌≡◌, map, take}
use Rattle.alma_lower_slots.specs.Inner.Shared.{head_kinds, kinds_of_all}
use Rattle.alma_lower_slots.proofs.routines.all_kinds.Given as goal

abbrev pub invariant-loop-head : goal.invariant-loop-head
invariant-loop-head l = kinds_of_all l.all.items ≡ map head_kinds (take l.head-index l.heads)
