use Rattle.std.proofs.Common.{◌≡◌, ◌+◌, ◌-◌}
use Rattle.std.specs.List.{list_all}
use Rattle.alma_lower_slots.specs.Inner.Checks.{matters_at}
use Rattle.alma_lower_slots.specs.Slots.{slots_from}
use Rattle.alma_lower_slots.proofs.matters.all_matter.Given as goal

abbrev pub invariant-loop-k : goal.invariant-loop-k
invariant-loop-k l =
    list_all (λ n. matters_at l.stretches l.at n) (slots_from l.count l.first)
    ≡ list_all (λ n. matters_at l.stretches l.at n) (slots_from (l.count - l.k) (l.first + l.k))
