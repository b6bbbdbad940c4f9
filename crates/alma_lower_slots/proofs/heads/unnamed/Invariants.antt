-- So many so far.
use Rattle.std.proofs.Common.{◌≡◌}
use Rattle.std.specs.Prelude.{replicate, None}
use Rattle.alma_lower_slots.proofs.heads.unnamed.Given as goal

abbrev pub invariant-loop : goal.invariant-loop
invariant-loop l = l.named.items ≡ replicate l.counter None
