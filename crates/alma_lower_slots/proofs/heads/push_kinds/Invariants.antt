-- So many so far.
use Rattle.std.proofs.Common.{◌≡◌, ◌++◌}
use Rattle.std.specs.Prelude.{replicate}
use Rattle.alma_lower_slots.proofs.heads.push_kinds.Given as goal

abbrev pub invariant-loop : goal.invariant-loop
invariant-loop l = l.kinds.items ≡ l.fn.kinds.items ++ replicate l.counter l.kind
