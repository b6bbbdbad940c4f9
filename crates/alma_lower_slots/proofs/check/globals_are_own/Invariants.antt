use Rattle.std.proofs.Common.{◌≡◌, ◌+◌, take}
use Rattle.std.specs.Prelude.{true, nat_le}
use Rattle.std.specs.List.{list_all}
use Rattle.alma_lower_slots.proofs.check.globals_are_own.Given as goal

abbrev pub invariant-loop-global : goal.invariant-loop-global
invariant-loop-global l = list_all (λ g. nat_le (g.slot + g.cells) l.count) (take l.global-index l.code.globals.items) ≡ true
