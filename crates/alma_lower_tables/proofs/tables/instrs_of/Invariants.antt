use Rattle.std.proofs.Common.{◌≡◌, take}
use Rattle.std.specs.Prelude.{map}
use Rattle.alma_lower_tables.proofs.tables.instrs_of.Given as goal

abbrev pub invariant-loop-one : goal.invariant-loop-one
invariant-loop-one l = l.instrs.items ≡ map (λ x. x.0) (take l.one-index l.placed)
