use Rattle.std.proofs.Common.{◌≡◌, drop}
use Rattle.alma_join.specs.Joined.{same_params}
use Rattle.alma_join.proofs.head.same_params.Given as goal

abbrev pub invariant-loop-i : goal.invariant-loop-i
invariant-loop-i l = same_params l.a l.b ≡ same_params (drop l.i l.a) (drop l.i l.b)
