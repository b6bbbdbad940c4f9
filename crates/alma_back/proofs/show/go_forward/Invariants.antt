use Rattle.std.proofs.Common.{◌≡◌, ◌≤◌, ◌+◌, ◌-◌}
use Rattle.alma_back.specs.Session.{ahead}
use Rattle.alma_back.proofs.show.go_forward.Given as goal

abbrev pub invariant-loop-made : goal.invariant-loop-made
invariant-loop-made l = record {
  left : ahead l.back (l.most - l.made) ≡ ahead l.initial.back l.most;
  within : l.made ≤ l.most;
  few : l.back.steps ≤ l.initial.back.steps + l.made;
}

abbrev pub decreases-loop-made : goal.decreases-loop-made
decreases-loop-made l = l.most - l.made
