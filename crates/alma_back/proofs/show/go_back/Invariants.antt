use Rattle.std.proofs.Common.{◌≡◌}
use Rattle.alma_back.specs.Session.{behind}
use Rattle.alma_back.proofs.show.go_back.Given as goal

abbrev pub invariant-loop-left : goal.invariant-loop-left
invariant-loop-left l = behind l.back l.left ≡ behind l.initial.back l.most

abbrev pub decreases-loop-left : goal.decreases-loop-left
decreases-loop-left l = l.left
