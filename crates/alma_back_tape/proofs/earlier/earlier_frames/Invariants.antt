use Rattle.std.proofs.Common.{◌≡◌, ◌≤◌, drop, length}
use Rattle.alma_back_tape.specs.Inner.Reel.{unwind}
use Rattle.alma_back_tape.proofs.earlier.earlier_frames.Given as goal

abbrev pub invariant-loop-left : goal.invariant-loop-left
invariant-loop-left l =
    (l.past.before ≡ unwind (drop l.left l.trail) l.frames) × (l.past.now ≡ l.frames) × (l.left ≤ length l.trail) × (l.mark ≤ l.left)

abbrev pub decreases-loop-left : goal.decreases-loop-left
decreases-loop-left l = l.left
