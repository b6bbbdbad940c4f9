use Rattle.std.proofs.Common.{length}
use Rattle.alma_back_tape.proofs.Loops.{Unwound}
use Rattle.alma_back_tape.proofs.forward.unwind_to.Given as goal

abbrev pub invariant-loop-journal : goal.invariant-loop-journal
invariant-loop-journal l = Unwound l.mark l.initial.journal l.journal

abbrev pub decreases-loop-journal : goal.decreases-loop-journal
decreases-loop-journal l = length l.journal.trail.items
