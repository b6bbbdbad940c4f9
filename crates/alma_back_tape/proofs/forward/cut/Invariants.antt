use Rattle.std.proofs.Common.{length}
use Rattle.alma_back_tape.proofs.Loops.{Cuts}
use Rattle.alma_back_tape.proofs.forward.cut.Given as goal

abbrev pub invariant-loop-journal : goal.invariant-loop-journal
invariant-loop-journal l = Cuts l.height l.initial.journal l.journal

abbrev pub decreases-loop-journal : goal.decreases-loop-journal
decreases-loop-journal l = length l.journal.entries.items
