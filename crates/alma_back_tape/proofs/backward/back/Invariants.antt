use Rattle.std.proofs.Common.{◌≡◌, length}
use Rattle.alma_back_tape.specs.Inner.Past.{IsTape, scenes}
use Rattle.alma_back_tape.proofs.backward.back.Given as goal

abbrev pub invariant-loop-change : goal.invariant-loop-change
invariant-loop-change l = IsTape l.journal × (scenes l.journal ≡ scenes l.initial.journal)

abbrev pub decreases-loop-change : goal.decreases-loop-change
decreases-loop-change l = length l.journal.changes.items
