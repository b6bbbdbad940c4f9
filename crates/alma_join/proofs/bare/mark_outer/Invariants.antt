use Rattle.alma_join.proofs.Marks.{MarksFirst}
use Rattle.alma_join.proofs.bare.mark_outer.Given as goal

abbrev pub invariant-loop-routine : goal.invariant-loop-routine
invariant-loop-routine l = MarksFirst l.routine-items l.routine-index l.marks.items
