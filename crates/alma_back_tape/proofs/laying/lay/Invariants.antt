use Rattle.alma_back_tape.proofs.Laid.{Lays}
use Rattle.alma_back_tape.proofs.laying.lay.Given as goal

abbrev pub invariant-loop-place : goal.invariant-loop-place
invariant-loop-place l = Lays l.cells l.place-index l.fn.journal l.journal
