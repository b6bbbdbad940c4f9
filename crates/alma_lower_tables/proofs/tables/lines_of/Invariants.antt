use Rattle.alma_lower_tables.proofs.TableLemmas.{Told}
use Rattle.alma_lower_tables.proofs.tables.lines_of.Given as goal

abbrev pub invariant-loop-one : goal.invariant-loop-one
invariant-loop-one l = Told l.lines.items l.before l.one-index l.at l.placed
