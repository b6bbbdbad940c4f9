use Rattle.alma_tree.proofs.Deep.{Kept}
use Rattle.alma_tree.proofs.bracket.depth.Given as goal

abbrev pub invariant-loop-kind : goal.invariant-loop-kind
invariant-loop-kind l = Kept l.greatest l.opened l.closed l.kind-index l.kinds
