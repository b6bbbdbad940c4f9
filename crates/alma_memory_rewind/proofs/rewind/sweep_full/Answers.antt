use Rattle.alma_memory_rewind.proofs.Sweeps.{sweeps-none}
use Rattle.alma_memory_rewind.proofs.rewind.sweep_full.Goals as goal

pub returns-then-len-limit-clause-keeps : goal.returns-then-len-limit-clause-keeps
returns-then-len-limit-clause-keeps g c = sweeps-none c.args.marks.now c.args.trail.now.items
