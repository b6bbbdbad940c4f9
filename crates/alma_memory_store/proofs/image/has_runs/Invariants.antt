use Rattle.std.proofs.Common.{◌≡◌, take}
use Rattle.alma_memory_store.proofs.image.has_runs.Given as goal

abbrev pub invariant-loop-i : goal.invariant-loop-i
invariant-loop-i g l = take l.i l.runs ≡ take l.i (g.H.Head.head l.head).runs
