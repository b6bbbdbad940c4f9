use Rattle.std.proofs.Common.{◌≡◌, ◌≤◌, length, take, vec_capacity}
use Rattle.alma_memory_store.proofs.image.push_runs.Given as goal

abbrev pub invariant-loop-i : goal.invariant-loop-i
invariant-loop-i g l =
    (l.runs.items ≡ take l.i (g.H.Head.head l.head).runs) × (length (g.H.Head.head l.head).runs ≤ vec_capacity l.runs)
