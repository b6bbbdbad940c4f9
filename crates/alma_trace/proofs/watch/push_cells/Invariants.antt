use Rattle.std.proofs.Common.{◌≡◌, ◌++◌}
use Rattle.alma_code.specs.TraceText.{cells_text}
use Rattle.alma_trace.proofs.watch.push_cells.Given as goal

-- so many cells are there
abbrev pub invariant-loop-k : goal.invariant-loop-k
invariant-loop-k g l = l.line.items ≡ l.initial.line.items ++ cells_text (g.M.MachineMemory.picture l.memory).now l.slot l.k
