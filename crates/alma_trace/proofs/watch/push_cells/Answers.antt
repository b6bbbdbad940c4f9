use Rattle.alma_trace.proofs.Lines.{cells_put}
use Rattle.alma_trace.proofs.watch.push_cells.Goals as goal

pub loop-k-preserved : goal.loop-k-preserved
loop-k-preserved g c =
    cells_put (g.M.MachineMemory.picture c.args.memory.now).now c.args.slot c.loop-k.k c.read.result c.args.line.now.items
    c.loop-k.line.items c.push_comma.new.line.items c.push_cell.new.line.items
    c.loop-k.invariant c.in_ok-push_comma.ensures c.read.ensures c.in_ok-push_cell.ensures
