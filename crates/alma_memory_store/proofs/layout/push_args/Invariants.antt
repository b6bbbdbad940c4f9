use Rattle.std.proofs.Common.{◌≡◌}
use Rattle.alma_code.specs.Layout.{args_cells}
use Rattle.alma_memory_store.proofs.layout.push_args.Given as goal

abbrev pub invariant-loop-i : goal.invariant-loop-i
invariant-loop-i g l = l.cells.items ≡ args_cells (g.F.LiveFrames.live l.frames) (g.H.Head.head l.head).params l.args l.i
