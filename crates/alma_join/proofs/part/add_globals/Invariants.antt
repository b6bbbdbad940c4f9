use Rattle.std.proofs.Common.{◌≡◌, ◌++◌, map, take}
use Rattle.alma_copy.specs.Moved.{moved_global}
use Rattle.alma_copy.specs.Numbers.{moves_of}
use Rattle.alma_ir.specs.View.{global_of}
use Rattle.alma_join.proofs.part.add_globals.Given as goal

abbrev pub invariant-loop-global : goal.invariant-loop-global
invariant-loop-global l = map global_of l.globals.items ≡ map global_of l.fn.globals.items ++ map (moved_global (moves_of l.moves))
    (map global_of (take l.global-index l.more))
