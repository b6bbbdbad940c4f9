use Rattle.std.proofs.Common.{◌≡◌, take, map}
use Rattle.alma_ir.specs.View.{global_of}
use Rattle.alma_listing.proofs.program.copy_globals.Given as goal

abbrev pub invariant-loop-global : goal.invariant-loop-global
invariant-loop-global l = map global_of l.copies.items ≡ map global_of (take l.global-index l.globals)
