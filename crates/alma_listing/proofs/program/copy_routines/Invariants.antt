use Rattle.std.proofs.Common.{◌≡◌, suc, ◌∷◌, length, take, map}
use Rattle.alma_ir.specs.View.{routine_of}
use Rattle.alma_listing.specs.Lister.{listing_body}
use Rattle.alma_listing.proofs.program.copy_routines.Given as goal

abbrev pub invariant-loop-routine : goal.invariant-loop-routine
invariant-loop-routine l =
    map routine_of l.copies.items ≡ listing_body (routine_of l.body) (suc (length (map routine_of l.rest))) ∷ map routine_of
    (take l.routine-index l.rest)
