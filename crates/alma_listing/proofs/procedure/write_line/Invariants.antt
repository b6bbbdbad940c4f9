use Rattle.alma_listing.proofs.Built.{IsLine}
use Rattle.alma_listing.proofs.procedure.write_line.Given as goal

abbrev pub invariant-loop-place : goal.invariant-loop-place
invariant-loop-place l = IsLine l.globals l.place l.body.items
