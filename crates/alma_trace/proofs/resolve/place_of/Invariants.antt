use Rattle.std.proofs.Common.{◌≡◌, drop}
use Rattle.alma_object.specs.View.{code_of_view}
use Rattle.alma_trace.specs.Resolved.{place_of_name}
use Rattle.alma_trace.proofs.resolve.place_of.Given as goal

-- the globals before have other names
abbrev pub invariant-loop-i : goal.invariant-loop-i
invariant-loop-i l = place_of_name (code_of_view l.view).globals l.name ≡ place_of_name (drop l.i (code_of_view l.view).globals) l.name
