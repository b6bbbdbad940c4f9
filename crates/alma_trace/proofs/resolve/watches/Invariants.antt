use Rattle.std.proofs.Common.{◌≡◌, map, take}
use Rattle.std.specs.List.{All}
use Rattle.alma_object.specs.View.{code_of_view}
use Rattle.alma_trace.specs.Resolved.{IsResolved}
use Rattle.alma_trace.proofs.resolve.watches.Given as goal

-- so many names have their watches
abbrev pub invariant-loop-name : goal.invariant-loop-name
invariant-loop-name l = record {
  names : map (λ watch. watch.name.now) l.watches.items ≡ map (λ name. name.now) (take l.name-index l.names);
  resolved : All (IsResolved (code_of_view l.view)) l.watches.items;
}
