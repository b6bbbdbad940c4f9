use Rattle.std.proofs.Common.{◌≡◌, ◌+◌, ◌<◌, drop, IfSome}
use Rattle.std.specs.Option.{option_map}
use Rattle.alma_names.specs.Scopes.{entries_of, visible_from, or_else}
use Rattle.alma_names.proofs.scopes.Scopes.find.Given as goal

abbrev pub invariant-loop-block : goal.invariant-loop-block
invariant-loop-block l = record {
  start : l.start + entries_of (drop l.block-index l.block-items) ≡ entries_of l.block-items;
  found : or_else (visible_from l.name l.at l.start (drop l.block-index l.block-items)) (option_map (λ id. id.0) l.found) ≡ visible_from
      l.name l.at 0 l.block-items;
  within : IfSome l.found (λ id. id.0 < l.start);
}
