use Rattle.std.proofs.Common.{◌≡◌, ◌<◌, drop}
use Rattle.alma_names.specs.Scopes.{entries_of, entry_below}
use Rattle.alma_names.proofs.scopes.Scopes.entry.Given as goal

abbrev pub invariant-loop-block : goal.invariant-loop-block
invariant-loop-block l = record {
  within : l.left < entries_of (drop l.block-index l.block-items);
  same : entry_below l.left (drop l.block-index l.block-items) ≡ entry_below l.fn.id.0 l.block-items;
}
