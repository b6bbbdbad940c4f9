use Rattle.std.proofs.Common.{◌≡◌, drop}
use Rattle.alma_names.specs.Scopes.{level_from}
use Rattle.alma_names.proofs.scopes.Scopes.level.Given as goal

abbrev pub invariant-loop-block : goal.invariant-loop-block
invariant-loop-block l = record {
  place : l.level ≡ l.block-index;
  same : level_from l.left l.level (drop l.block-index l.block-items) ≡ level_from l.fn.id.0 0 l.block-items;
}
