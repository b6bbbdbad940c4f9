-- Sums in memory.
use Rattle.std.specs.Prelude.{◌≡◌}
use Rattle.alma_ir.specs.Count.{saturate}
use Rattle.alma_join.specs.Joined as joined
use Rattle.alma_join.specs.declared.size.Totals as memory

-- they are these, each stopped at 2^64-1
pub record AreTotals (totals : memory.Totals) (all : joined.Totals) : Type 0 where
  pub declared : totals.declared ≡ saturate all.declared
  pub slots : totals.slots ≡ saturate all.slots
  pub globals : totals.globals ≡ saturate all.globals
  pub params : totals.params ≡ saturate all.params
  pub names : totals.names ≡ saturate all.names
  pub texts : totals.texts ≡ saturate all.texts
