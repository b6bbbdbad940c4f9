use Rattle.alma_names.proofs.Names.{entry_there}
use Rattle.alma_names.proofs.block.Block.entry.Goals as goal

pub returns : goal.returns
returns c = entry_there (mathlib.Core.List.[]) 0 c.self.inside.names.entries _ c.self.view_is _ _ c.index.ensures
