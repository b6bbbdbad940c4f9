use Rattle.alma_names.proofs.Names.{place_found}
use Rattle.alma_names.proofs.block.Block.place.Goals as goal

pub returns-clause-place : goal.returns-clause-place
returns-clause-place c = place_found c.args.name.now 0 c.self.inside.names.entries _ c.self.view_is c.get_index_of.ensures.index
