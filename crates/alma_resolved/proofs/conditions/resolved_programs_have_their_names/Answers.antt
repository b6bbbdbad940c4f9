use Rattle.alma_resolved.proofs.TreeNames.{tree_named}
use Rattle.alma_resolved.proofs.conditions.resolved_programs_have_their_names.Goals as goal

pub returns : goal.returns
returns c = tree_named
