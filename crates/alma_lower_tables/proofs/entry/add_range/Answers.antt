use Rattle.alma_lower_tables.proofs.Walks.{range_on}
use Rattle.alma_lower_tables.proofs.entry.add_range.Goals as goal

pub returns-clause-names : goal.returns-clause-names
returns-clause-names c = range_on c.add_range.result _ _ _ c.add_range.ensures.ranges c.add_range.ensures.texts
