use Rattle.alma_lower_tables.proofs.Walks.{text_on}
use Rattle.alma_lower_tables.proofs.entry.add_text.Goals as goal

pub returns : goal.returns
returns c = record { names = text_on c.add_text.result _ _ _ c.add_text.ensures.texts c.add_text.ensures.ranges }
