use Rattle.alma_back.proofs.Counts.{name_found, name_none}
use Rattle.alma_back.proofs.script.name_of.Goals as goal

pub returns-then-is_name : goal.returns-then-is_name
returns-then-is_name c = name_found c.args.text.now (c.is_name.ensures.0 c.if-is_name.true)

pub returns-else-is_name : goal.returns-else-is_name
returns-else-is_name c = name_none c.args.text.now _ c.if-is_name.false c.is_name.ensures
