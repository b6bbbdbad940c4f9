use Rattle.alma_rules.specs.Types.{all_names}
use Rattle.alma_rules.specs.View.{view_names}
use Rattle.alma_check_type.proofs.ListedSteps.{listed_from}
use Rattle.alma_check_type.proofs.listed.read_listed.Goals as goal

pub returns-in-Some : goal.returns-in-Some
returns-in-Some c = listed_from c.args.reader.now (all_names (view_names c.args.names.now)) _ _ _ _ c.in_ok-from.ensures
    (c.read_twice.ensures c.in-Some.ensures)

pub returns-in-None : goal.returns-in-None
returns-in-None c = listed_from c.args.reader.now (all_names (view_names c.args.names.now)) _ _ _ _ c.in_ok-from.ensures
    (c.read_once.ensures c.in-None.ensures)
