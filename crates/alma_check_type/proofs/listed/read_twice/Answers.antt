use Rattle.alma_rules.specs.Types.{all_names}
use Rattle.alma_rules.specs.View.{view_names}
use Rattle.alma_check_type.proofs.ListedSteps.{listed_by_twice}
use Rattle.alma_check_type.proofs.listed.read_twice.Goals as goal

pub returns : goal.returns
returns c h = listed_by_twice c.args.reader.now _ (all_names (view_names c.args.names.now)) c.args.from _ h c.in_ok-declare_values.ensures
