use Rattle.alma_rules.specs.Types.{all_names}
use Rattle.alma_rules.specs.View.{view_names}
use Rattle.alma_check_type.proofs.ListedSteps.{listed_by_once}
use Rattle.alma_check_type.proofs.listed.read_once.Goals as goal

pub returns : goal.returns
returns c h =
    listed_by_once c.args.reader.now _ _ (all_names (view_names c.args.names.now)) c.args.from _ _ _ h c.in_ok-count.ensures.count
    c.in_ok-formed.ensures c.shape_of.ensures c.in_ok-declare_values.ensures
