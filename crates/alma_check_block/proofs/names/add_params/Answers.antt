use Rattle.alma_rules.specs.View as view
use Rattle.alma_rules.specs.Types as types
use Rattle.alma_rules.specs.Decls as rules
use Rattle.alma_check_rules.specs.Views.{declares_view}
use Rattle.alma_check_block.proofs.Texts.{two_parts, params_parts}
use Rattle.alma_check_block.proofs.names.add_params.Goals as goal

pub returns-in_ok-add_names-in-Some-formals : goal.returns-in_ok-add_names-in-Some-formals
returns-in_ok-add_names-in-Some-formals c =
    two_parts _ c.args.reader.now (declares_view c.args.names.now) _ _
    (types.all_names (view.view_names c.in-Some-formals.formals.first.names))
    (rules.formal_names (view.more_formals_of c.in-Some-formals.formals.more.items)) _ c.in_ok-add_names-in-Some-formals.ensures
    (params_parts c.args.params.now c.in-Some.params c.in-Some-formals.formals c.in-Some.is c.in-Some-formals.is)
    (rw c.deref.ensures.value at c.add_formals.ensures)
