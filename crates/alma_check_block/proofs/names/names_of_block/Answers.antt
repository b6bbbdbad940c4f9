use Rattle.alma_rules.specs.View as view
use Rattle.alma_rules.specs.Decls as rules
use Rattle.alma_check_rules.specs.Views.{declares_view}
use Rattle.alma_check_block.proofs.Texts.{whole_names, none_named}
use Rattle.alma_check_block.proofs.names.names_of_block.Goals as goal

pub returns : goal.returns
returns c =
    whole_names c.args.reader.now (declares_view c.new-names.result) _ _
    (rules.formal_names (rules.formals_of (view.params_of c.args.params.now)))
    (rules.decls_names (view.decls_of c.args.block.now.decls.items)) (none_named c.new-names.result.entries c.new-names.ensures.len)
    c.in_ok-add_params.ensures
    (rw c.deref.ensures.value at c.in_ok-add_decls.ensures)
