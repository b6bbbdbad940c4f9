use Rattle.std.proofs.Common.{◌+◌, drop, ap}
use Rattle.std.proofs.lemmas.List.{drop_all}
use Rattle.alma_rules.proofs.Exprs.{next_of}
use Rattle.alma_rules.specs.View as view
use Rattle.alma_rules.specs.Types as types
use Rattle.alma_rules.specs.Decls as rules
use Rattle.alma_check_rules.specs.Views.{declares_view}
use Rattle.alma_check_block.proofs.Texts.{names_on, names_end}
use Rattle.alma_check_block.proofs.names.add_formals.Goals as goal

pub loop-formal-preserved : goal.loop-formal-preserved
loop-formal-preserved c =
    names_on c.args.reader.now (declares_view c.loop-formal.names) _ _ (types.all_names (view.view_names c.formal-item.result.names))
    (rules.formal_names (view.more_formals_of (drop (c.loop-formal.formal-index + 1) c.args.more.now))) _
    c.in_ok-add_names.ensures
    (ap (λ xs. rules.formal_names (view.more_formals_of xs))
    (next_of c.args.more.now c.loop-formal.formal-index c.formal-item.result c.loop-formal-test.true c.formal-item.is))
    c.loop-formal.invariant

pub returns : goal.returns
returns c = names_end c.args.reader.now _ _ _
    (ap (λ xs. rules.formal_names (view.more_formals_of xs)) (drop_all c.loop-formal.formal-index c.args.more.now c.loop-formal-test.false))
    c.loop-formal.invariant
