use Rattle.std.proofs.Common.{◌+◌, ◌∷◌, [], drop, ap}
use Rattle.std.proofs.lemmas.List.{drop_all}
use Rattle.alma_rules.proofs.Exprs.{next_of}
use Rattle.alma_rules.specs.View as view
use Rattle.alma_rules.specs.Decls as rules
use Rattle.alma_check_rules.specs.Views.{declares_view}
use Rattle.alma_check_block.proofs.Texts.{names_on, names_end}
use Rattle.alma_check_block.proofs.names.add_consts.Goals as goal

pub loop-entry-preserved : goal.loop-entry-preserved
loop-entry-preserved c =
    names_on c.args.reader.now (declares_view c.loop-entry.names) _ _ (view.view_name c.entry-item.result.name ∷ [])
    (rules.const_names (view.consts_of (drop (c.loop-entry.entry-index + 1) c.args.entries.now))) _
    c.in_ok-add_name.ensures
    (ap (λ xs. rules.const_names (view.consts_of xs))
    (next_of c.args.entries.now c.loop-entry.entry-index c.entry-item.result c.loop-entry-test.true c.entry-item.is))
    c.loop-entry.invariant

pub returns : goal.returns
returns c = names_end c.args.reader.now _ _ _
    (ap (λ xs. rules.const_names (view.consts_of xs)) (drop_all c.loop-entry.entry-index c.args.entries.now c.loop-entry-test.false))
    c.loop-entry.invariant
