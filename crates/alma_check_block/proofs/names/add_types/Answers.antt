use Rattle.std.proofs.Common.{◌+◌, ◌∷◌, [], drop, refl, ap, ◌∙◌}
use Rattle.std.proofs.lemmas.List.{drop_all}
use Rattle.alma_rules.proofs.Exprs.{next_of}
use Rattle.alma_rules.specs.View as view
use Rattle.alma_rules.specs.Types as types
use Rattle.alma_rules.specs.Decls as rules
use Rattle.alma_check_rules.specs.Views.{declares_view}
use Rattle.alma_check_block.proofs.Texts.{names_on, names_end, joined_by}
use Rattle.alma_check_block.proofs.names.add_types.Goals as goal

pub loop-entry-preserved : goal.loop-entry-preserved
loop-entry-preserved c =
    names_on c.args.reader.now (declares_view c.loop-entry.names) _ _
    (view.view_name c.entry-item.result.name ∷ types.type_names (view.view_type_node c.entry-item.result.type_node))
    (rules.type_entry_names (view.types_of (drop (c.loop-entry.entry-index + 1) c.args.entries.now))) _
    (c.in_ok-add_type.ensures ∙ joined_by c.args.reader.now (declares_view c.loop-entry.names) _
    (view.view_name c.entry-item.result.name ∷ []) (types.type_names (view.view_type_node c.entry-item.result.type_node)) _
    c.in_ok-add_name.ensures refl)
    (ap (λ xs. rules.type_entry_names (view.types_of xs))
    (next_of c.args.entries.now c.loop-entry.entry-index c.entry-item.result c.loop-entry-test.true c.entry-item.is))
    c.loop-entry.invariant

pub returns : goal.returns
returns c = names_end c.args.reader.now _ _ _
    (ap (λ xs. rules.type_entry_names (view.types_of xs)) (drop_all c.loop-entry.entry-index c.args.entries.now c.loop-entry-test.false))
    c.loop-entry.invariant
