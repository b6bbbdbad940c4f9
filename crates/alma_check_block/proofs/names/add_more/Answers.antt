use Rattle.std.proofs.Common.{◌+◌, ◌∷◌, [], drop, ap}
use Rattle.std.proofs.lemmas.List.{drop_all}
use Rattle.alma_rules.proofs.Exprs.{next_of}
use Rattle.alma_rules.specs.View as view
use Rattle.alma_check_rules.specs.Views.{declares_view}
use Rattle.alma_check_block.proofs.Texts.{names_on, names_end, name_at, name_is}
use Rattle.alma_check_block.proofs.names.add_more.Goals as goal

pub loop-name-preserved : goal.loop-name-preserved
loop-name-preserved c =
    names_on c.args.reader.now (declares_view c.loop-name.names) _ _ (view.view_name (name_at c.args.more.now c.loop-name.name-index) ∷ [])
    (view.names_of (drop (c.loop-name.name-index + 1) c.args.more.now)) _
    c.in_ok-add_name.ensures
    (ap (λ xs. view.names_of xs) (next_of c.args.more.now c.loop-name.name-index (name_at c.args.more.now c.loop-name.name-index)
    c.loop-name-test.true
    (name_is c.args.more.now c.loop-name.name-index c.loop-name-test.true))) c.loop-name.invariant

pub returns : goal.returns
returns c = names_end c.args.reader.now _ _ _
    (ap (λ xs. view.names_of xs) (drop_all c.loop-name.name-index c.args.more.now c.loop-name-test.false)) c.loop-name.invariant
