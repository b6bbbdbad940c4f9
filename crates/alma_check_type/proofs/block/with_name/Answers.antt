use Rattle.std.proofs.Common.{sym, ◌∙◌}
use Rattle.alma_check_type.proofs.BlockSteps.{name_there, name_new}
use Rattle.alma_check_type.proofs.block.with_name.Goals as goal

pub returns-then-contains_key : goal.returns-then-contains_key
returns-then-contains_key c = name_there c.args.text.now c.args.token c.args.names.now.entries
    (sym c.contains_key.ensures ∙ c.if-contains_key.true)

pub returns : goal.returns
returns c =
    name_new c.args.text.now c.args.token c.args.names.now.entries c.in_ok-name.name c.insert.new.self.entries
    (sym c.contains_key.ensures ∙ c.if-contains_key.false)
    (c.in_ok-name.ensures.items_if_clones_equal (λ x y e. e)) c.in_ok-insert.ensures.entries
