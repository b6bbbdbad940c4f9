use Rattle.alma_names.proofs.Names.{added_name}
use Rattle.alma_names.proofs.block.Block.add.Goals as goal

pub returns-clause-ok : goal.returns-clause-ok
returns-clause-ok c =
    added_name c.args.name.now c.in_ok-key.key (record { from = c.args.from; entry = c.args.entry }) c.self.inside.names.entries _
    c.self.view_is c.requires
    (c.in_ok-key.ensures.items_if_clones_equal (λ x y e. e)) _ c.in_ok-insert.ensures.entries
