use Rattle.alma_names.proofs.Names.{seen_none, seen_some, seen_later}
use Rattle.alma_names.proofs.block.Block.seen.Goals as goal

pub returns-in-None-clause-seen : goal.returns-in-None-clause-seen
returns-in-None-clause-seen c = seen_none c.args.name.now c.args.at c.self.inside.names.entries _ c.self.view_is c.in-None.ensures.index

pub returns-then-declaration-at-clause-seen : goal.returns-then-declaration-at-clause-seen
returns-then-declaration-at-clause-seen c =
    seen_some c.args.name.now c.args.at c.self.inside.names.entries _ c.self.view_is _ _ _ c.in-Some.ensures.index c.in-Some.ensures.entry
    c.if-declaration-at.true

pub returns-else-declaration-at-clause-seen : goal.returns-else-declaration-at-clause-seen
returns-else-declaration-at-clause-seen c =
    seen_later c.args.name.now c.args.at c.self.inside.names.entries _ c.self.view_is _ _ _ c.in-Some.ensures.index c.in-Some.ensures.entry
    c.if-declaration-at.false
