use Rattle.alma_machine.proofs.Others.{form_is_some, link_else}
use Rattle.alma_machine.proofs.dispatch.act_links.Goals as goal

pub unreachable-requires : goal.unreachable-requires
unreachable-requires g c =
    let d = c.in_default in
    form_is_some c.args.instr c.requires.left (link_else c.args.instr d.not-Own d.not-Chain d.not-Outer d.not-OuterSame)
