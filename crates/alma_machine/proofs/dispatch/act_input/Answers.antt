use Rattle.alma_machine.proofs.Others.{read_else}
use Rattle.alma_machine.proofs.dispatch.act_input.Goals as goal

pub act_links-requires : goal.act_links-requires
act_links-requires g c =
    let d = c.in_default in
    record {
      needs = c.requires.needs;
      left = (c.requires.left, read_else c.args.instr d.not-ReadInt d.not-ReadChar);
      limits = c.requires.limits;
    }
