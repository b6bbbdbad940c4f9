use Rattle.alma_machine.proofs.Others.{place_else}
use Rattle.alma_machine.proofs.dispatch.act_places.Goals as goal

pub act_cells-requires : goal.act_cells-requires
act_cells-requires g c =
    let d = c.in_default in
    record {
      needs = c.requires.needs;
      left = (c.requires.left, place_else c.args.instr d.not-Local d.not-Global d.not-Same d.not-Field d.not-Index);
      limits = c.requires.limits;
    }
