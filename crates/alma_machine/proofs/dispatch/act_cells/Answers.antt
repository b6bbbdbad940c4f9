use Rattle.alma_machine.proofs.Others.{cell_else}
use Rattle.alma_machine.proofs.dispatch.act_cells.Goals as goal

pub act_choices-requires : goal.act_choices-requires
act_choices-requires g c =
    let d = c.in_default in
    record {
      needs = c.requires.needs;
      left = (c.requires.left, cell_else c.args.instr d.not-Store d.not-Bind d.not-Unify d.not-CopyCells d.not-SameCells);
      limits = c.requires.limits;
    }
