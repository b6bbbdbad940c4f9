use Rattle.alma_machine.proofs.Others.{control_else}
use Rattle.alma_machine.proofs.dispatch.act_control.Goals as goal

pub act_places-requires : goal.act_places-requires
act_places-requires g c =
    let d = c.in_default in
    record {
      needs = c.requires.needs;
      left = (
        c.requires.left,
        control_else c.args.instr d.not-InRange d.not-Jump d.not-JumpZero d.not-Check d.not-Fail d.not-Fault d.not-Step,
      );
      limits = c.requires.limits;
    }
