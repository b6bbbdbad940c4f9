use Rattle.alma_machine.proofs.Others.{choice_else}
use Rattle.alma_machine.proofs.dispatch.act_choices.Goals as goal

pub act_calls-requires : goal.act_calls-requires
act_calls-requires g c =
    let d = c.in_default in
    record {
      needs = c.requires.needs;
      left = (
        c.requires.left,
        choice_else c.args.instr d.not-Mark d.not-Cut d.not-Choose d.not-Forall d.not-Overlay d.not-Keep d.not-Finish,
      );
      limits = c.requires.limits;
    }
