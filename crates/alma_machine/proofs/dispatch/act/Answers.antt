use Rattle.alma_machine.proofs.Others.{later_else}
use Rattle.alma_machine.proofs.dispatch.act.Goals as goal

pub act_control-requires : goal.act_control-requires
act_control-requires g c =
    let d = c.in_default in
    record {
      needs = c.requires.needs;
      left = later_else c.args.instr d.not-WriteInt d.not-WriteChar d.not-WriteBool d.not-WriteText d.not-WriteLine d.not-Const d.not-Move
          d.not-Add d.not-Sub d.not-Mul d.not-Div d.not-Mod d.not-Neg d.not-Equal d.not-Less d.not-LessEq d.not-Flip d.not-Load d.not-Known;
      limits = (c.requires.few, c.requires.lawful);
    }
