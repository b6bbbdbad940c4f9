use Rattle.std.proofs.Common.{arith}
use Rattle.alma_machine.specs.View.{run_state}
use Rattle.alma_object.specs.View.{instr_of_record}
use Rattle.alma_machine.proofs.Stepping.{finds}
use Rattle.alma_machine.proofs.quick.take_quickly.Goals as goal

pub act_quickly-is_done-requires-clause-needs : goal.act_quickly-is_done-requires-clause-needs
act_quickly-is_done-requires-clause-needs g c =
    finds (g.V.CodeView.code c.args.view.now) (run_state c.args.registers.now) (instr_of_record c.record-record.result) c.requires.keeps
    c.requires.going c.record-record.ensures

pub act_quickly-is_done-requires-clause-few : goal.act_quickly-is_done-requires-clause-few
act_quickly-is_done-requires-clause-few g c = omega (arith, c.requires.few, c.requires.keeps.choices)
