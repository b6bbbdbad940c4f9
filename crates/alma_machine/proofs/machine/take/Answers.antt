use Rattle.alma_machine_acts.specs.Rows.{state_of}
use Rattle.alma_machine.proofs.Stepping.{finds}
use Rattle.alma_machine.proofs.machine.take.Goals as goal

pub act-step-requires-clause-needs : goal.act-step-requires-clause-needs
act-step-requires-clause-needs g c =
    finds (g.V.CodeView.code c.args.view.now) (state_of g.M.MachineMemory.picture c.args.registers.now) c.instr-instr.result
    c.requires.keeps c.requires.going c.instr-instr.ensures
