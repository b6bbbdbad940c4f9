use Rattle.std.proofs.Common.{ap, sym, ◌∙◌}
use Rattle.alma_code.specs.Machine.{act, arguments, enters_routine}
use Rattle.alma_machine_acts.specs.Rows.{state_of}
use Rattle.alma_machine.proofs.Acting.{call_is}
use Rattle.alma_machine_acts.proofs.Words.{acts_is}
use Rattle.alma_machine.proofs.Others.{call_else}
use Rattle.alma_machine.proofs.dispatch.act_calls.Goals as goal

pub act_input-requires : goal.act_input-requires
act_input-requires g c =
    let d = c.in_default in
    record {
      needs = c.requires.needs;
      left = (c.requires.left, call_else c.args.instr d.not-Call d.not-Return d.not-ReturnValue);
      limits = c.requires.limits;
    }

pub returns-in-Some : goal.returns-in-Some
returns-in-Some g c =
    let code = g.V.CodeView.code c.args.view.now in
    let s = state_of g.M.MachineMemory.picture c.args.registers.now in
    let head = g.V.Routine.Head.head c.in-Some.head in
    let r = c.in-Call.routine in
    let first = c.in-Call.first in
    acts_is _ _ _ _ c.call.ensures
    (ap (λ start. arguments head.params s first (λ args. enters_routine s r start head args)) c.start.ensures
    ∙ call_is code c.args.input.now r first c.in-Call.to s head c.in-Some.ensures
    ∙ sym (ap (λ i. act code c.args.input.now i s) c.in-Call.is))
