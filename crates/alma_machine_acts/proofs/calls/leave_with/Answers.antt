use Rattle.std.proofs.Common.{◌-◌, refl, sym}
use Rattle.std.specs.Prelude.{slice_get}
use Rattle.alma_code.specs.Machine.{number}
use Rattle.alma_code.specs.Picture.{last_frame}
use Rattle.alma_machine_acts.specs.Rows.{state_of}
use Rattle.alma_machine_acts.proofs.Words.{acts_is}
use Rattle.alma_machine_acts.proofs.Back.{gives_back}
use Rattle.alma_machine_acts.proofs.calls.leave_with.Goals as goal

pub returns : goal.returns
returns g c =
    let s = state_of g.M.MachineMemory.picture c.args.registers.now in
    let o = slice_get (g.V.CodeView.code c.args.view.now).instrs ((last_frame s.now).back - 1) in
    acts_is _ _ _ _ c.give_back.ensures
    (sym (gives_back s.now (λ s k. number s c.args.value k) s o c.number-number.result refl c.number-number.ensures))
