use Rattle.std.proofs.Common.{◌≡◌, subst, arith}
use Rattle.alma_machine.specs.Runs.{last_print}
use Rattle.alma_machine.specs.View.{run_state, MachineView}
use Rattle.alma_machine.proofs.Dashing.{shown_after}
use Rattle.alma_verify.specs.Verified.{code_of_verified}
use Rattle.alma_machine.proofs.machine.Machine.dash.Goals as goal

pub returns-then-made-gt0-clause-shown : goal.returns-then-made-gt0-clause-shown
returns-then-made-gt0-clause-shown c =
    let inside = c.self.inside in
    subst (λ (m : MachineView). c.clear.new.self.items ≡ last_print m.code m.input c.dash-made.result m.state m.printed) c.self.view_is
    (shown_after (code_of_verified inside.code) inside.input.now c.dash-made.result (run_state inside.registers) inside.printed.items
    c.clear.new.self.items c.dash-made.ensures.silent
    (λ e. absurd (omega (arith, e, c.if-made-gt0.true))) (λ some. c.clear.ensures.items))
