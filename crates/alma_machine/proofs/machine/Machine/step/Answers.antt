use Rattle.std.proofs.Common.{rules, ◌≡◌, ◌∙◌, sym, subst, true, IfOk}
use Rattle.alma_code.specs.Machine.{step}
use Rattle.alma_machine.specs.View.{run_state}
use Rattle.alma_machine_acts.specs.Steps.{step_result}
use Rattle.alma_machine.proofs.Stepping.{stands_after}
use Rattle.alma_verify.specs.Verified.{code_of_verified}
use Rattle.alma_machine.proofs.machine.Machine.step.Goals as goal

pub invariant_of-self : goal.invariant_of-self
invariant_of-self c =
    let code = code_of_verified c.self.inside.code in
    let old = run_state c.self.inside.registers in
    let new = run_state c.advance-step.new.registers in
    let running : c.self.inside.running ≡ true = search rules in (
      c.self.invariant.0,
      λ on. stands_after c.advance-step.result code c.self.inside.input.now old new c.advance-step.new.printed.items
          (c.self.invariant.1 running)
          c.advance-step.ensures.step c.advance-step.ensures.mode c.advance-step.ensures.counted c.advance-step.ensures.choices
          c.advance-step.ensures.fails (sym c.runs_after-self-inside.ensures ∙ on),
    )

pub returns-clause-step : goal.returns-clause-step
returns-clause-step c =
    let bytes = c.advance-step.new.printed.items in
    let new = run_state c.advance-step.new.registers in
    subst (λ m. IfOk c.advance-step.result (λ answer. step_result answer bytes new ≡ step m.code m.input m.state)) c.self.view_is
    c.advance-step.ensures.step
