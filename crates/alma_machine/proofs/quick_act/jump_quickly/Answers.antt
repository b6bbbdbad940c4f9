use Rattle.std.proofs.Common.{rules, refl, sym, ap, ◌∙◌}
use Rattle.alma_base.specs.Choice.{if_true}
use Rattle.alma_base.specs.Numbers.{is_zero}
use Rattle.alma_code.specs.Machine.{goes_to, quiet_step}
use Rattle.alma_machine.specs.View.{run_state}
use Rattle.alma_machine_acts.proofs.Words.{zero_is, zero_is_not}
use Rattle.alma_machine.proofs.quick_act.jump_quickly.Goals as goal

pub returns-then-number-eq0 : goal.returns-then-number-eq0
returns-then-number-eq0 c =
    let s = run_state c.args.registers.now in
    record {
      step = sym (c.in-Ok.ensures s (λ v. if_true (is_zero v) (λ _. goes_to c.args.to s) (λ _. quiet_step s)) refl
          ∙ ap (λ b. if_true b (λ _. goes_to c.args.to s) (λ _. quiet_step s)) (zero_is c.in-Ok.number (search rules)));
      kept = search rules;
    }

pub returns-else-number-eq0 : goal.returns-else-number-eq0
returns-else-number-eq0 c =
    let s = run_state c.args.registers.now in
    record {
      step = sym (c.in-Ok.ensures s (λ v. if_true (is_zero v) (λ _. goes_to c.args.to s) (λ _. quiet_step s)) refl
          ∙ ap (λ b. if_true b (λ _. goes_to c.args.to s) (λ _. quiet_step s)) (zero_is_not c.in-Ok.number (search rules)));
      kept = search rules;
    }
