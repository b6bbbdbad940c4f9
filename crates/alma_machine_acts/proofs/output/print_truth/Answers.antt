use Rattle.std.proofs.Common.{rules, refl, sym, ap, ◌∙◌}
use Rattle.std.specs.Prelude.{not}
use Rattle.alma_base.specs.Numbers.{is_zero}
use Rattle.alma_base.specs.Value.{value_text}
use Rattle.alma_base.specs.declared.value.Value.TheVariants as kind
use Rattle.alma_code.specs.Machine.{prints_bytes}
use Rattle.alma_machine_acts.specs.Rows.{state_of}
use Rattle.alma_machine_acts.specs.Steps.{step_result}
use Rattle.alma_machine_acts.proofs.output.print_truth.Goals as goal

pub returns-in-Err : goal.returns-in-Err
returns-in-Err g c =
    let s = state_of g.M.MachineMemory.picture c.args.registers.now in
    record {
      step = ap (λ b. step_result c.end.result b (state_of g.M.MachineMemory.picture c.end.new.self)) c.requires.empty
          ∙ c.end.ensures.made.step
          ∙ sym (c.in-Err.ensures s (λ v. prints_bytes (value_text (kind.Bool (not (is_zero v)))) s) refl);
      kept = search rules;
      past = search rules;
      quiet = search rules;
    }
