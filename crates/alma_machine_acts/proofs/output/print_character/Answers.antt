use Rattle.std.proofs.Common.{rules, ◌++◌, ◌∷◌, [], refl, sym, ap, ◌∙◌, w64, to_z, of_z}
use Rattle.std.proofs.lemmas.Int.{to_z-of_z}
use Rattle.std.specs.Prelude.{pos, nat_abs}
use Rattle.std.specs.Int.{int_rem_euclid}
use Rattle.alma_base.specs.Value.{value_text}
use Rattle.alma_base.specs.declared.value.Value.TheVariants as kind
use Rattle.alma_code.specs.declared.step.Step.TheVariants as answer
use Rattle.alma_code.specs.Machine.{prints_bytes}
use Rattle.alma_machine_acts.specs.Rows.{state_of}
use Rattle.alma_machine_acts.specs.Steps.{step_result}
use Rattle.alma_machine_acts.proofs.output.print_character.Goals as goal

pub returns-in-Err : goal.returns-in-Err
returns-in-Err g c =
    let s = state_of g.M.MachineMemory.picture c.args.registers.now in
    record {
      step = ap (λ b. step_result c.end.result b (state_of g.M.MachineMemory.picture c.end.new.self)) c.requires.empty
          ∙ c.end.ensures.made.step
          ∙ sym (c.in-Err.ensures s (λ v. prints_bytes (value_text (kind.Char (nat_abs (int_rem_euclid v (pos 256))))) s) refl);
      kept = search rules;
      past = search rules;
      quiet = search rules;
    }

pub returns-in_ok-write_value-in-Ok : goal.returns-in_ok-write_value-in-Ok
returns-in_ok-write_value-in-Ok g c =
    let s = state_of g.M.MachineMemory.picture c.args.registers.now in
    let v = c.in-Ok.number in
    let n = c.rem_euclid.result in
    record {
      step = ap (λ b. step_result answer.Printed b s) (c.in_ok-write_value-in-Ok.ensures.ok
          ∙ ap (λ b. b ++ (nat_abs (to_z w64 (of_z w64 n)) ∷ [])) c.requires.empty
          ∙ ap (λ n. nat_abs n ∷ []) (to_z-of_z w64 n (search rules) ∙ c.rem_euclid.ensures.value
          ∙ ap (λ v. int_rem_euclid v (pos 256)) (to_z-of_z w64 v (search rules))))
          ∙ sym (c.in-Ok.ensures s (λ v. prints_bytes (value_text (kind.Char (nat_abs (int_rem_euclid v (pos 256))))) s) refl);
      kept = search rules;
      past = search rules;
      quiet = search rules;
    }
