use Rattle.std.proofs.Common.{rules, refl, sym, ap, subst, ◌∙◌, w64}
use Rattle.std.specs.Prelude.{Some}
use Rattle.std.proofs.lemmas.Int.{to_z-of_z}
use Rattle.alma_base.specs.Choice.{if_true}
use Rattle.alma_code.specs.Machine.{store, binds_content, optional_range_check, quiet_step, fails_now}
use Rattle.alma_machine.specs.Quick.{Quietly}
use Rattle.alma_machine.specs.View.{run_state}
use Rattle.alma_machine_acts.proofs.Words.{equal_is, equal_is_not}
use Rattle.alma_machine.proofs.quick_cells.bind_to_quickly.Goals as goal

pub returns-then-known-number : goal.returns-then-known-number
returns-then-known-number c =
    let s = run_state c.args.registers.now in
    let u = c.in-Some.known in
    let v = c.args.number in
    record {
      step = sym (c.in-Some.ensures s (λ u. binds_content s c.args.place c.args.range.now v u) refl
          ∙ ap (λ b. if_true b (λ _. quiet_step s) (λ _. fails_now s)) (equal_is_not u v (search rules)));
      kept = search rules;
    }

pub returns-else-known-number : goal.returns-else-known-number
returns-else-known-number c =
    let s = run_state c.args.registers.now in
    let u = c.in-Some.known in
    let v = c.args.number in
    record {
      step = sym (c.in-Some.ensures s (λ u. binds_content s c.args.place c.args.range.now v u) refl
          ∙ ap (λ b. if_true b (λ _. quiet_step s) (λ _. fails_now s)) (equal_is u v (search rules)));
      kept = search rules;
    }

pub returns-in-None : goal.returns-in-None
returns-in-None c =
    let s = run_state c.args.registers.now in
    let p = c.args.place in
    let r = c.args.range.now in
    let v = c.args.number in
    subst (Quietly _ _ _) (ap (λ n. optional_range_check (Some r) s n (λ _. store s p.frame p.slot n quiet_step))
    (to_z-of_z w64 v (search rules))
    ∙ sym (c.in-None.ensures s (λ u. binds_content s p r v u) refl)) c.give_quickly.ensures
