use Rattle.std.proofs.Common.{rules, sym, ap, subst, ◌∙◌, w64}
use Rattle.std.specs.Prelude.{Some}
use Rattle.std.proofs.lemmas.Int.{to_z-of_z}
use Rattle.alma_base.specs.Choice.{if_true}
use Rattle.alma_code.specs.Machine.{store, optional_range_check, quiet_step, fails_now}
use Rattle.alma_machine.specs.Quick.{Quietly}
use Rattle.alma_machine.specs.View.{run_state}
use Rattle.alma_machine.proofs.Quieting.{known_equation}
use Rattle.alma_machine_acts.proofs.Words.{equal_is, equal_is_not}
use Rattle.alma_machine.proofs.quick_cells.equate_quickly.Goals as goal

pub returns-then-x-y : goal.returns-then-x-y
returns-then-x-y c =
    let s = run_state c.args.registers.now in
    let a = c.args in
    record {
      step = sym (known_equation _ _ _ _ _ (Some a.first) (Some a.second) quiet_step c.content-left_known.ensures
          c.content-right_known.ensures c.in-Some-Some.is-0 c.in-Some-Some.is-1
          ∙ ap (λ b. if_true b (λ _. quiet_step s) (λ _. fails_now s)) (equal_is_not c.in-Some-Some.x c.in-Some-Some.y (search rules)));
      kept = search rules;
    }

pub returns-else-x-y : goal.returns-else-x-y
returns-else-x-y c =
    let s = run_state c.args.registers.now in
    let a = c.args in
    record {
      step = sym (known_equation _ _ _ _ _ (Some a.first) (Some a.second) quiet_step c.content-left_known.ensures
          c.content-right_known.ensures c.in-Some-Some.is-0 c.in-Some-Some.is-1
          ∙ ap (λ b. if_true b (λ _. quiet_step s) (λ _. fails_now s)) (equal_is c.in-Some-Some.x c.in-Some-Some.y (search rules)));
      kept = search rules;
    }

pub returns-in-Some-None : goal.returns-in-Some-None
returns-in-Some-None c =
    let s = run_state c.args.registers.now in
    let a = c.args in
    let x = c.in-Some-None.x in
    subst (Quietly _ _ _) (ap (λ n. optional_range_check (Some a.second) s n (λ _. store s a.right.frame a.right.slot n quiet_step))
    (to_z-of_z w64 x (search rules))
    ∙ sym (known_equation _ _ _ _ _ (Some a.first) (Some a.second) quiet_step c.content-left_known.ensures
    c.content-right_known.ensures c.in-Some-None.is-0 c.in-Some-None.is-1)) c.give_quickly.ensures

pub returns-in-None-Some : goal.returns-in-None-Some
returns-in-None-Some c =
    let s = run_state c.args.registers.now in
    let a = c.args in
    let y = c.in-None-Some.y in
    subst (Quietly _ _ _) (ap (λ n. optional_range_check (Some a.first) s n (λ _. store s a.left.frame a.left.slot n quiet_step))
    (to_z-of_z w64 y (search rules))
    ∙ sym (known_equation _ _ _ _ _ (Some a.first) (Some a.second) quiet_step c.content-left_known.ensures
    c.content-right_known.ensures c.in-None-Some.is-0 c.in-None-Some.is-1)) c.give_quickly-in-None-Some.ensures
