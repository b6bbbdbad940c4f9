use Rattle.std.proofs.Common.{rules, ◌≡◌, sym, ap, ◌∙◌, w64}
use Rattle.std.specs.Prelude.{true}
use Rattle.std.proofs.lemmas.Int.{ints, to_z-of_z}
use Rattle.alma_base.specs.Choice.{if_true}
use Rattle.alma_base.specs.Numbers.{within}
use Rattle.alma_base.specs.declared.fault.RunFault.TheVariants as fault
use Rattle.alma_code.specs.Machine.{store, ends_in_fault, quiet_step}
use Rattle.alma_machine.specs.View.{run_state}
use Rattle.alma_machine.proofs.Quieting.{quietly_stored}
use Rattle.alma_machine_acts.proofs.Words.{within_is}
use Rattle.alma_machine.proofs.quick_cells.give_quickly.Goals as goal

pub returns : goal.returns
returns c =
    let s = run_state c.args.registers.now in
    let p = c.args.place in
    let r = c.args.range.now in
    let v = c.args.number in
    let inside : within r v ≡ true = within_is r v (search (rules, ints)) (search (rules, ints)) in
    quietly_stored _ _ _ _ _ _ _ _ _ c.is_ok.ensures.value c.requires c.set.ensures
    (ap (λ n. store s p.frame p.slot n quiet_step) (to_z-of_z w64 v (search rules))
    ∙ sym (ap (λ b. if_true b (λ _. store s p.frame p.slot v quiet_step) (λ _. ends_in_fault fault.Range s)) inside))
