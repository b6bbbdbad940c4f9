use Rattle.std.proofs.Common.{rules, refl, sym, ap, ◌∙◌, w64}
use Rattle.std.proofs.lemmas.Int.{to_z-of_z}
use Rattle.alma_code.specs.Machine.{number, store, quiet_step}
use Rattle.alma_machine.specs.View.{run_state}
use Rattle.alma_machine.proofs.Quieting.{quietly_stored}
use Rattle.alma_machine_acts.proofs.Words.{one_slot}
use Rattle.alma_machine.proofs.quick_cells.store_quickly.Goals as goal

pub set-requires : goal.set-requires
set-requires c = one_slot c.args.registers.now.memory.now _ c.in-Ok.place c.in-Ok.ensures.0 c.requires.to.one

pub returns : goal.returns
returns c =
    let s = run_state c.args.registers.now in
    let p = c.in-Ok.place in
    let v = c.in-Ok-number.number in
    quietly_stored _ _ _ _ _ _ _ _ _ c.is_ok.ensures.value (one_slot s.now _ p c.in-Ok.ensures.0 c.requires.to.one) c.set.ensures
    (ap (λ n. store s p.frame p.slot n quiet_step) (to_z-of_z w64 v (search rules))
    ∙ sym (c.in-Ok.ensures.1 s (λ p. number s c.args.from (λ v. store s p.frame p.slot v quiet_step)) refl
    ∙ c.in-Ok-number.ensures s (λ v. store s p.frame p.slot v quiet_step) refl))
