use Rattle.std.proofs.Common.{rules, refl, sym, ap, subst, ◌∙◌, w64}
use Rattle.std.proofs.lemmas.Int.{to_z-of_z}
use Rattle.alma_code.specs.Machine.{number, content, binds_content}
use Rattle.alma_machine.specs.Quick.{Quietly}
use Rattle.alma_machine.specs.View.{run_state}
use Rattle.alma_machine_acts.proofs.Words.{one_slot}
use Rattle.alma_machine.proofs.quick_cells.bind_quickly.Goals as goal

pub bind_to_quickly-requires : goal.bind_to_quickly-requires
bind_to_quickly-requires c = one_slot c.args.registers.now.memory.now _ c.in-Ok.place c.in-Ok.ensures.0 c.requires.to.one

pub returns-in-Ok-number : goal.returns-in-Ok-number
returns-in-Ok-number c =
    let s = run_state c.args.registers.now in
    let r = c.args.range.now in
    let p = c.in-Ok.place in
    let v = c.in-Ok-number.number in
    subst (Quietly _ _ _) (ap (λ n. content s p.frame p.slot (λ u. binds_content s p r n u)) (to_z-of_z w64 v (search rules))
    ∙ sym (c.in-Ok.ensures.1 s (λ p. number s c.args.value (λ v. content s p.frame p.slot (λ u. binds_content s p r v u))) refl
    ∙ c.in-Ok-number.ensures s (λ v. content s p.frame p.slot (λ u. binds_content s p r v u)) refl)) c.bind_to_quickly.ensures
