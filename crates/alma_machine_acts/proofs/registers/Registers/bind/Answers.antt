use Rattle.std.proofs.Common.{rules, refl, sym, ap, ◌∙◌, w64}
use Rattle.std.proofs.lemmas.Int.{to_z-of_z}
use Rattle.alma_code.specs.Machine.{number, content, binds_content}
use Rattle.alma_machine_acts.specs.Rows.{state_of}
use Rattle.alma_machine_acts.proofs.Words.{makes_is, acts_is, one_slot}
use Rattle.alma_machine_acts.proofs.registers.Registers.bind.Goals as goal

pub bind_to-requires : goal.bind_to-requires
bind_to-requires g c =
    one_slot (g.M.MachineMemory.picture c.args.self.now.memory).now _ c.in-Ok.place c.in-Ok.ensures.0 c.requires.to.one

pub returns-in-Err : goal.returns-in-Err
returns-in-Err g c =
    let s = state_of g.M.MachineMemory.picture c.args.self.now in
    makes_is c.end.ensures.made (sym (c.in-Err.ensures s
    (λ p. number s c.args.value (λ v. content s p.frame p.slot (λ u. binds_content s p c.args.range.now v u))) refl))

pub returns-in-Err-number : goal.returns-in-Err-number
returns-in-Err-number g c =
    let s = state_of g.M.MachineMemory.picture c.args.self.now in
    let r = c.args.range.now in
    let p = c.in-Ok.place in
    makes_is c.end-in-Err-number.ensures.made
    (sym (c.in-Ok.ensures.1 s (λ p. number s c.args.value (λ v. content s p.frame p.slot (λ u. binds_content s p r v u))) refl
    ∙ c.in-Err-number.ensures s (λ v. content s p.frame p.slot (λ u. binds_content s p r v u)) refl))

pub returns-in-Ok-number : goal.returns-in-Ok-number
returns-in-Ok-number g c =
    let s = state_of g.M.MachineMemory.picture c.args.self.now in
    let r = c.args.range.now in
    let p = c.in-Ok.place in
    let v = c.in-Ok-number.number in
    acts_is _ _ _ _ c.bind_to.ensures
    (ap (λ n. content s p.frame p.slot (λ u. binds_content s p r n u)) (to_z-of_z w64 v (search rules))
    ∙ sym (c.in-Ok.ensures.1 s (λ p. number s c.args.value (λ v. content s p.frame p.slot (λ u. binds_content s p r v u))) refl
    ∙ c.in-Ok-number.ensures s (λ v. content s p.frame p.slot (λ u. binds_content s p r v u)) refl))
