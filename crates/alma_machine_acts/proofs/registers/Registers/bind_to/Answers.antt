use Rattle.std.proofs.Common.{rules, refl, sym, ap, ◌≡◌, ◌∙◌, w64}
use Rattle.std.specs.Prelude.{true, false}
use Rattle.std.proofs.lemmas.Int.{ints, to_z-of_z}
use Rattle.alma_base.specs.Choice.{if_true}
use Rattle.alma_base.specs.Numbers.{within}
use Rattle.alma_base.specs.declared.fault.RunFault.TheVariants as fault
use Rattle.alma_code.specs.Machine.{binds_content, store, quiet_step, fails_now, ends_in_fault}
use Rattle.alma_machine_acts.specs.Rows.{state_of}
use Rattle.alma_machine_acts.proofs.Words.{makes_is, acts_is, ranges, within_is, equal_is, equal_is_not}
use Rattle.alma_machine_acts.proofs.registers.Registers.bind_to.Goals as goal

pub returns-then-number-range : goal.returns-then-number-range
returns-then-number-range g c =
    let s = state_of g.M.MachineMemory.picture c.args.self.now in
    let r = c.args.range.now in
    let p = c.args.place in
    let v = c.args.number in
    let out : within r v ≡ false = search (rules, ranges) in
    makes_is c.end.ensures.made (sym (c.in-None.ensures s (λ u. binds_content s p r v u) refl
    ∙ ap (λ b. if_true b (λ _. store s p.frame p.slot v quiet_step) (λ _. ends_in_fault fault.Range s)) out))

pub returns-else-range-number : goal.returns-else-range-number
returns-else-range-number g c =
    let s = state_of g.M.MachineMemory.picture c.args.self.now in
    let r = c.args.range.now in
    let p = c.args.place in
    let v = c.args.number in
    let inside : within r v ≡ true = within_is r v (search (rules, ints)) (search (rules, ints)) in
    acts_is _ _ _ _ c.set.ensures
    (ap (λ n. store s p.frame p.slot n quiet_step) (to_z-of_z w64 v (search rules))
    ∙ sym (c.in-None.ensures s (λ u. binds_content s p r v u) refl
    ∙ ap (λ b. if_true b (λ _. store s p.frame p.slot v quiet_step) (λ _. ends_in_fault fault.Range s)) inside))

pub returns-then-known-number : goal.returns-then-known-number
returns-then-known-number g c =
    let s = state_of g.M.MachineMemory.picture c.args.self.now in
    let u = c.in-Some.known in
    let v = c.args.number in
    record {
      step = sym (c.in-Some.ensures s (λ u. binds_content s c.args.place c.args.range.now v u) refl
          ∙ ap (λ b. if_true b (λ _. quiet_step s) (λ _. fails_now s)) (equal_is_not u v (search rules)));
      kept = search rules;
      past = search rules;
    }

pub returns-else-known-number : goal.returns-else-known-number
returns-else-known-number g c =
    let s = state_of g.M.MachineMemory.picture c.args.self.now in
    let u = c.in-Some.known in
    let v = c.args.number in
    record {
      step = sym (c.in-Some.ensures s (λ u. binds_content s c.args.place c.args.range.now v u) refl
          ∙ ap (λ b. if_true b (λ _. quiet_step s) (λ _. fails_now s)) (equal_is u v (search rules)));
      kept = search rules;
      past = search rules;
    }
