use Rattle.std.proofs.Common.{rules, refl, sym, subst, ◌∙◌}
use Rattle.std.specs.Prelude.{Some}
use Rattle.alma_code.specs.Machine.{place, equation, quiet_step}
use Rattle.alma_machine_acts.specs.declared.equations.Met.TheVariants.{Holds, Ends}
use Rattle.alma_machine_acts.specs.Meets.{Meets}
use Rattle.alma_machine_acts.specs.Rows.{state_of, width}
use Rattle.alma_machine_acts.proofs.Words.{makes_is, one_slot}
use Rattle.alma_machine_acts.proofs.registers.Registers.unify.Goals as goal

pub equate-requires : goal.equate-requires
equate-requires g c =
    let now = (g.M.MachineMemory.picture c.args.self.now.memory).now in
    record {
      left = one_slot now (width now c.args.left) c.in-Ok.place c.in-Ok.ensures.0 c.requires.left.one;
      right = one_slot now (width now c.args.right) c.in-Ok-place.place c.in-Ok-place.ensures.0 c.requires.right.one;
    }

pub returns-in-Err : goal.returns-in-Err
returns-in-Err g c =
    let s = state_of g.M.MachineMemory.picture c.args.self.now in
    let a = c.args in
    makes_is c.end.ensures.made (sym (c.in-Err.ensures s
    (λ p. place s a.right (λ q. equation s p.frame p.slot (Some a.left_range) q.frame q.slot (Some a.right_range) quiet_step)) refl))

pub returns-in-Err-place : goal.returns-in-Err-place
returns-in-Err-place g c =
    let s = state_of g.M.MachineMemory.picture c.args.self.now in
    let a = c.args in
    let p = c.in-Ok.place in
    makes_is c.end-in-Err-place.ensures.made (sym (c.in-Ok.ensures.1 s
    (λ p. place s a.right (λ q. equation s p.frame p.slot (Some a.left_range) q.frame q.slot (Some a.right_range) quiet_step)) refl
    ∙ c.in-Err-place.ensures s
    (λ q. equation s p.frame p.slot (Some a.left_range) q.frame q.slot (Some a.right_range) quiet_step) refl))

pub returns-in-Holds : goal.returns-in-Holds
returns-in-Holds g c =
    let s = state_of g.M.MachineMemory.picture c.args.self.now in
    let t = state_of g.M.MachineMemory.picture c.equate.new.self in
    let a = c.args in
    let p = c.in-Ok.place in
    let q = c.in-Ok-place.place in
    let holds : Meets Holds (λ k. equation s p.frame p.slot (Some a.left_range) q.frame q.slot (Some a.right_range) k) t =
    subst (λ met. Meets met (λ k. equation s p.frame p.slot (Some a.left_range) q.frame q.slot (Some a.right_range) k) t)
    c.in-Holds.is c.in_ok-equate.ensures.equates.meets in
    record {
      step = sym (c.in-Ok.ensures.1 s
          (λ p. place s a.right (λ q. equation s p.frame p.slot (Some a.left_range) q.frame q.slot (Some a.right_range) quiet_step)) refl
          ∙ c.in-Ok-place.ensures.1 s
          (λ q. equation s p.frame p.slot (Some a.left_range) q.frame q.slot (Some a.right_range) quiet_step) refl ∙ holds quiet_step);
      kept = search rules;
      past = search rules;
    }

pub returns-in-Ends : goal.returns-in-Ends
returns-in-Ends g c =
    let s = state_of g.M.MachineMemory.picture c.args.self.now in
    let t = state_of g.M.MachineMemory.picture c.equate.new.self in
    let a = c.args in
    let p = c.in-Ok.place in
    let q = c.in-Ok-place.place in
    let ends : Meets (Ends c.in-Ends.step) (λ k. equation s p.frame p.slot (Some a.left_range) q.frame q.slot (Some a.right_range) k) t =
    subst (λ met. Meets met (λ k. equation s p.frame p.slot (Some a.left_range) q.frame q.slot (Some a.right_range) k) t)
    c.in-Ends.is c.in_ok-equate.ensures.equates.meets in
    record {
      step = sym (c.in-Ok.ensures.1 s
          (λ p. place s a.right (λ q. equation s p.frame p.slot (Some a.left_range) q.frame q.slot (Some a.right_range) quiet_step)) refl
          ∙ c.in-Ok-place.ensures.1 s
          (λ q. equation s p.frame p.slot (Some a.left_range) q.frame q.slot (Some a.right_range) quiet_step) refl ∙ ends quiet_step);
      kept = search rules;
      past = search rules;
    }
