use Rattle.std.proofs.Common.{rules, ◌+◌, sym, subst, ◌∙◌, arith}
use Rattle.std.specs.Prelude.{None}
use Rattle.alma_code.specs.Machine.{equation}
use Rattle.alma_machine_acts.specs.declared.equations.Met.TheVariants.{Holds, Ends}
use Rattle.alma_machine_acts.specs.Meets.{Meets, MeetsOn}
use Rattle.alma_machine_acts.specs.Rows.{state_of}
use Rattle.alma_machine_acts.proofs.Meetings.{equated_more, equations_end}
use Rattle.alma_machine_acts.proofs.registers.Registers.equate_all.Goals as goal

pub returns-in-Ok-Ends : goal.returns-in-Ok-Ends
returns-in-Ok-Ends g c =
    let t = state_of g.M.MachineMemory.picture c.loop-k.self in
    let u = state_of g.M.MachineMemory.picture c.equate.new.self in
    let f = c.args.left.frame in
    let i = c.args.left.slot in
    let b = c.args.right.frame in
    let j = c.args.right.slot in
    let k = c.loop-k.k in
    let ends : Meets (Ends c.in-Ok-Ends.step) (λ q. equation t f (i + k) None b (j + k) None q) u =
    subst (λ met. Meets met (λ q. equation t f (i + k) None b (j + k) None q) u) c.in-Ok-Ends.field-0-is
    c.in-Ok-Ends.ensures.equates.meets in
    record {
      step = sym (c.loop-k.invariant.equation_of_contents.rest
          ∙ equations_end c.args.count k t u c.in-Ok-Ends.step f i b j c.loop-k-test.true ends);
      kept = search rules;
      past = search rules;
    }

pub loop-k-preserved : goal.loop-k-preserved
loop-k-preserved g c =
    let s = state_of g.M.MachineMemory.picture c.args.self.now in
    let t = state_of g.M.MachineMemory.picture c.loop-k.self in
    let u = state_of g.M.MachineMemory.picture c.equate.new.self in
    let f = c.args.left.frame in
    let i = c.args.left.slot in
    let b = c.args.right.frame in
    let j = c.args.right.slot in
    let k = c.loop-k.k in
    let holds : Meets Holds (λ q. equation t f (i + k) None b (j + k) None q) u =
    subst (λ met. Meets met (λ q. equation t f (i + k) None b (j + k) None q) u) c.in-Ok-Holds.field-0-is
    c.in-Ok-Holds.ensures.equates.meets in
    let kept : MeetsOn Holds t u = subst (λ met. MeetsOn met t u) c.in-Ok-Holds.field-0-is c.in-Ok-Holds.ensures.equates.kept in
    record {
      equation_of_contents = equated_more c.args.count k s t u f i b j c.loop-k-test.true c.loop-k.invariant.equation_of_contents holds
          c.in-Ok-Holds.ensures.writes.stays kept;
      room = omega (arith, c.loop-k.invariant.room, c.in-Ok-Holds.ensures.writes.room);
      past = c.in-Ok-Holds.ensures.equates.past ∙ c.loop-k.invariant.past;
    }
