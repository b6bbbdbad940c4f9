use Rattle.std.proofs.Common.{◌++◌, ◌<◌, ◌≤◌, ◌-◌, length, replicate, ap, sym, ◌∙◌, arith}
use Rattle.std.proofs.lemmas.Bool.Decides.{nat_tests}
use Rattle.alma_memory_store.proofs.Layouts.{run-more, run-full}
use Rattle.alma_memory_store.proofs.layout.push_run.Goals as goal

pub loop-slot-preserved : goal.loop-slot-preserved
loop-slot-preserved c =
    let slots = c.loop-slot.slots.items in
    let low : length slots < c.args.end = grind (arith, nat_tests) in (
      ap (λ v. v ++ replicate (c.args.end - length v) c.args.slot) c.push_reserved.ensures.items
          ∙ (run-more slots c.args.end c.args.slot low ∙ c.loop-slot.invariant.0),
      c.push_reserved.ensures.capacity ∙ c.loop-slot.invariant.1,
    )

pub returns-clause-items : goal.returns-clause-items
returns-clause-items c =
    let slots = c.loop-slot.slots.items in
    let high : c.args.end ≤ length slots = grind (arith, nat_tests) in
    sym (run-full slots c.args.end c.args.slot high) ∙ c.loop-slot.invariant.0
