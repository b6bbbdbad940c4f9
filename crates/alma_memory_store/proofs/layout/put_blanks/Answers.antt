use Rattle.std.proofs.Common.{◌≡◌, ◌-◌, ◌≤◌, ◌++◌, length, map, replicate, vec_capacity, ap, ◌∙◌, arith}
use Rattle.alma_code.specs.Layout.{kinds_of}
use Rattle.alma_memory_store.specs.declared.store.Slot.{Slot}
use Rattle.alma_memory_store.specs.Regions.{blank_slot}
use Rattle.alma_memory_store.proofs.Layouts.{blanks-step, run-within}
use Rattle.alma_memory_store.proofs.layout.put_blanks.Goals as goal

pub push_run-requires : goal.push_run-requires
push_run-requires g c =
    let h = g.H.Head.head c.args.head.now in
    let end = run-within h.runs c.loop-i.i (length c.loop-i.slots.items) h.slots c.run-run.result c.run-run.ensures c.loop-i.invariant.1 in
    omega (arith, end, c.loop-i.invariant.2)

pub loop-i-preserved : goal.loop-i-preserved
loop-i-preserved g c =
    let h = g.H.Head.head c.args.head.now in
    let run = c.run-run.result in
    let slots = c.loop-i.slots.items in
    let made : c.push_run.new.slots.items ≡ slots ++ replicate (run.end - length slots) (blank_slot run.kind) =
    c.push_run.ensures.items ∙ ap (λ (x : Slot). slots ++ replicate (run.end - length slots) x) c.blank.ensures in
    let step = blanks-step h.runs c.loop-i.i h.slots run slots c.push_run.new.slots.items (map blank_slot (kinds_of 0 h.runs))
    c.run-run.ensures made c.loop-i.invariant.0 c.loop-i.invariant.1 in
    let room : h.slots ≤ vec_capacity c.push_run.new.slots = omega (arith, c.push_run.ensures.capacity, c.loop-i.invariant.2) in
    (step.0, step.1, room)
