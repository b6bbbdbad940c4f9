use Rattle.std.proofs.Common.{set, ap, ◌∙◌, arith}
use Rattle.alma_memory_rewind.proofs.Changes.{unwinds-more}
use Rattle.alma_memory_rewind.proofs.Stamps.{stamp-before}
use Rattle.alma_memory_rewind.proofs.rewind.unwind_to.Goals as goal

pub loop-trail-preserved-in-Some : goal.loop-trail-preserved-in-Some
loop-trail-preserved-in-Some g c =
    let inv = c.loop-trail.invariant in
    let s = inv.0.stamped in (
      unwinds-more c.args.marks.now c.args.counter c.args.mark c.args.trail.now.items c.args.items.now.items _ c.loop-trail.trail.items
          c.loop-trail.items.items c.loop-trail.stamps.items
          c.pop.new.self.items c.in-Some.note _ _ c.in-Some.ensures.items
          (c.put_back.ensures.items ∙ ap (λ k. set c.loop-trail.items.items k c.in-Some.note.old) c.place_of.ensures)
          (c.put_back.ensures.stamps ∙ ap (λ k. set c.loop-trail.stamps.items k c.in-Some.note.stamp) c.place_of.ensures) (omega arith)
          (stamp-before c.args.marks.now c.pop.new.self.items c.in-Some.note c.loop-trail.stamps.items (rw c.in-Some.ensures.items at s))
          inv.0,
      c.in-Some.ensures.capacity ∙ inv.1,
    )
