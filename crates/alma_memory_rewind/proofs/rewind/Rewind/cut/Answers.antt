use Rattle.std.proofs.Common.{◌≡◌, take, ap, ◌∙◌}
use Rattle.alma_memory_rewind.specs.PlainRewind.{PlainRewind}
use Rattle.alma_memory_rewind.specs.Trail.{held_of, trail_for}
use Rattle.alma_memory_rewind.specs.Sound.{Sweeps}
use Rattle.alma_memory_rewind.proofs.Changes.{cuts}
use Rattle.alma_memory_rewind.proofs.rewind.Rewind.cut.Goals as goal

pub invariant_of-self : goal.invariant_of-self
invariant_of-self g c =
    let after : c.settle.new.trail.items ≡ trail_for c.truncate.new.self.items c.self.inside.trail.items = c.settle.ensures.trail
    ∙ ap (λ ms. trail_for ms c.self.inside.trail.items) c.as_slice.ensures.value in
    let cut = cuts c.args.height c.truncate.new.self.items c.self.inside.marks.items c.self.inside.trail.items c.settle.new.trail.items
    c.self.inside.items.items c.self.inside.stamps.items c.self.inside.counter c.truncate.ensures.items after c.self.invariant.0 in
    let swept = c.sweep_full-self-inside.ensures.keeps in
    let own : Sweeps c.truncate.new.self.items c.settle.new.trail.items c.sweep_full-self-inside.new.trail.items =
    rw c.as_slice-2.ensures.value at swept in
    ((own.keeps c.self.inside.items.items c.self.inside.stamps.items c.self.inside.counter cut.sound).sound, c.self.invariant.1)

pub returns-clause-held : goal.returns-clause-held
returns-clause-held g c =
    let after : c.settle.new.trail.items ≡ trail_for c.truncate.new.self.items c.self.inside.trail.items = c.settle.ensures.trail
    ∙ ap (λ ms. trail_for ms c.self.inside.trail.items) c.as_slice.ensures.value in
    let cut = cuts c.args.height c.truncate.new.self.items c.self.inside.marks.items c.self.inside.trail.items c.settle.new.trail.items
    c.self.inside.items.items c.self.inside.stamps.items c.self.inside.counter c.truncate.ensures.items after c.self.invariant.0 in
    let vh : held_of c.self.inside.trail.items c.self.inside.items.items c.self.inside.marks.items ≡ c.args.self.now.held =
    ap (λ (p : PlainRewind g.row.T.Denot). p.held) c.self.view_is in
    let swept = c.sweep_full-self-inside.ensures.keeps in
    let own : Sweeps c.truncate.new.self.items c.settle.new.trail.items c.sweep_full-self-inside.new.trail.items =
    rw c.as_slice-2.ensures.value at swept in
    (own.keeps c.self.inside.items.items c.self.inside.stamps.items c.self.inside.counter cut.sound).held
    ∙ (cut.held ∙ ap (take c.args.height) vh)
