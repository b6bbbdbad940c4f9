use Rattle.std.proofs.Common.{◌≡◌, ◌≤◌, length, sym, ap, ◌∙◌, arith}
use Rattle.alma_memory_rewind.specs.PlainRewind.{PlainRewind, needed}
use Rattle.alma_memory_rewind.specs.Trail.{held_of, last_mark}
use Rattle.alma_memory_rewind.proofs.Trails.{needed-top}
use Rattle.alma_memory_rewind.proofs.Changes.{top-le}
use Rattle.alma_memory_rewind.proofs.rewind.Rewind.needed.Goals as goal

pub returns-clause-value : goal.returns-clause-value
returns-clause-value g c =
    let e : needed (held_of c.self.inside.trail.items c.self.inside.items.items c.self.inside.marks.items)
    ≡ (last_mark c.self.inside.marks.items).top =
    needed-top c.self.inside.trail.items c.self.inside.items.items c.self.inside.marks.items (length c.self.inside.trail.items)
    c.self.invariant.0.rises in
    let v : needed (held_of c.self.inside.trail.items c.self.inside.items.items c.self.inside.marks.items) ≡ needed c.args.self.now.held =
    ap (λ (p : PlainRewind g.row.T.Denot). needed p.held) c.self.view_is in
    let a : (last_mark c.as_slice.result.now).top ≡ (last_mark c.self.inside.marks.items).top =
    ap (λ ms. (last_mark ms).top) c.as_slice.ensures.value in
    c.top_of.ensures ∙ (a ∙ (sym e ∙ v))

pub returns-clause-within : goal.returns-clause-within
returns-clause-within g c =
    let a : (last_mark c.as_slice.result.now).top ≡ (last_mark c.self.inside.marks.items).top =
    ap (λ ms. (last_mark ms).top) c.as_slice.ensures.value in
    let low : (last_mark c.self.inside.marks.items).top ≤ length c.self.inside.items.items =
    top-le c.self.inside.marks.items (length c.self.inside.trail.items) (length c.self.inside.items.items) c.self.invariant.0.rises in
    let wide : length c.self.inside.items.items ≡ length c.args.self.now.now =
    ap (λ (p : PlainRewind g.row.T.Denot). length p.now) c.self.view_is in
    omega (arith, c.top_of.ensures, a, low, wide)
