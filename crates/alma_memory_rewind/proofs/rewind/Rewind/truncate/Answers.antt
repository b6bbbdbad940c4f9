use Rattle.std.proofs.Common.{◌≡◌, ◌≤◌, length, take, sym, ap, ◌∙◌, arith}
use Rattle.std.proofs.lemmas.List.{length-take}
use Rattle.alma_memory_rewind.specs.PlainRewind.{PlainRewind, needed}
use Rattle.alma_memory_rewind.specs.Trail.{held_of, last_mark, noted_to}
use Rattle.alma_memory_rewind.proofs.Trails.{needed-top}
use Rattle.alma_memory_rewind.proofs.Changes.{cut-keeps, noted-take}
use Rattle.alma_memory_rewind.proofs.rewind.Rewind.truncate.Goals as goal

pub invariant_of-self : goal.invariant_of-self
invariant_of-self g c =
    let e : needed (held_of c.self.inside.trail.items c.self.inside.items.items c.self.inside.marks.items)
    ≡ (last_mark c.self.inside.marks.items).top =
    needed-top c.self.inside.trail.items c.self.inside.items.items c.self.inside.marks.items (length c.self.inside.trail.items)
    c.self.invariant.0.rises in
    let v : needed (held_of c.self.inside.trail.items c.self.inside.items.items c.self.inside.marks.items) ≡ needed c.args.self.now.held =
    ap (λ (p : PlainRewind g.row.T.Denot). needed p.held) c.self.view_is in
    let low : (last_mark c.self.inside.marks.items).top ≤ c.args.len = rw (sym e ∙ v) c.requires in
    rw c.truncate.ensures.items (
      (cut-keeps c.self.inside.marks.items c.self.inside.trail.items c.self.inside.items.items c.self.inside.stamps.items
          c.self.inside.counter c.args.len low c.self.invariant.0).sound,
      rw (length-take c.args.len c.self.inside.items.items) (omega (arith, c.self.invariant.1)),
    )

pub returns-clause-held : goal.returns-clause-held
returns-clause-held g c =
    let e : needed (held_of c.self.inside.trail.items c.self.inside.items.items c.self.inside.marks.items)
    ≡ (last_mark c.self.inside.marks.items).top =
    needed-top c.self.inside.trail.items c.self.inside.items.items c.self.inside.marks.items (length c.self.inside.trail.items)
    c.self.invariant.0.rises in
    let v : needed (held_of c.self.inside.trail.items c.self.inside.items.items c.self.inside.marks.items) ≡ needed c.args.self.now.held =
    ap (λ (p : PlainRewind g.row.T.Denot). needed p.held) c.self.view_is in
    let low : (last_mark c.self.inside.marks.items).top ≤ c.args.len = rw (sym e ∙ v) c.requires in
    let vh : held_of c.self.inside.trail.items c.self.inside.items.items c.self.inside.marks.items ≡ c.args.self.now.held =
    ap (λ (p : PlainRewind g.row.T.Denot). p.held) c.self.view_is in
    ap (λ xs. held_of c.self.inside.trail.items xs c.self.inside.marks.items) c.truncate.ensures.items
    ∙ ((cut-keeps c.self.inside.marks.items c.self.inside.trail.items c.self.inside.items.items c.self.inside.stamps.items
    c.self.inside.counter c.args.len low c.self.invariant.0).held ∙ vh)

pub returns-clause-noted : goal.returns-clause-noted
returns-clause-noted g c =
    let vn : noted_to c.self.inside.marks.items (length c.self.inside.items.items) c.self.inside.stamps.items ≡ c.args.self.now.noted =
    ap (λ (p : PlainRewind g.row.T.Denot). p.noted) c.self.view_is in
    ap (λ xs. noted_to c.self.inside.marks.items (length xs) c.self.inside.stamps.items) c.truncate.ensures.items
    ∙ (noted-take c.self.inside.marks.items c.self.inside.items.items c.self.inside.stamps.items c.args.len ∙ ap (take c.args.len) vn)
