use Rattle.std.proofs.Common.{◌≡◌, ◌<◌, ◌-◌, length, get_or, take, drop, sym, ap, ◌∙◌, arith}
use Rattle.std.proofs.lemmas.List.{get_or_read, length-map}
use Rattle.alma_memory_rewind.specs.PlainRewind.{PlainRewind, needed, top_copy}
use Rattle.alma_memory_rewind.specs.Trail.{copy_of, held_of, last_mark, no_mark}
use Rattle.alma_memory_rewind.proofs.Changes.{backs, mark-le}
use Rattle.alma_memory_rewind.proofs.Trails.{length-before}
use Rattle.alma_memory_rewind.proofs.rewind.Rewind.back.Goals as goal

pub unwind_to-requires-clause-mark : goal.unwind_to-requires-clause-mark
unwind_to-requires-clause-mark g c =
    let trail = c.self.inside.trail.items in
    let items = c.self.inside.items.items in
    let marks = c.self.inside.marks.items in
    let wide : length marks ≡ length c.args.self.now.held = sym (length-map marks (copy_of trail items))
    ∙ ap (λ (p : PlainRewind g.row.T.Denot). length p.held) c.self.view_is in
    let n : c.len.result ≡ length marks = c.len.ensures ∙ c.self.inside.marks.ok.0 in
    let lt : c.len.result - 1 < length marks = omega (arith, n, wide, c.requires) in
    let is : c.index-mark.result.now ≡ get_or marks (c.len.result - 1) no_mark =
    get_or_read marks (c.len.result - 1) c.index-mark.result.now lt c.index-mark.ensures no_mark in
    rw is (mark-le 0 0 marks (length trail) (length items) c.self.invariant.0.rises (c.len.result - 1) lt)

pub invariant_of-self : goal.invariant_of-self
invariant_of-self g c =
    let trail = c.self.inside.trail.items in
    let items = c.self.inside.items.items in
    let marks = c.self.inside.marks.items in
    let wide : length marks ≡ length c.args.self.now.held = sym (length-map marks (copy_of trail items))
    ∙ ap (λ (p : PlainRewind g.row.T.Denot). length p.held) c.self.view_is in
    let n : c.len.result ≡ length marks = c.len.ensures ∙ c.self.inside.marks.ok.0 in
    let lt : c.len.result - 1 < length marks = omega (arith, n, wide, c.requires) in
    let is : c.index-mark.result.now ≡ last_mark marks =
    get_or_read marks (c.len.result - 1) c.index-mark.result.now lt c.index-mark.ensures no_mark
    ∙ ap (λ k. get_or marks (k - 1) no_mark) n in
    let st = c.unwind_to.ensures.stamped in
    let old = c.unwind_to.ensures.old in
    let ys = c.unwind_to.ensures.items in
    let ts = c.unwind_to.ensures.trail in (
      (backs marks trail c.unwind_to.new.trail.items items c.unwind_to.new.items.items c.self.inside.stamps.items
          c.unwind_to.new.stamps.items
          c.self.inside.counter (omega (arith, n, lt))
          (rw is at ys) (rw is at ts) c.unwind_to.ensures.wide (rw c.as_slice.ensures.value at st) (rw c.as_slice.ensures.value at old)
          c.self.invariant.0).sound,
      rw (ap length ys ∙ length-before (drop c.index-mark.result.now.mark trail) items) c.self.invariant.1,
    )

pub returns-clause-held : goal.returns-clause-held
returns-clause-held g c =
    let trail = c.self.inside.trail.items in
    let items = c.self.inside.items.items in
    let marks = c.self.inside.marks.items in
    let wide : length marks ≡ length c.args.self.now.held = sym (length-map marks (copy_of trail items))
    ∙ ap (λ (p : PlainRewind g.row.T.Denot). length p.held) c.self.view_is in
    let n : c.len.result ≡ length marks = c.len.ensures ∙ c.self.inside.marks.ok.0 in
    let lt : c.len.result - 1 < length marks = omega (arith, n, wide, c.requires) in
    let is : c.index-mark.result.now ≡ last_mark marks =
    get_or_read marks (c.len.result - 1) c.index-mark.result.now lt c.index-mark.ensures no_mark
    ∙ ap (λ k. get_or marks (k - 1) no_mark) n in
    let st = c.unwind_to.ensures.stamped in
    let old = c.unwind_to.ensures.old in
    let ys = c.unwind_to.ensures.items in
    let ts = c.unwind_to.ensures.trail in
    (backs marks trail c.unwind_to.new.trail.items items c.unwind_to.new.items.items c.self.inside.stamps.items c.unwind_to.new.stamps.items
    c.self.inside.counter (omega (arith, n, lt))
    (rw is at ys) (rw is at ts) c.unwind_to.ensures.wide (rw c.as_slice.ensures.value at st) (rw c.as_slice.ensures.value at old)
    c.self.invariant.0).held
    ∙ ap (λ (p : PlainRewind g.row.T.Denot). p.held) c.self.view_is

pub returns-clause-now : goal.returns-clause-now
returns-clause-now g c =
    let trail = c.self.inside.trail.items in
    let items = c.self.inside.items.items in
    let marks = c.self.inside.marks.items in
    let wide : length marks ≡ length c.args.self.now.held = sym (length-map marks (copy_of trail items))
    ∙ ap (λ (p : PlainRewind g.row.T.Denot). length p.held) c.self.view_is in
    let n : c.len.result ≡ length marks = c.len.ensures ∙ c.self.inside.marks.ok.0 in
    let lt : c.len.result - 1 < length marks = omega (arith, n, wide, c.requires) in
    let is : c.index-mark.result.now ≡ last_mark marks =
    get_or_read marks (c.len.result - 1) c.index-mark.result.now lt c.index-mark.ensures no_mark
    ∙ ap (λ k. get_or marks (k - 1) no_mark) n in
    let st = c.unwind_to.ensures.stamped in
    let old = c.unwind_to.ensures.old in
    let ys = c.unwind_to.ensures.items in
    let ts = c.unwind_to.ensures.trail in
    let vh : held_of trail items marks ≡ c.args.self.now.held = ap (λ (p : PlainRewind g.row.T.Denot). p.held) c.self.view_is in
    let b = backs marks trail c.unwind_to.new.trail.items items c.unwind_to.new.items.items c.self.inside.stamps.items
    c.unwind_to.new.stamps.items c.self.inside.counter (omega (arith, n, lt))
    (rw is at ys) (rw is at ts) c.unwind_to.ensures.wide (rw c.as_slice.ensures.value at st) (rw c.as_slice.ensures.value at old)
    c.self.invariant.0 in
    sym (ap (λ hs. take (needed hs) c.unwind_to.new.items.items) vh) ∙ (b.now ∙ ap top_copy vh)
