use Rattle.std.proofs.Common.{◌≡◌, ◌<◌, ◌≤◌, ◌-◌, length, get_or, drop, sym, ap, subst, ◌∙◌, arith}
use Rattle.std.specs.BTreeMap.{get}
use Rattle.std.specs.Ordering.{nat_cmp}
use Rattle.std.proofs.lemmas.List.{get_or_read, length-map}
use Rattle.alma_memory_rewind.specs.declared.rewind.Mark.{Mark}
use Rattle.alma_memory_rewind.specs.PlainRewind.{PlainRewind, IsOlds}
use Rattle.alma_memory_rewind.specs.Trail.{copy_of, first_of, last_mark, no_mark}
use Rattle.alma_memory_rewind.proofs.Changes.{mark-le}
use Rattle.alma_memory_rewind.proofs.Olds.{olds-are, if-ok}
use Rattle.alma_memory_rewind.proofs.rewind.Rewind.olds.Goals as goal

pub olds_of-requires : goal.olds_of-requires
olds_of-requires g c =
    let trail = c.self.inside.trail.items in
    let items = c.self.inside.items.items in
    let marks = c.self.inside.marks.items in
    let wide : length marks ≡ length c.args.self.now.held = sym (length-map marks (copy_of trail items))
    ∙ ap (λ (p : PlainRewind g.row.T.Denot). length p.held) c.self.view_is in
    let n : c.len.result ≡ length marks = c.len.ensures ∙ c.self.inside.marks.ok.0 in
    let lt : c.len.result - 1 < length marks = omega (arith, n, wide, c.requires) in
    let is : c.index-mark.result.now ≡ get_or marks (c.len.result - 1) no_mark =
    get_or_read marks (c.len.result - 1) c.index-mark.result.now lt c.index-mark.ensures no_mark in
    rw (is, c.as_slice.ensures.value) (mark-le 0 0 marks (length trail) (length items) c.self.invariant.0.rises (c.len.result - 1) lt)

pub returns : goal.returns
returns g c =
    let trail = c.self.inside.trail.items in
    let items = c.self.inside.items.items in
    let marks = c.self.inside.marks.items in
    let wide : length marks ≡ length c.args.self.now.held = sym (length-map marks (copy_of trail items))
    ∙ ap (λ (p : PlainRewind g.row.T.Denot). length p.held) c.self.view_is in
    let n : c.len.result ≡ length marks = c.len.ensures ∙ c.self.inside.marks.ok.0 in
    let lt : c.len.result - 1 < length marks = omega (arith, n, wide, c.requires) in
    let some : 1 ≤ length marks = omega (arith, n, lt) in
    let is : c.index-mark.result.now ≡ last_mark marks =
    get_or_read marks (c.len.result - 1) c.index-mark.result.now lt c.index-mark.ensures no_mark
    ∙ ap (λ k. get_or marks (k - 1) no_mark) n in
    if-ok c.olds_of.result _ _
    (λ olds h. subst (λ (p : PlainRewind g.row.T.Denot). IsOlds p.now p.held (get nat_cmp olds)) c.self.view_is
    (olds-are marks trail items (get nat_cmp olds) some c.self.invariant.0.rises
    (λ at. h at ∙ (ap (λ (m : Mark). first_of (drop m.mark c.as_slice.result.now) at) is
    ∙ ap (λ ns. first_of (drop (last_mark marks).mark ns) at) c.as_slice.ensures.value))))
    c.olds_of.ensures
