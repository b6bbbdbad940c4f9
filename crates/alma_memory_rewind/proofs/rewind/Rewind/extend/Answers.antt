use Rattle.std.proofs.Common.{◌≡◌, ◌+◌, ◌++◌, length, ap, ◌∙◌, arith}
use Rattle.std.proofs.lemmas.List.{length-append}
use Rattle.alma_memory_rewind.specs.PlainRewind.{PlainRewind}
use Rattle.alma_memory_rewind.specs.Trail.{noted_to}
use Rattle.alma_memory_rewind.proofs.Changes.{extend-keeps, noted-extend}
use Rattle.alma_memory_rewind.proofs.rewind.Rewind.extend.Goals as goal

pub invariant_of-self-2 : goal.invariant_of-self-2
invariant_of-self-2 g c =
    let xs = c.self.inside.items.items in
    let items : c.push_all.new.items.items ≡ xs ++ c.args.more.now = c.push_all.ensures
    ∙ ap (λ v. v ++ c.args.more.now) c.reserve.ensures.items in
    let n : c.len-len.result ≡ length xs = c.len-len.ensures ∙ c.self.inside.items.ok.0 in
    let long : length (c.push_all.new.items.items) ≡ length xs + length (c.args.more.now) = ap length items
    ∙ length-append xs (c.args.more.now) in (
      (extend-keeps c.self.inside.marks.items c.self.inside.trail.items xs c.push_all.new.items.items c.self.inside.stamps.items
          c.widen.new.stamps.items c.self.inside.counter _ (c.args.more.now) items c.in_ok-widen.ensures.ok (omega (arith, n))
          c.self.invariant.0).sound,
      omega (arith, long, n, c.saturating_sub.ensures, c.if-saturating_sub-more.false),
    )

pub returns-clause-held : goal.returns-clause-held
returns-clause-held g c =
    let xs = c.self.inside.items.items in
    let items : c.push_all.new.items.items ≡ xs ++ c.args.more.now = c.push_all.ensures
    ∙ ap (λ v. v ++ c.args.more.now) c.reserve.ensures.items in
    let n : c.len-len.result ≡ length xs = c.len-len.ensures ∙ c.self.inside.items.ok.0 in
    (extend-keeps c.self.inside.marks.items c.self.inside.trail.items xs c.push_all.new.items.items c.self.inside.stamps.items
    c.widen.new.stamps.items c.self.inside.counter _ (c.args.more.now) items c.in_ok-widen.ensures.ok (omega (arith, n))
    c.self.invariant.0).held
    ∙ ap (λ (p : PlainRewind g.row.T.Denot). p.held) c.self.view_is

pub returns-clause-noted : goal.returns-clause-noted
returns-clause-noted g c =
    let xs = c.self.inside.items.items in
    let items : c.push_all.new.items.items ≡ xs ++ c.args.more.now = c.push_all.ensures
    ∙ ap (λ v. v ++ c.args.more.now) c.reserve.ensures.items in
    let n : c.len-len.result ≡ length xs = c.len-len.ensures ∙ c.self.inside.items.ok.0 in
    let vn : noted_to c.self.inside.marks.items (length xs) c.self.inside.stamps.items ≡ c.args.self.now.noted =
    ap (λ (p : PlainRewind g.row.T.Denot). p.noted) c.self.view_is in
    noted-extend c.self.inside.marks.items c.self.inside.trail.items xs c.push_all.new.items.items c.self.inside.stamps.items
    c.widen.new.stamps.items c.self.inside.counter _ (c.args.more.now) c.args.self.now.noted items c.in_ok-widen.ensures.ok
    (omega (arith, n))
    c.self.invariant.0 vn
