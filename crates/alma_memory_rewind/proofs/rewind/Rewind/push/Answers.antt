use Rattle.std.proofs.Common.{◌≡◌, ◌+◌, ◌++◌, ◌∷◌, [], length, ap, ◌∙◌, arith}
use Rattle.std.proofs.lemmas.List.{length-append}
use Rattle.alma_memory_rewind.specs.PlainRewind.{PlainRewind}
use Rattle.alma_memory_rewind.specs.Trail.{noted_to}
use Rattle.alma_memory_rewind.proofs.Changes.{extend-keeps, noted-extend}
use Rattle.alma_memory_rewind.proofs.rewind.Rewind.push.Goals as goal

pub invariant_of-self-2 : goal.invariant_of-self-2
invariant_of-self-2 g c =
    let xs = c.self.inside.items.items in
    let items : c.push_reserved.new.self.items ≡ xs ++ c.args.value ∷ [] = c.push_reserved.ensures.items
    ∙ ap (λ v. v ++ c.args.value ∷ []) c.room_for_one.ensures.items in
    let n : c.len-len.result ≡ length xs = c.len-len.ensures ∙ c.self.inside.items.ok.0 in
    let long : length (c.push_reserved.new.self.items) ≡ length xs + length (c.args.value ∷ []) = ap length items
    ∙ length-append xs (c.args.value ∷ []) in (
      (extend-keeps c.self.inside.marks.items c.self.inside.trail.items xs c.push_reserved.new.self.items c.self.inside.stamps.items
          c.widen.new.stamps.items c.self.inside.counter _ (c.args.value ∷ []) items c.in_ok-widen.ensures.ok (omega (arith, n))
          c.self.invariant.0).sound,
      omega (arith, long, n, c.if-len-ge-ITEM_LIMIT.false),
    )

pub returns-clause-held : goal.returns-clause-held
returns-clause-held g c =
    let xs = c.self.inside.items.items in
    let items : c.push_reserved.new.self.items ≡ xs ++ c.args.value ∷ [] = c.push_reserved.ensures.items
    ∙ ap (λ v. v ++ c.args.value ∷ []) c.room_for_one.ensures.items in
    let n : c.len-len.result ≡ length xs = c.len-len.ensures ∙ c.self.inside.items.ok.0 in
    (extend-keeps c.self.inside.marks.items c.self.inside.trail.items xs c.push_reserved.new.self.items c.self.inside.stamps.items
    c.widen.new.stamps.items c.self.inside.counter _ (c.args.value ∷ []) items c.in_ok-widen.ensures.ok (omega (arith, n))
    c.self.invariant.0).held
    ∙ ap (λ (p : PlainRewind g.row.T.Denot). p.held) c.self.view_is

pub returns-clause-noted : goal.returns-clause-noted
returns-clause-noted g c =
    let xs = c.self.inside.items.items in
    let items : c.push_reserved.new.self.items ≡ xs ++ c.args.value ∷ [] = c.push_reserved.ensures.items
    ∙ ap (λ v. v ++ c.args.value ∷ []) c.room_for_one.ensures.items in
    let n : c.len-len.result ≡ length xs = c.len-len.ensures ∙ c.self.inside.items.ok.0 in
    let vn : noted_to c.self.inside.marks.items (length xs) c.self.inside.stamps.items ≡ c.args.self.now.noted =
    ap (λ (p : PlainRewind g.row.T.Denot). p.noted) c.self.view_is in
    noted-extend c.self.inside.marks.items c.self.inside.trail.items xs c.push_reserved.new.self.items c.self.inside.stamps.items
    c.widen.new.stamps.items c.self.inside.counter _ (c.args.value ∷ []) c.args.self.now.noted items c.in_ok-widen.ensures.ok
    (omega (arith, n))
    c.self.invariant.0 vn
