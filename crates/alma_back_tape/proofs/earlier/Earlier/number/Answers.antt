use Rattle.std.proofs.Common.{◌≡◌, ◌<◌, ◌-◌, ◌∙◌, ap, sym, arith, length, get_or}
use Rattle.std.proofs.lemmas.List.{get_or_read}
use Rattle.alma_code.specs.Picture.{no_frame}
use Rattle.alma_memory_store.specs.Numbers.{number_of, number_in}
use Rattle.alma_back_tape.specs.Inner.Earlier.{PlainEarlier, over}
use Rattle.alma_back_tape.proofs.Lives.{whole-at}
use Rattle.alma_back_tape.proofs.Pasts.{at-above}
use Rattle.alma_back_tape.proofs.Contents.{number-frames_with_old_cells, number-shared, number-above}
use Rattle.alma_back_tape.proofs.earlier.Earlier.number.Goals as goal

pub returns-then-place-self : goal.returns-then-place-self
returns-then-place-self c =
    let p = c.args.place in
    let now = c.self.inside.frames.now in
    let whole = rw (← c.self.view_is) at c.requires.now in
    c.laid_over.ensures
    ∙ (ap (λ o. over o c.get.result) c.number.ensures ∙ (ap (λ o. over (number_of now p.frame p.slot) o) c.get.ensures
    ∙ (sym (number-frames_with_old_cells now c.self.inside.cells p.frame p.slot whole)
    ∙ (sym (number-shared c.self.inside.shared now c.self.inside.above.items c.self.inside.cells p.frame p.slot c.self.invariant
    c.if-place-self.true)
    ∙ ap (λ (q : PlainEarlier). number_of q.before p.frame p.slot) c.self.view_is))))

pub number-requires-2 : goal.number-requires-2
number-requires-2 c =
    let above = c.self.inside.above.items in
    let at = c.args.place.frame - c.self.inside.shared in
    let lt : at < length above = omega (arith, c.if-at-len.false, c.len.ensures, c.self.inside.above.ok.0) in
    let read : c.index.result.now ≡ get_or above at no_frame = get_or_read above at c.index.result.now lt c.index.ensures no_frame in
    let place = at-above c.self.inside.shared c.self.inside.frames.now above c.self.inside.cells c.args.place.frame c.self.invariant
    c.if-place-self.false in
    rw (read ∙ sym place) (whole-at _ c.args.place.frame (rw (← c.self.view_is) at c.requires.before))

pub returns : goal.returns
returns c =
    let p = c.args.place in
    let above = c.self.inside.above.items in
    let at = p.frame - c.self.inside.shared in
    let lt : at < length above = omega (arith, c.if-at-len.false, c.len.ensures, c.self.inside.above.ok.0) in
    let read : c.index.result.now ≡ get_or above at no_frame = get_or_read above at c.index.result.now lt c.index.ensures no_frame in
    c.number-2.ensures
    ∙ (ap (λ g. number_in g p.slot) read
    ∙ (sym (number-above c.self.inside.shared c.self.inside.frames.now above c.self.inside.cells p.frame p.slot c.self.invariant
    c.if-place-self.false)
    ∙ ap (λ (q : PlainEarlier). number_of q.before p.frame p.slot) c.self.view_is))
