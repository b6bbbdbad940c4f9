use Rattle.std.proofs.Common.{◌≡◌, ◌-◌, ◌∙◌, ap, sym, set, get_or}
use Rattle.alma_code.specs.Picture.{frame_with, frames_with_cell, no_frame}
use Rattle.alma_back_tape.specs.Inner.Earlier.{PlainEarlier}
use Rattle.alma_memory_store.specs.Carries.{change_of}
use Rattle.alma_back_tape.proofs.Pasts.{wrote-shared, wrote-above, at-above, above-read}
use Rattle.alma_back_tape.proofs.earlier.Earlier.write.Goals as goal

pub returns-then-place-self-clause-before : goal.returns-then-place-self-clause-before
returns-then-place-self-clause-before c =
    wrote-shared c.self.inside.shared c.self.inside.frames.now c.self.inside.above.items c.self.inside.cells c.set.new.self
    (change_of c.args.place c.args.cell)
    c.self.invariant c.if-place-self.true c.in_ok-set.ensures.carry
    ∙ ap (λ (p : PlainEarlier). frames_with_cell p.before c.args.place.frame c.args.place.slot c.args.cell) c.self.view_is

pub write-requires : goal.write-requires
write-requires c =
    let live = rw (← c.self.view_is) at c.requires.live in
    let slot = rw (← c.self.view_is) at c.requires.slot_of in
    let read = above-read c.self.inside.shared c.self.inside.frames.now c.self.inside.above.items c.self.inside.cells c.args.place.frame
    c.index_mut-frame.result.now c.self.invariant c.if-place-self.false live c.index_mut-frame.ensures.value in
    let at = at-above c.self.inside.shared c.self.inside.frames.now c.self.inside.above.items c.self.inside.cells c.args.place.frame
    c.self.invariant c.if-place-self.false in
    rw (read ∙ sym at) slot

pub returns-clause-before : goal.returns-clause-before
returns-clause-before c =
    let above = c.self.inside.above.items in
    let at = c.args.place.frame - c.self.inside.shared in
    let live = rw (← c.self.view_is) at c.requires.live in
    let read : c.index_mut-frame.result.now ≡ get_or above at no_frame =
    above-read c.self.inside.shared c.self.inside.frames.now above c.self.inside.cells c.args.place.frame
    c.index_mut-frame.result.now c.self.invariant c.if-place-self.false live c.index_mut-frame.ensures.value in
    let put : set above at c.write.new.self ≡ frames_with_cell above at c.args.place.slot c.args.cell =
    ap (set above at) (c.write.ensures ∙ ap (λ g. frame_with g c.args.place.slot c.args.cell) read) in
    wrote-above c.self.inside.shared c.self.inside.frames.now above (set above at c.write.new.self) c.self.inside.cells
    c.args.place.frame c.args.place.slot c.args.cell c.self.invariant c.if-place-self.false put
    ∙ ap (λ (p : PlainEarlier). frames_with_cell p.before c.args.place.frame c.args.place.slot c.args.cell) c.self.view_is
