use Rattle.std.proofs.Common.{◌≡◌, ◌<◌, length, get_or, take, ap, sym, subst, ◌∙◌, arith}
use Rattle.alma_code.specs.Picture.{PlainFrame, no_frame}
use Rattle.alma_memory_store.specs.Frames.{AreWhole}
use Rattle.alma_memory_store.specs.Past.{PlainPast}
use Rattle.alma_memory_store.specs.Regions.{frames_of, frame_of}
use Rattle.alma_memory_store.proofs.Frames.{whole-frames, length-cells}
use Rattle.alma_memory_store.proofs.Finds.{live-length, frame-at, region-end}
use Rattle.alma_memory_store.proofs.Gains.{gains-frame, gains-none, if-ok, parts}
use Rattle.alma_memory_store.proofs.Stores.{number-frame}
use Rattle.alma_memory_store.proofs.past.Past.push_frame.Goals as goal

pub returns-then-frame-self : goal.returns-then-frame-self
returns-then-frame-self c =
    let v = c.args.self.now in
    let p = c.self.inside in
    let vn : frames_of p.slots.now.now (take p.live p.regions.now.now) ≡ v.now = ap (λ (q : PlainPast). q.now) c.self.view_is in
    let wide : length v.now ≡ p.live = sym (ap length vn)
    ∙ live-length p.slots.now.now p.regions.now.now p.live c.self.invariant.now.live in
    gains-none v.before v.now (λ f s. f ≡ c.args.frame) _
    (λ f s e d. (let l = number-frame v.now f s (parts v.before v.now f s d).1 in omega (arith, wide, l, e)))

pub returns : goal.returns
returns c =
    let v = c.args.self.now in
    let p = c.self.inside in
    let h = c.self.invariant in
    let r = c.get-region.result in
    let vn : frames_of p.slots.now.now (take p.live p.regions.now.now) ≡ v.now = ap (λ (q : PlainPast). q.now) c.self.view_is in
    let lt : c.args.frame < p.live = omega arith in
    let whole : AreWhole v.now = subst AreWhole vn (whole-frames p.slots.now.now (take p.live p.regions.now.now)) in
    let frame : get_or v.now c.args.frame no_frame ≡ frame_of p.slots.now.now r = ap (λ fs. get_or fs c.args.frame no_frame) (sym vn)
    ∙ frame-at p.slots.now.now p.regions.now.now p.live c.args.frame r h.now.live lt c.get-region.ensures in
    let end = region-end p.slots.now.now p.regions.now.now p.live c.args.frame r h.now lt c.get-region.ensures in
    let size : length (get_or v.now c.args.frame no_frame).cells ≡ r.slots = ap (λ (g : PlainFrame). length g.cells) frame
    ∙ length-cells r p.slots.now.now end in
    if-ok c.push_slots.result _ _ (λ u e. gains-frame v.before v.now c.args.frame r.slots _ _ e whole (omega (arith, size)))
    c.push_slots.ensures
