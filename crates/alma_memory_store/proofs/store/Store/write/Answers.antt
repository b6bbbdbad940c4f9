use Rattle.std.proofs.Common.{◌≡◌, ◌<◌, ◌+◌, [], length, get_or, take, refl, sym, ap, ◌∙◌, true, false, arith}
use Rattle.alma_code.specs.Picture.{frames_with_cell}
use Rattle.alma_memory_store.specs.declared.store.Slot.{Slot}
use Rattle.alma_memory_store.specs.Regions.{frames_of, no_region, no_slot}
use Rattle.alma_memory_store.specs.PlainStore.{PlainStore, flags_of}
use Rattle.std.proofs.lemmas.List.{length-take-le}
use Rattle.alma_memory_store.proofs.Finds.{finds, write-result, live-length, region-at}
use Rattle.alma_memory_store.proofs.Flags.{flag-there, flags-kept, on-ok}
use Rattle.alma_memory_store.proofs.store.Store.write.Goals as goal

pub place_of-at-requires : goal.place_of-at-requires
place_of-at-requires c =
    let slots = c.self.inside.slots.now in
    let regions = c.self.inside.regions.now in
    let n = c.self.inside.live in
    let vn : frames_of slots (take n regions) ≡ c.args.self.now.now = ap (λ (p : PlainStore). p.now) c.self.view_is in
    let f = finds slots regions n c.args.frame c.args.slot c.get-region.result c.args.self.now.now c.self.invariant.0 vn c.requires.live
    c.requires.slot_of c.get-region.ensures in
    omega (arith, f.inside, c.len.ensures)

pub write_cell-requires : goal.write_cell-requires
write_cell-requires c =
    let slots = c.self.inside.slots.now in
    let regions = c.self.inside.regions.now in
    let n = c.self.inside.live in
    let vn : frames_of slots (take n regions) ≡ c.args.self.now.now = ap (λ (p : PlainStore). p.now) c.self.view_is in
    let f = finds slots regions n c.args.frame c.args.slot c.get-region.result c.args.self.now.now c.self.invariant.0 vn c.requires.live
    c.requires.slot_of c.get-region.ensures in
    omega (arith, f.inside, c.place_of-at.ensures)

pub returns-clause-now : goal.returns-clause-now
returns-clause-now c =
    let slots = c.self.inside.slots.now in
    let regions = c.self.inside.regions.now in
    let n = c.self.inside.live in
    let vn : frames_of slots (take n regions) ≡ c.args.self.now.now = ap (λ (p : PlainStore). p.now) c.self.view_is in
    let f = finds slots regions n c.args.frame c.args.slot c.get-region.result c.args.self.now.now c.self.invariant.0 vn c.requires.live
    c.requires.slot_of c.get-region.ensures in
    let at = c.place_of-at.ensures in
    let e = c.write_cell.ensures.now in
    let x : Slot = record { kind = (get_or slots (c.get-region.result.base + c.args.slot) no_slot).kind; cell = c.args.cell } in
    write-result slots c.write_cell.new.slots.now (take n regions) c.args.self.now.now
    (frames_with_cell c.args.self.now.now c.args.frame c.args.slot c.args.cell) (c.get-region.result.base + c.args.slot) x _ vn
    (f.write x refl) (rw at at e)

pub returns-clause-free : goal.returns-clause-free
returns-clause-free c = λ h.
    let slots = c.self.inside.slots.now in
    let regions = c.self.inside.regions.now in
    let n = c.self.inside.live in
    let vn : frames_of slots (take n regions) ≡ c.args.self.now.now = ap (λ (p : PlainStore). p.now) c.self.view_is in
    let f = finds slots regions n c.args.frame c.args.slot c.get-region.result c.args.self.now.now c.self.invariant.0 vn c.requires.live
    c.requires.slot_of c.get-region.ensures in
    let wide : length c.args.self.now.now ≡ n = sym (ap length vn) ∙ live-length slots regions n c.self.invariant.0.live in
    let lt : c.args.frame < n = omega (arith, wide, c.requires.live) in
    let there : c.args.frame < length (take n regions) = rw (length-take-le n regions c.self.invariant.0.live) lt in
    let at : get_or (take n regions) c.args.frame no_region ≡ c.get-region.result =
    region-at regions n c.args.frame c.get-region.result lt c.get-region.ensures in
    let vf : flags_of c.self.inside.slots.noted (take n regions) ≡ c.args.self.now.noted =
    ap (λ (p : PlainStore). p.noted) c.self.view_is in
    let own : get_or c.self.inside.slots.noted (c.get-region.result.base + c.args.slot) false ≡ true =
    sym (flag-there c.self.inside.slots.noted (take n regions) c.args.frame c.args.slot c.get-region.result there at f.own)
    ∙ (ap (λ fs. get_or (get_or fs c.args.frame []) c.args.slot false) vf ∙ h) in
    let mine : get_or c.self.inside.slots.noted c.place_of-at.result false ≡ true = rw c.place_of-at.ensures own in
    let done = c.write_cell.ensures.free mine in
    let room : c.self.inside.slots.trail_room ≡ c.args.self.now.trail_room = ap (λ (p : PlainStore). p.trail_room) c.self.view_is in
    (done.0, done.1 ∙ room)

pub returns-clause-noted : goal.returns-clause-noted
returns-clause-noted c =
    let slots = c.self.inside.slots.now in
    let regions = c.self.inside.regions.now in
    let n = c.self.inside.live in
    let vn : frames_of slots (take n regions) ≡ c.args.self.now.now = ap (λ (p : PlainStore). p.now) c.self.view_is in
    let f = finds slots regions n c.args.frame c.args.slot c.get-region.result c.args.self.now.now c.self.invariant.0 vn c.requires.live
    c.requires.slot_of c.get-region.ensures in
    let wide : length c.args.self.now.now ≡ n = sym (ap length vn) ∙ live-length slots regions n c.self.invariant.0.live in
    let lt : c.args.frame < n = omega (arith, wide, c.requires.live) in
    let there : c.args.frame < length (take n regions) = rw (length-take-le n regions c.self.invariant.0.live) lt in
    let at : get_or (take n regions) c.args.frame no_region ≡ c.get-region.result =
    region-at regions n c.args.frame c.get-region.result lt c.get-region.ensures in
    on-ok c.write_cell.result _ _
    (λ h. flag-there c.write_cell.new.slots.noted (take n regions) c.args.frame c.args.slot c.get-region.result there at f.own
    ∙ (ap (λ k. get_or c.write_cell.new.slots.noted k false) (sym c.place_of-at.ensures) ∙ h)) c.write_cell.ensures.noted

pub returns-clause-kept : goal.returns-clause-kept
returns-clause-kept c = λ f s h.
    let vf : flags_of c.self.inside.slots.noted (take c.self.inside.live c.self.inside.regions.now) ≡ c.args.self.now.noted =
    ap (λ (p : PlainStore). p.noted) c.self.view_is in
    flags-kept c.self.inside.slots.noted c.write_cell.new.slots.noted
    (take c.self.inside.live c.self.inside.regions.now) c.write_cell.ensures.kept f s (ap (λ fs. get_or (get_or fs f []) s false) vf ∙ h)
