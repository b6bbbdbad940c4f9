use Rattle.std.proofs.Common.{◌≡◌, ◌<◌, ◌+◌, sym, ap, ◌∙◌, arith}
use Rattle.alma_memory_rewind.specs.PlainRewind.{needed, top_copy, first_or}
use Rattle.alma_memory_store.specs.Regions.{slot_number}
use Rattle.std.specs.Prelude.{slice_get, Some}
use Rattle.std.specs.BTreeMap.{get}
use Rattle.std.specs.Ordering.{nat_cmp}
use Rattle.alma_memory_store.specs.Numbers.{number_of}
use Rattle.alma_memory_store.specs.Past.{PlainPast}
use Rattle.alma_memory_store.proofs.Finds.{number-live, number-past, slot-end}
use Rattle.alma_memory_store.proofs.past.Past.old_number.Goals as goal

pub get-requires : goal.get-requires
get-requires c =
    let p = c.self.inside in
    let h = c.self.invariant in
    let f = c.args.place.frame in
    let s = c.args.place.slot in
    omega (arith, h.before.live, h.regions.within)

pub place_of-at-requires : goal.place_of-at-requires
place_of-at-requires c =
    let p = c.self.inside in
    let h = c.self.invariant in
    let f = c.args.place.frame in
    let s = c.args.place.slot in
    let low : f < needed p.regions.now.held = omega (arith, h.before.live) in
    let was : slice_get (top_copy p.regions.now.held) f ≡ Some c.old_or-region.result =
    h.regions.is f low ∙ (ap (first_or (get nat_cmp p.old_regions f)) c.get.ensures ∙ sym c.old_or-region.ensures) in
    let end = slot-end (top_copy p.slots.now.held) (top_copy p.regions.now.held) p.old_live f s c.old_or-region.result h.before
    (omega arith) was (omega arith) in
    omega (arith, end, c.len.ensures, h.slots.within)

pub get-requires-2 : goal.get-requires-2
get-requires-2 c =
    let p = c.self.inside in
    let h = c.self.invariant in
    let f = c.args.place.frame in
    let s = c.args.place.slot in
    let low : f < needed p.regions.now.held = omega (arith, h.before.live) in
    let was : slice_get (top_copy p.regions.now.held) f ≡ Some c.old_or-region.result =
    h.regions.is f low ∙ (ap (first_or (get nat_cmp p.old_regions f)) c.get.ensures ∙ sym c.old_or-region.ensures) in
    let end = slot-end (top_copy p.slots.now.held) (top_copy p.regions.now.held) p.old_live f s c.old_or-region.result h.before
    (omega arith) was (omega arith) in
    omega (arith, end, c.place_of-at.ensures, h.slots.within)

pub returns : goal.returns
returns c =
    let p = c.self.inside in
    let h = c.self.invariant in
    let f = c.args.place.frame in
    let s = c.args.place.slot in
    let low : f < needed p.regions.now.held = omega (arith, h.before.live) in
    let was : slice_get (top_copy p.regions.now.held) f ≡ Some c.old_or-region.result =
    h.regions.is f low ∙ (ap (first_or (get nat_cmp p.old_regions f)) c.get.ensures ∙ sym c.old_or-region.ensures) in
    let end = slot-end (top_copy p.slots.now.held) (top_copy p.regions.now.held) p.old_live f s c.old_or-region.result h.before
    (omega arith) was (omega arith) in
    let slot : slice_get (top_copy p.slots.now.held) (c.old_or-region.result.base + s) ≡ Some c.old_or.result =
    h.slots.is (c.old_or-region.result.base + s) end
    ∙ (ap (λ k. first_or (get nat_cmp p.old_slots k) (slice_get p.slots.now.now k)) (sym c.place_of-at.ensures)
    ∙ (ap (first_or (get nat_cmp p.old_slots c.place_of-at.result)) c.get-2.ensures ∙ sym c.old_or.ensures)) in
    c.number_in.ensures ∙ (ap slot_number (sym slot)
    ∙ (sym (number-live (top_copy p.slots.now.held) (top_copy p.regions.now.held) p.old_live f s c.old_or-region.result h.before.live
    (omega arith) was (omega arith))
    ∙ ap (λ (q : PlainPast). number_of q.before f s) c.self.view_is))

pub returns-then-place-region : goal.returns-then-place-region
returns-then-place-region c =
    let p = c.self.inside in
    let h = c.self.invariant in
    let f = c.args.place.frame in
    let s = c.args.place.slot in
    let low : f < needed p.regions.now.held = omega (arith, h.before.live) in
    let was : slice_get (top_copy p.regions.now.held) f ≡ Some c.old_or-region.result =
    h.regions.is f low ∙ (ap (first_or (get nat_cmp p.old_regions f)) c.get.ensures ∙ sym c.old_or-region.ensures) in
    sym (number-past (top_copy p.slots.now.held) (top_copy p.regions.now.held) p.old_live f s c.old_or-region.result h.before.live
    (omega arith) was (omega arith))
    ∙ ap (λ (q : PlainPast). number_of q.before f s) c.self.view_is
