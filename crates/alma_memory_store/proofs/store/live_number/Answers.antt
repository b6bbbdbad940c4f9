use Rattle.std.proofs.Common.{sym, ap, ◌∙◌, arith}
use Rattle.alma_memory_store.specs.Regions.{slot_number}
use Rattle.std.specs.Prelude.{slice_get}
use Rattle.alma_memory_store.proofs.Finds.{number-live, slot-end}
use Rattle.alma_memory_store.proofs.store.live_number.Goals as goal

pub place_of-at-requires : goal.place_of-at-requires
place_of-at-requires c =
    let slots = c.args.slots.now.now in
    let regions = c.args.regions.now.now in
    let end = slot-end slots regions c.args.live c.args.place.frame c.args.place.slot c.get-region.result c.requires (omega arith)
    c.get-region.ensures (omega arith) in
    omega (arith, end, c.len.ensures)

pub get-requires : goal.get-requires
get-requires c =
    let slots = c.args.slots.now.now in
    let regions = c.args.regions.now.now in
    let end = slot-end slots regions c.args.live c.args.place.frame c.args.place.slot c.get-region.result c.requires (omega arith)
    c.get-region.ensures (omega arith) in
    omega (arith, end, c.place_of-at.ensures)

pub returns : goal.returns
returns c =
    let slots = c.args.slots.now.now in
    let regions = c.args.regions.now.now in
    c.number_in.ensures ∙ (ap slot_number (sym c.get.ensures) ∙ (ap (λ k. slot_number (slice_get slots k)) c.place_of-at.ensures
    ∙ sym (number-live slots regions c.args.live c.args.place.frame c.args.place.slot c.get-region.result c.requires.live (omega arith)
    c.get-region.ensures (omega arith))))
