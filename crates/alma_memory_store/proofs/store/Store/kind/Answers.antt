use Rattle.std.proofs.Common.{◌≡◌, ◌+◌, get_or, take, sym, ap, ◌∙◌, arith}
use Rattle.alma_memory_store.specs.declared.store.Slot.{Slot}
use Rattle.alma_memory_store.specs.Regions.{frames_of, no_slot}
use Rattle.alma_memory_store.specs.PlainStore.{PlainStore}
use Rattle.alma_memory_store.proofs.Finds.{finds, kind-cell}
use Rattle.std.specs.Prelude.{Some}
use Rattle.std.proofs.lemmas.Option.{get_or_from_slice_get}
use Rattle.alma_memory_store.proofs.store.Store.kind.Goals as goal

pub place_of-at-requires : goal.place_of-at-requires
place_of-at-requires c =
    let slots = c.self.inside.slots.now in
    let regions = c.self.inside.regions.now in
    let n = c.self.inside.live in
    let vn : frames_of slots (take n regions) ≡ c.args.self.now.now = ap (λ (p : PlainStore). p.now) c.self.view_is in
    let own = kind-cell slots (take n regions) c.args.self.now.now c.args.frame c.args.slot vn c.requires.slot_of in
    let f = finds slots regions n c.args.frame c.args.slot c.get-region.result c.args.self.now.now c.self.invariant.0 vn c.requires.live own
    c.get-region.ensures in
    omega (arith, f.inside, c.len.ensures)

pub get-requires : goal.get-requires
get-requires c =
    let slots = c.self.inside.slots.now in
    let regions = c.self.inside.regions.now in
    let n = c.self.inside.live in
    let vn : frames_of slots (take n regions) ≡ c.args.self.now.now = ap (λ (p : PlainStore). p.now) c.self.view_is in
    let own = kind-cell slots (take n regions) c.args.self.now.now c.args.frame c.args.slot vn c.requires.slot_of in
    let f = finds slots regions n c.args.frame c.args.slot c.get-region.result c.args.self.now.now c.self.invariant.0 vn c.requires.live own
    c.get-region.ensures in
    omega (arith, f.inside, c.place_of-at.ensures)

pub returns : goal.returns
returns c =
    let slots = c.self.inside.slots.now in
    let regions = c.self.inside.regions.now in
    let n = c.self.inside.live in
    let vn : frames_of slots (take n regions) ≡ c.args.self.now.now = ap (λ (p : PlainStore). p.now) c.self.view_is in
    let own = kind-cell slots (take n regions) c.args.self.now.now c.args.frame c.args.slot vn c.requires.slot_of in
    let f = finds slots regions n c.args.frame c.args.slot c.get-region.result c.args.self.now.now c.self.invariant.0 vn c.requires.live own
    c.get-region.ensures in
    let got : get_or slots c.place_of-at.result no_slot ≡ c.get.result =
    get_or_from_slice_get slots c.place_of-at.result c.get.result no_slot c.get.ensures in
    let here : get_or slots (c.get-region.result.base + c.args.slot) no_slot ≡ c.get.result =
    ap (λ k. get_or slots k no_slot) (sym c.place_of-at.ensures) ∙ got in
    f.kind ∙ ap (λ (x : Slot). Some x.kind) here
