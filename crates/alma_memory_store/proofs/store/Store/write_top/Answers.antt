use Rattle.std.proofs.Common.{◌≡◌, ◌+◌, ◌-◌, length, get_or, take, refl, ap, arith}
use Rattle.alma_code.specs.Picture.{frames_with_cell}
use Rattle.alma_memory_store.specs.declared.store.Slot.{Slot}
use Rattle.alma_memory_store.specs.Regions.{frames_of, no_slot}
use Rattle.alma_memory_store.specs.PlainStore.{PlainStore}
use Rattle.alma_memory_store.proofs.Finds.{finds-top, write-result}
use Rattle.alma_memory_store.proofs.store.Store.write_top.Goals as goal

pub place_of-at-requires : goal.place_of-at-requires
place_of-at-requires c =
    let slots = c.self.inside.slots.now in
    let regions = c.self.inside.regions.now in
    let n = c.self.inside.live in
    let vn : frames_of slots (take n regions) ≡ c.args.self.now.now = ap (λ (p : PlainStore). p.now) c.self.view_is in
    let f = finds-top slots regions n c.args.slot c.self.inside.top c.args.self.now.now c.self.invariant.0 vn c.requires
    c.self.invariant.2 in
    omega (arith, f.inside, c.len.ensures)

pub write_cell-requires : goal.write_cell-requires
write_cell-requires c =
    let slots = c.self.inside.slots.now in
    let regions = c.self.inside.regions.now in
    let n = c.self.inside.live in
    let vn : frames_of slots (take n regions) ≡ c.args.self.now.now = ap (λ (p : PlainStore). p.now) c.self.view_is in
    let f = finds-top slots regions n c.args.slot c.self.inside.top c.args.self.now.now c.self.invariant.0 vn c.requires
    c.self.invariant.2 in
    omega (arith, f.inside, c.place_of-at.ensures)

pub returns-clause-now : goal.returns-clause-now
returns-clause-now c =
    let slots = c.self.inside.slots.now in
    let regions = c.self.inside.regions.now in
    let n = c.self.inside.live in
    let vn : frames_of slots (take n regions) ≡ c.args.self.now.now = ap (λ (p : PlainStore). p.now) c.self.view_is in
    let f = finds-top slots regions n c.args.slot c.self.inside.top c.args.self.now.now c.self.invariant.0 vn c.requires
    c.self.invariant.2 in
    let at = c.place_of-at.ensures in
    let e = c.write_cell.ensures.now in
    let x : Slot = record { kind = (get_or slots (c.self.inside.top.base + c.args.slot) no_slot).kind; cell = c.args.cell } in
    write-result slots c.write_cell.new.slots.now (take n regions) c.args.self.now.now
    (frames_with_cell c.args.self.now.now (length c.args.self.now.now - 1) c.args.slot c.args.cell)
    (c.self.inside.top.base + c.args.slot) x _ vn
    (f.write x refl) (rw at at e)
