use Rattle.std.proofs.Common.{◌≡◌, take, sym, ap, ◌∙◌, arith}
use Rattle.alma_code.specs.Picture.{live_cells}
use Rattle.alma_memory_store.specs.Regions.{frames_of}
use Rattle.alma_memory_store.specs.PlainStore.{PlainStore}
use Rattle.alma_memory_store.proofs.Finds.{last-total}
use Rattle.alma_memory_store.proofs.Totals.{declared-frames}
use Rattle.alma_memory_store.proofs.store.Store.declared.Goals as goal

pub returns-clause-value : goal.returns-clause-value
returns-clause-value c =
    let slots = c.self.inside.slots.now in
    let regions = c.self.inside.regions.now in
    let n = c.self.inside.live in
    let vn : frames_of slots (take n regions) ≡ c.args.self.now.now = ap (λ (p : PlainStore). p.now) c.self.view_is in
    last-total regions n c.self.inside.top c.self.invariant.0.live c.self.invariant.0.some c.self.invariant.2 c.self.invariant.0.totals
    ∙ (sym (declared-frames slots (take n regions)) ∙ ap live_cells vn)

pub returns-clause-limit : goal.returns-clause-limit
returns-clause-limit c =
    let regions = c.self.inside.regions.now in
    let n = c.self.inside.live in
    let is = last-total regions n c.self.inside.top c.self.invariant.0.live c.self.invariant.0.some c.self.invariant.2
    c.self.invariant.0.totals in
    omega (arith, is, c.self.invariant.0.limit)
