use Rattle.std.proofs.Common.{◌≡◌, length, take, sym, ap, subst, ◌∙◌, arith}
use Rattle.alma_code.specs.Picture.{live_cells}
use Rattle.alma_memory_store.specs.Regions.{frames_of, declared_in}
use Rattle.alma_memory_store.specs.PlainStore.{PlainStore}
use Rattle.alma_memory_store.proofs.Finds.{live-length}
use Rattle.alma_memory_store.proofs.Frames.{whole-frames}
use Rattle.alma_memory_store.proofs.Totals.{declared-frames}
use Rattle.alma_memory_store.specs.Frames.{AreLive}
use Rattle.alma_memory_store.proofs.store.Store.len.Goals as goal

pub returns-clause-value : goal.returns-clause-value
returns-clause-value c =
    let slots = c.self.inside.slots.now in
    let regions = c.self.inside.regions.now in
    let n = c.self.inside.live in
    let vn : frames_of slots (take n regions) ≡ c.args.self.now.now = ap (λ (p : PlainStore). p.now) c.self.view_is in
    sym (live-length slots regions n c.self.invariant.0.live) ∙ ap length vn

pub returns-clause-live : goal.returns-clause-live
returns-clause-live c =
    let slots = c.self.inside.slots.now in
    let regions = c.self.inside.regions.now in
    let n = c.self.inside.live in
    let s = c.self.invariant.0 in
    let vn : frames_of slots (take n regions) ≡ c.args.self.now.now = ap (λ (p : PlainStore). p.now) c.self.view_is in
    let wide : length (frames_of slots (take n regions)) ≡ n = live-length slots regions n s.live in
    let sum : live_cells (frames_of slots (take n regions)) ≡ declared_in (take n regions) = declared-frames slots (take n regions) in
    subst AreLive vn (record {
      some = omega (arith, wide, s.some);
      few = omega (arith, wide, s.few);
      declared = omega (arith, sum, s.limit);
      whole = whole-frames slots (take n regions);
    })
