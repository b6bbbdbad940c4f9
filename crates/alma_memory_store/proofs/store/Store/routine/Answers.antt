use Rattle.std.proofs.Common.{◌≡◌, take, sym, ap, ◌∙◌}
use Rattle.alma_code.specs.Picture.{PlainFrame, last_frame}
use Rattle.alma_memory_store.specs.Regions.{frames_of}
use Rattle.alma_memory_store.specs.PlainStore.{PlainStore}
use Rattle.alma_memory_store.proofs.Finds.{last-region}
use Rattle.alma_memory_store.proofs.store.Store.routine.Goals as goal

pub returns : goal.returns
returns c =
    let slots = c.self.inside.slots.now in
    let regions = c.self.inside.regions.now in
    let n = c.self.inside.live in
    let vn : frames_of slots (take n regions) ≡ c.args.self.now.now = ap (λ (p : PlainStore). p.now) c.self.view_is in
    sym (ap (λ (f : PlainFrame). f.routine)
    (last-region slots regions n c.self.inside.top c.self.invariant.0.live c.self.invariant.0.some c.self.invariant.2))
    ∙ ap (λ fs. (last_frame fs).routine) vn
