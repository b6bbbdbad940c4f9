use Rattle.std.proofs.Common.{◌≡◌, length, take, sym, ap, ◌∙◌, arith}
use Rattle.alma_code.specs.Picture.{without_last, last_frame}
use Rattle.alma_memory_store.specs.Regions.{frames_of}
use Rattle.alma_memory_store.specs.PlainStore.{PlainStore}
use Rattle.alma_memory_store.proofs.Finds.{live-length, last-back}
use Rattle.alma_memory_store.proofs.Copies.{leaves, leaves-state}
use Rattle.alma_memory_store.proofs.store.Store.leave.Goals as goal

pub invariant_of-self : goal.invariant_of-self
invariant_of-self c =
    let slots = c.self.inside.slots.now in
    let regions = c.self.inside.regions.now in
    let n = c.self.inside.live in
    let vn : frames_of slots (take n regions) ≡ c.args.self.now.now = ap (λ (p : PlainStore). p.now) c.self.view_is in
    let wide : length c.args.self.now.now ≡ n = sym (ap length vn) ∙ live-length slots regions n c.self.invariant.0.live in
    (leaves-state slots regions n (omega (arith, wide, c.requires)) c.self.invariant.0, c.self.invariant.1, c.get-self-inside.ensures)

pub returns-clause-now : goal.returns-clause-now
returns-clause-now c =
    let slots = c.self.inside.slots.now in
    let regions = c.self.inside.regions.now in
    let n = c.self.inside.live in
    let vn : frames_of slots (take n regions) ≡ c.args.self.now.now = ap (λ (p : PlainStore). p.now) c.self.view_is in
    leaves slots regions n c.self.invariant.0.live ∙ ap without_last vn

pub returns-clause-back : goal.returns-clause-back
returns-clause-back c =
    let slots = c.self.inside.slots.now in
    let regions = c.self.inside.regions.now in
    let n = c.self.inside.live in
    let vn : frames_of slots (take n regions) ≡ c.args.self.now.now = ap (λ (p : PlainStore). p.now) c.self.view_is in
    sym (last-back slots regions n c.self.inside.top c.self.invariant.0.live c.self.invariant.0.some c.self.invariant.2)
    ∙ ap (λ fs. (last_frame fs).back) vn
