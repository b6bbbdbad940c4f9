use Rattle.std.proofs.Common.{◌≡◌, ◌≤◌, ◌++◌, ◌∷◌, [], length, take, ap, ◌∙◌, arith}
use Rattle.alma_memory_rewind.specs.PlainRewind.{needed}
use Rattle.alma_memory_store.specs.Regions.{end_of, frames_of}
use Rattle.alma_memory_store.specs.PlainStore.{PlainStore, copies_of}
use Rattle.alma_memory_store.proofs.Frames.{laid-end}
use Rattle.alma_memory_store.proofs.Copies.{chooses, states-push, copies-push, states-length}
use Rattle.alma_memory_store.proofs.store.Store.choose.Goals as goal

pub choose_all-requires-clause-top : goal.choose_all-requires-clause-top
choose_all-requires-clause-top c =
    let slots = c.self.inside.slots.now in
    let regions = c.self.inside.regions.now in
    let n = c.self.inside.live in
    let low = (laid-end 0 (take n regions) (length slots) c.self.invariant.0.laid).1 in
    let up : end_of 0 (take n regions) ≤ c.higher-top.result = omega (arith, c.higher-top.ensures, c.end_of_live-end.ensures) in
    let inn : c.higher-top.result ≤ length slots =
    omega (arith, c.higher-top.ensures, c.end_of_live-end.ensures, low, c.needed.ensures.within) in
    let wide : n ≤ c.higher-high.result = omega (arith, c.higher-high.ensures) in
    let long : c.higher-high.result ≤ length regions =
    omega (arith, c.higher-high.ensures, c.self.invariant.0.live, c.needed-2.ensures.within) in
    let held : needed c.reserve.new.self.held ≡ needed c.self.inside.slots.held = ap needed c.reserve.ensures.held in
    let now : length c.reserve.new.self.now ≡ length slots = ap length c.reserve.ensures.now in
    (omega (arith, held, c.needed.ensures.value, c.higher-top.ensures), omega (arith, now, inn))

pub choose_all-requires-clause-high : goal.choose_all-requires-clause-high
choose_all-requires-clause-high c =
    let slots = c.self.inside.slots.now in
    let regions = c.self.inside.regions.now in
    let n = c.self.inside.live in
    let low = (laid-end 0 (take n regions) (length slots) c.self.invariant.0.laid).1 in
    let up : end_of 0 (take n regions) ≤ c.higher-top.result = omega (arith, c.higher-top.ensures, c.end_of_live-end.ensures) in
    let inn : c.higher-top.result ≤ length slots =
    omega (arith, c.higher-top.ensures, c.end_of_live-end.ensures, low, c.needed.ensures.within) in
    let wide : n ≤ c.higher-high.result = omega (arith, c.higher-high.ensures) in
    let long : c.higher-high.result ≤ length regions =
    omega (arith, c.higher-high.ensures, c.self.invariant.0.live, c.needed-2.ensures.within) in
    let held : needed c.reserve-2.new.self.held ≡ needed c.self.inside.regions.held = ap needed c.reserve-2.ensures.held in
    let now : length c.reserve-2.new.self.now ≡ length regions = ap length c.reserve-2.ensures.now in
    (omega (arith, held, c.needed-2.ensures.value, c.higher-high.ensures), omega (arith, now, long))

pub invariant_of-self-2 : goal.invariant_of-self-2
invariant_of-self-2 c =
    let slots = c.self.inside.slots.now in
    let regions = c.self.inside.regions.now in
    let n = c.self.inside.live in
    let low = (laid-end 0 (take n regions) (length slots) c.self.invariant.0.laid).1 in
    let up : end_of 0 (take n regions) ≤ c.higher-top.result = omega (arith, c.higher-top.ensures, c.end_of_live-end.ensures) in
    let inn : c.higher-top.result ≤ length slots =
    omega (arith, c.higher-top.ensures, c.end_of_live-end.ensures, low, c.needed.ensures.within) in
    let wide : n ≤ c.higher-high.result = omega (arith, c.higher-high.ensures) in
    let long : c.higher-high.result ≤ length regions =
    omega (arith, c.higher-high.ensures, c.self.invariant.0.live, c.needed-2.ensures.within) in
    let h = chooses slots regions n c.higher-top.result c.higher-high.result up inn wide long c.self.invariant.0 in
    let sh : c.choose_all.new.slots.held ≡ c.self.inside.slots.held ++ take c.higher-top.result slots ∷ [] =
    c.choose_all.ensures.slots ∙ (ap (λ hs. hs ++ take c.higher-top.result c.reserve.new.self.now ∷ []) c.reserve.ensures.held
    ∙ ap (λ xs. c.self.inside.slots.held ++ take c.higher-top.result xs ∷ []) c.reserve.ensures.now) in
    let rh : c.choose_all.new.regions.held ≡ c.self.inside.regions.held ++ take c.higher-high.result regions ∷ [] =
    c.choose_all.ensures.regions ∙ (ap (λ hs. hs ++ take c.higher-high.result c.reserve-2.new.self.now ∷ []) c.reserve-2.ensures.held
    ∙ ap (λ xs. c.self.inside.regions.held ++ take c.higher-high.result xs ∷ []) c.reserve-2.ensures.now) in
    let lh : c.choose_all.new.lives.items ≡ c.self.inside.lives.items ++ n ∷ [] = c.choose_all.ensures.lives
    ∙ ap (λ xs. xs ++ n ∷ []) c.reserve-3.ensures.items in
    let same : c.choose_all.new.slots.now ≡ slots = c.choose_all.ensures.now.0 ∙ c.reserve.ensures.now in
    let same' : c.choose_all.new.regions.now ≡ regions = c.choose_all.ensures.now.1 ∙ c.reserve-2.ensures.now in
    rw (same, same', sh, rh, lh) (
      c.self.invariant.0,
      states-push c.self.inside.slots.held c.self.inside.regions.held c.self.inside.lives.items (take c.higher-top.result slots)
          (take c.higher-high.result regions) n c.self.invariant.1 h.state,
      c.self.invariant.2,
    )

pub returns-clause-held : goal.returns-clause-held
returns-clause-held c =
    let slots = c.self.inside.slots.now in
    let regions = c.self.inside.regions.now in
    let n = c.self.inside.live in
    let low = (laid-end 0 (take n regions) (length slots) c.self.invariant.0.laid).1 in
    let up : end_of 0 (take n regions) ≤ c.higher-top.result = omega (arith, c.higher-top.ensures, c.end_of_live-end.ensures) in
    let inn : c.higher-top.result ≤ length slots =
    omega (arith, c.higher-top.ensures, c.end_of_live-end.ensures, low, c.needed.ensures.within) in
    let wide : n ≤ c.higher-high.result = omega (arith, c.higher-high.ensures) in
    let long : c.higher-high.result ≤ length regions =
    omega (arith, c.higher-high.ensures, c.self.invariant.0.live, c.needed-2.ensures.within) in
    let h = chooses slots regions n c.higher-top.result c.higher-high.result up inn wide long c.self.invariant.0 in
    let sh : c.choose_all.new.slots.held ≡ c.self.inside.slots.held ++ take c.higher-top.result slots ∷ [] =
    c.choose_all.ensures.slots ∙ (ap (λ hs. hs ++ take c.higher-top.result c.reserve.new.self.now ∷ []) c.reserve.ensures.held
    ∙ ap (λ xs. c.self.inside.slots.held ++ take c.higher-top.result xs ∷ []) c.reserve.ensures.now) in
    let rh : c.choose_all.new.regions.held ≡ c.self.inside.regions.held ++ take c.higher-high.result regions ∷ [] =
    c.choose_all.ensures.regions ∙ (ap (λ hs. hs ++ take c.higher-high.result c.reserve-2.new.self.now ∷ []) c.reserve-2.ensures.held
    ∙ ap (λ xs. c.self.inside.regions.held ++ take c.higher-high.result xs ∷ []) c.reserve-2.ensures.now) in
    let lh : c.choose_all.new.lives.items ≡ c.self.inside.lives.items ++ n ∷ [] = c.choose_all.ensures.lives
    ∙ ap (λ xs. xs ++ n ∷ []) c.reserve-3.ensures.items in
    let same : c.choose_all.new.slots.now ≡ slots = c.choose_all.ensures.now.0 ∙ c.reserve.ensures.now in
    let same' : c.choose_all.new.regions.now ≡ regions = c.choose_all.ensures.now.1 ∙ c.reserve-2.ensures.now in
    let vn : frames_of slots (take n regions) ≡ c.args.self.now.now = ap (λ (p : PlainStore). p.now) c.self.view_is in
    let vh : copies_of c.self.inside.slots.held c.self.inside.regions.held c.self.inside.lives.items ≡ c.args.self.now.held =
    ap (λ (p : PlainStore). p.held) c.self.view_is in
    let len = states-length c.self.inside.slots.held c.self.inside.regions.held c.self.inside.lives.items c.self.invariant.1 in
    let pushed = copies-push c.self.inside.slots.held c.self.inside.regions.held c.self.inside.lives.items (take c.higher-top.result slots)
    (take c.higher-high.result regions) n len.0 len.1 in
    rw (sh, rh, lh) (pushed ∙ (ap (λ f. copies_of c.self.inside.slots.held c.self.inside.regions.held c.self.inside.lives.items ++ f ∷ [])
    (h.frames ∙ vn) ∙ ap (λ hs. hs ++ c.args.self.now.now ∷ []) vh))
