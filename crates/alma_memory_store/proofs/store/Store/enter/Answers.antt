use Rattle.std.proofs.Common.{◌≡◌, ◌≤◌, ◌+◌, ◌-◌, ◌++◌, ◌∷◌, [], List, length, get_or, take, sym, ap, refl, subst, ◌∙◌, false, arith}
use Rattle.alma_code.specs.Picture.{live_cells}
use Rattle.alma_memory_store.specs.declared.store.Region.{Region}
use Rattle.alma_memory_store.specs.declared.store.Slot.{Slot}
use Rattle.alma_memory_store.specs.Regions.{end_of, frames_of, frame_with_slots, declared_in}
use Rattle.alma_memory_store.specs.PlainStore.{PlainStore, IsState, AreStates, flags_of}
use Rattle.alma_base.specs.Limits.{cell_limit}
use Rattle.alma_memory_store.proofs.Frames.{laid-end}
use Rattle.alma_memory_store.proofs.Totals.{declared-frames}
use Rattle.std.specs.Prelude.{slice_get, Some}
use Rattle.alma_memory_store.proofs.Finds.{if-err, live-length, put-last}
use Rattle.alma_memory_store.proofs.Flags.{enter-kept, low-kept}
use Rattle.alma_memory_store.proofs.Copies.{enters, stays-state, stays-frames}
use Rattle.alma_memory_store.proofs.store.Store.enter.Goals as goal

pub lay-requires-clause-base : goal.lay-requires-clause-base
lay-requires-clause-base c =
    let slots = c.self.inside.slots.now in
    let regions = c.self.inside.regions.now in
    let n = c.self.inside.live in
    let low = (laid-end 0 (take n regions) (length slots) c.self.invariant.0.laid).1 in
    let up : end_of 0 (take n regions) ≤ c.higher-base.result = omega (arith, c.higher-base.ensures, c.end_of_live-end.ensures) in
    let inn : c.higher-base.result ≤ length slots =
    omega (arith, c.higher-base.ensures, c.end_of_live-end.ensures, low, c.needed.ensures.within) in
    inn

pub invariant_of-self : goal.invariant_of-self
invariant_of-self c =
    let slots = c.self.inside.slots.now in
    let regions = c.self.inside.regions.now in
    let n = c.self.inside.live in
    let low = (laid-end 0 (take n regions) (length slots) c.self.invariant.0.laid).1 in
    let up : end_of 0 (take n regions) ≤ c.higher-base.result = omega (arith, c.higher-base.ensures, c.end_of_live-end.ensures) in
    let inn : c.higher-base.result ≤ length slots =
    omega (arith, c.higher-base.ensures, c.end_of_live-end.ensures, low, c.needed.ensures.within) in
    let vn : frames_of slots (take n regions) ≡ c.args.self.now.now = ap (λ (p : PlainStore). p.now) c.self.view_is in
    let state : IsState c.lay.new.slots.now regions n =
    stays-state slots c.lay.new.slots.now regions n c.higher-base.result up c.lay.ensures.wide c.self.invariant.0 in
    let frames : frames_of c.lay.new.slots.now (take n regions) ≡ c.args.self.now.now =
    stays-frames slots c.lay.new.slots.now regions n c.higher-base.result up c.lay.ensures.agrees c.self.invariant.0 ∙ vn in
    let states : AreStates c.lay.new.slots.held c.self.inside.regions.held c.self.inside.lives.items =
    subst (λ v. AreStates v c.self.inside.regions.held c.self.inside.lives.items) (sym c.lay.ensures.held) c.self.invariant.1 in
    (state, states, c.self.invariant.2)

pub returns-in_err-lay-clause-now : goal.returns-in_err-lay-clause-now
returns-in_err-lay-clause-now c =
    let slots = c.self.inside.slots.now in
    let regions = c.self.inside.regions.now in
    let n = c.self.inside.live in
    let low = (laid-end 0 (take n regions) (length slots) c.self.invariant.0.laid).1 in
    let up : end_of 0 (take n regions) ≤ c.higher-base.result = omega (arith, c.higher-base.ensures, c.end_of_live-end.ensures) in
    let inn : c.higher-base.result ≤ length slots =
    omega (arith, c.higher-base.ensures, c.end_of_live-end.ensures, low, c.needed.ensures.within) in
    let vn : frames_of slots (take n regions) ≡ c.args.self.now.now = ap (λ (p : PlainStore). p.now) c.self.view_is in
    let state : IsState c.lay.new.slots.now regions n =
    stays-state slots c.lay.new.slots.now regions n c.higher-base.result up c.lay.ensures.wide c.self.invariant.0 in
    let frames : frames_of c.lay.new.slots.now (take n regions) ≡ c.args.self.now.now =
    stays-frames slots c.lay.new.slots.now regions n c.higher-base.result up c.lay.ensures.agrees c.self.invariant.0 ∙ vn in
    let states : AreStates c.lay.new.slots.held c.self.inside.regions.held c.self.inside.lives.items =
    subst (λ v. AreStates v c.self.inside.regions.held c.self.inside.lives.items) (sym c.lay.ensures.held) c.self.invariant.1 in
    if-err c.from_residual.result _ _ _ _ c.from_residual.ensures.1 frames

pub returns-in_err-lay-clause-kept : goal.returns-in_err-lay-clause-kept
returns-in_err-lay-clause-kept c = λ f s h.
    let slots = c.self.inside.slots.now in
    let regions = c.self.inside.regions.now in
    let n = c.self.inside.live in
    let low = (laid-end 0 (take n regions) (length slots) c.self.invariant.0.laid).1 in
    let up : end_of 0 (take n regions) ≤ c.higher-base.result = omega (arith, c.higher-base.ensures, c.end_of_live-end.ensures) in
    let inn : c.higher-base.result ≤ length slots =
    omega (arith, c.higher-base.ensures, c.end_of_live-end.ensures, low, c.needed.ensures.within) in
    let vf : flags_of c.self.inside.slots.noted (take n regions) ≡ c.args.self.now.noted =
    ap (λ (p : PlainStore). p.noted) c.self.view_is in
    low-kept c.self.inside.slots.noted c.lay.new.slots.noted (take n regions) c.higher-base.result (length slots) c.self.invariant.0.laid up
    c.lay.ensures.kept f s (ap (λ fs. get_or (get_or fs f []) s false) vf ∙ h)

pub invariant_of-self-in_err-put : goal.invariant_of-self-in_err-put
invariant_of-self-in_err-put c =
    let slots = c.self.inside.slots.now in
    let regions = c.self.inside.regions.now in
    let n = c.self.inside.live in
    let low = (laid-end 0 (take n regions) (length slots) c.self.invariant.0.laid).1 in
    let up : end_of 0 (take n regions) ≤ c.higher-base.result = omega (arith, c.higher-base.ensures, c.end_of_live-end.ensures) in
    let inn : c.higher-base.result ≤ length slots =
    omega (arith, c.higher-base.ensures, c.end_of_live-end.ensures, low, c.needed.ensures.within) in
    let vn : frames_of slots (take n regions) ≡ c.args.self.now.now = ap (λ (p : PlainStore). p.now) c.self.view_is in
    let state : IsState c.lay.new.slots.now regions n =
    stays-state slots c.lay.new.slots.now regions n c.higher-base.result up c.lay.ensures.wide c.self.invariant.0 in
    let frames : frames_of c.lay.new.slots.now (take n regions) ≡ c.args.self.now.now =
    stays-frames slots c.lay.new.slots.now regions n c.higher-base.result up c.lay.ensures.agrees c.self.invariant.0 ∙ vn in
    let states : AreStates c.lay.new.slots.held c.self.inside.regions.held c.self.inside.lives.items =
    subst (λ v. AreStates v c.self.inside.regions.held c.self.inside.lives.items) (sym c.lay.ensures.held) c.self.invariant.1 in
    let same : c.put.new.regions.now ≡ regions = c.in_err-put.ensures.same in (
      subst (λ v. IsState c.lay.new.slots.now v n) (sym same) state,
      subst (λ v. AreStates c.lay.new.slots.held v c.self.inside.lives.items) (sym c.put.ensures.held) states,
      subst (λ v. slice_get v (n - 1) ≡ Some c.self.inside.top) (sym same) c.self.invariant.2,
    )

pub returns-in_err-put-clause-now : goal.returns-in_err-put-clause-now
returns-in_err-put-clause-now c =
    let slots = c.self.inside.slots.now in
    let regions = c.self.inside.regions.now in
    let n = c.self.inside.live in
    let low = (laid-end 0 (take n regions) (length slots) c.self.invariant.0.laid).1 in
    let up : end_of 0 (take n regions) ≤ c.higher-base.result = omega (arith, c.higher-base.ensures, c.end_of_live-end.ensures) in
    let inn : c.higher-base.result ≤ length slots =
    omega (arith, c.higher-base.ensures, c.end_of_live-end.ensures, low, c.needed.ensures.within) in
    let vn : frames_of slots (take n regions) ≡ c.args.self.now.now = ap (λ (p : PlainStore). p.now) c.self.view_is in
    let state : IsState c.lay.new.slots.now regions n =
    stays-state slots c.lay.new.slots.now regions n c.higher-base.result up c.lay.ensures.wide c.self.invariant.0 in
    let frames : frames_of c.lay.new.slots.now (take n regions) ≡ c.args.self.now.now =
    stays-frames slots c.lay.new.slots.now regions n c.higher-base.result up c.lay.ensures.agrees c.self.invariant.0 ∙ vn in
    let states : AreStates c.lay.new.slots.held c.self.inside.regions.held c.self.inside.lives.items =
    subst (λ v. AreStates v c.self.inside.regions.held c.self.inside.lives.items) (sym c.lay.ensures.held) c.self.invariant.1 in
    let same : c.put.new.regions.now ≡ regions = c.in_err-put.ensures.same in
    let all = ap (λ v. frames_of c.lay.new.slots.now (take n v)) same ∙ frames in
    if-err c.from_residual-in_err-put.result _ _ _ _ c.from_residual-in_err-put.ensures.1 all

pub returns-in_err-put-clause-kept : goal.returns-in_err-put-clause-kept
returns-in_err-put-clause-kept c = λ f s h.
    let slots = c.self.inside.slots.now in
    let regions = c.self.inside.regions.now in
    let n = c.self.inside.live in
    let low = (laid-end 0 (take n regions) (length slots) c.self.invariant.0.laid).1 in
    let up : end_of 0 (take n regions) ≤ c.higher-base.result = omega (arith, c.higher-base.ensures, c.end_of_live-end.ensures) in
    let inn : c.higher-base.result ≤ length slots =
    omega (arith, c.higher-base.ensures, c.end_of_live-end.ensures, low, c.needed.ensures.within) in
    let same : c.put.new.regions.now ≡ regions = c.in_err-put.ensures.same in
    let vf : flags_of c.self.inside.slots.noted (take n regions) ≡ c.args.self.now.noted =
    ap (λ (p : PlainStore). p.noted) c.self.view_is in
    ap (λ v. get_or (get_or (flags_of c.lay.new.slots.noted (take n v)) f []) s false) same
    ∙ low-kept c.self.inside.slots.noted c.lay.new.slots.noted (take n regions) c.higher-base.result (length slots) c.self.invariant.0.laid
    up c.lay.ensures.kept f s (ap (λ fs. get_or (get_or fs f []) s false) vf ∙ h)

pub invariant_of-self-2 : goal.invariant_of-self-2
invariant_of-self-2 c =
    let slots = c.self.inside.slots.now in
    let regions = c.self.inside.regions.now in
    let n = c.self.inside.live in
    let low = (laid-end 0 (take n regions) (length slots) c.self.invariant.0.laid).1 in
    let up : end_of 0 (take n regions) ≤ c.higher-base.result = omega (arith, c.higher-base.ensures, c.end_of_live-end.ensures) in
    let inn : c.higher-base.result ≤ length slots =
    omega (arith, c.higher-base.ensures, c.end_of_live-end.ensures, low, c.needed.ensures.within) in
    let more : List Slot = c.args.slots.now in
    let r : Region = record {
      routine = c.args.routine;
      back = c.args.back;
      declared = c.args.declared;
      total = c.declared.result
          + c.args.declared;
      base = c.higher-base.result;
      slots = length c.args.slots.now;
    } in
    let vn : frames_of slots (take n regions) ≡ c.args.self.now.now = ap (λ (p : PlainStore). p.now) c.self.view_is in
    let wide : length c.args.self.now.now ≡ n = sym (ap length vn) ∙ live-length slots regions n c.self.invariant.0.live in
    let laid : c.lay.new.slots.now ≡ take c.higher-base.result slots ++ more = c.in_ok-lay.ensures.all in
    let put : take (n + 1) c.put.new.regions.now ≡ take n regions ++ r ∷ [] = c.in_ok-put.ensures.now in
    let sum : live_cells c.args.self.now.now ≡ declared_in (take n regions) = sym (ap live_cells vn)
    ∙ declared-frames slots (take n regions) in
    let total : c.declared.result + c.args.declared ≡ declared_in (take n regions) + c.args.declared =
    omega (arith, c.declared.ensures.value, sum) in
    let limit : c.declared.result + c.args.declared ≤ cell_limit = omega (arith, c.declared.ensures.value, c.requires.limit) in
    let e = enters slots c.lay.new.slots.now more regions c.put.new.regions.now n c.higher-base.result r up inn c.self.invariant.0 laid
    (omega (arith, wide, c.requires.depth)) total limit refl refl c.in_ok-put.ensures.wide put in (
      e.state,
      subst (λ v. AreStates v c.put.new.regions.held c.self.inside.lives.items) (sym c.lay.ensures.held)
          (subst (λ v. AreStates c.self.inside.slots.held v c.self.inside.lives.items) (sym c.put.ensures.held) c.self.invariant.1),
      put-last c.put.new.regions.now regions n r c.self.invariant.0.live put,
    )

pub returns-clause-now : goal.returns-clause-now
returns-clause-now c =
    let slots = c.self.inside.slots.now in
    let regions = c.self.inside.regions.now in
    let n = c.self.inside.live in
    let low = (laid-end 0 (take n regions) (length slots) c.self.invariant.0.laid).1 in
    let up : end_of 0 (take n regions) ≤ c.higher-base.result = omega (arith, c.higher-base.ensures, c.end_of_live-end.ensures) in
    let inn : c.higher-base.result ≤ length slots =
    omega (arith, c.higher-base.ensures, c.end_of_live-end.ensures, low, c.needed.ensures.within) in
    let more : List Slot = c.args.slots.now in
    let r : Region = record {
      routine = c.args.routine;
      back = c.args.back;
      declared = c.args.declared;
      total = c.declared.result
          + c.args.declared;
      base = c.higher-base.result;
      slots = length c.args.slots.now;
    } in
    let vn : frames_of slots (take n regions) ≡ c.args.self.now.now = ap (λ (p : PlainStore). p.now) c.self.view_is in
    let wide : length c.args.self.now.now ≡ n = sym (ap length vn) ∙ live-length slots regions n c.self.invariant.0.live in
    let laid : c.lay.new.slots.now ≡ take c.higher-base.result slots ++ more = c.in_ok-lay.ensures.all in
    let put : take (n + 1) c.put.new.regions.now ≡ take n regions ++ r ∷ [] = c.in_ok-put.ensures.now in
    let sum : live_cells c.args.self.now.now ≡ declared_in (take n regions) = sym (ap live_cells vn)
    ∙ declared-frames slots (take n regions) in
    let total : c.declared.result + c.args.declared ≡ declared_in (take n regions) + c.args.declared =
    omega (arith, c.declared.ensures.value, sum) in
    let limit : c.declared.result + c.args.declared ≤ cell_limit = omega (arith, c.declared.ensures.value, c.requires.limit) in
    let e = enters slots c.lay.new.slots.now more regions c.put.new.regions.now n c.higher-base.result r up inn c.self.invariant.0 laid
    (omega (arith, wide, c.requires.depth)) total limit refl refl c.in_ok-put.ensures.wide put in
    e.frames ∙ ap (λ fs. fs ++ frame_with_slots r more ∷ []) vn

pub returns-clause-kept : goal.returns-clause-kept
returns-clause-kept c = λ f s h.
    let slots = c.self.inside.slots.now in
    let regions = c.self.inside.regions.now in
    let n = c.self.inside.live in
    let low = (laid-end 0 (take n regions) (length slots) c.self.invariant.0.laid).1 in
    let up : end_of 0 (take n regions) ≤ c.higher-base.result = omega (arith, c.higher-base.ensures, c.end_of_live-end.ensures) in
    let inn : c.higher-base.result ≤ length slots =
    omega (arith, c.higher-base.ensures, c.end_of_live-end.ensures, low, c.needed.ensures.within) in
    let r : Region = record {
      routine = c.args.routine;
      back = c.args.back;
      declared = c.args.declared;
      total = c.declared.result
          + c.args.declared;
      base = c.higher-base.result;
      slots = length c.args.slots.now;
    } in
    let put : take (n + 1) c.put.new.regions.now ≡ take n regions ++ r ∷ [] = c.in_ok-put.ensures.now in
    let vf : flags_of c.self.inside.slots.noted (take n regions) ≡ c.args.self.now.noted =
    ap (λ (p : PlainStore). p.noted) c.self.view_is in
    ap (λ v. get_or (get_or (flags_of c.lay.new.slots.noted v) f []) s false) put
    ∙ enter-kept c.self.inside.slots.noted c.lay.new.slots.noted (take n regions) r c.higher-base.result (length slots)
    c.self.invariant.0.laid up c.lay.ensures.kept f s (ap (λ fs. get_or (get_or fs f []) s false) vf ∙ h)
