use Rattle.std.proofs.Common.{◌≡◌, get_or, take, ap, sym, subst, ◌∙◌, arith}
use Rattle.alma_memory_store.specs.declared.store.Region.{Region}
use Rattle.alma_memory_store.specs.Past.{PlainPast, IsAt}
use Rattle.alma_memory_store.specs.Regions.{no_region}
use Rattle.alma_memory_store.proofs.Finds.{region-at}
use Rattle.alma_memory_store.proofs.Gains.{gains-diff, gains-none, if-ok}
use Rattle.alma_memory_store.proofs.past.Past.push_at.Goals as goal

pub find-frame-requires-clause-laid : goal.find-frame-requires-clause-laid
find-frame-requires-clause-laid c = rw c.len.ensures c.self.invariant.now.laid

pub returns-then-at-region : goal.returns-then-at-region
returns-then-at-region c =
    let p = c.self.inside in
    let h = c.self.invariant in
    let rs = take p.live p.regions.now.now in
    let at : get_or rs c.find-frame.result no_region ≡ c.get-region.result =
    region-at p.regions.now.now p.live c.find-frame.result c.get-region.result c.find-frame.ensures.inside c.get-region.ensures in
    let vr : rs ≡ c.args.self.now.regions = ap (λ (q : PlainPast). q.regions) c.self.view_is in
    gains-none c.args.self.now.before c.args.self.now.now (IsAt c.args.self.now.regions c.args.at) _
    (λ f s a d. (
    let b : IsAt rs c.args.at f s = subst (λ xs. IsAt xs c.args.at f s) (sym vr) a in
    let same : c.find-frame.result ≡ f = c.find-frame.ensures.is f s b in
    let base : (get_or rs f no_region).base ≡ c.get-region.result.base =
    ap (λ (r : Region). r.base) (ap (λ k. get_or rs k no_region) (sym same) ∙ at) in
    let there = b.there in
    omega (arith, base, there)))

pub returns-then-slot-region : goal.returns-then-slot-region
returns-then-slot-region c =
    let p = c.self.inside in
    let h = c.self.invariant in
    let rs = take p.live p.regions.now.now in
    let at : get_or rs c.find-frame.result no_region ≡ c.get-region.result =
    region-at p.regions.now.now p.live c.find-frame.result c.get-region.result c.find-frame.ensures.inside c.get-region.ensures in
    let vr : rs ≡ c.args.self.now.regions = ap (λ (q : PlainPast). q.regions) c.self.view_is in
    gains-none c.args.self.now.before c.args.self.now.now (IsAt c.args.self.now.regions c.args.at) _
    (λ f s a d. (
    let b : IsAt rs c.args.at f s = subst (λ xs. IsAt xs c.args.at f s) (sym vr) a in
    let same : c.find-frame.result ≡ f = c.find-frame.ensures.is f s b in
    let r : get_or rs f no_region ≡ c.get-region.result = ap (λ k. get_or rs k no_region) (sym same) ∙ at in
    let base : (get_or rs f no_region).base ≡ c.get-region.result.base = ap (λ (x : Region). x.base) r in
    let slots : (get_or rs f no_region).slots ≡ c.get-region.result.slots = ap (λ (x : Region). x.slots) r in
    let there = b.there in
    let own = b.own in
    omega (arith, base, slots, there, own)))

pub returns : goal.returns
returns c =
    let p = c.self.inside in
    let h = c.self.invariant in
    let rs = take p.live p.regions.now.now in
    let at : get_or rs c.find-frame.result no_region ≡ c.get-region.result =
    region-at p.regions.now.now p.live c.find-frame.result c.get-region.result c.find-frame.ensures.inside c.get-region.ensures in
    let vr : rs ≡ c.args.self.now.regions = ap (λ (q : PlainPast). q.regions) c.self.view_is in
    if-ok c.push_change.result _ _
    (λ u e. gains-diff c.args.self.now.before c.args.self.now.now (IsAt c.args.self.now.regions c.args.at) _ _ _ _ e
    (λ f s a. (
    let b : IsAt rs c.args.at f s = subst (λ xs. IsAt xs c.args.at f s) (sym vr) a in
    let same : c.find-frame.result ≡ f = c.find-frame.ensures.is f s b in
    let base : (get_or rs f no_region).base ≡ c.get-region.result.base =
    ap (λ (r : Region). r.base) (ap (λ k. get_or rs k no_region) (sym same) ∙ at) in
    let there = b.there in
    (sym same, omega (arith, base, there)))))
    c.push_change.ensures
