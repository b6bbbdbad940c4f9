use Rattle.std.proofs.Common.{◌≡◌, ◌<◌, ◌≤◌, ◌+◌, ◌-◌, ◌/◌, ℕ, length, get_or, take, arith}
use Rattle.alma_memory_store.specs.Regions.{no_region}
use Rattle.std.proofs.lemmas.List.{length-take-le}
use Rattle.alma_memory_store.proofs.Covers.{above-middle, below-middle, half}
use Rattle.alma_memory_store.proofs.Finds.{region-at}
use Rattle.alma_memory_store.proofs.past.find.Goals as goal

pub loop-high-preserved-then-get-at : goal.loop-high-preserved-then-get-at
loop-high-preserved-then-get-at c =
    let rs = take c.args.live c.args.regions.now.now in
    let low = c.loop-high.low in
    let high = c.loop-high.high in
    let m : ℕ = low + (high - low) / 2 in
    let h = half low high (omega (arith, c.loop-high-test.true)) in
    let lt : m < c.args.live = omega (arith, h.1, c.loop-high.invariant.1) in
    let at : get_or rs m no_region ≡ c.get.result = region-at c.args.regions.now.now c.args.live m c.get.result lt c.get.ensures in
    let wide : m < length rs = rw (length-take-le c.args.live c.args.regions.now.now c.requires.live) lt in
    let base : (get_or rs m no_region).base ≤ c.args.at = rw at c.if-get-at.true in (
      h.1,
      c.loop-high.invariant.1,
      λ f s a. (
        above-middle rs c.args.limit c.args.at f s m c.requires.laid wide base a,
        (c.loop-high.invariant.2 f s a).1,
      ),
    )

pub loop-high-preserved : goal.loop-high-preserved
loop-high-preserved c =
    let rs = take c.args.live c.args.regions.now.now in
    let low = c.loop-high.low in
    let high = c.loop-high.high in
    let m : ℕ = low + (high - low) / 2 in
    let h = half low high (omega (arith, c.loop-high-test.true)) in
    let lt : m < c.args.live = omega (arith, h.1, c.loop-high.invariant.1) in
    let at : get_or rs m no_region ≡ c.get.result = region-at c.args.regions.now.now c.args.live m c.get.result lt c.get.ensures in
    let base : c.args.at < (get_or rs m no_region).base = rw at (omega (arith, c.if-get-at.false)) in (
      h.0,
      omega (arith, lt),
      λ f s a. (
        (c.loop-high.invariant.2 f s a).0,
        below-middle rs c.args.limit c.args.at f s m c.requires.laid base a,
      ),
    )

pub returns-clause-is : goal.returns-clause-is
returns-clause-is c = λ f s a.
    let i = c.loop-high.invariant.2 f s a in
    omega (arith, c.loop-high-test.false, c.loop-high.invariant.0, i.0, i.1)
