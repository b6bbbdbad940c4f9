use Rattle.std.proofs.Common.{refl}
use Rattle.alma_join.proofs.Counting.{sizes_none, sizes_pass, sizes_more, sizes_all}
use Rattle.alma_join.proofs.size.first_too_large.Goals as goal

pub loop-i-init : goal.loop-i-init
loop-i-init c = sizes_none _ _ (record { declared = refl; slots = refl; globals = refl; params = refl; names = refl; texts = refl })

pub returns-then-passes : goal.returns-then-passes
returns-then-passes c = sizes_pass c.args.units.now c.loop-i.i _ c.loop-i.totals _ c.loop-i-test.true c.index-units-i.is
    c.loop-i.invariant c.with_unit-totals.ensures _ c.passes.ensures c.if-passes.true

pub loop-i-preserved : goal.loop-i-preserved
loop-i-preserved c = sizes_more c.args.units.now c.loop-i.i _ c.loop-i.totals _ c.loop-i-test.true c.index-units-i.is c.loop-i.invariant
    c.with_unit-totals.ensures _ c.passes.ensures c.if-passes.false

pub returns : goal.returns
returns c = sizes_all c.args.units.now c.loop-i.i c.loop-i.totals c.loop-i-test.false c.loop-i.invariant
