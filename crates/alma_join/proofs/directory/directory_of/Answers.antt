use Rattle.std.proofs.Common.{refl}
use Rattle.alma_join.proofs.Going.{unit_more, holds_none, holds_all}
use Rattle.alma_join.proofs.directory.directory_of.Goals as goal

pub loop-i-init : goal.loop-i-init
loop-i-init c = holds_none _ refl c.new.ensures.empty

pub loop-i-preserved : goal.loop-i-preserved
loop-i-preserved c = unit_more _ _ c.args.units.now c.loop-i.i _ _ c.loop-i-test.true c.index-units-i.is refl c.loop-i.invariant
    c.in_ok-add_unit.ensures

pub returns : goal.returns
returns c = holds_all _ c.args.units.now c.loop-i.i c.loop-i-test.false c.loop-i.invariant
