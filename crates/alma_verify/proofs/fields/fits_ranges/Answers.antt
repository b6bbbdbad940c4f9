use Rattle.alma_object.specs.Fields.{FitsRange}
use Rattle.alma_verify.proofs.Fitting.{all_more, all_done}
use Rattle.alma_verify.proofs.fields.fits_ranges.Goals as goal

pub loop-range-preserved : goal.loop-range-preserved
loop-range-preserved c = all_more FitsRange c.args.ranges.now c.loop-range.range-index _ c.loop-range-test.true c.loop-range.invariant
    c.fits_range.ensures

pub returns : goal.returns
returns c = all_done FitsRange c.args.ranges.now c.loop-range.range-index c.loop-range-test.false c.loop-range.invariant
