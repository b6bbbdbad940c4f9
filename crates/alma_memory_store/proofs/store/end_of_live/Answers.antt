use Rattle.std.proofs.Common.{take, arith}
use Rattle.alma_memory_store.proofs.Frames.{laid-end}
use Rattle.alma_memory_store.proofs.Finds.{last-live}
use Rattle.alma_memory_store.proofs.store.end_of_live.Goals as goal

pub overflow_add-result : goal.overflow_add-result
overflow_add-result c =
    let is = last-live c.args.regions.now.now c.args.live c.get-last.result c.requires.live c.requires.some c.get-last.ensures in
    let low = laid-end 0 (take c.args.live c.args.regions.now.now) c.args.limit c.requires.laid in
    omega (arith, is, low.1, c.ranges.limit.fits)

pub returns : goal.returns
returns c = last-live c.args.regions.now.now c.args.live c.get-last.result c.requires.live c.requires.some c.get-last.ensures
