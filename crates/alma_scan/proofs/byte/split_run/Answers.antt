use Rattle.std.proofs.Common.{arith, add-one}
use Rattle.alma_scan.specs.Inner.Classes.{in_class}
use Rattle.alma_scan.proofs.Runs.{all_in_more}
use Rattle.alma_scan.proofs.byte.split_run.Goals as goal

pub loop-count-preserved : goal.loop-count-preserved
loop-count-preserved c = record {
  within = omega arith;
  front = rw (add-one c.loop-count.count) (all_in_more (in_class c.args.class) c.args.bytes.now c.loop-count.count c.loop-count-test.true
      c.loop-count.invariant.front (cc (c.is_in.ensures, c.if-is_in.true)));
}
