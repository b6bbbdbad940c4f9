use Rattle.alma_io.proofs.Known.{keeps_same, keeps_trans, kept_consumes}
use Rattle.alma_io.proofs.system.read_some.Goals as goal

pub loop-init : goal.loop-init
loop-init g c = keeps_same _

pub loop-preserved : goal.loop-preserved
loop-preserved g c = keeps_trans _ _ _ c.loop.invariant c.in-Err.ensures.bytes

pub returns-in-Err-2-clause-bytes : goal.returns-in-Err-2-clause-bytes
returns-in-Err-2-clause-bytes g c = keeps_trans _ _ _ c.loop.invariant c.in-Err-2.ensures.bytes

pub returns-in-Ok-clause-bytes : goal.returns-in-Ok-clause-bytes
returns-in-Ok-clause-bytes g c = (kept_consumes _ _ _ _ c.loop.invariant c.in-Ok.ensures.bytes.0, c.in-Ok.ensures.bytes.1)
