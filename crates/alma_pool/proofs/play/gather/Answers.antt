use Rattle.alma_pool.proofs.Playing.{gathered}
use Rattle.alma_pool.proofs.play.gather.Goals as goal

pub loop-code-preserved : goal.loop-code-preserved
loop-code-preserved c =
    gathered c.args.verified.now c.args.input.now c.loop-code.code-index c.code-item.result _ c.loop-code.pool c.add.new.self
    c.loop-code-test.true c.code-item.is
    c.loop-code.invariant c.in_ok-add.ensures.added
