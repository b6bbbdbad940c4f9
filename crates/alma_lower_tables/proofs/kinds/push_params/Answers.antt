use Rattle.std.proofs.Common.{arith}
use Rattle.alma_lower_tables.proofs.TableLemmas.{params_more}
use Rattle.alma_lower_tables.proofs.kinds.push_params.Goals as goal

pub loop-param-preserved : goal.loop-param-preserved
loop-param-preserved c = params_more c.args.params.now c.loop-param.param-index _ _ _ _ (omega (arith, c.loop-param-test.true))
    c.loop-param.invariant c.in_ok-push_param.ensures
