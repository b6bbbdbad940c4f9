use Rattle.std.proofs.Common.{◌-◌, ◌∙◌, sym, ap, arith}
use Rattle.alma_back.specs.Standing.{Standing}
use Rattle.alma_back.proofs.Shown.{ahead_step, ahead_ended}
use Rattle.alma_back.proofs.show.go_forward.Goals as goal

pub loop-made-preserved : goal.loop-made-preserved
loop-made-preserved c = record {
  left = ahead_step c.loop-made.back c.step.new.self c.args.most c.loop-made.made c.loop-made-test.true
      (sym c.is_running.ensures ∙ c.if-is_running.true)
      c.in_ok-step.ensures.stands ∙ c.loop-made.invariant.left;
  within = omega (arith, c.loop-made-test.true);
  few = omega (arith, c.loop-made.invariant.few, ap (λ (s : Standing). s.steps) c.in_ok-step.ensures.stands);
}

pub returns-else-is_running-clause-steps : goal.returns-else-is_running-clause-steps
returns-else-is_running-clause-steps c =
    sym (ahead_ended c.loop-made.back (c.args.most - c.loop-made.made) (sym c.is_running.ensures ∙ c.if-is_running.false))
    ∙ c.loop-made.invariant.left
