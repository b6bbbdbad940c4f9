use Rattle.std.proofs.Common.{arith}
use Rattle.alma_machine.specs.View.{run_state}
use Rattle.alma_machine.proofs.Dashing.{dashed_none, dashed_more, dashed_left, is_made, is_left}
use Rattle.alma_machine.proofs.quick.dash.Goals as goal

pub loop-made-init : goal.loop-made-init
loop-made-init g c = record {
  within = omega arith;
  dashed = dashed_none (g.V.CodeView.code c.args.view) c.args.input.now (run_state c.args.registers.now) c.requires.keeps;
}

pub step_quickly-requires-clause-keeps : goal.step_quickly-requires-clause-keeps
step_quickly-requires-clause-keeps g c = c.loop-made.invariant.dashed.stands

pub step_quickly-requires-clause-few : goal.step_quickly-requires-clause-few
step_quickly-requires-clause-few g c = omega (arith, c.loop-made.invariant.dashed.steps, c.loop-made-test.true, c.requires.few)

pub loop-made-preserved : goal.loop-made-preserved
loop-made-preserved g c = record {
  within = omega (arith, c.loop-made-test.true);
  dashed = dashed_more _ _ _ _ _ _ c.loop-made.invariant.dashed (is_made _ _ _ _ c.if-not-step_quickly.false c.step_quickly.ensures);
}

pub returns-then-not-step_quickly-clause-state : goal.returns-then-not-step_quickly-clause-state
returns-then-not-step_quickly-clause-state g c =
    (dashed_left _ _ _ _ _ _ c.loop-made.invariant.dashed (is_left _ _ _ _ c.if-not-step_quickly.true c.step_quickly.ensures)).state

pub returns-then-not-step_quickly-clause-silent : goal.returns-then-not-step_quickly-clause-silent
returns-then-not-step_quickly-clause-silent g c = c.loop-made.invariant.dashed.silent

pub returns-then-not-step_quickly-clause-counted : goal.returns-then-not-step_quickly-clause-counted
returns-then-not-step_quickly-clause-counted g c =
    (dashed_left _ _ _ _ _ _ c.loop-made.invariant.dashed (is_left _ _ _ _ c.if-not-step_quickly.true c.step_quickly.ensures)).steps

pub returns-then-not-step_quickly-clause-stands : goal.returns-then-not-step_quickly-clause-stands
returns-then-not-step_quickly-clause-stands g c =
    (dashed_left _ _ _ _ _ _ c.loop-made.invariant.dashed (is_left _ _ _ _ c.if-not-step_quickly.true c.step_quickly.ensures)).stands

pub returns-clause-few : goal.returns-clause-few
returns-clause-few g c = c.loop-made.invariant.within

pub returns-clause-state : goal.returns-clause-state
returns-clause-state g c = c.loop-made.invariant.dashed.state

pub returns-clause-silent : goal.returns-clause-silent
returns-clause-silent g c = c.loop-made.invariant.dashed.silent

pub returns-clause-counted : goal.returns-clause-counted
returns-clause-counted g c = c.loop-made.invariant.dashed.steps

pub returns-clause-stands : goal.returns-clause-stands
returns-clause-stands g c = c.loop-made.invariant.dashed.stands
