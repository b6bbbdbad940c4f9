use Rattle.std.proofs.Common.{◌<◌, ◌≤◌, refl, arith, length}
use Rattle.alma_join.proofs.Heads.{lengths_differ, params_apart, params_alike, params_all, param_is}
use Rattle.alma_join.proofs.head.same_params.Goals as goal

pub returns-then-a-b : goal.returns-then-a-b
returns-then-a-b c = lengths_differ _ _ c.if-a-b.true

pub loop-i-init : goal.loop-i-init
loop-i-init c = refl

pub returns-then-not-same_param : goal.returns-then-not-same_param
returns-then-not-same_param c =
    let within : c.loop-i.i < length c.args.b.now = omega (arith, c.loop-i-test.true, c.if-a-b.false) in
    params_apart _ _ c.loop-i.i _ _ c.loop-i-test.true within (param_is _ _ c.loop-i-test.true)
    (param_is _ _ within) c.loop-i.invariant c.if-not-same_param.ensures

pub loop-i-preserved : goal.loop-i-preserved
loop-i-preserved c =
    let within : c.loop-i.i < length c.args.b.now = omega (arith, c.loop-i-test.true, c.if-a-b.false) in
    params_alike _ _ c.loop-i.i _ _ c.loop-i-test.true within (param_is _ _ c.loop-i-test.true)
    (param_is _ _ within) c.loop-i.invariant c.if-not-same_param.ensures

pub returns : goal.returns
returns c =
    let past : length c.args.b.now ≤ c.loop-i.i = omega (arith, c.loop-i-test.false, c.if-a-b.false) in
    params_all _ _ c.loop-i.i c.loop-i-test.false past c.loop-i.invariant
