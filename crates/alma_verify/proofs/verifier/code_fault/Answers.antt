use Rattle.std.proofs.Common.{arith, ◌≡◌, ◌-◌, ◌∙◌, ap, length}
use Rattle.alma_code.specs.Rules.{routines_fault}
use Rattle.alma_verify.proofs.Starts.{routines_none}
use Rattle.alma_verify.proofs.verifier.code_fault.Goals as goal

pub returns : goal.returns
returns g c =
    let code = g.R.CodeReader.code c.args.reader.now in
    let left : length code.routines - c.loop-routine.routine ≡ 0 = omega arith in
    c.loop-routine.invariant.rest ∙ ap (routines_fault code c.loop-routine.routine) left ∙ routines_none code c.loop-routine.routine

pub loop-routine-init : goal.loop-routine-init
loop-routine-init g c =
    let code = g.R.CodeReader.code c.args.reader.now in
    let all : length code.routines ≡ length code.routines - 0 = omega arith in
    record { rest = ap (routines_fault code 0) all; seen = c.none-seen.ensures code }
