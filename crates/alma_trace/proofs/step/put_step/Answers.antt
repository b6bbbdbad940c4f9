use Rattle.std.proofs.Common.{ap}
use Rattle.alma_machine.specs.View.{goes_on}
use Rattle.alma_trace.proofs.Standing.{few_shown}
use Rattle.alma_trace.proofs.step.put_step.Goals as goal

pub put_watched-requires-clause-few : goal.put_watched-requires-clause-few
put_watched-requires-clause-few c =
    let machine = c.args.machine.now in
    few_shown machine.code machine.state c.memory.result.now.now (c.keeps_standing.ensures (c.requires.running (ap goes_on c.in-Chose.is)))
    c.memory.ensures.now

pub put_watched-requires-in-Popped-clause-few : goal.put_watched-requires-in-Popped-clause-few
put_watched-requires-in-Popped-clause-few c =
    let machine = c.args.machine.now in
    few_shown machine.code machine.state c.memory-in-Popped.result.now.now
    (c.keeps_standing.ensures (c.requires.running (ap goes_on c.in-Popped.is))) c.memory-in-Popped.ensures.now
