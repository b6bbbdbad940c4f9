use Rattle.alma_memory.proofs.Slots.{stack_after_pop-slots}
use Rattle.alma_tests_machine.proofs.memory.fail_often.Goals as goal

pub loop-preserved : goal.loop-preserved
loop-preserved c = λ slots h.
    stack_after_pop-slots c.fail.result slots c.loop.memory c.fail.new.self c.fail.ensures.none c.fail.ensures.call
    (c.loop.invariant slots h)
