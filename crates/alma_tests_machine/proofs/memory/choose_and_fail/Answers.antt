use Rattle.alma_tests_machine.proofs.memory.choose_and_fail.Goals as goal

pub counts-chosen-requires : goal.counts-chosen-requires
counts-chosen-requires c = c.in_ok-choose_and_write.ensures

pub counts-requires : goal.counts-requires
counts-requires c = c.fail_often-popped.ensures c.args.slots c.in_ok-choose_and_write.ensures
