use Rattle.std.proofs.Common.{subst, sym}
use Rattle.alma_code.specs.Records.{KeepsCounts}
use Rattle.alma_tests_machine.proofs.Small.{small_counts}
use Rattle.alma_tests_machine.proofs.machine.object.Goals as goal

pub encode-requires : goal.encode-requires
encode-requires c = subst KeepsCounts (sym c.in_ok-code.ensures) (small_counts c.args.instrs.now c.requires)
