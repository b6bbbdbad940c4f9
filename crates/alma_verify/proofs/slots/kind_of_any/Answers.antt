use Rattle.std.proofs.Common.{arith, ◌≤◌, length, sym}
use Rattle.alma_verify.proofs.SlotStarts.{no_kind}
use Rattle.alma_verify.proofs.slots.kind_of_any.Goals as goal

pub returns-else-routine-routine_count : goal.returns-else-routine-routine_count
returns-else-routine-routine_count g c =
    let code = g.R.CodeReader.code c.args.reader.now in
    let past : length code.routines ≤ c.args.routine = omega arith in
    sym (no_kind code c.args.routine c.args.slot past)
