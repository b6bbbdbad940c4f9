use Rattle.std.proofs.Common.{ap, ◌∙◌}
use Rattle.alma_check_stmt.specs.Inner.Gathered.{with_fault}
use Rattle.alma_check_stmt.specs.Inner.Shown.{stand}
use Rattle.alma_check_stmt.proofs.routine.check_end.Goals as goal

pub returns : goal.returns
returns c = c.add_fault.ensures c.args.reader.now ∙ ap (with_fault (stand c.args.checked.now c.args.reader.now)) c.end_fault.ensures
