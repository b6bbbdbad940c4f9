use Rattle.std.proofs.Common.{refl}
use Rattle.alma_plan.specs.Course.{said, unsaid}
use Rattle.alma_plan.proofs.writing.report.Goals as goal

pub returns-in-Ok : goal.returns-in-Ok
returns-in-Ok g c = said refl c.in-Ok.ensures

pub returns-in-Err : goal.returns-in-Err
returns-in-Err g c = unsaid refl c.in-Err.ensures
