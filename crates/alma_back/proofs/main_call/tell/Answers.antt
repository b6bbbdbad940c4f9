use Rattle.std.proofs.Common.{refl}
use Rattle.alma_plan.specs.Course.{said}
use Rattle.alma_plan.proofs.Courses.{gains_none}
use Rattle.alma_back.proofs.main_call.tell.Goals as goal

pub returns-in-Ok : goal.returns-in-Ok
returns-in-Ok g c = rw c.in-Ok.is (said refl (gains_none _))
