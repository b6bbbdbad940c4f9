use Rattle.std.proofs.Common.{◌≡◌, refl}
use Rattle.alma_plan.specs.Course.{said}
use Rattle.alma_plan.proofs.Courses.{gains_none}
use Rattle.alma_pool.specs.declared.stop.PoolStop.TheVariants.{BadTurn, Refused}
use Rattle.alma_pool.proofs.main_call.tell.Goals as goal

pub returns-in-Ok : goal.returns-in-Ok
returns-in-Ok g c = rw c.in-Ok.is (said refl (gains_none _))

pub returns-in-Err-BadTurn : goal.returns-in-Err-BadTurn
returns-in-Err-BadTurn g c =
    let stop : c.in-Err-BadTurn.field-0 ≡ BadTurn c.in-Err-BadTurn.turn = rw c.in-Err-BadTurn.is at c.in-Err-BadTurn.field-0-is in
    rw (c.in-Err-BadTurn.is, stop) c.tell_number.ensures

pub returns-in-Err-Refused : goal.returns-in-Err-Refused
returns-in-Err-Refused g c =
    let stop : c.in-Err-Refused.field-0 ≡ Refused c.in-Err-Refused.refusal = rw c.in-Err-Refused.is at c.in-Err-Refused.field-0-is in
    rw (c.in-Err-Refused.is, stop) c.refuse.ensures
