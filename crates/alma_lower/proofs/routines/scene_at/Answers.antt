use Rattle.std.proofs.Common.{refl}
use Rattle.alma_lower_work.specs.Front.{around}
use Rattle.alma_lower.proofs.routines.scene_at.Goals as goal

pub returns : goal.returns
unfolding around
returns c = refl
