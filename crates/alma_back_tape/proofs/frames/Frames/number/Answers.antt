use Rattle.alma_back_tape.proofs.Lives.{whole-at}
use Rattle.alma_back_tape.proofs.frames.Frames.number.Goals as goal

pub number-requires : goal.number-requires
number-requires c = rw c.at.ensures (whole-at c.args.self.now c.args.place.frame c.requires)
