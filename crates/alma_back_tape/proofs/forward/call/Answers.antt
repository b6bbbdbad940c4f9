use Rattle.std.proofs.Common.{reverse}
use Rattle.alma_back_tape.specs.Inner.Past.{reel_of}
use Rattle.alma_back_tape.proofs.Trails.{fits-now}
use Rattle.alma_back_tape.proofs.Winding.{good_wound}
use Rattle.alma_back_tape.proofs.forward.call.Goals as goal

pub frame_from-requires-clause-whole : goal.frame_from-requires-clause-whole
frame_from-requires-clause-whole g c =
    let j = c.args.journal.now in
    (fits-now j.trail.items j.frames (good_wound (reverse j.changes.items) (reel_of j) c.requires.tape.good).fits).whole
