use Rattle.std.proofs.Common.{drop}
use Rattle.alma_back_tape.proofs.Marks.{fits-drop, fits-unwound}
use Rattle.alma_back_tape.proofs.Trails.{fits-now}
use Rattle.alma_back_tape.proofs.keeping.changes_since.Goals as goal

pub changes-requires-clause-before : goal.changes-requires-clause-before
changes-requires-clause-before c =
    rw c.in_ok-earlier.ensures.before
    (fits-unwound (drop c.args.mark c.args.trail.now) c.args.frames.now
    (fits-drop c.args.mark c.args.trail.now c.args.frames.now c.requires.fits))

pub changes-requires-clause-now : goal.changes-requires-clause-now
changes-requires-clause-now c = rw c.in_ok-earlier.ensures.now (fits-now c.args.trail.now c.args.frames.now c.requires.fits)
