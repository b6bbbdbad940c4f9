use Rattle.std.proofs.Common.{◌∙◌, arith}
use Rattle.alma_back_tape.proofs.Marks.{note-at}
use Rattle.alma_back_tape.proofs.earlier.earlier_frames.Goals as goal

pub undo-requires-clause-undoes : goal.undo-requires-clause-undoes
undo-requires-clause-undoes c =
    (note-at c.loop-left.left c.args.trail.now c.index-trail-left.result c.args.frames.now c.loop-left.past.before c.requires.fits
    (omega arith) (omega arith) c.index-trail-left.is c.loop-left.invariant.0).0

pub undo-requires-clause-after : goal.undo-requires-clause-after
undo-requires-clause-after c =
    (note-at c.loop-left.left c.args.trail.now c.index-trail-left.result c.args.frames.now c.loop-left.past.before c.requires.fits
    (omega arith) (omega arith) c.index-trail-left.is c.loop-left.invariant.0).1

pub loop-left-preserved : goal.loop-left-preserved
loop-left-preserved c = (
  c.in_ok-undo.ensures.before
      ∙ (note-at c.loop-left.left c.args.trail.now c.index-trail-left.result c.args.frames.now c.loop-left.past.before c.requires.fits
      (omega arith) (omega arith) c.index-trail-left.is c.loop-left.invariant.0).2,
  c.undo.ensures.now ∙ c.loop-left.invariant.1,
  omega arith,
  omega arith,
)
