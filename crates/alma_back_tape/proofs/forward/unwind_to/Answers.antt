use Rattle.std.proofs.Common.{arith}
use Rattle.alma_back_tape.proofs.Loops.{unwound_more, unwound_rises}
use Rattle.alma_back_tape.proofs.forward.unwind_to.Goals as goal

pub undo_top-requires-clause-above : goal.undo_top-requires-clause-above
undo_top-requires-clause-above c =
    unwound_rises c.args.mark c.args.journal.now c.loop-journal.journal
    (omega (arith, c.len.ensures, c.loop-journal.journal.trail.ok, c.loop-journal-test.true))
    c.requires.above c.loop-journal.invariant

pub loop-journal-preserved : goal.loop-journal-preserved
loop-journal-preserved c =
    unwound_more c.args.mark c.args.journal.now c.loop-journal.journal c.undo_top.new.journal
    (omega (arith, c.len.ensures, c.loop-journal.journal.trail.ok, c.loop-journal-test.true))
    c.undo_top.ensures.now c.undo_top.ensures.trail c.undo_top.ensures.entries c.undo_top.ensures.past c.undo_top.ensures.tape
    c.loop-journal.invariant
