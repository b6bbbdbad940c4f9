use Rattle.std.proofs.Common.{arith}
use Rattle.alma_back_tape.proofs.Loops.{cuts_held}
use Rattle.alma_back_tape.proofs.forward.cut.Goals as goal

pub returns-clause-held : goal.returns-clause-held
returns-clause-held c =
    cuts_held c.args.height c.args.journal.now c.loop-journal.journal (omega
    (arith, c.len.ensures, c.loop-journal.journal.entries.ok, c.loop-journal-test.false))
    c.loop-journal.invariant
