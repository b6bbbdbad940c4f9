use Rattle.alma_back_tape.proofs.Laid.{fewer_held}
use Rattle.alma_back_tape.proofs.laying.finish.Goals as goal

pub returns-clause-held : goal.returns-clause-held
returns-clause-held c =
    fewer_held c.args.journal.now c.overlay.new.journal c.drop_top.new.journal c.in_ok-overlay.ensures.held c.drop_top.ensures.now
    c.drop_top.ensures.trail c.drop_top.ensures.entries
