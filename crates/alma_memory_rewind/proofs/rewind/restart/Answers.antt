use Rattle.std.proofs.Common.{◌≡◌, length, ap, ◌∙◌}
use Rattle.alma_memory_rewind.proofs.Restarts.{renews, length-numbered}
use Rattle.alma_memory_rewind.proofs.rewind.restart.Goals as goal

pub returns-clause-keeps : goal.returns-clause-keeps
returns-clause-keeps g c = λ counter.
    let marks = c.args.marks.now.items in
    let few : c.len.result ≡ length marks = c.len.ensures
    ∙ (c.number.new.marks.ok.0 ∙ (ap length c.number.ensures.marks ∙ length-numbered (length marks) 1 marks)) in
    renews marks c.number.new.marks.items c.args.trail.now.items c.clear_notes.new.trail.items c.args.stamps.now.items
    c.clear_stamps.new.stamps.items counter c.len.result c.number.ensures.marks c.clear_notes.ensures.trail c.clear_stamps.ensures few
