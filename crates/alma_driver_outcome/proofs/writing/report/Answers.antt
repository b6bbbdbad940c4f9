use Rattle.alma_driver_outcome.specs.Ends.{counts_text, counts_with, end_text, status_of}
use Rattle.alma_driver_outcome.proofs.ReportLemmas.{reports_behind, fails_behind}
use Rattle.alma_driver_outcome.proofs.writing.report.Goals as goal

pub returns-in-Ok : goal.returns-in-Ok
returns-in-Ok g c =
    reports_behind (status_of c.args.end) (counts_text (counts_with c.args.end)) (end_text c.args.file.now c.args.end)
    (g.E.Sink.side c.args.err.now) (g.E.Sink.side c.write_counts.new.err) (g.E.Sink.side c.tell.new.err) c.tell.result.0
    (rw c.counts.ensures at c.in-Ok.ensures) c.tell.ensures

pub returns-in-Err : goal.returns-in-Err
returns-in-Err g c =
    fails_behind (status_of c.args.end) (counts_text (counts_with c.args.end)) (end_text c.args.file.now c.args.end)
    (g.E.Sink.side c.args.err.now) (g.E.Sink.side c.write_counts.new.err) (rw c.counts.ensures at c.in-Err.ensures)
