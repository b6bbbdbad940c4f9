use Rattle.std.proofs.Common.{refl}
use Rattle.std.specs.Prelude.{None}
use Rattle.alma_driver_outcome.specs.Ends.{sample_line}
use Rattle.alma_driver_outcome.specs.Outcome.{due_of}
use Rattle.alma_driver_outcome.specs.declared.end.End.TheVariants.{Succeeded}
use Rattle.alma_driver_outcome.proofs.CourseLemmas.{goes_cut, goes_whole}
use Rattle.alma_driver_serve.proofs.SampleLemmas.{IsSummary}
use Rattle.alma_driver_serve.proofs.sample.show_summary.Goals as goal

pub returns-in-Ok : goal.returns-in-Ok
returns-in-Ok g c =
    goes_whole (IsSummary c.args.lines c.args.bytes c.args.told.printed c.args.told.status)
    (due_of (Succeeded None) (sample_line c.args.lines c.args.bytes c.args.told.printed c.args.told.status))
    (g.O.Sink.side c.args.out.now) (g.O.Sink.side c.write_summary.new.out) (Succeeded None) refl refl refl c.in-Ok.ensures

pub returns-in-Err : goal.returns-in-Err
returns-in-Err g c =
    goes_cut (IsSummary c.args.lines c.args.bytes c.args.told.printed c.args.told.status)
    (due_of (Succeeded None) (sample_line c.args.lines c.args.bytes c.args.told.printed c.args.told.status))
    (g.O.Sink.side c.args.out.now) (g.O.Sink.side c.write_summary.new.out) refl refl c.in-Err.ensures
