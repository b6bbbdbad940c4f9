use Rattle.std.proofs.Common.{◌≡◌, refl}
use Rattle.std.specs.Prelude.{None}
use Rattle.alma_driver_outcome.specs.Outcome.{Due, due_of}
use Rattle.alma_driver_outcome.specs.declared.end.End.TheVariants.{Succeeded}
use Rattle.alma_driver_outcome.proofs.CourseLemmas.{goes_cut, goes_whole}
use Rattle.alma_driver_serve.proofs.list.show_text.Goals as goal

pub returns-in-Ok : goal.returns-in-Ok
returns-in-Ok g c =
    let due = due_of (Succeeded None) c.args.text.now in
    goes_whole (λ (d : Due). d ≡ due) due (g.O.Sink.side c.args.out.now) (g.O.Sink.side c.write_all.new.sink) (Succeeded None)
    refl refl refl c.in-Ok.ensures.writes

pub returns-in-Err : goal.returns-in-Err
returns-in-Err g c =
    let due = due_of (Succeeded None) c.args.text.now in
    goes_cut (λ (d : Due). d ≡ due) due (g.O.Sink.side c.args.out.now) (g.O.Sink.side c.write_all.new.sink) refl refl
    c.in-Err.ensures.writes
