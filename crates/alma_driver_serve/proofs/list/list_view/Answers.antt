use Rattle.std.proofs.Common.{subst}
use Rattle.alma_code.specs.Plain.{PlainCode}
use Rattle.alma_object.specs.View.{code_of_view}
use Rattle.alma_driver_outcome.specs.Parts.{Goes}
use Rattle.alma_driver_outcome.proofs.DriverLemmas.{IsListed}
use Rattle.alma_driver_outcome.proofs.CourseLemmas.{goes_starved}
use Rattle.alma_driver_serve.proofs.list.list_view.Goals as goal

pub returns-in-Ok : goal.returns-in-Ok
returns-in-Ok g c =
    subst (λ (code : PlainCode). Goes (IsListed code) (g.O.Sink.side c.args.out.now)
    (g.O.Sink.side c.list_code.new.out) c.list_code.result) c.in-Ok.ensures.code c.list_code.ensures

pub returns-in-Err : goal.returns-in-Err
returns-in-Err g c = goes_starved (IsListed (code_of_view c.args.view.now)) (g.O.Sink.side c.args.out.now)
