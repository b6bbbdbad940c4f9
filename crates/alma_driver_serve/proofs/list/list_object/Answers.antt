use Rattle.alma_object.specs.View.{code_of_view}
use Rattle.alma_driver_outcome.proofs.DriverLemmas.{goes_listed, goes_not_listed}
use Rattle.alma_driver_serve.proofs.list.list_object.Goals as goal

pub returns-in-Ok : goal.returns-in-Ok
returns-in-Ok g c =
    goes_listed c.args.bytes.now (code_of_view c.in-Ok.view) (g.O.Sink.side c.args.out.now)
    (g.O.Sink.side c.list_view.new.out) c.list_view.result
    c.in-Ok.ensures.fault c.in-Ok.ensures.object c.in-Ok.ensures.code c.list_view.ensures

pub returns-in-Err : goal.returns-in-Err
returns-in-Err g c = goes_not_listed c.args.bytes.now c.in-Err.fault (g.O.Sink.side c.args.out.now) c.in-Err.ensures.fault
