use Rattle.alma_object.specs.View.{code_of_view}
use Rattle.alma_driver_outcome.proofs.DriverLemmas.{runs_opened, runs_unopened}
use Rattle.alma_driver_serve.proofs.exec.exec_object.Goals as goal

pub returns-in-Ok : goal.returns-in-Ok
returns-in-Ok g c =
    runs_opened c.args.bytes.now (code_of_view c.in-Ok.view) c.args.steps c.args.stats (g.I.Source.side c.args.input.now)
    (g.I.Source.side c.exec_view.new.input) (g.O.Sink.side c.args.out.now)
    (g.O.Sink.side c.exec_view.new.out) c.exec_view.result c.in-Ok.ensures.fault c.in-Ok.ensures.code c.exec_view.ensures

pub returns-in-Err : goal.returns-in-Err
returns-in-Err g c = runs_unopened c.args.bytes.now c.args.steps c.args.stats c.in-Err.fault (g.I.Source.side c.args.input.now)
    (g.O.Sink.side c.args.out.now) c.in-Err.ensures.fault
