use Rattle.alma_driver_serve.proofs.source.trace_source.Goals as goal

pub returns : goal.returns
returns g c = c.run_source.ensures
