use Rattle.alma_driver_serve.proofs.input.run_on.Goals as goal

pub returns-in-Prints : goal.returns-in-Prints
returns-in-Prints g c = rw c.in-Prints.is c.print_on.ensures

pub returns-in-Traces : goal.returns-in-Traces
returns-in-Traces g c = rw c.in-Traces.is c.trace_on.ensures
