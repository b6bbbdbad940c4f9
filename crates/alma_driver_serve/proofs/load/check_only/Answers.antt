use Rattle.alma_ir.specs.View.{program_of}
use Rattle.alma_driver_outcome.specs.Outcome.{CheckOutcome}
use Rattle.alma_driver_outcome.proofs.DriverLemmas.{goes_checked, goes_stopped}
use Rattle.alma_driver_serve.proofs.load.check_only.Goals as goal

pub returns-in-Ok : goal.returns-in-Ok
returns-in-Ok c = λ out. goes_checked c.args.source.now (program_of c.in-Ok._program) out c.in-Ok.ensures.program

pub returns-in-Err : goal.returns-in-Err
returns-in-Err c = λ out. goes_stopped c.args.source.now CheckOutcome out c.in-Err.end c.in-Err.ensures.stop
