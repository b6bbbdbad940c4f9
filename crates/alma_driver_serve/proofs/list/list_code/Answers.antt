use Rattle.alma_code.specs.Plain.{code_of}
use Rattle.alma_driver_outcome.proofs.DriverLemmas.{IsListed}
use Rattle.alma_driver_outcome.proofs.CourseLemmas.{goes_starved}
use Rattle.alma_driver_serve.proofs.list.list_code.Goals as goal

pub returns-in-Ok : goal.returns-in-Ok
returns-in-Ok g c = rw (c.deref.ensures.value, c.in-Ok.ensures) at c.show_text.ensures

pub returns-in-Err : goal.returns-in-Err
returns-in-Err g c = goes_starved (IsListed (code_of c.args.code.now)) (g.O.Sink.side c.args.out.now)
