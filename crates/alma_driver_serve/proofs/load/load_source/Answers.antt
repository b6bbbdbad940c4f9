use Rattle.alma_driver_outcome.proofs.DriverLemmas.{stop_refused}
use Rattle.alma_source.proofs.RefusalLemmas.{refused_within}
use Rattle.alma_driver_serve.proofs.load.load_source.Goals as goal

pub place-requires-clause-inside : goal.place-requires-clause-inside
place-requires-clause-inside c =
    let stop = c.in-Err-Refused in
    rw stop.offset-is (refused_within c.args.source.now stop.fault stop.offset (rw stop.field-0-is at stop.ensures.refused))

pub returns-in-Err-Refused-clause-stop : goal.returns-in-Err-Refused-clause-stop
returns-in-Err-Refused-clause-stop c =
    let stop = c.in-Err-Refused in
    rw stop.fault-is (stop_refused c.args.source.now stop.fault stop.offset c.place.result (rw stop.field-0-is at stop.ensures.refused)
    (rw stop.offset-is at c.place.ensures.line) (rw stop.offset-is at c.place.ensures.column))
