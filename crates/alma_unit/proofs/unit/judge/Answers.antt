use Rattle.std.proofs.Common.{◌≡◌}
use Rattle.alma_ir.specs.View.{program_of}
use Rattle.alma_source.specs.Refusal.{place_of}
use Rattle.alma_source.proofs.RefusalLemmas.{refused_within}
use Rattle.alma_unit.proofs.Units.{room_of, unit_refused}
use Rattle.alma_unit.proofs.unit.judge.Goals as goal

pub place-requires-clause-inside : goal.place-requires-clause-inside
place-requires-clause-inside c =
    let stop = c.in-Err-Refused in
    rw stop.offset-is (refused_within c.args.source.now stop.fault stop.offset (rw stop.field-0-is at stop.ensures.refused))

pub returns-in-Ok-clause-room : goal.returns-in-Ok-clause-room
returns-in-Ok-clause-room c = room_of c.args.source.now (program_of c.in-Ok.program) c.requires.short c.in-Ok.ensures.program

pub returns-in-Err-Refused-clause-answer : goal.returns-in-Err-Refused-clause-answer
returns-in-Err-Refused-clause-answer c =
    let stop = c.in-Err-Refused in
    let there : c.place.result ≡ place_of c.args.source.now stop.offset =
    λ i. record { line = (rw stop.offset-is at c.place.ensures.line) i; column = (rw stop.offset-is at c.place.ensures.column) i } in
    rw (c.of_fault.ensures, stop.fault-is) (unit_refused c.args.source.now stop.fault stop.offset c.place.result
    (rw stop.field-0-is at stop.ensures.refused) there)
