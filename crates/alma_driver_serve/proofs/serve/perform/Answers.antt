use Rattle.alma_driver_words.specs.Words.{request_of, texts}
use Rattle.alma_driver_words.proofs.WordLemmas.{within_limits}
use Rattle.alma_driver_outcome.proofs.DriverLemmas.{serves_bad, serves_asked}
use Rattle.alma_driver_serve.proofs.serve.perform.Goals as goal

pub serve-requires : goal.serve-requires
serve-requires g c = within_limits (texts c.args.words.now) (request_of c.in-Ok.request) c.in-Ok.ensures

pub returns-in-Ok : goal.returns-in-Ok
returns-in-Ok g c =
    serves_asked (texts c.args.words.now) (request_of c.in-Ok.request) (g.F.Files.side c.args.files.now)
    (g.F.Files.side c.serve.new.files) (g.I.Source.side c.args.input.now)
    (g.I.Source.side c.serve.new.input) (g.O.Sink.side c.args.out.now)
    (g.O.Sink.side c.serve.new.out) c.serve.result c.in-Ok.ensures c.serve.ensures

pub returns-in-Err : goal.returns-in-Err
returns-in-Err g c =
    rw c.from.ensures (serves_bad (texts c.args.words.now) (g.F.Files.side c.args.files.now) c.in-Err.error
    (g.I.Source.side c.args.input.now) (g.O.Sink.side c.args.out.now) c.in-Err.ensures)
