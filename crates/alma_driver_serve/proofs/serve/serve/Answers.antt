use Rattle.alma_driver_words.specs.Words.{request_of}
use Rattle.alma_driver_outcome.proofs.DriverLemmas.{serves_alone}
use Rattle.alma_driver_serve.proofs.serve.serve.Goals as goal

pub returns-in-None : goal.returns-in-None
returns-in-None g c =
    serves_alone (g.F.Files.side c.args.files.now)
    (g.F.Files.side c.serve_file.new.files)
    (request_of c.args.request.now) (g.I.Source.side c.args.input.now)
    (g.I.Source.side c.serve_file.new.input) (g.O.Sink.side c.args.out.now)
    (g.O.Sink.side c.serve_file.new.out) c.serve_file.result c.in-None.ensures c.serve_file.ensures
