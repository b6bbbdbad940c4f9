use Rattle.std.proofs.Common.{◌∙◌, ap}
use Rattle.alma_driver_words.specs.Words.{request_of}
use Rattle.alma_driver_outcome.specs.Ends.{end_of_stop}
use Rattle.alma_driver_outcome.proofs.DriverLemmas.{limit_small, fetch_of, serves_fetched, serves_unfetched}
use Rattle.alma_driver_serve.proofs.serve.serve_named.Goals as goal

pub fetch-requires : goal.fetch-requires
fetch-requires g c = rw c.read_limit.ensures (limit_small (request_of c.args.request.now))

pub serve_file-requires-clause-short : goal.serve_file-requires-clause-short
serve_file-requires-clause-short g c = rw (c.deref.ensures.value) (rw c.read_limit.ensures at c.in-Ok.ensures.answer).1

pub returns-in-Ok : goal.returns-in-Ok
returns-in-Ok g c =
    let got = rw c.read_limit.ensures at c.in-Ok.ensures.answer in
    serves_fetched (g.F.Files.side c.args.files.now)
    (g.F.Files.side c.fetch.new.self)
    (g.F.Files.side c.serve_file.new.files)
    (request_of c.args.request.now) c.args.file.now c.in-Ok.bytes.items (g.I.Source.side c.args.input.now)
    (g.I.Source.side c.serve_file.new.input) (g.O.Sink.side c.args.out.now)
    (g.O.Sink.side c.serve_file.new.out) c.serve_file.result c.requires.read
    (c.in-Ok.ensures.same, c.in-Ok.ensures.store_count) got.0 got.1 got.2
    (rw c.deref.ensures.value at c.serve_file.ensures)

pub returns-in-Err : goal.returns-in-Err
returns-in-Err g c =
    rw (c.from-in-Err.ensures ∙ ap end_of_stop c.from.ensures) (serves_unfetched (g.F.Files.side c.args.files.now)
    (g.F.Files.side c.fetch.new.self)
    (request_of c.args.request.now) c.args.file.now c.in-Err.fault (g.I.Source.side c.args.input.now) (g.O.Sink.side c.args.out.now)
    c.requires.read
    (c.in-Err.ensures.same, c.in-Err.ensures.store_count)
    (fetch_of ((g.F.Files.side c.args.files.now).told c.args.file.now) c.args.file.now c.read_limit.result (request_of c.args.request.now)
    (g.F.Files.side c.args.files.now).fetch_faults
    (g.F.Files.side c.fetch.new.self).fetch_faults c.in-Err.fault c.read_limit.ensures c.in-Err.ensures.answer))
