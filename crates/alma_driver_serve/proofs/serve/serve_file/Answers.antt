use Rattle.alma_driver_outcome.proofs.DriverLemmas.{runs_check, runs_list, runs_sample}
use Rattle.alma_driver_serve.proofs.serve.serve_file.Goals as goal

pub check_only-requires : goal.check_only-requires
check_only-requires g c = record { short = rw c.in-Check.is at c.requires.short }

pub compile_source-requires : goal.compile_source-requires
compile_source-requires g c = record { short = rw c.in-Compile.is at c.requires.short }

pub run_source-requires-clause-short : goal.run_source-requires-clause-short
run_source-requires-clause-short g c = rw c.in-Run.is at c.requires.short

pub run_source-requires-clause-few : goal.run_source-requires-clause-few
run_source-requires-clause-few g c = rw c.in-Run.is at c.requires.within

pub trace_source-requires-clause-short : goal.trace_source-requires-clause-short
trace_source-requires-clause-short g c = rw c.in-Trace.is at c.requires.short

pub trace_source-requires-clause-few : goal.trace_source-requires-clause-few
trace_source-requires-clause-few g c = (rw c.in-Trace.is at c.requires.within).0

pub returns-in-Check : goal.returns-in-Check
returns-in-Check g c =
    let out = g.O.Sink.side c.args.out.now in
    rw c.in-Check.is (runs_check c.args.bytes.now (g.I.Source.side c.args.input.now) out out c.check_only.result (c.check_only.ensures out)
    (g.F.Files.side c.args.files.now))

pub returns-in-Compile : goal.returns-in-Compile
returns-in-Compile g c =
    rw c.in-Compile.is (c.compile_source.ensures (g.I.Source.side c.args.input.now) (g.O.Sink.side c.args.out.now))

pub returns-in-List : goal.returns-in-List
returns-in-List g c =
    rw c.in-List.is (runs_list c.args.bytes.now (g.I.Source.side c.args.input.now) (g.O.Sink.side c.args.out.now)
    (g.O.Sink.side c.list_object.new.out) c.list_object.result c.list_object.ensures (g.F.Files.side c.args.files.now))

pub returns-in-Run : goal.returns-in-Run
returns-in-Run g c = rw c.in-Run.is (c.run_source.ensures (g.F.Files.side c.args.files.now))

pub exec_object-requires : goal.exec_object-requires
exec_object-requires g c = rw c.in-Exec.is at c.requires.within

pub returns-in-Exec : goal.returns-in-Exec
returns-in-Exec g c = rw c.in-Exec.is (c.exec_object.ensures (g.F.Files.side c.args.files.now))

pub sample-requires : goal.sample-requires
sample-requires g c = record { few = rw c.in-Sample.is at c.requires.within }

pub returns-in-Sample : goal.returns-in-Sample
returns-in-Sample g c =
    rw c.in-Sample.is (runs_sample c.in-Sample.lines (g.I.Source.side c.args.input.now) (g.O.Sink.side c.args.out.now)
    (g.O.Sink.side c.sample.new.out) c.sample.result c.sample.ensures (g.F.Files.side c.args.files.now))

pub returns-in-Trace : goal.returns-in-Trace
returns-in-Trace g c =
    rw c.in-Trace.is ((rw c.deref.ensures.value at c.trace_source.ensures) (g.F.Files.side c.args.files.now))
