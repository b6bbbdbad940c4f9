use Rattle.std.proofs.Common.{ap}
use Rattle.std.specs.Prelude.{Some}
use Rattle.alma_io.specs.Memory.{SourceState, SinkState}
use Rattle.alma_driver_serve.proofs.SampleLemmas.{IsOwn, sampled_by, source_side}
use Rattle.alma_driver_serve.proofs.sample.run_aside.Goals as goal

pub returns : goal.returns
returns c =
    let end = c.run_source.result in
    let own : IsOwn end = record { not_refused = c.in_default.not-Refused } in
    sampled_by c.args.source.now c.run_source.new.out.written c.bytes.result.now c.in_ok-input.input.left c.in_ok-prints.prints.written
    c.in_ok-input.input.faults c.in_ok-prints.prints.faults
    (source_side (Some c.run_source.new.input.left) c.run_source.new.input.faults) c.run_source.new.out.faults end c.status.result
    (ap (λ (s : SourceState). s.left) c.in_ok-input.ensures) (ap (λ (s : SinkState). s.written) c.in_ok-prints.ensures) c.bytes.ensures
    c.status.ensures own c.run_source.ensures
