use Rattle.std.proofs.Common.{◌≡◌, flat_map, take}
use Rattle.std.specs.Io.KnownBytes.{Appends}
use Rattle.alma_io.proofs.stream.write_parts.Given as goal

abbrev pub invariant-loop-part : goal.invariant-loop-part
invariant-loop-part g l = record {
  out : Appends (g.K.Sink.side l.fn.sink).written (g.K.Sink.side l.sink).written (flat_map (λ part. part.now) (take l.part-index l.parts));
  quiet : (g.K.Sink.side l.sink).faults ≡ (g.K.Sink.side l.fn.sink).faults;
}
