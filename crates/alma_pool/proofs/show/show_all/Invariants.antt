use Rattle.std.proofs.Common.{◌≡◌, take}
use Rattle.std.specs.Io.KnownBytes.{Appends}
use Rattle.alma_pool.specs.Inner.{shown_text}
use Rattle.alma_pool.proofs.show.show_all.Given as goal

abbrev pub invariant-loop-k : goal.invariant-loop-k
invariant-loop-k g l = record {
  out : Appends (g.O.Sink.side l.fn.out).written (g.O.Sink.side l.out).written (shown_text 0 (take l.k l.pool.programs));
  quiet : (g.O.Sink.side l.out).faults ≡ (g.O.Sink.side l.fn.out).faults;
}
