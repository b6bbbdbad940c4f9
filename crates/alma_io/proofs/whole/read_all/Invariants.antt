use Rattle.std.proofs.Common.{◌≡◌, ◌≤◌, ◌<◌, ◌-◌, vec_len}
use Rattle.std.specs.Io.KnownBytes.{Consumes}
use Rattle.alma_io.proofs.whole.read_all.Given as goal

-- what was read so far is the front of what was left, and nothing has failed
abbrev pub invariant-loop-count : goal.invariant-loop-count
invariant-loop-count g l = record {
  within : vec_len l.bytes ≤ l.limit;
  chunk : 0 < vec_len l.chunk;
  front : Consumes (g.S.Source.side l.fn.source).left (g.S.Source.side l.source).left l.bytes.items;
  quiet : (g.S.Source.side l.source).faults ≡ (g.S.Source.side l.fn.source).faults;
}

abbrev pub decreases-loop-count : goal.decreases-loop-count
decreases-loop-count g l = l.limit - vec_len l.bytes
