use Rattle.std.specs.Io.KnownBytes.{Keeps}
use Rattle.alma_io.proofs.system.write_some.Given as goal

-- what was interrupted took nothing
abbrev pub invariant-loop : goal.invariant-loop
invariant-loop g l = Keeps (g.W.Write.contents l.fn.writer) (g.W.Write.contents l.writer)
