use Rattle.std.proofs.Common.{◌≡◌, length}
use Rattle.alma_scan.specs.Scanned.{lexemes}
use Rattle.alma_scan.proofs.Lists.{Found}
use Rattle.alma_scan.proofs.scanner.scan.Given as goal

abbrev pub invariant-loop-token : goal.invariant-loop-token
invariant-loop-token l = record {
  size : l.scanner.size ≡ length l.source;
  found : Found (length l.source) (lexemes l.tokens.items) l.source l.scanner.bytes;
}

abbrev pub decreases-loop-token : goal.decreases-loop-token
decreases-loop-token l = length l.scanner.bytes
