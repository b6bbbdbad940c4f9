use Rattle.std.proofs.Common.{length, []}
use Rattle.alma_scan.proofs.Slices.{slices, count_of}
use Rattle.alma_scan.proofs.laws.tokens_are_slices.Goals as goal

pub returns-clause-slices : goal.returns-clause-slices
returns-clause-slices c = slices

pub returns-clause-count : goal.returns-clause-count
returns-clause-count c = λ source tokens h. count_of (length source) source tokens [] h
