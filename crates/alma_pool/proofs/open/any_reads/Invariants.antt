use Rattle.std.proofs.Common.{◌≡◌, drop}
use Rattle.std.specs.List.{list_any}
use Rattle.alma_code.specs.Reads.{code_reads}
use Rattle.alma_pool.specs.Inner.{codes_of}
use Rattle.alma_pool.proofs.open.any_reads.Given as goal

abbrev pub invariant-loop-code : goal.invariant-loop-code
invariant-loop-code l = list_any code_reads (codes_of l.verified) ≡ list_any code_reads (codes_of (drop l.code-index l.verified))
