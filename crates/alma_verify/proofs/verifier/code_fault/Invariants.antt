use Rattle.std.proofs.Common.{◌≡◌, ◌-◌, length}
use Rattle.alma_code.specs.Rules.{code_fault, routines_fault}
use Rattle.alma_verify.specs.Seen.{AreFit}
use Rattle.alma_verify.proofs.verifier.code_fault.Given as goal

abbrev pub invariant-loop-routine : goal.invariant-loop-routine
invariant-loop-routine g l =
    record {
      rest :
          code_fault (g.R.CodeReader.code l.reader)
          ≡ routines_fault (g.R.CodeReader.code l.reader) l.routine (length (g.R.CodeReader.code l.reader).routines - l.routine);
      seen : AreFit (g.R.CodeReader.code l.reader) l.seen;
    }
