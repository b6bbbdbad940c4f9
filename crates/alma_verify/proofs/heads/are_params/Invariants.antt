use Rattle.std.proofs.Common.{◌≡◌, ◌≤◌, ◌*◌, drop}
use Rattle.alma_code.specs.Plain.{head_at, kinds_at}
use Rattle.alma_code.specs.Layout.{hold_params}
use Rattle.alma_verify.proofs.heads.are_params.Given as goal

abbrev pub invariant-loop-k : goal.invariant-loop-k
invariant-loop-k g l =
    record {
      rest :
          hold_params (kinds_at (g.R.CodeReader.code l.reader) l.routine) (head_at (g.R.CodeReader.code l.reader) l.routine).params 0
          ≡ hold_params (kinds_at (g.R.CodeReader.code l.reader) l.routine)
          (drop l.k (head_at (g.R.CodeReader.code l.reader) l.routine).params) l.slot;
      room : l.slot ≤ l.k * 4294967296;
    }
