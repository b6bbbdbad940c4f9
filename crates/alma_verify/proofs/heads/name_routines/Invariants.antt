use Rattle.std.proofs.Common.{◌≡◌, take}
use Rattle.std.specs.Prelude.{true}
use Rattle.std.specs.List.{list_all}
use Rattle.alma_code.specs.Plain.{head_at}
use Rattle.alma_code.specs.Rules.{names_routine}
use Rattle.alma_verify.proofs.heads.name_routines.Given as goal

abbrev pub invariant-loop-k : goal.invariant-loop-k
invariant-loop-k g l = list_all (λ run. names_routine (g.R.CodeReader.code l.reader) run.kind)
    (take l.k (head_at (g.R.CodeReader.code l.reader) l.routine).runs) ≡ true
