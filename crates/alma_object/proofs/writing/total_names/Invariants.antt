use Rattle.std.proofs.Common.{◌≡◌, ◌+◌, take, length, sum_by}
use Rattle.alma_code.specs.Plain.{code_of}
use Rattle.alma_object.proofs.writing.total_names.Given as goal

abbrev pub invariant-loop-global : goal.invariant-loop-global
invariant-loop-global l =
    l.names ≡ sum_by (λ x. length x.name) (code_of l.code).routines
    + sum_by (λ x. length x.name) (take l.global-index (code_of l.code).globals)
