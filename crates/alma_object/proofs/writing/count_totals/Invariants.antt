use Rattle.std.proofs.Common.{◌≡◌, take, length, sum_by}
use Rattle.alma_code.specs.Plain.{code_of}
use Rattle.alma_object.proofs.writing.count_totals.Given as goal

abbrev pub invariant-loop-routine : goal.invariant-loop-routine
invariant-loop-routine l = record {
  names : l.names ≡ sum_by (λ x. length x.name) (take l.routine-index (code_of l.code).routines);
  params : l.params ≡ sum_by (λ x. length x.head.params) (take l.routine-index (code_of l.code).routines);
  runs : l.runs ≡ sum_by (λ x. length x.head.runs) (take l.routine-index (code_of l.code).routines);
}
