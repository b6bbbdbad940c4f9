use Rattle.std.proofs.Common.{◌≡◌, ◌++◌, take, length, sum_by}
use Rattle.alma_code.specs.Plain.{code_of}
use Rattle.alma_object_format.specs.Object.{section, routine_bytes}
use Rattle.alma_object.proofs.writing.push_routines.Given as goal

abbrev pub invariant-loop-routine : goal.invariant-loop-routine
invariant-loop-routine l = record {
  names : l.name_end ≡ sum_by (λ x. length x.name) (take l.routine-index (code_of l.code).routines);
  params : l.params_end ≡ sum_by (λ x. length x.head.params) (take l.routine-index (code_of l.code).routines);
  runs : l.runs_end ≡ sum_by (λ x. length x.head.runs) (take l.routine-index (code_of l.code).routines);
  written : l.out.items ≡ l.initial.out.items ++ section (routine_bytes (code_of l.code)) l.routine-index;
}
