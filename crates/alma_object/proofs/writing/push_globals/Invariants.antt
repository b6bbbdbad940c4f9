use Rattle.std.proofs.Common.{◌≡◌, ◌++◌, ◌+◌, take, length, sum_by}
use Rattle.alma_code.specs.Plain.{code_of}
use Rattle.alma_object_format.specs.Object.{section, global_bytes}
use Rattle.alma_object.proofs.writing.push_globals.Given as goal

abbrev pub invariant-loop-global : goal.invariant-loop-global
invariant-loop-global l = record {
  names : l.name_end ≡ sum_by (λ x. length x.name) (code_of l.code).routines
      + sum_by (λ x. length x.name) (take l.global-index (code_of l.code).globals);
  written : l.out.items ≡ l.initial.out.items ++ section (global_bytes (code_of l.code)) l.global-index;
}
