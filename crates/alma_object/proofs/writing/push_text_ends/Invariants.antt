use Rattle.std.proofs.Common.{◌≡◌, ◌++◌, take, length, sum_by}
use Rattle.alma_code.specs.Plain.{code_of}
use Rattle.alma_object_format.specs.Object.{section, text_end_bytes}
use Rattle.alma_object.proofs.writing.push_text_ends.Given as goal

abbrev pub invariant-loop-text : goal.invariant-loop-text
invariant-loop-text l = record {
  ends : l.end ≡ sum_by length (take l.text-index (code_of l.code).texts);
  written : l.out.items ≡ l.initial.out.items ++ section (text_end_bytes (code_of l.code)) l.text-index;
}
