use Rattle.std.proofs.Common.{◌≡◌, take, length, sum_by}
use Rattle.alma_code.specs.Plain.{code_of}
use Rattle.alma_object.proofs.writing.total_texts.Given as goal

abbrev pub invariant-loop-text : goal.invariant-loop-text
invariant-loop-text l = l.bytes ≡ sum_by length (take l.text-index (code_of l.code).texts)
