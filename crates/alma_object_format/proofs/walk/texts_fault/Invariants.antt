use Rattle.std.proofs.Common.{◌≡◌, ◌+◌, ◌-◌, ◌*◌, ◌≤◌, length}
use Rattle.alma_object_format.specs.Fault.{first_fault}
use Rattle.alma_object_format.specs.Header.{texts_at}
use Rattle.alma_object_format.specs.Walk.{text_fault, texts_fault}
use Rattle.alma_object_format.proofs.walk.texts_fault.Given as goal

abbrev pub invariant-loop-text : goal.invariant-loop-text
invariant-loop-text l = record {
  rest : texts_fault l.bytes l.header ≡ first_fault (text_fault l.bytes l.header) l.text (l.header.texts - l.text);
  whole : texts_at l.header + 4 * l.text ≤ length l.bytes;
}
