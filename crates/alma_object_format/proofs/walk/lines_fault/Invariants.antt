use Rattle.std.proofs.Common.{◌≡◌, ◌+◌, ◌-◌, ◌*◌, ◌≤◌, length}
use Rattle.alma_object_format.specs.Fault.{first_fault}
use Rattle.alma_object_format.specs.Header.{lines_at}
use Rattle.alma_object_format.specs.Walk.{line_fault, lines_fault}
use Rattle.alma_object_format.proofs.walk.lines_fault.Given as goal

abbrev pub invariant-loop-line : goal.invariant-loop-line
invariant-loop-line l = record {
  rest : lines_fault l.bytes l.header ≡ first_fault (line_fault l.bytes l.header) l.line (l.header.lines - l.line);
  whole : lines_at l.header + 8 * l.line ≤ length l.bytes;
}
