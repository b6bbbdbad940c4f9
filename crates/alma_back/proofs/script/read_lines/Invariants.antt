use Rattle.std.proofs.Common.{◌≡◌, ◌≤◌, ◌*◌, ◌+◌, length}
use Rattle.std.specs.Prelude.{All}
use Rattle.alma_back.specs.Script.{lines_in, texts_in}
use Rattle.alma_back.specs.Inner.{lines_of, IsShort}
use Rattle.alma_back.proofs.Texts.{behind}
use Rattle.alma_back.proofs.script.read_lines.Given as goal

abbrev pub invariant-loop-rest : goal.invariant-loop-rest
invariant-loop-rest l = record {
  read : lines_in l.script ≡ behind (lines_of l.lines.items) (texts_in l.rest);
  few : 2 * length l.lines.items + length l.rest ≤ length l.script;
  short : All IsShort l.lines.items;
}

abbrev pub decreases-loop-rest : goal.decreases-loop-rest
decreases-loop-rest l = length l.rest
