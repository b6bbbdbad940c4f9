use Rattle.std.proofs.Common.{◌≤◌, ◌*◌, drop}
use Rattle.alma_back.specs.Inner.{lines_of}
use Rattle.alma_back.specs.Script.{greatest_count}
use Rattle.alma_back.specs.Session.{lines_text}
use Rattle.alma_back.proofs.Shown.{HasShown}
use Rattle.alma_back.proofs.show.show_lines.Given as goal

abbrev pub invariant-loop-line : goal.invariant-loop-line
invariant-loop-line g l = record {
  shown : HasShown (g.O.Sink.side l.fn.out) (g.O.Sink.side l.out) (lines_text l.initial.back (lines_of l.lines))
      (lines_text l.back (lines_of (drop l.line-index l.lines)));
  few : l.back.steps ≤ l.line-index * greatest_count;
}
