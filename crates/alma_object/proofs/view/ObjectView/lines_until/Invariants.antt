use Rattle.std.proofs.Common.{◌≤◌, ◌<◌, ◌-◌, List, length, get_or}
use Rattle.alma_code.specs.declared.code.Line.{Line}
use Rattle.alma_object.specs.View.{code_of_view, no_line}
use Rattle.alma_object.proofs.view.ObjectView.lines_until.Given as goal

abbrev pub invariant-halve : goal.invariant-halve
invariant-halve l =
    let lines : List Line = (code_of_view l.self).lines in
    record {
      order : l.low ≤ l.high;
      top : l.high ≤ length lines;
      before : 0 < l.low → (get_or lines (l.low - 1) no_line).at ≤ l.at;
      behind : l.high < length lines → l.at < (get_or lines l.high no_line).at;
    }

abbrev pub decreases-halve : goal.decreases-halve
decreases-halve l = l.high - l.low
