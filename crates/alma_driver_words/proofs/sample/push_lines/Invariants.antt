use Rattle.std.proofs.Common.{◌≡◌, ◌++◌, ◌-◌}
use Rattle.alma_driver_words.specs.Sample.{lines_from}
use Rattle.alma_driver_words.proofs.sample.push_lines.Given as goal

abbrev pub invariant-loop : goal.invariant-loop
invariant-loop l = l.text.items ++ lines_from (l.lines - l.counter) l.number ≡ l.fn.text.items ++ lines_from l.lines 12345
