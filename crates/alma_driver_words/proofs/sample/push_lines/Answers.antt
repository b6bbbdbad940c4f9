use Rattle.alma_driver_words.proofs.Lines.{lines_next}
use Rattle.alma_driver_words.proofs.sample.push_lines.Goals as goal

pub loop-preserved : goal.loop-preserved
loop-preserved c =
    rw c.next_number-number.ensures (lines_next _ c.loop.text.items c.push_line.new.text.items c.args.lines c.loop.counter c.loop.number
    c.loop-test.true c.loop.invariant c.in_ok-push_line.ensures)
