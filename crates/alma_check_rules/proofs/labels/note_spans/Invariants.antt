use Rattle.std.proofs.Common.{take}
use Rattle.alma_check_rules.specs.Reach.{Rises}
use Rattle.alma_check_rules.specs.Labels.{CoversAll}
use Rattle.alma_check_rules.proofs.labels.note_spans.Given as goal

abbrev pub invariant-loop-i : goal.invariant-loop-i
invariant-loop-i l = record {
  rises : Rises l.ends;
  stay : CoversAll l.ends (take l.from l.spans);
  covers : CoversAll l.ends (take l.i l.spans);
}
