use Rattle.std.proofs.Common.{sym, subst, ◌+◌}
use Rattle.alma_join.specs.Directory.{others, IsAnswer}
use Rattle.alma_join.proofs.Going.{plain_front, answer_same, answer_more, answer_all}
use Rattle.alma_join.proofs.directory.matches_among.Goals as goal
use Rattle.alma_join.proofs.directory.matches_among.Goals.{then-export-unit, else-export-unit}

pub loop-export-preserved : goal.loop-export-preserved
loop-export-preserved c =
    elim c.if-export-unit.branch [
      | then-export-unit w ↦ subst (λ m. IsAnswer m (others c.args.unit
          (plain_front c.args.exports.now (c.loop-export.export-index + 1)))) (sym w.matches-is)
          (answer_more _ _ _ _ c.export-item.result c.loop-export-test.true c.export-item.is w.if-export-unit.true
          (w.with_match-matches.ensures _ c.loop-export.invariant))
      | else-export-unit w ↦ subst (λ m. IsAnswer m (others c.args.unit
          (plain_front c.args.exports.now (c.loop-export.export-index + 1)))) (sym w.matches-is)
          (answer_same _ _ _ _ c.export-item.result c.loop-export-test.true c.export-item.is w.if-export-unit.false c.loop-export.invariant)
    ]

pub returns : goal.returns
returns c = answer_all _ _ _ _ c.loop-export-test.false c.loop-export.invariant
