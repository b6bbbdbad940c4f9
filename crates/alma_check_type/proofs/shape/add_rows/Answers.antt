use Rattle.std.proofs.Common.{length, refl, sym, ◌∙◌}
use Rattle.alma_check_type.specs.Told.{formed_of}
use Rattle.alma_check_type.proofs.ShapeSteps.{rows_begin, rows_next, rows_end}
use Rattle.alma_check_type.proofs.shape.add_rows.Goals as goal

pub loop-done-init : goal.loop-done-init
loop-done-init c = rows_begin c.args.reader.now (formed_of c.args.element) c.args.indices.now (length c.args.indices.now) refl

pub loop-done-preserved : goal.loop-done-preserved
loop-done-preserved c =
    c.loop-done.invariant ∙ rows_next c.loop-done.reader (formed_of c.loop-done.formed) c.args.indices.now (length c.args.indices.now)
    c.loop-done.done _ refl c.loop-done-test.true c.in_ok-formed.ensures

pub returns : goal.returns
returns c = sym (c.loop-done.invariant ∙ rows_end c.loop-done.reader (formed_of c.loop-done.formed) c.args.indices.now
    (length c.args.indices.now) c.loop-done.done c.loop-done-test.false)
