use Rattle.std.proofs.Common.{arith}
use Rattle.alma_check_type.proofs.ShapeSteps.{listed_next, listed_end, distinct_names}
use Rattle.alma_check_type.proofs.shape.field_list.Goals as goal

pub loop-place-preserved : goal.loop-place-preserved
loop-place-preserved c = listed_next _ c.loop-place.place c.args.fields.now.entries _ _ _ c.loop-place.invariant c.in_ok-field.ensures.field
    c.in_ok-field.ensures.below c.in_ok-push.ensures.items

pub returns-clause-distinct : goal.returns-clause-distinct
returns-clause-distinct c =
    distinct_names c.args.fields.now.entries _
    (listed_end _ c.loop-place.place c.args.fields.now.entries _ c.loop-place.invariant
    (omega (arith, c.len-count.ensures.len, c.loop-place-test.false))) c.len-count.ensures.unique
