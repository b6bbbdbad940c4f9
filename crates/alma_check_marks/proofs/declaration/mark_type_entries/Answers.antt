use Rattle.std.proofs.Common.{refl}
use Rattle.alma_rules.specs.Places as places
use Rattle.alma_rules.specs.View as view
use Rattle.alma_check_marks.proofs.Steps.{◌▸◌, next, finish}
use Rattle.alma_check_marks.proofs.declaration.mark_type_entries.Goals as goal

pub loop-entry-preserved : goal.loop-entry-preserved
loop-entry-preserved c = next (λ xs. places.mark_type_entries (view.types_of xs)) c.loop-entry.entry-index c.args.entries.now
    c.entry-item.result c.loop-entry-test.true c.entry-item.is c.loop-entry.invariant ▸ c.in_ok-leaf.ensures ▸ c.in_ok-token.ensures ▸
    c.in_ok-mark_type.ensures ▸ c.in_ok-token-2.ensures

pub returns : goal.returns
returns c = finish (λ xs. places.mark_type_entries (view.types_of xs)) c.loop-entry.entry-index c.args.entries.now c.loop-entry-test.false
    refl c.loop-entry.invariant
