use Rattle.std.proofs.Common.{refl}
use Rattle.alma_tree.specs.declared.leaf.Name.{Name}
use Rattle.alma_rules.specs.Places as places
use Rattle.alma_rules.specs.View as view
use Rattle.alma_check_marks.proofs.Steps.{◌▸◌, next_at, finish}
use Rattle.alma_check_marks.proofs.type_node.mark_more_names.Goals as goal

pub loop-name-preserved : goal.loop-name-preserved
loop-name-preserved c =
    let some_name : Name = record { node = 0; token = 0 } in
    next_at (λ xs. places.mark_more_names (view.names_of xs)) c.loop-name.name-index c.args.more.now some_name c.loop-name-test.true
    c.loop-name.invariant
    ▸ c.in_ok-token.ensures ▸ c.in_ok-leaf.ensures

pub returns : goal.returns
returns c = finish (λ xs. places.mark_more_names (view.names_of xs)) c.loop-name.name-index c.args.more.now c.loop-name-test.false refl
    c.loop-name.invariant
