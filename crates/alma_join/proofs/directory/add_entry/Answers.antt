use Rattle.std.proofs.Common.{sym, ◌∙◌}
use Rattle.indexmap.specs.IndexMap.{get}
use Rattle.alma_join.specs.Directory.{alike}
use Rattle.alma_join.proofs.Exports.{own_put, other_put, same_there, found_some, found_none}
use Rattle.alma_join.proofs.directory.add_entry.Goals as goal
use Rattle.alma_join.proofs.directory.add_entry.Goals.{in-Some, in-None}

pub returns-clause-own : goal.returns-clause-own
returns-clause-own c = λ q e.
    let name = c.args.export.routine.now.name in
    let there = same_there c.args.entries.now q name e ∙ sym c.swap_remove.ensures.value in
    own_put name c.in_ok-to_vec.field-0 q (get alike c.args.entries.now q)
    (get alike c.swap_remove.new.self q) _ c.match-swap_remove.list _ c.args.export
    (c.in_ok-to_vec.ensures.items_if_clones_equal (λ x y e. e) ∙ c.deref.ensures.value) e
    (elim c.match-swap_remove.branch [
      | in-Some w ↦ found_some _ _ _ _ there w.in-Some.is w.list-is
      | in-None w ↦ found_none _ _ _ _ there w.in-None.is w.list-is w.new-list.ensures.items
    ])
    c.in_ok-push.ensures.items (c.in_ok-insert.ensures.updates.0 q)

pub returns-clause-others : goal.returns-clause-others
returns-clause-others c = λ q differ.
    other_put c.args.export.routine.now.name c.in_ok-to_vec.field-0 q (get alike c.args.entries.now q)
    (get alike c.swap_remove.new.self q) _ _
    (c.in_ok-to_vec.ensures.items_if_clones_equal (λ x y e. e) ∙ c.deref.ensures.value) differ (c.swap_remove.ensures.updates.0 q)
    (c.in_ok-insert.ensures.updates.0 q)
