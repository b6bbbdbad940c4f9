use Rattle.std.proofs.Common.{◌∙◌, ap}
use Rattle.alma_base.specs.Carry.{carried_at, with_change}
use Rattle.alma_memory_store.specs.Carries.{change_of, carry_of_entries}
use Rattle.alma_memory_store.proofs.Carrying.{insert-listed, lookup-listed, rising-listed}
use Rattle.alma_memory_store.proofs.carry.Carry.set.Goals as goal

pub returns-clause-carry : goal.returns-clause-carry
returns-clause-carry c =
    ap carry_of_entries c.in_ok-insert.ensures.entries
    ∙ (insert-listed c.self.inside.cells.entries c.args.place c.args.cell
    ∙ ap (with_change (change_of c.args.place c.args.cell)) c.self.view_is)

pub returns-clause-had : goal.returns-clause-had
returns-clause-had c =
    c.in_ok-insert.ensures.old
    ∙ (lookup-listed c.self.inside.cells.entries c.args.place
    ∙ ap (carried_at c.args.place.frame c.args.place.slot) c.self.view_is)

pub invariant_of-self-2 : goal.invariant_of-self-2
invariant_of-self-2 c = rising-listed c.insert.new.self.entries c.insert.ensures.ordered
