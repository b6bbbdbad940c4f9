use Rattle.std.proofs.Common.{◌≡◌, ◌∙◌, ap, sym}
use Rattle.std.specs.Option.{option_copied_mut}
use Rattle.std.specs.Prelude.{None}
use Rattle.alma_base.specs.Carry.{carried_at}
use Rattle.alma_memory_store.specs.Carries.{carry_of_entries}
use Rattle.alma_memory_store.proofs.Carrying.{remove-listed, set-listed, lookup-listed, with-absent, rising-listed}
use Rattle.alma_memory_store.proofs.carry.Carry.put_back.Goals as goal

pub returns-in-Some-get_mut : goal.returns-in-Some-get_mut
returns-in-Some-get_mut c =
    let one = ap carry_of_entries (c.get_mut.follows.holds c.in-Some.old).0
    ∙ set-listed c.self.inside.cells.entries c.args.place c.in-Some.old in
    rw (c.in-Some.is, ← c.self.view_is) one

pub returns-in_default : goal.returns-in_default
returns-in_default c =
    let none : carried_at c.args.place.frame c.args.place.slot (carry_of_entries c.self.inside.cells.entries) ≡ None =
    sym (lookup-listed c.self.inside.cells.entries c.args.place)
    ∙ (sym c.get_mut.ensures.value ∙ ap (λ r. option_copied_mut r) c.in_default.is) in
    rw (c.in-Some.is, c.get_mut.follows.holds-at-none, ← c.self.view_is)
    (sym (with-absent c.args.place.frame c.args.place.slot c.in-Some.old (carry_of_entries c.self.inside.cells.entries) none))

pub returns-in-None : goal.returns-in-None
returns-in-None c =
    let one = ap carry_of_entries c.remove.ensures.entries ∙ remove-listed c.self.inside.cells.entries c.args.place in
    rw (c.in-None.is, ← c.self.view_is) one

pub invariant_of-self : goal.invariant_of-self
invariant_of-self c = rising-listed (c.get_mut.follows.lender c.in-Some.old).entries (c.get_mut.follows.holds c.in-Some.old).4

pub invariant_of-self-in-None : goal.invariant_of-self-in-None
invariant_of-self-in-None c = rising-listed c.remove.new.self.entries c.remove.ensures.ordered
