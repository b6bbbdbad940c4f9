use Rattle.std.proofs.Common.{◌≡◌, take, ap, ◌∙◌}
use Rattle.alma_memory_store.specs.PlainStore.{PlainStore, copies_of}
use Rattle.alma_memory_store.proofs.Copies.{states-take, copies-take}
use Rattle.alma_memory_store.proofs.store.Store.cut.Goals as goal

pub invariant_of-self : goal.invariant_of-self
invariant_of-self c =
    rw (c.cut.ensures.now, c.cut-2.ensures.now, c.cut.ensures.held, c.cut-2.ensures.held, c.truncate.ensures.items) (
      c.self.invariant.0,
      states-take c.args.height c.self.inside.slots.held c.self.inside.regions.held c.self.inside.lives.items c.self.invariant.1,
      c.self.invariant.2,
    )

pub returns-clause-held : goal.returns-clause-held
returns-clause-held c =
    let vh : copies_of c.self.inside.slots.held c.self.inside.regions.held c.self.inside.lives.items ≡ c.args.self.now.held =
    ap (λ (p : PlainStore). p.held) c.self.view_is in
    rw (c.cut.ensures.held, c.cut-2.ensures.held, c.truncate.ensures.items)
    (copies-take c.args.height c.self.inside.slots.held c.self.inside.regions.held c.self.inside.lives.items
    ∙ ap (take c.args.height) vh)
