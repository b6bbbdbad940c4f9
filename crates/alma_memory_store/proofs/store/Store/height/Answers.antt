use Rattle.std.proofs.Common.{◌≡◌, length, sym, ap, ◌∙◌}
use Rattle.alma_memory_store.specs.PlainStore.{PlainStore, copies_of}
use Rattle.alma_memory_store.proofs.Copies.{copies-length}
use Rattle.alma_memory_store.proofs.store.Store.height.Goals as goal

pub returns : goal.returns
returns c =
    let cs = c.self.inside.slots.held in
    let rs = c.self.inside.regions.held in
    let ls = c.self.inside.lives.items in
    let vh : copies_of cs rs ls ≡ c.args.self.now.held = ap (λ (p : PlainStore). p.held) c.self.view_is in
    c.len.ensures ∙ (c.self.inside.lives.ok.0 ∙ (sym (copies-length cs rs ls c.self.invariant.1) ∙ ap length vh))
