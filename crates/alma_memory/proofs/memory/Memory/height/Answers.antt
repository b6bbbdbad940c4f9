use Rattle.std.proofs.Common.{◌∙◌, ap, sym, length}
use Rattle.alma_memory.specs.Picture.{Picture}
use Rattle.alma_memory.proofs.Stacks.{stack-length}
use Rattle.alma_memory.proofs.memory.Memory.height.Goals as goal

pub returns : goal.returns
returns c =
    c.len.ensures ∙ (c.self.inside.entries.ok.0
    ∙ (sym (stack-length c.self.inside.entries.items c.self.inside.store.held c.self.invariant)
    ∙ ap (λ (p : Picture). length p.held) c.self.view_is))
