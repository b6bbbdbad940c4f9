use Rattle.std.proofs.Common.{◌≡◌, ◌∙◌, ap, sym, length, arith}
use Rattle.alma_memory.specs.Picture.{Picture}
use Rattle.alma_memory.proofs.Stacks.{stack-length}
use Rattle.alma_memory.proofs.memory.Memory.keep.Goals as goal

pub keep_top-requires-clause-below : goal.keep_top-requires-clause-below
keep_top-requires-clause-below c =
    let wide : length c.args.self.now.held ≡ length c.self.inside.entries.items =
    sym (ap (λ (p : Picture). length p.held) c.self.view_is)
    ∙ stack-length c.self.inside.entries.items c.self.inside.store.held c.self.invariant in
    omega (arith, wide, c.requires.below)
