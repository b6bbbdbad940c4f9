use Rattle.std.proofs.Common.{◌∙◌, ap, sym, arith}
use Rattle.alma_code.specs.Picture.{kind_at}
use Rattle.alma_memory.specs.Picture.{Picture}
use Rattle.alma_memory.proofs.Stacks.{kind-some, kind-none, kind-above}
use Rattle.alma_memory.proofs.memory.Memory.kind_at.Goals as goal
use Rattle.alma_memory.proofs.memory.Memory.kind_at.Goals.{then-height-eq0-via-then-height-eq0}
use Rattle.alma_memory.proofs.memory.Memory.kind_at.Goals.{then-height-eq0-via-else-height-eq0+then-height-len}

pub returns-then-height-eq0 : goal.returns-then-height-eq0
returns-then-height-eq0 c =
    elim c.then-height-eq0.branch [
      | then-height-eq0-via-then-height-eq0 w ↦
          sym (kind-none c.self.inside.entries.items c.self.inside.store.held c.args.height (omega (arith, w.if-height-eq0.true)))
          ∙ ap (λ (p : Picture). kind_at p.held c.args.height) c.self.view_is
      | then-height-eq0-via-else-height-eq0+then-height-len w ↦
          sym (kind-above c.self.inside.entries.items c.self.inside.store.held c.args.height
          (omega (arith, w.if-height-len.true, w.len.ensures, c.self.inside.entries.ok.0)))
          ∙ ap (λ (p : Picture). kind_at p.held c.args.height) c.self.view_is
    ]

pub returns : goal.returns
returns c =
    sym (kind-some c.self.inside.entries.items c.self.inside.store.held c.args.height c.index.result.now c.self.invariant
    (omega (arith, c.if-height-eq0.false))
    (omega (arith, c.if-height-len.false, c.len.ensures, c.self.inside.entries.ok.0)) c.index.ensures)
    ∙ ap (λ (p : Picture). kind_at p.held c.args.height) c.self.view_is
