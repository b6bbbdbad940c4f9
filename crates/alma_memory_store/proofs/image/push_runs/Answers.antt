use Rattle.std.proofs.Common.{◌++◌, ◌∷◌, [], ap, sym, ◌∙◌, arith}
use Rattle.alma_memory_store.proofs.Blanks.{take-read}
use Rattle.alma_memory_store.proofs.image.push_runs.Goals as goal

pub loop-i-preserved : goal.loop-i-preserved
loop-i-preserved g c =
    let runs = (g.H.Head.head c.args.head.now).runs in (
      c.push_reserved.ensures.items
          ∙ (ap (λ v. v ++ c.run.result ∷ []) c.loop-i.invariant.0 ∙ sym (take-read c.run.result runs c.loop-i.i c.run.ensures)),
      omega (arith, c.push_reserved.ensures.capacity, c.loop-i.invariant.1),
    )
