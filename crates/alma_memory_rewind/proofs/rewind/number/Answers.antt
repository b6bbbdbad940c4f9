use Rattle.std.proofs.Common.{◌<◌, ◌+◌, get_or, set, length, refl, ap, ◌∙◌, arith}
use Rattle.std.proofs.lemmas.List.{length-set}
use Rattle.alma_memory_rewind.specs.declared.rewind.Mark.{Mark}
use Rattle.alma_memory_rewind.proofs.Restarts.{number-more}
use Rattle.alma_memory_rewind.proofs.rewind.number.Goals as goal

pub loop-at-preserved : goal.loop-at-preserved
loop-at-preserved c =
    let inv = c.loop-at.invariant in
    let m : Mark = c.index-mark.result.now in
    let x : Mark = record { mark = m.mark; top = m.top; serial = c.loop-at.at + 1 } in
    let low : c.loop-at.at < length c.args.marks.now.items = omega (arith, inv.1, c.loop-at-test.true) in (
      ap (λ ms. set ms c.loop-at.at x) inv.0
          ∙ number-more c.loop-at.at 1 c.args.marks.now.items m x (c.loop-at.at + 1) low
          (c.index-mark.ensures ∙ ap (λ ms. get_or ms c.loop-at.at m) inv.0) refl refl,
      length-set c.loop-at.marks.items c.loop-at.at x ∙ inv.1,
      inv.2,
      inv.3,
    )
