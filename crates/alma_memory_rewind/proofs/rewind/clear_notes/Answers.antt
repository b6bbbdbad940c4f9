use Rattle.std.proofs.Common.{◌<◌, get_or, set, length, refl, ap, ◌∙◌, arith}
use Rattle.std.proofs.lemmas.List.{length-set}
use Rattle.alma_memory_rewind.specs.declared.rewind.Note.{Note}
use Rattle.alma_memory_rewind.proofs.Restarts.{clear-more}
use Rattle.alma_memory_rewind.proofs.rewind.clear_notes.Goals as goal

pub loop-at-preserved : goal.loop-at-preserved
loop-at-preserved g c =
    let inv = c.loop-at.invariant in
    let n : Note g.row.T.Denot = c.index-note.result.now in
    let x : Note g.row.T.Denot = record { at = n.at; stamp = 0; old = n.old } in
    let low : c.loop-at.at < length c.args.trail.now.items = omega (arith, inv.1, c.loop-at-test.true) in (
      ap (λ ns. set ns c.loop-at.at x) inv.0
          ∙ clear-more c.loop-at.at c.args.trail.now.items n x low (c.index-note.ensures ∙ ap (λ ns. get_or ns c.loop-at.at n) inv.0) refl,
      length-set c.loop-at.trail.items c.loop-at.at x ∙ inv.1,
      inv.2,
      inv.3,
    )
