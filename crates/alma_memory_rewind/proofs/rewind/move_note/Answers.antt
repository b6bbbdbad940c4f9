use Rattle.std.proofs.Common.{◌≡◌, ◌+◌, ◌∷◌, drop, sym, ap, ◌∙◌, arith}
use Rattle.std.proofs.lemmas.List.{drop_more}
use Rattle.alma_memory_rewind.specs.Trail.{is_free}
use Rattle.alma_memory_rewind.proofs.Sweeps.{sweeps-keep, sweeps-drop}
use Rattle.alma_memory_rewind.proofs.rewind.move_note.Goals as goal

pub returns-then-needs_no_note-clause-keeps : goal.returns-then-needs_no_note-clause-keeps
returns-then-needs_no_note-clause-keeps g c =
    let trail = c.args.trail.now.items in
    let n = c.index-note.result.now in
    let e : drop c.args.at trail ≡ n ∷ drop (c.args.at + 1) trail = drop_more trail c.args.at n c.requires.within
    ∙ ap (λ x. x ∷ drop (c.args.at + 1) trail) (sym c.index-note.ensures) in
    record {
      keeps = λ all s. sweeps-drop c.args.marks.now all trail n c.args.to c.args.at c.requires.some c.requires.from
          (omega (arith, c.requires.low, c.requires.within)) e
          (ap (λ k. is_free c.args.marks.now k n.stamp) (sym c.place_of.ensures) ∙ sym c.if-needs_no_note.ensures) s;
    }

pub returns-clause-keeps : goal.returns-clause-keeps
returns-clause-keeps g c =
    let trail = c.args.trail.now.items in
    let n = c.index-note.result.now in
    let e : drop c.args.at trail ≡ n ∷ drop (c.args.at + 1) trail = drop_more trail c.args.at n c.requires.within
    ∙ ap (λ x. x ∷ drop (c.args.at + 1) trail) (sym c.index-note.ensures) in
    record {
      keeps = λ all s. sweeps-keep c.args.marks.now all trail n c.args.to c.args.at c.requires.low
          (omega (arith, c.requires.low, c.requires.within)) e s;
    }
