use Rattle.std.proofs.Common.{rules, w64, get_or, pos}
use Rattle.std.proofs.lemmas.Int.{to_z-of_z}
use Rattle.alma_check_rules.specs.declared.part.Span.{Span}
use Rattle.alma_check_rules.proofs.Covered.{covers_kept, covers_more}
use Rattle.alma_check_rules.proofs.labels.note_spans.Goals as goal

no_span : Span
no_span = record { base = 0; range = record { low = pos 0; high = pos 0 } }

pub returns-in_err-note_end-clause-stay : goal.returns-in_err-note_end-clause-stay
returns-in_err-note_end-clause-stay c = covers_kept _ _ _ c.note_end.ensures.keeps c.loop-i.invariant.stay

pub loop-i-preserved : goal.loop-i-preserved
unfolding no_span
loop-i-preserved c =
    let covers = rw (
      to_z-of_z w64 (get_or c.args.spans.now c.loop-i.i no_span).range.low (search rules),
      to_z-of_z w64 (get_or c.args.spans.now c.loop-i.i no_span).range.high (search rules),
    ) at c.in_ok-note_end.ensures.covers in
    record {
      rises = c.note_end.ensures.rises;
      stay = covers_kept _ _ _ c.note_end.ensures.keeps c.loop-i.invariant.stay;
      covers = covers_more c.loop-i.ends c.note_end.new.ends c.loop-i.i c.args.spans.now no_span c.note_end.ensures.keeps c.loop-i-test.true
          c.loop-i.invariant.covers covers;
    }
