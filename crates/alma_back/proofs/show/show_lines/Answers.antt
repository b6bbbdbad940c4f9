use Rattle.std.proofs.Common.{◌+◌, refl, sym, subst, arith, drop}
use Rattle.std.proofs.lemmas.Result.{err_from_is_err_and}
use Rattle.alma_back.specs.Inner.{lines_of}
use Rattle.alma_back.specs.Session.{lines_text}
use Rattle.alma_back.specs.Standing.{Standing}
use Rattle.alma_back.proofs.Shown.{HasShown, shown_next, shown_more, shown_stop}
use Rattle.alma_back.proofs.show.show_lines.Goals as goal

pub returns-in_err-show_line : goal.returns-in_err-show_line
returns-in_err-show_line g c =
    let p = err_from_is_err_and c.from_residual.result c.from_residual.ensures.1 in
    rw p.1 (shown_stop _ _ (g.O.Sink.side c.show_line.new.out) _ _ _ _ c.loop-line.invariant.shown
    (shown_next c.loop-line.back c.args.lines.now c.loop-line.line-index _ _ c.loop-line-test.true refl) _ _ p.2
    c.in_err-show_line.ensures.shows)

pub loop-line-preserved : goal.loop-line-preserved
loop-line-preserved g c = record {
  shown = subst (λ (s : Standing). HasShown (g.O.Sink.side c.args.out.now) (g.O.Sink.side c.show_line.new.out)
      (lines_text c.args.back.now (lines_of c.args.lines.now))
      (lines_text s (lines_of (drop (c.loop-line.line-index + 1) c.args.lines.now)))) (sym c.in_ok-show_line.ensures.stands)
      (shown_more _ _ _ _ _ _ _ c.loop-line.invariant.shown
      (shown_next c.loop-line.back c.args.lines.now c.loop-line.line-index _ _ c.loop-line-test.true refl)
      c.in_ok-show_line.ensures.shows);
  few = omega (arith, c.in_ok-show_line.ensures.few, c.loop-line.invariant.few);
}
