use Rattle.std.proofs.Common.{◌∙◌, ◌<◌, List, ℕ, length, subst, sym, arith}
use Rattle.std.proofs.lemmas.Result.{err_from_is_err_and}
use Rattle.std.specs.Io.KnownBytes.{Appends}
use Rattle.alma_io.proofs.Known.{appends_trans}
use Rattle.alma_io.proofs.PartLemmas.{fails_after}
use Rattle.alma_pool.proofs.Showing.{shown_here, shown_more}
use Rattle.alma_pool.proofs.show.show_all.Goals as goal

pub returns-in_err-show_one : goal.returns-in_err-show_one
returns-in_err-show_one g c =
    let within : c.loop-k.k < length c.args.pool.now.programs = omega (arith, c.loop-k-test.true, c.count-k-end.ensures) in
    let p = err_from_is_err_and c.from_residual.result c.from_residual.ensures.1 in
    rw p.1 (fails_after _ _ _ _ _ _ _ (shown_here c.args.pool.now.programs c.loop-k.k within) c.loop-k.invariant.out
    c.loop-k.invariant.quiet c.in_err-show_one.ensures)

pub loop-k-preserved : goal.loop-k-preserved
loop-k-preserved g c =
    let within : c.loop-k.k < length c.args.pool.now.programs = omega (arith, c.loop-k-test.true, c.count-k-end.ensures) in
    record {
      out = subst (λ (bytes : List ℕ). Appends (g.O.Sink.side c.args.out.now).written (g.O.Sink.side c.show_one.new.out).written bytes)
          (sym (shown_more c.args.pool.now.programs c.loop-k.k within))
          (appends_trans _ _ _ _ _ c.loop-k.invariant.out c.in_ok-show_one.ensures.bytes_are);
      quiet = c.in_ok-show_one.ensures.quiet ∙ c.loop-k.invariant.quiet;
    }
