use Rattle.std.proofs.Common.{rules, [], ◌≡◌, ◌<◌, ◌+◌, ◌++◌, List, ℕ, ap, sym, ◌∙◌, subst, arith, true, false}
use Rattle.std.specs.Prelude.{is_err}
use Rattle.alma_code.specs.Machine.{prints}
use Rattle.alma_io.specs.Buffer.{GainsAllBut}
use Rattle.alma_io.proofs.BufferLemmas.{failed_of, gained_of}
use Rattle.alma_machine.specs.Runs.{made}
use Rattle.alma_machine.specs.View.{goes_on}
use Rattle.alma_machine.proofs.Dashing.{progress_dash, prints_dash}
use Rattle.alma_machine.proofs.Budget.{progress_more, prints_then, made_is, finished, goes_unless, on_err}
use Rattle.alma_machine.proofs.Withins.{reached_by_progress, reached_still, starves, fails_at, ends_at, buffered_more, gained_end, err_stops}
use Rattle.alma_machine.proofs.machine.Machine.run_buffered.Goals as goal

-- memory was wanted

pub returns-in_default-clause-far : goal.returns-in_default-clause-far
returns-in_default-clause-far g c =
    let old = c.args.self.now in
    let d = c.dash-quick in
    let m = c.loop-made.made + d.result in
    let now = progress_dash old c.loop-made.self d.new.self c.loop-made.made d.result c.loop-made.invariant.progress d.ensures.state
    d.ensures.shown d.ensures.counted d.ensures.same in
    let failed : is_err c.step.result ≡ true = search rules in
    let refused = on_err c.step.result ((c.step.new.self.state ≡ d.new.self.state) × (c.step.new.self.printed ≡ [])) failed
    c.step.ensures.refused in
    starves old c.step.new.self m c.args.budget
    (reached_still old d.new.self c.step.new.self m (reached_by_progress old d.new.self m now) refused.0 c.step.ensures.same)
    (omega (arith, d.ensures.few, c.steps_until_flush.ensures)) (c.step.ensures.running ∙ err_stops c.step.result failed) refused.1

pub returns-in_default-clause-out : goal.returns-in_default-clause-out
returns-in_default-clause-out g c =
    let old = c.args.self.now in
    let d = c.dash-quick in
    let m = c.loop-made.made + d.result in
    let before = c.loop-made.invariant.progress in
    let now = progress_dash old c.loop-made.self d.new.self c.loop-made.made d.result before d.ensures.state
    d.ensures.shown d.ensures.counted d.ensures.same in
    let failed : is_err c.step.result ≡ true = search rules in
    let refused = on_err c.step.result ((c.step.new.self.state ≡ d.new.self.state) × (c.step.new.self.printed ≡ [])) failed
    c.step.ensures.refused in
    let count = (reached_still old d.new.self c.step.new.self m (reached_by_progress old d.new.self m now) refused.0 c.step.ensures.same).count in
    subst (λ (bytes : List ℕ). GainsAllBut (g.K.Sink.side c.args.out.now) (g.K.Sink.side c.loop-made.out) (c.args.buffer.now ++ bytes)
    c.loop-made.buffer)
    (sym (ap (λ k. prints old.code old.input k old.state) count
    ∙ prints_dash old c.loop-made.self c.loop-made.made d.result before d.ensures.silent)) c.loop-made.invariant.out

-- the run ended

pub returns-in-Done-clause-far : goal.returns-in-Done-clause-far
returns-in-Done-clause-far g c =
    let old = c.args.self.now in
    let d = c.dash-quick in
    let m = c.loop-made.made + d.result in
    let now = progress_dash old c.loop-made.self d.new.self c.loop-made.made d.result c.loop-made.invariant.progress d.ensures.state
    d.ensures.shown d.ensures.counted d.ensures.same in
    let p = progress_more old d.new.self c.step.new.self m c.in-Ok.step now c.in-Ok.ensures.step c.in-Ok.ensures.counted
    c.in-Ok.ensures.same in
    let lt : m < c.args.budget = omega (arith, d.ensures.few, c.steps_until_flush.ensures) in
    let h = finished old d.new.self c.step.new.self m c.args.budget c.in-Ok.step c.in-Done.end now p c.in-Ok.ensures.step c.in-Done.is
    c.in-Ok.ensures.mode c.in-Ok.ensures.quiet lt in
    rw c.from.ensures (ends_at old c.step.new.self m c.args.budget c.in-Done.end p h lt
    (c.in-Ok.ensures.running ∙ ap goes_on c.in-Done.is))

pub returns-in-Done-clause-out : goal.returns-in-Done-clause-out
returns-in-Done-clause-out g c =
    let old = c.args.self.now in
    let d = c.dash-quick in
    let m = c.loop-made.made + d.result in
    let before = c.loop-made.invariant.progress in
    let now = progress_dash old c.loop-made.self d.new.self c.loop-made.made d.result before d.ensures.state
    d.ensures.shown d.ensures.counted d.ensures.same in
    let p = progress_more old d.new.self c.step.new.self m c.in-Ok.step now c.in-Ok.ensures.step c.in-Ok.ensures.counted
    c.in-Ok.ensures.same in
    let lt : m < c.args.budget = omega (arith, d.ensures.few, c.steps_until_flush.ensures) in
    let h = finished old d.new.self c.step.new.self m c.args.budget c.in-Ok.step c.in-Done.end now p c.in-Ok.ensures.step c.in-Done.is
    c.in-Ok.ensures.mode c.in-Ok.ensures.quiet lt in
    rw c.from.ensures (gained_end c.in-Done.end _ _ _ _
    (subst (λ (bytes : List ℕ). GainsAllBut (g.K.Sink.side c.args.out.now) (g.K.Sink.side c.loop-made.out) (c.args.buffer.now ++ bytes)
    c.loop-made.buffer)
    (sym (ap (λ k. prints old.code old.input k old.state) (made_is old c.step.new.self (m + 1) p) ∙ h.last ∙ sym h.printed
    ∙ prints_dash old c.loop-made.self c.loop-made.made d.result before d.ensures.silent)) c.loop-made.invariant.out))

-- the sink failed

pub returns-then-is_err : goal.returns-then-is_err
returns-then-is_err g c =
    let old = c.args.self.now in
    let d = c.dash-quick in
    let m = c.loop-made.made + d.result in
    let before = c.loop-made.invariant.progress in
    let now = progress_dash old c.loop-made.self d.new.self c.loop-made.made d.result before d.ensures.state d.ensures.shown
    d.ensures.counted d.ensures.same in
    let p = progress_more old d.new.self c.step.new.self m c.in-Ok.step now c.in-Ok.ensures.step c.in-Ok.ensures.counted
    c.in-Ok.ensures.same in
    let at = reached_still old c.step.new.self c.stop.new.self (m + 1) (reached_by_progress old c.step.new.self (m + 1) p) c.stop.ensures.state
    c.stop.ensures.same in
    let failed : is_err c.write_buffered.result ≡ true = search rules in
    record {
      far = fails_at old c.stop.new.self (m + 1) c.args.budget at (omega (arith, d.ensures.few, c.steps_until_flush.ensures))
          c.stop.ensures.stopped.0 c.stop.ensures.stopped.1;
      out = failed_of c.write_buffered.result (g.K.Sink.side c.args.out.now) (g.K.Sink.side c.write_buffered.new.out)
          (c.args.buffer.now ++ prints old.code old.input (made old c.stop.new.self) old.state) c.write_buffered.new.buffer failed
          (buffered_more c.write_buffered.result (g.K.Sink.side c.args.out.now) (g.K.Sink.side c.loop-made.out)
          (g.K.Sink.side c.write_buffered.new.out) c.args.buffer.now (prints old.code old.input c.loop-made.made old.state)
          c.printed.result.now (prints old.code old.input (made old c.stop.new.self) old.state) c.loop-made.buffer
          c.write_buffered.new.buffer c.loop-made.invariant.out c.write_buffered.ensures
          (ap (λ k. prints old.code old.input k old.state) at.count
          ∙ prints_then old d.new.self c.step.new.self m c.in-Ok.step now c.in-Ok.ensures.step
          ∙ ap (λ bytes. bytes ++ c.step.new.self.printed)
          (prints_dash old c.loop-made.self c.loop-made.made d.result before d.ensures.silent)
          ∙ ap (λ bytes. prints old.code old.input c.loop-made.made old.state ++ bytes) (sym c.printed.ensures)));
    }

-- one more turn

pub loop-made-preserved : goal.loop-made-preserved
loop-made-preserved g c =
    let old = c.args.self.now in
    let d = c.dash-quick in
    let m = c.loop-made.made + d.result in
    let before = c.loop-made.invariant.progress in
    let now = progress_dash old c.loop-made.self d.new.self c.loop-made.made d.result before d.ensures.state
    d.ensures.shown d.ensures.counted d.ensures.same in
    let p = progress_more old d.new.self c.step.new.self m c.in-Ok.step now c.in-Ok.ensures.step c.in-Ok.ensures.counted
    c.in-Ok.ensures.same in
    let written : is_err c.write_buffered.result ≡ false = search rules in
    record {
      within = omega (arith, d.ensures.few, c.steps_until_flush.ensures);
      progress = p;
      out = gained_of c.write_buffered.result (g.K.Sink.side c.args.out.now) (g.K.Sink.side c.write_buffered.new.out)
          (c.args.buffer.now ++ prints old.code old.input (m + 1) old.state) c.write_buffered.new.buffer written
          (buffered_more c.write_buffered.result (g.K.Sink.side c.args.out.now) (g.K.Sink.side c.loop-made.out)
          (g.K.Sink.side c.write_buffered.new.out) c.args.buffer.now (prints old.code old.input c.loop-made.made old.state)
          c.printed.result.now (prints old.code old.input (m + 1) old.state) c.loop-made.buffer c.write_buffered.new.buffer
          c.loop-made.invariant.out c.write_buffered.ensures
          (prints_then old d.new.self c.step.new.self m c.in-Ok.step now c.in-Ok.ensures.step
          ∙ ap (λ bytes. bytes ++ c.step.new.self.printed)
          (prints_dash old c.loop-made.self c.loop-made.made d.result before d.ensures.silent)
          ∙ ap (λ bytes. prints old.code old.input c.loop-made.made old.state ++ bytes) (sym c.printed.ensures)));
      running = c.in-Ok.ensures.running ∙ goes_unless c.in-Ok.step c.in_default-step.not-Done;
    }
