use Rattle.std.proofs.Common.{◌≡◌, ◌⊎◌, inr, false, ◌+◌, ◌++◌, List, ℕ, ap, sym, ◌∙◌, subst, arith, flat_map}
use Rattle.std.specs.Io.KnownBytes.{Appends}
use Rattle.alma_code.specs.ListText.{text_line}
use Rattle.alma_code.specs.Machine.{State, after}
use Rattle.alma_code.specs.Plain.{PlainCode}
use Rattle.alma_code.specs.TraceText.{unless_done}
use Rattle.alma_machine.specs.Runs.{run_end_of, made}
use Rattle.alma_trace.specs.Cuts.{can_go}
use Rattle.alma_machine.proofs.Budget.{progress_more, made_is, on_whole, finished, goes_unless, live_is_out, out_more, out_front}
use Rattle.alma_io.specs.Fronts.{AppendsFront}
use Rattle.alma_trace.specs.Traced.{step_text, steps_end, text_of_run, traced_within}
use Rattle.alma_trace.proofs.Telling.{text_of, end_within, end_whole, front_more, text_more, text_whole, text_out, within_now, within_then}
use Rattle.alma_trace.proofs.Telling.{on_cut, on_write_fault, on_memory, live_can_go, goes_can_go, front_behind}
use Rattle.alma_trace.proofs.tracer.trace.Goals as goal

pub returns-in-Err-clause-made : goal.returns-in-Err-clause-made
returns-in-Err-clause-made g c =
    let old = c.args.machine.now in
    let m = c.loop-made.made in
    let p = progress_more old c.loop-made.machine c.step.new.self m c.in-Ok.step c.loop-made.invariant.progress c.in-Ok.ensures.step
    c.in-Ok.ensures.counted c.in-Ok.ensures.same in
    p.state ∙ ap (λ k. after old.code old.input k old.state) (sym (made_is old c.step.new.self (m + 1) p))

pub returns-in-Err-clause-front : goal.returns-in-Err-clause-front
returns-in-Err-clause-front g c =
    let old = c.args.machine.now in
    let new = c.step.new.self in
    let watches = c.args.watches.now in
    let m = c.loop-made.made in
    let a = c.in-Ok.step in
    let p = progress_more old c.loop-made.machine new m a c.loop-made.invariant.progress c.in-Ok.ensures.step c.in-Ok.ensures.counted
    c.in-Ok.ensures.same in
    let front = subst (λ (code : PlainCode). AppendsFront (g.K.Sink.side c.loop-made.out).written
    (g.K.Sink.side c.write_step.new.out).written
    (step_text code watches a new.printed new.state)) p.code c.in-Err.ensures.front in
    let whole = within_then old c.loop-made.machine new watches m c.args.budget a c.loop-made.invariant.front c.loop-made.invariant.progress
    p c.in-Ok.ensures.step in
    on_cut c.in-Err.cut (AppendsFront (g.K.Sink.side c.args.out.now).written (g.K.Sink.side c.write_step.new.out).written
    (traced_within old.code old.input watches (made old new) c.args.budget old.state))
    c.in-Err.ensures.cut
    (front_behind (g.K.Sink.side c.args.out.now).written (g.K.Sink.side c.loop-made.out).written
    (g.K.Sink.side c.write_step.new.out).written
    (text_of old watches m) (step_text old.code watches a new.printed new.state)
    (flat_map text_line (unless_done a (λ _. end_within (m + 1) c.args.budget)))
    (traced_within old.code old.input watches (made old new) c.args.budget old.state)
    c.loop-made.invariant.out front whole)

pub returns-in-Done-clause-answer : goal.returns-in-Done-clause-answer
returns-in-Done-clause-answer g c =
    let old = c.args.machine.now in
    let m = c.loop-made.made in
    let p = progress_more old c.loop-made.machine c.step.new.self m c.in-Ok.step c.loop-made.invariant.progress c.in-Ok.ensures.step
    c.in-Ok.ensures.counted c.in-Ok.ensures.same in
    let h = finished old c.loop-made.machine c.step.new.self m c.args.budget c.in-Ok.step c.in-Done.end c.loop-made.invariant.progress p
    c.in-Ok.ensures.step c.in-Done.is c.in-Ok.ensures.mode c.in-Ok.ensures.quiet c.loop-made-test.true in
    on_whole c.from.result (c.from.result ≡ run_end_of (after old.code old.input c.args.budget old.state).mode)
    (c.from.ensures ∙ sym (ap run_end_of h.mode))

pub returns-in-Done-clause-state : goal.returns-in-Done-clause-state
returns-in-Done-clause-state g c =
    let old = c.args.machine.now in
    let m = c.loop-made.made in
    let p = progress_more old c.loop-made.machine c.step.new.self m c.in-Ok.step c.loop-made.invariant.progress c.in-Ok.ensures.step
    c.in-Ok.ensures.counted c.in-Ok.ensures.same in
    let h = finished old c.loop-made.machine c.step.new.self m c.args.budget c.in-Ok.step c.in-Done.end c.loop-made.invariant.progress p
    c.in-Ok.ensures.step c.in-Done.is c.in-Ok.ensures.mode c.in-Ok.ensures.quiet c.loop-made-test.true in
    on_whole c.from.result (c.step.new.self.state ≡ after old.code old.input c.args.budget old.state) h.state

pub returns-in-Done-clause-out : goal.returns-in-Done-clause-out
returns-in-Done-clause-out g c =
    let old = c.args.machine.now in
    let new = c.step.new.self in
    let watches = c.args.watches.now in
    let m = c.loop-made.made in
    let a = c.in-Ok.step in
    let p = progress_more old c.loop-made.machine new m a c.loop-made.invariant.progress c.in-Ok.ensures.step c.in-Ok.ensures.counted
    c.in-Ok.ensures.same in
    let told = subst (λ (code : PlainCode). Appends (g.K.Sink.side c.loop-made.out).written (g.K.Sink.side c.write_step.new.out).written
    (step_text code watches a new.printed new.state)) p.code c.in_default-write_step.ensures.ok in
    on_whole c.from.result (Appends (g.K.Sink.side c.args.out.now).written (g.K.Sink.side c.write_step.new.out).written
    (text_of_run old.code old.input watches c.args.budget old.state))
    (out_more (g.K.Sink.side c.args.out.now).written (g.K.Sink.side c.loop-made.out).written (g.K.Sink.side c.write_step.new.out).written
    (text_of old watches m) (step_text old.code watches a new.printed new.state)
    (text_of_run old.code old.input watches c.args.budget old.state) c.loop-made.invariant.out told
    (text_whole old c.loop-made.machine new watches m c.args.budget a c.in-Done.end c.loop-made.invariant.front
    c.loop-made.invariant.progress c.in-Ok.ensures.step c.in-Done.is c.loop-made-test.true))

pub returns-in-Done-clause-made : goal.returns-in-Done-clause-made
returns-in-Done-clause-made g c =
    let old = c.args.machine.now in
    let m = c.loop-made.made in
    let p = progress_more old c.loop-made.machine c.step.new.self m c.in-Ok.step c.loop-made.invariant.progress c.in-Ok.ensures.step
    c.in-Ok.ensures.counted c.in-Ok.ensures.same in
    p.state ∙ ap (λ k. after old.code old.input k old.state) (sym (made_is old c.step.new.self (m + 1) p))

pub loop-made-preserved : goal.loop-made-preserved
loop-made-preserved g c =
    let old = c.args.machine.now in
    let new = c.step.new.self in
    let watches = c.args.watches.now in
    let m = c.loop-made.made in
    let a = c.in-Ok.step in
    let p = progress_more old c.loop-made.machine new m a c.loop-made.invariant.progress c.in-Ok.ensures.step c.in-Ok.ensures.counted
    c.in-Ok.ensures.same in
    let goes = goes_unless a c.in_default-step.not-Done in
    let told = subst (λ (code : PlainCode). Appends (g.K.Sink.side c.loop-made.out).written (g.K.Sink.side c.write_step.new.out).written
    (step_text code watches a new.printed new.state)) p.code c.in_default-write_step.ensures.ok in
    record {
      within = omega arith;
      progress = p;
      front = front_more old c.loop-made.machine new watches m a c.loop-made.invariant.front c.loop-made.invariant.progress p
          c.in-Ok.ensures.step goes;
      out = out_more (g.K.Sink.side c.args.out.now).written (g.K.Sink.side c.loop-made.out).written
          (g.K.Sink.side c.write_step.new.out).written
          (text_of old watches m) (step_text old.code watches a new.printed new.state)
          (text_of old watches (m + 1)) c.loop-made.invariant.out told
          (text_more old c.loop-made.machine new watches m a c.loop-made.invariant.front c.loop-made.invariant.progress
          c.in-Ok.ensures.step);
      quiet = c.in_default-write_step.ensures.cause.ok ∙ c.loop-made.invariant.quiet;
      running = c.in-Ok.ensures.running ∙ goes;
    }

pub returns-in-Err-write_steps_end-clause-front : goal.returns-in-Err-write_steps_end-clause-front
returns-in-Err-write_steps_end-clause-front g c =
    let old = c.args.machine.now in
    let now = c.loop-made.machine in
    let watches = c.args.watches.now in
    let m = c.loop-made.made in
    let all : c.loop-made.made ≡ c.args.budget = omega (arith, c.loop-made.invariant.within, c.loop-made-test.false) in
    on_cut c.in-Err-write_steps_end.cut
    (AppendsFront (g.K.Sink.side c.args.out.now).written (g.K.Sink.side c.write_steps_end.new.out).written
    (traced_within old.code old.input watches (made old now) c.args.budget old.state))
    c.in-Err-write_steps_end.ensures.cut
    (out_front (g.K.Sink.side c.args.out.now).written (g.K.Sink.side c.loop-made.out).written
    (g.K.Sink.side c.write_steps_end.new.out).written (text_of old watches m) (flat_map text_line steps_end)
    (traced_within old.code old.input watches (made old now) c.args.budget old.state) c.loop-made.invariant.out
    c.in-Err-write_steps_end.ensures.front
    (within_now old now watches m c.args.budget c.loop-made.invariant.front c.loop-made.invariant.progress
    ∙ ap (λ (z : List (List (List ℕ))). text_of old watches m ++ flat_map text_line z)
    (ap (λ n. end_within n c.args.budget) all ∙ end_whole c.args.budget)))

pub returns-clause-answer : goal.returns-clause-answer
returns-clause-answer g c =
    let old = c.args.machine.now in
    let now = c.loop-made.machine in
    let all : c.loop-made.made ≡ c.args.budget = omega (arith, c.loop-made.invariant.within, c.loop-made-test.false) in
    sym (live_is_out now.state.mode (c.keeps_standing.ensures c.loop-made.invariant.running).live)
    ∙ ap (λ (s : State). run_end_of s.mode) (c.loop-made.invariant.progress.state ∙ ap (λ k. after old.code old.input k old.state) all)

pub returns-clause-out : goal.returns-clause-out
returns-clause-out g c =
    let old = c.args.machine.now in
    let watches = c.args.watches.now in
    let m = c.loop-made.made in
    let all : c.loop-made.made ≡ c.args.budget = omega (arith, c.loop-made.invariant.within, c.loop-made-test.false) in
    out_more (g.K.Sink.side c.args.out.now).written (g.K.Sink.side c.loop-made.out).written
    (g.K.Sink.side c.write_steps_end.new.out).written
    (text_of old watches m) (flat_map text_line steps_end)
    (text_of_run old.code old.input watches c.args.budget old.state) c.loop-made.invariant.out c.in_default-write_steps_end.ensures.ok
    (ap (λ n. text_of_run old.code old.input watches n old.state) (sym all) ∙ text_out old watches m c.loop-made.invariant.front)

pub returns-in-Err-clause-stopped : goal.returns-in-Err-clause-stopped
returns-in-Err-clause-stopped g c =
    on_write_fault c.in-Err.cut (c.step.new.self.running ≡ can_go c.step.new.self.state.mode)
    (c.in-Ok.ensures.running ∙ goes_can_go c.in-Ok.step c.step.new.self.state.mode c.in-Ok.ensures.mode)

pub returns-in-Err-write_steps_end-clause-stopped : goal.returns-in-Err-write_steps_end-clause-stopped
returns-in-Err-write_steps_end-clause-stopped g c =
    let now = c.loop-made.machine in
    on_write_fault c.in-Err-write_steps_end.cut (now.running ≡ can_go now.state.mode)
    (c.loop-made.invariant.running ∙ live_can_go now.state.mode (c.keeps_standing.ensures c.loop-made.invariant.running).live)

pub returns-in-Err-clause-starved : goal.returns-in-Err-clause-starved
returns-in-Err-clause-starved g c =
    let now = c.step.new.self in
    on_memory c.in-Err.cut ((now.running ≡ false) ⊎ (now.running ≡ can_go now.state.mode))
    (inr (c.in-Ok.ensures.running ∙ goes_can_go c.in-Ok.step now.state.mode c.in-Ok.ensures.mode))

pub returns-in-Err-write_steps_end-clause-starved : goal.returns-in-Err-write_steps_end-clause-starved
returns-in-Err-write_steps_end-clause-starved g c =
    let now = c.loop-made.machine in
    on_memory c.in-Err-write_steps_end.cut ((now.running ≡ false) ⊎ (now.running ≡ can_go now.state.mode))
    (inr (c.loop-made.invariant.running ∙ live_can_go now.state.mode (c.keeps_standing.ensures c.loop-made.invariant.running).live))
