use Rattle.std.proofs.Common.{rules, ◌≡◌, sym, subst, true}
use Rattle.std.specs.Prelude.{is_err}
use Rattle.alma_code.specs.Machine.{prints}
use Rattle.alma_io.specs.Fronts.{AppendsFront}
use Rattle.alma_machine.specs.Runs.{made}
use Rattle.alma_machine.proofs.Withins.{fails_behind, failed_behind, made_still}
use Rattle.alma_machine.proofs.machine.Machine.run.Goals as goal

pub returns-then-is_err : goal.returns-then-is_err
returns-then-is_err g c =
    let old = c.args.self.now in
    let r = c.run_buffered-end in
    let far = fails_behind old r.new.self c.stop.new.self c.args.budget r.result r.ensures.far c.stop.ensures.state
    c.stop.ensures.stopped c.stop.ensures.same in
    let failed : is_err c.flush.result ≡ true = search rules in
    let fails = failed_behind c.flush.result r.result (g.K.Sink.side c.args.out.now) (g.K.Sink.side r.new.out)
    (g.K.Sink.side c.flush.new.sink) c.new-buffer.result (prints old.code old.input (made old r.new.self) old.state) r.new.buffer
    c.in_default.not-WriteFault c.new-buffer.ensures r.ensures.out failed c.flush.ensures.writes in
    let front = subst (λ k. AppendsFront (g.K.Sink.side c.args.out.now).written (g.K.Sink.side c.flush.new.sink).written
    (prints old.code old.input k old.state)) (sym (made_still old r.new.self c.stop.new.self c.stop.ensures.state)) fails.front in
    record {
      answer = tt;
      state = tt;
      out = tt;
      few = far.few;
      made = far.state_is;
      steps_out = tt;
      memory = tt;
      write_fault = front;
      printed = far.shows;
      cause = record { later = fails.risen.0; ok = tt; err = fails.risen.1 };
      running = far.running;
      same = far.same;
    }
