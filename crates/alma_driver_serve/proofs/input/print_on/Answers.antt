use Rattle.std.proofs.Common.{◌≡◌, ap, ◌∙◌}
use Rattle.alma_code.specs.Lines.{line_at}
use Rattle.alma_verify.specs.Verified.{code_of_verified}
use Rattle.alma_lower_implements.specs.Implements.{line_in}
use Rattle.alma_driver_outcome.specs.Ends.{run_end, counts_in}
use Rattle.alma_driver_outcome.specs.Showing.{Prints}
use Rattle.alma_driver_outcome.proofs.CourseLemmas.{goes_starved}
use Rattle.alma_driver_outcome.proofs.RunLemmas.{IsDue, goes_run}
use Rattle.alma_driver_serve.proofs.input.print_on.Goals as goal

pub returns-in-Ok : goal.returns-in-Ok
returns-in-Ok g c =
    let h = c.run-end.ensures in
    let code = code_of_verified c.args.code in
    let new = c.run-end.new.self.state in
    let same = c.view.ensures ∙ h.same.0 ∙ ap (λ m. m.code) c.in-Ok.ensures in
    let line : c.line_at-line.result ≡ line_in code new = c.line_at-line.ensures ∙ ap (λ k. line_at k c.at.result) same
    ∙ ap (line_at code) c.at.ensures in
    let is : c.end_of.result ≡ run_end c.run-end.result (line_in code new) (counts_in c.args.stats new) =
    c.end_of.ensures ∙ ap (λ k. run_end c.run-end.result k c.counts_of.result) line
    ∙ ap (run_end c.run-end.result (line_in code new)) c.counts_of.ensures in
    rw is (goes_run code c.args.input.now c.in-Ok.machine c.run-end.new.self c.args.steps c.args.stats c.run-end.result
    (g.O.Sink.side c.args.out.now)
    (g.O.Sink.side c.run-end.new.out) c.in-Ok.ensures
    (record {
      answered = h.answer;
      state = h.state;
      out = h.out;
      few = h.few;
      memory = h.memory;
      write_fault = h.write_fault;
      cause =
          h.cause;
    }))

pub returns-in-Err : goal.returns-in-Err
returns-in-Err g c =
    goes_starved (IsDue (code_of_verified c.args.code) c.args.input.now c.args.steps (Prints c.args.stats)) (g.O.Sink.side c.args.out.now)
