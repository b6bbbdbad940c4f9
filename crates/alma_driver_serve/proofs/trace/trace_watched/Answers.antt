use Rattle.std.proofs.Common.{◌≡◌, ◌∙◌, ap, sym, subst}
use Rattle.std.specs.Prelude.{None}
use Rattle.alma_code.specs.Lines.{line_at}
use Rattle.alma_machine.specs.View.{MachineView}
use Rattle.alma_lower_implements.specs.Implements.{line_in}
use Rattle.alma_trace.specs.Places.{AreOfModule}
use Rattle.alma_trace.proofs.Resolving.{resolved_are_of_module}
use Rattle.alma_verify.specs.Verified.{code_of_verified}
use Rattle.alma_driver_outcome.specs.Ends.{run_end}
use Rattle.alma_driver_outcome.specs.Showing.{Traces}
use Rattle.alma_driver_outcome.proofs.CourseLemmas.{goes_starved}
use Rattle.alma_driver_outcome.proofs.RunLemmas.{IsDue}
use Rattle.alma_driver_serve.proofs.TraceLemmas.{goes_trace, names_of}
use Rattle.alma_driver_serve.proofs.trace.trace_watched.Goals as goal

pub trace-end-requires-clause-watched : goal.trace-end-requires-clause-watched
trace-end-requires-clause-watched g c =
    subst (λ (m : MachineView). AreOfModule m.code c.args.watched.now) (sym c.in-Ok.ensures)
    (resolved_are_of_module (code_of_verified c.args.code) c.args.watched.now c.keeps_sound.ensures c.requires.resolved)

pub returns-in-Ok : goal.returns-in-Ok
returns-in-Ok g c =
    let h = c.trace-end.ensures in
    let code = code_of_verified c.args.code in
    let new = c.trace-end.new.machine.state in
    let same = c.view.ensures ∙ h.same.0 ∙ ap (λ m. m.code) c.in-Ok.ensures in
    let line : c.line_at-line.result ≡ line_in code new = c.line_at-line.ensures ∙ ap (λ k. line_at k c.at.result) same
    ∙ ap (line_at code) c.at.ensures in
    let is : c.end_of.result ≡ run_end c.trace-end.result (line_in code new) None =
    c.end_of.ensures ∙ ap (λ k. run_end c.trace-end.result k None) line in
    rw is (goes_trace code c.args.input.now c.in-Ok.machine c.trace-end.new.machine c.args.watched.now c.args.steps c.trace-end.result
    (g.O.Sink.side c.args.out.now)
    (g.O.Sink.side c.trace-end.new.out) c.in-Ok.ensures c.requires.resolved
    (record { answered = h.answer; state = h.state; out = h.out; few = h.few; front = h.front; cause = h.cause }))

pub returns-in-Err : goal.returns-in-Err
returns-in-Err g c =
    goes_starved (IsDue (code_of_verified c.args.code) c.args.input.now c.args.steps (Traces (names_of c.args.watched.now)))
    (g.O.Sink.side c.args.out.now)
