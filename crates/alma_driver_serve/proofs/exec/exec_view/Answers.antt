use Rattle.std.proofs.Common.{ap, subst, ◌≡◌, ◌∙◌}
use Rattle.alma_code.specs.Plain.{PlainCode}
use Rattle.alma_code.specs.Rules.{code_fault}
use Rattle.alma_object.specs.View.{code_of_view}
use Rattle.alma_verify.specs.Verified.{code_of_verified}
use Rattle.alma_driver_outcome.specs.Parts.{Runs}
use Rattle.alma_driver_outcome.specs.Outcome.{CodeOutcome}
use Rattle.alma_driver_outcome.proofs.DriverLemmas.{runs_executed, runs_unsound}
use Rattle.alma_driver_serve.proofs.exec.exec_view.Goals as goal

pub returns-in-Ok : goal.returns-in-Ok
returns-in-Ok g c =
    let same : code_of_verified c.in-Ok.code ≡ code_of_view c.args.view = ap code_of_view c.in-Ok.ensures.view in
    subst (λ (code : PlainCode). Runs (CodeOutcome (g.I.Source.side c.args.input.now).left code c.args.steps c.args.stats)
    (g.I.Source.side c.args.input.now)
    (g.I.Source.side c.run_verified.new.input) (g.O.Sink.side c.args.out.now)
    (g.O.Sink.side c.run_verified.new.out) c.run_verified.result) same
    (runs_executed (code_of_verified c.in-Ok.code) c.args.steps c.args.stats (g.I.Source.side c.args.input.now)
    (g.I.Source.side c.run_verified.new.input) (g.O.Sink.side c.args.out.now)
    (g.O.Sink.side c.run_verified.new.out) c.run_verified.result (ap code_fault same ∙ c.in-Ok.ensures.fault) c.run_verified.ensures)

pub returns-in-Err : goal.returns-in-Err
returns-in-Err g c =
    runs_unsound (code_of_view c.args.view) c.args.steps c.args.stats c.in-Err.fault (g.I.Source.side c.args.input.now)
    (g.O.Sink.side c.args.out.now) c.in-Err.ensures.fault
