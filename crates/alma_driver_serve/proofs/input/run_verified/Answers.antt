use Rattle.std.proofs.Common.{ap, sym, ◌≡◌, ◌∙◌}
use Rattle.std.specs.Prelude.{false}
use Rattle.alma_object.specs.View.{code_of_view}
use Rattle.alma_verify.specs.Verified.{code_of_verified}
use Rattle.alma_code.specs.Reads.{code_reads}
use Rattle.alma_driver_outcome.specs.Showing.{shown_of}
use Rattle.alma_driver_outcome.proofs.DriverLemmas.{runs_unread}
use Rattle.alma_driver_serve.proofs.input.run_verified.Goals as goal

pub run_reading-requires-clause-reads : goal.run_reading-requires-clause-reads
run_reading-requires-clause-reads g c = ap (λ v. code_reads (code_of_view v)) (sym c.view.ensures.view) ∙ sym c.has_read.ensures
    ∙ c.if-has_read.true

pub returns : goal.returns
returns g c =
    let code = code_of_verified c.args.code in
    let quiet : code_reads code ≡ false = ap (λ v. code_reads (code_of_view v)) (sym c.view.ensures.view) ∙ sym c.has_read.ensures
    ∙ c.if-has_read.false in
    runs_unread code c.args.steps (shown_of c.args.showing) (g.I.Source.side c.args.input.now) (g.O.Sink.side c.args.out.now)
    (g.O.Sink.side c.run_on.new.out) c.run_on.result quiet c.run_on.ensures
