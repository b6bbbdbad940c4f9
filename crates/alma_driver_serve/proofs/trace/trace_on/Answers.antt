use Rattle.std.proofs.Common.{◌≡◌, ◌∙◌, List, ℕ, map, ap, subst}
use Rattle.std.specs.Borrow.{Bor}
use Rattle.alma_verify.specs.Verified.{code_of_verified}
use Rattle.alma_driver_outcome.specs.Parts.{Goes}
use Rattle.alma_driver_outcome.specs.Showing.{Traces}
use Rattle.alma_driver_outcome.proofs.CourseLemmas.{goes_starved}
use Rattle.alma_driver_outcome.proofs.RunLemmas.{IsDue}
use Rattle.alma_driver_serve.proofs.trace.trace_on.Goals as goal

pub returns-in-Ok : goal.returns-in-Ok
returns-in-Ok g c =
    let same : map (λ (name : Bor (List ℕ)). name.now) c.deref.result.now ≡ map (λ (name : Bor (List ℕ)). name.now) c.args.names.now =
    ap (map (λ (name : Bor (List ℕ)). name.now)) c.deref.ensures.value ∙ c.in-Ok.ensures in
    subst (λ (names : List (List ℕ)). Goes (IsDue (code_of_verified c.args.code) c.args.input.now c.args.steps (Traces names))
    (g.O.Sink.side c.args.out.now)
    (g.O.Sink.side c.trace_named.new.out) c.trace_named.result) same c.trace_named.ensures

pub returns-in-Err : goal.returns-in-Err
returns-in-Err g c =
    goes_starved (IsDue (code_of_verified c.args.code) c.args.input.now c.args.steps
    (Traces (map (λ (name : Bor (List ℕ)). name.now) c.args.names.now))) (g.O.Sink.side c.args.out.now)
