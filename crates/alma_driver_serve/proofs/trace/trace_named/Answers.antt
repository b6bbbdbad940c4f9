use Rattle.std.proofs.Common.{◌≡◌, ◌∙◌, List, ℕ, map, ap, sym, subst, All}
use Rattle.std.specs.Borrow.{Bor}
use Rattle.alma_code.specs.Plain.{PlainCode}
use Rattle.alma_object.specs.View.{code_of_view}
use Rattle.alma_trace.specs.declared.watch.Watch.{Watch}
use Rattle.alma_trace.specs.Resolved.{IsResolved}
use Rattle.alma_verify.specs.Verified.{code_of_verified}
use Rattle.alma_driver_outcome.specs.Parts.{Goes}
use Rattle.alma_driver_outcome.specs.Showing.{Traces}
use Rattle.alma_driver_outcome.proofs.CourseLemmas.{goes_starved}
use Rattle.alma_driver_outcome.proofs.RunLemmas.{IsDue}
use Rattle.alma_driver_serve.proofs.TraceLemmas.{names_of}
use Rattle.alma_driver_serve.proofs.trace.trace_named.Goals as goal

pub trace_watched-requires-clause-resolved : goal.trace_watched-requires-clause-resolved
trace_watched-requires-clause-resolved g c =
    subst (λ (code : PlainCode). All (IsResolved code) c.deref.result.now) (ap code_of_view c.view.ensures.view)
    (subst (λ (ws : List Watch). All (IsResolved (code_of_view c.view.result.now)) ws) (sym c.deref.ensures.value) c.in-Ok.ensures.resolved)

pub returns-in-Ok : goal.returns-in-Ok
returns-in-Ok g c =
    let same : names_of c.deref.result.now ≡ map (λ (name : Bor (List ℕ)). name.now) c.args.names.now = ap names_of c.deref.ensures.value
    ∙ c.in-Ok.ensures.names in
    subst (λ (names : List (List ℕ)). Goes (IsDue (code_of_verified c.args.code) c.args.input.now c.args.steps (Traces names))
    (g.O.Sink.side c.args.out.now)
    (g.O.Sink.side c.trace_watched.new.out) c.trace_watched.result) same c.trace_watched.ensures

pub returns-in-Err : goal.returns-in-Err
returns-in-Err g c =
    goes_starved (IsDue (code_of_verified c.args.code) c.args.input.now c.args.steps
    (Traces (map (λ (name : Bor (List ℕ)). name.now) c.args.names.now))) (g.O.Sink.side c.args.out.now)
