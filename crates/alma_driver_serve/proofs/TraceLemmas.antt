-- What a run that is traced comes to.
use Rattle.std.proofs.Common.{◌≡◌, ◌≤◌, ◌+◌, ◌∙◌, ℕ, zero, suc, List, [], ◌++◌, map, flat_map, refl, ap, sym, subst, arith}
use Rattle.std.proofs.Common.{append_assoc, append-nil, nat_eq, All}
use Rattle.std.specs.Prelude.{Bool, true, false, Option, None}
use Rattle.std.proofs.lemmas.Bool.{eqb-true}
use Rattle.std.proofs.lemmas.List.Concat.{flat_map-append}
use Rattle.std.specs.Io.KnownBytes.{Appends}
use Rattle.alma_base.specs.Choice.{if_true}
use Rattle.alma_io.specs.Causes.{HasCause}
use Rattle.alma_io.specs.Fronts.{AppendsFront}
use Rattle.alma_code.specs.declared.step.Step.{Step}
use Rattle.alma_code.specs.declared.step.Step.TheVariants as answer
use Rattle.alma_code.specs.ListText.{text_line}
use Rattle.alma_code.specs.Machine.{State, StepResult, start, step, after}
use Rattle.alma_code.specs.Plain.{PlainCode}
use Rattle.alma_code.specs.TraceText.{trace_text, unless_done}
use Rattle.alma_lower_implements.specs.Implements.{state_after, line_in}
use Rattle.alma_machine.specs.declared.machine.RunEnd.{RunEnd}
use Rattle.alma_machine.specs.declared.machine.RunEnd.TheVariants as run
use Rattle.alma_machine.specs.Runs.{run_end_of, made, all_written, OnWhole}
use Rattle.alma_machine.specs.View.{MachineView}
use Rattle.alma_trace.specs.declared.watch.Watch.{Watch}
use Rattle.alma_trace.specs.Cuts.{OnCut}
use Rattle.alma_trace.specs.Resolved.{IsResolved}
use Rattle.alma_trace.specs.Traced.{text_of_run, traced_within, traced_words, run_lines, steps_end}
use Rattle.alma_trace.proofs.Naming.{traces_are_the_trace_text}
use Rattle.alma_io.specs.Sides.{SinkSide}
use Rattle.alma_driver_outcome.specs.Ends.{run_end}
use Rattle.alma_driver_outcome.specs.Outcome.{Due, code_due}
use Rattle.alma_driver_outcome.specs.Showing.{Traces}
use Rattle.alma_driver_outcome.specs.Parts.{Goes}
use Rattle.alma_driver_outcome.proofs.CourseLemmas.{goes_cut, goes_whole, goes_within}
use Rattle.alma_driver_outcome.proofs.RunLemmas.{IsDue, end_is}
use Rattle.alma_run_laws.proofs.Fronts.{fresh}

-- the names of watches
abbrev pub names_of : List Watch → List (List ℕ)
names_of watches = map (λ watch. watch.name.now) watches

-- ---- fewer steps

-- what follows a step begins with less that follows it
unless_front : (a : Step) (less more rest : List (List (List ℕ))) → more ≡ less ++ rest
    → (behind : List (List (List ℕ))) × (unless_done a (λ _. more) ≡ unless_done a (λ _. less) ++ behind)
unless_front (answer.Done e) less more rest is = ([], refl)
unless_front answer.Went less more rest is = (rest, is)
unless_front (answer.Chose height) less more rest is = (rest, is)
unless_front (answer.Popped height) less more rest is = (rest, is)
unless_front (answer.Cut height) less more rest is = (rest, is)
unless_front (answer.Called routine frames) less more rest is = (rest, is)
unless_front (answer.Returned frames) less more rest is = (rest, is)
unless_front answer.Printed less more rest is = (rest, is)

-- the lines of fewer steps are the first of the lines of more
lines_front : (code : PlainCode) (input : List ℕ) (watches : List Watch) (end : List (List (List ℕ))) (m n : ℕ) (s : State) → m ≤ n
    → (rest : List (List (List ℕ))) × (run_lines code input watches end n s ≡ run_lines code input watches [] m s ++ rest)
lines_front code input watches end zero n s le = (run_lines code input watches end n s, refl)
lines_front code input watches end (suc m) zero s le = absurd (omega (arith, le))
lines_front code input watches end (suc m) (suc n) s le =
    let x : StepResult = step code input s in
    let words : List (List (List ℕ)) = traced_words code watches x.answer x.printed x.state in
    let less : List (List (List ℕ)) = run_lines code input watches [] m x.state in
    let more : List (List (List ℕ)) = run_lines code input watches end n x.state in
    let behind = lines_front code input watches end m n x.state (omega (arith, le)) in
    let all = unless_front x.answer less more behind.0 behind.1 in
    (all.0, ap (λ (z : List (List (List ℕ))). words ++ z) all.1 ∙ sym (append_assoc words (unless_done x.answer (λ _. less)) all.0))

-- the text of the steps that were made begins the text of all
within_front : (code : PlainCode) (input : List ℕ) (watches : List Watch) (m n : ℕ) (s : State) → m ≤ n
    → (rest : List ℕ) × (text_of_run code input watches n s ≡ traced_within code input watches m n s ++ rest)
within_front code input watches m n s le = by (nat_eq m n) refl
  where
    by : (b : Bool) → nat_eq m n ≡ b
        → (rest : List ℕ) × (text_of_run code input watches n s ≡ traced_within code input watches m n s ++ rest)
    by true e =
        let same : m ≡ n = eqb-true m n e in
        let end : steps_end ≡ if_true (nat_eq m n) (λ _. steps_end) (λ _. []) =
        sym (ap (λ (b : Bool). if_true b (λ _. steps_end) (λ _. [])) e) in (
          [],
          ap (λ (k : ℕ). text_of_run code input watches k s) (sym same)
              ∙ ap (λ (z : List (List (List ℕ))). flat_map text_line (run_lines code input watches z m s)) end
              ∙ sym (append-nil (traced_within code input watches m n s)),
        )
    by false e =
        let none : [] ≡ if_true (nat_eq m n) (λ _. steps_end) (λ _. []) = sym (ap (λ (b : Bool). if_true b (λ _. steps_end) (λ _. [])) e) in
        let front = lines_front code input watches steps_end m n s le in (
          flat_map text_line front.0,
          ap (flat_map text_line) front.1 ∙ flat_map-append text_line (run_lines code input watches [] m s) front.0
              ∙ ap (λ (z : List (List (List ℕ))). flat_map text_line (run_lines code input watches z m s) ++ flat_map text_line front.0)
              none,
        )

-- a front of what begins more is a front of more
front_further : (a b : Option (List ℕ)) (less more rest : List ℕ) → more ≡ less ++ rest → AppendsFront a b less → AppendsFront a b more
front_further a b less more rest is h = (h.0, h.1 ++ rest, is ∙ ap (λ (z : List ℕ). z ++ rest) h.2 ∙ append_assoc h.0 h.1 rest, h.3)

-- ---- a run that is traced

-- what tracing a machine ensures
pub record HasTraced (old new : MachineView) (watches : List Watch) (steps : ℕ) (answer : RunEnd) (a b : SinkSide) : Type 0 where
  pub answered : OnWhole answer (answer ≡ run_end_of (after old.code old.input steps old.state).mode)
  pub state : OnWhole answer (new.state ≡ after old.code old.input steps old.state)
  pub out : OnWhole answer (Appends a.written b.written (text_of_run old.code old.input watches steps old.state))
  pub few : new.state.steps ≤ old.state.steps + steps
  pub front : OnCut answer (AppendsFront a.written b.written (traced_within old.code old.input watches (made old new) steps old.state))
  pub cause : HasCause a.faults b.faults (all_written answer)

-- what is due from code that is traced with these watches
abbrev IsTraceDue : PlainCode → (input : List ℕ) → List Watch → (steps : ℕ) → Due → Type 0
IsTraceDue code input watches steps = IsDue code input steps (Traces (names_of watches))

-- the due itself
abbrev due_traced : PlainCode → (input : List ℕ) → List Watch → (steps : ℕ) → Due
due_traced code input watches steps = code_due code input steps (Traces (names_of watches))

-- the text that is out is the one that traces the code
out_traced : (code : PlainCode) (input : List ℕ) (watches : List Watch) (steps : ℕ) (a b : Option (List ℕ)) → All (IsResolved code) watches
    → Appends a b (text_of_run code input watches steps (start code)) → Appends a b (trace_text code input (names_of watches) steps)
out_traced code input watches steps a b named h = subst (Appends a b) (traces_are_the_trace_text code input watches steps named) h

-- and so is a front of it
front_traced : (code : PlainCode) (input : List ℕ) (watches : List Watch) (m steps : ℕ) (a b : Option (List ℕ))
    → All (IsResolved code) watches → m ≤ steps
    → AppendsFront a b (traced_within code input watches m steps (start code))
    → AppendsFront a b (trace_text code input (names_of watches) steps)
front_traced code input watches m steps a b named le h =
    let more = within_front code input watches m steps (start code) le in
    subst (AppendsFront a b) (traces_are_the_trace_text code input watches steps named)
    (front_further a b (traced_within code input watches m steps (start code)) (text_of_run code input watches steps (start code)) more.0
    more.1
    h)

-- a traced run that was not cut short goes as its code is due
goes_over : (code : PlainCode) (input : List ℕ) (new : State) (watches : List Watch) (steps : ℕ) (answer : RunEnd) (a b : SinkSide)
    → All (IsResolved code) watches → answer ≡ run_end_of (state_after code input steps).mode → new ≡ state_after code input steps
    → Appends a.written b.written (text_of_run code input watches steps (start code)) → b.faults ≡ a.faults
    → Goes (IsTraceDue code input watches steps) a b (run_end answer (line_in code new) None)
goes_over code input new watches steps answer a b named is same out quiet =
    goes_whole (IsTraceDue code input watches steps) (due_traced code input watches steps) a b (run_end answer (line_in code new) None) refl
    (end_is code input new steps false answer is same) refl
    (record { bytes_are = out_traced code input watches steps a.written b.written named out; quiet = quiet })

-- a traced run from the start goes so
goes_traced : (code : PlainCode) (input : List ℕ) (new : MachineView) (watches : List Watch) (steps : ℕ) (answer : RunEnd) (a b : SinkSide)
    → All (IsResolved code) watches
    → HasTraced (fresh code input) new watches steps answer a b
    → Goes (IsTraceDue code input watches steps) a b (run_end answer (line_in code new.state) None)
goes_traced code input new watches steps run.Succeeded a b named h =
    goes_over code input new.state watches steps run.Succeeded a b named h.answered h.state h.out h.cause.ok
goes_traced code input new watches steps run.Failed a b named h =
    goes_over code input new.state watches steps run.Failed a b named h.answered h.state h.out h.cause.ok
goes_traced code input new watches steps (run.Fault fault) a b named h =
    goes_over code input new.state watches steps (run.Fault fault) a b named h.answered h.state h.out h.cause.ok
goes_traced code input new watches steps run.StepsOut a b named h =
    goes_over code input new.state watches steps run.StepsOut a b named h.answered h.state h.out h.cause.ok
goes_traced code input new watches steps run.WriteFault a b named h =
    let le : made (fresh code input) new ≤ steps = omega (arith, h.few) in
    goes_cut (IsTraceDue code input watches steps) (due_traced code input watches steps) a b refl refl (record {
      front = front_traced code input watches (made (fresh code input) new) steps a.written b.written named le h.front;
      risen = (h.cause.later, h.cause.err);
    })
goes_traced code input new watches steps run.Memory a b named h =
    let le : made (fresh code input) new ≤ steps = omega (arith, h.few) in
    goes_within (IsTraceDue code input watches steps) (due_traced code input watches steps) a b refl
    (front_traced code input watches (made (fresh code input) new) steps a.written b.written named le h.front) h.cause.ok

pub goes_trace : (code : PlainCode) (input : List ℕ) (old new : MachineView) (watches : List Watch) (steps : ℕ) (answer : RunEnd)
    (a b : SinkSide) → old ≡ fresh code input
    → All (IsResolved code) watches → HasTraced old new watches steps answer a b
    → Goes (IsDue code input steps (Traces (names_of watches))) a b (run_end answer (line_in code new.state) None)
goes_trace code input old new watches steps answer a b e named h =
    goes_traced code input new watches steps answer a b named (subst (λ (o : MachineView). HasTraced o new watches steps answer a b) e h)
