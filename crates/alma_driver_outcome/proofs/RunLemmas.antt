-- What a run of compiled code comes to, step by step and by the meaning.
use Rattle.std.proofs.Common.{◌≡◌, ◌≤◌, ◌∙◌, ℕ, List, [], ap, sym, subst, refl, arith}
use Rattle.std.specs.Prelude.{Bool, Option, None, true, false, length}
use Rattle.alma_base.specs.Limits.{size_limit, input_limit}
use Rattle.alma_ir.specs.Tree.{Program}
use Rattle.alma_code.specs.declared.step.End.TheVariants as ended
use Rattle.alma_code.specs.Machine.{Mode, Going, Failing, Ended, Stuck, State, start}
use Rattle.alma_code.specs.Plain.{PlainCode}
use Rattle.alma_code.specs.Reads.{code_reads}
use Rattle.alma_lower_implements.specs.Implements.{Implements, printed_by, state_after, line_in}
use Rattle.alma_lower_sound.specs.Reads.{program_reads}
use Rattle.alma_machine.specs.declared.machine.RunEnd.{RunEnd}
use Rattle.alma_machine.specs.declared.machine.RunEnd.TheVariants as run
use Rattle.alma_machine.specs.Runs.{run_end_of, made}
use Rattle.alma_machine.specs.View.{MachineView}
use Rattle.alma_run_laws.specs.Shown.{size_of, shown_end}
use Rattle.alma_run_laws.proofs.Fronts.{fresh, HasRun, front_of_more, whole_is_front}
use Rattle.alma_run_laws.proofs.Meant.{code_shows}
use Rattle.alma_io.specs.Outside.{Gains}
use Rattle.alma_io.specs.Sides.{SinkSide}
use Rattle.alma_driver_outcome.specs.declared.end.Counts.{Counts}
use Rattle.alma_driver_outcome.specs.Ends.{mode_end, run_end, counts_in}
use Rattle.alma_driver_outcome.specs.Outcome.{Due, code_end, code_due, reading_of, InputOutcome, unread, taken, past_input, AreCounts}
use Rattle.alma_driver_outcome.specs.Outcome.{told_end}
use Rattle.alma_driver_outcome.specs.Outcome.{MeansOn, ProgramOutcome, ran, too_much_code, IsTaken, Meant, meant_on, too_long, too_large}
use Rattle.alma_driver_outcome.specs.Outcome.{TraceMeant, traced_on, trace_too_long, trace_too_large}
use Rattle.alma_driver_outcome.specs.Showing.{Showing, Prints, Traces}
use Rattle.alma_driver_outcome.specs.Parts.{Goes}
use Rattle.alma_driver_outcome.proofs.CourseLemmas.{goes_cut, goes_whole, goes_within}

-- ---- a run of the machine

-- the answer of a run that was not cut short is by the mode in which it is left
mode_is : (m : Mode) (line : ℕ) (counts : Option Counts) → mode_end m line counts ≡ run_end (run_end_of m) line counts
mode_is Going line counts = refl
mode_is Failing line counts = refl
mode_is Stuck line counts = refl
mode_is (Ended ended.Succeeded) line counts = refl
mode_is (Ended ended.Failed) line counts = refl
mode_is (Ended (ended.Fault fault)) line counts = refl

-- the end of a run that was not cut short is due
pub end_is : (code : PlainCode) (input : List ℕ) (new : State) (steps : ℕ) (stats : Bool) (answer : RunEnd)
    → answer ≡ run_end_of (state_after code input steps).mode
    → new ≡ state_after code input steps
    → code_end code stats (state_after code input steps) ≡ run_end answer (line_in code new) (counts_in stats new)
end_is code input new steps stats answer is same =
    let s = state_after code input steps in
    mode_is s.mode (line_in code s) (counts_in stats s) ∙ ap (λ r. run_end r (line_in code s) (counts_in stats s)) (sym is)
    ∙ ap (λ t. run_end answer (line_in code t) (counts_in stats t)) (sym same)

-- what is due from the code
abbrev pub IsDue : PlainCode → (input : List ℕ) → (steps : ℕ) → Showing → Due → Type 0
IsDue code input steps showing due = due ≡ code_due code input steps showing

-- a run that was not cut short goes as its code is due
goes_over : (code : PlainCode) (input : List ℕ) (new : State) (steps : ℕ) (stats : Bool) (answer : RunEnd) (a b : SinkSide)
    → answer ≡ run_end_of (state_after code input steps).mode → new ≡ state_after code input steps
    → Gains a b (printed_by code input steps)
    → Goes (IsDue code input steps (Prints stats)) a b (run_end answer (line_in code new) (counts_in stats new))
goes_over code input new steps stats answer a b is same out =
    goes_whole (IsDue code input steps (Prints stats)) (code_due code input steps (Prints stats)) a b
    (run_end answer (line_in code new) (counts_in stats new)) refl (end_is code input new steps stats answer is same) refl out

-- a run from the start goes so
goes_fresh : (code : PlainCode) (input : List ℕ) (new : MachineView) (steps : ℕ) (stats : Bool) (answer : RunEnd) (a b : SinkSide)
    → HasRun (fresh code input) new steps answer a b
    → Goes (IsDue code input steps (Prints stats)) a b (run_end answer (line_in code new.state) (counts_in stats new.state))
goes_fresh code input new steps stats run.Succeeded a b h =
    goes_over code input new.state steps stats run.Succeeded a b h.answered h.state (record { bytes_are = h.out; quiet = h.cause.ok })
goes_fresh code input new steps stats run.Failed a b h =
    goes_over code input new.state steps stats run.Failed a b h.answered h.state (record { bytes_are = h.out; quiet = h.cause.ok })
goes_fresh code input new steps stats (run.Fault fault) a b h =
    goes_over code input new.state steps stats (run.Fault fault) a b h.answered h.state (record { bytes_are = h.out; quiet = h.cause.ok })
goes_fresh code input new steps stats run.StepsOut a b h =
    goes_over code input new.state steps stats run.StepsOut a b h.answered h.state (record { bytes_are = h.out; quiet = h.cause.ok })
goes_fresh code input new steps stats run.WriteFault a b h =
    let le : made (fresh code input) new ≤ steps = omega (arith, h.few) in
    goes_cut (IsDue code input steps (Prints stats)) (code_due code input steps (Prints stats)) a b refl refl (record {
      front = front_of_more a.written b.written code input (made (fresh code input) new) steps (start code) le h.write_fault;
      risen = (h.cause.later, h.cause.err);
    })
goes_fresh code input new steps stats run.Memory a b h =
    let le : made (fresh code input) new ≤ steps = omega (arith, h.few) in
    goes_within (IsDue code input steps (Prints stats)) (code_due code input steps (Prints stats)) a b refl
    (whole_is_front a.written b.written code input (made (fresh code input) new) steps (start code) le h.memory) h.cause.ok

pub goes_run : (code : PlainCode) (input : List ℕ) (old new : MachineView) (steps : ℕ) (stats : Bool) (answer : RunEnd) (a b : SinkSide)
    → old ≡ fresh code input
    → HasRun old new steps answer a b → Goes (IsDue code input steps (Prints stats)) a b
    (run_end answer (line_in code new.state) (counts_in stats new.state))
goes_run code input old new steps stats answer a b e h =
    goes_fresh code input new steps stats answer a b (subst (λ (o : MachineView). HasRun o new steps answer a b) e h)

-- ---- a run of code that implements a program

-- the end of a machine that is left in a mode is told as what it shows
pub told_is : (m : Mode) (line : ℕ) (counts : Option Counts) → mode_end m line counts ≡ told_end (shown_end m line) counts
told_is (Ended ended.Succeeded) line counts = refl
told_is (Ended ended.Failed) line counts = refl
told_is (Ended (ended.Fault fault)) line counts = refl
told_is Going line counts = refl
told_is Failing line counts = refl
told_is Stuck line counts = refl

-- the counts in a state
counts_are : (stats : Bool) (s : State) → AreCounts stats (counts_in stats s)
counts_are false s = refl
counts_are true s = (record { steps = s.steps; choices = s.choices; fails = s.fails }, refl)

-- what is due from code that implements a program is what the program means
pub code_means : (p : Program) (code : PlainCode) (input : List ℕ) (steps : ℕ) (stats : Bool) → Implements code p
    → length input ≤ input_limit
    → MeansOn p input steps stats (code_due code input steps (Prints stats))
code_means p code input steps stats implements short =
    let s = state_after code input steps in
    record {
      end = shown_end s.mode (line_in code s);
      shows = code_shows code p input steps implements short;
      counts = counts_in stats s;
      counted = counts_are stats s;
      ends = told_is s.mode (line_in code s) (counts_in stats s);
    }

-- a run on this input is what the program means on it
means_due : (left : Option (List ℕ)) (p : Program) (code : PlainCode) (input : List ℕ) (steps : ℕ) (stats : Bool) (due : Due)
    → size_of p ≤ size_limit
    → Implements code p → code_reads code ≡ program_reads p → length input ≤ input_limit → IsTaken left (program_reads p) input
    → due ≡ code_due code input steps (Prints stats)
    → Meant left p steps stats due
means_due left p code input steps stats due size implements reads short is e =
    subst (Meant left p steps stats) (sym e)
    (meant_on input size (ap reading_of reads) is (code_means p code input steps stats implements short))

input_means : (left : Option (List ℕ)) (p : Program) (code : PlainCode) (steps : ℕ) (stats : Bool) (due : Due) → size_of p ≤ size_limit
    → Implements code p → code_reads code ≡ program_reads p
    → InputOutcome left code steps (Prints stats) due → Meant left p steps stats due
input_means left p code steps stats due size implements reads (unread q e) =
    means_due left p code [] steps stats due size implements reads (omega arith)
    (subst (λ (r : Bool). IsTaken left r []) (sym q ∙ reads) refl) e
input_means left p code steps stats due size implements reads (taken input q l short e) =
    means_due left p code input steps stats due size implements reads short
    (subst (λ (r : Bool). IsTaken left r input) (sym q ∙ reads) (l, short)) e
input_means left p code steps stats due size implements reads (past_input q more e) = too_long size more e

-- what a run of a program comes to is what the program means
pub outcome_means : (left : Option (List ℕ)) (p : Program) (steps : ℕ) (stats : Bool) (due : Due)
    → ProgramOutcome left p steps (Prints stats) due → Meant left p steps stats due
outcome_means left p steps stats due (ran code size is_code o) =
    input_means left p code steps stats due size is_code.implements is_code.reads o
outcome_means left p steps stats due (too_much_code size e) = too_large size e

-- ---- a trace of such a run

-- it ends on this input as the program does on it
traced_due : (left : Option (List ℕ)) (p : Program) (code : PlainCode) (input : List ℕ) (steps : ℕ) (names : List (List ℕ)) (due : Due)
    → size_of p ≤ size_limit
    → Implements code p → code_reads code ≡ program_reads p → length input ≤ input_limit → IsTaken left (program_reads p) input
    → due ≡ code_due code input steps (Traces names)
    → TraceMeant left p steps due
traced_due left p code input steps names due size implements reads short is e =
    let s = state_after code input steps in
    subst (TraceMeant left p steps) (sym e)
    (traced_on input (printed_by code input steps) (shown_end s.mode (line_in code s)) size (ap reading_of reads) is
    (code_shows code p input steps implements short) (told_is s.mode (line_in code s) None))

input_traced : (left : Option (List ℕ)) (p : Program) (code : PlainCode) (steps : ℕ) (names : List (List ℕ)) (due : Due)
    → size_of p ≤ size_limit
    → Implements code p → code_reads code ≡ program_reads p
    → InputOutcome left code steps (Traces names) due → TraceMeant left p steps due
input_traced left p code steps names due size implements reads (unread q e) =
    traced_due left p code [] steps names due size implements reads (omega arith)
    (subst (λ (r : Bool). IsTaken left r []) (sym q ∙ reads) refl) e
input_traced left p code steps names due size implements reads (taken input q l short e) =
    traced_due left p code input steps names due size implements reads short
    (subst (λ (r : Bool). IsTaken left r input) (sym q ∙ reads) (l, short)) e
input_traced left p code steps names due size implements reads (past_input q more e) = trace_too_long size more e

-- what a trace of a program comes to ends as the program means
pub trace_means : (left : Option (List ℕ)) (p : Program) (steps : ℕ) (names : List (List ℕ)) (due : Due)
    → ProgramOutcome left p steps (Traces names) due → TraceMeant left p steps due
trace_means left p steps names due (ran code size is_code o) =
    input_traced left p code steps names due size is_code.implements is_code.reads o
trace_means left p steps names due (too_much_code size e) = trace_too_large size e
