-- What a run of compiled code comes to, step by step.
use Rattle.std.proofs.Common.{◌≡◌, ◌≤◌, ◌∙◌, ℕ, List, ap, sym, subst, refl, arith}
use Rattle.std.specs.Io.KnownBytes.{Appends}
use Rattle.alma_io.specs.Sides.{SinkSide}
use Rattle.alma_code.specs.declared.step.End.TheVariants as ended
use Rattle.alma_code.specs.Machine.{Mode, Going, Failing, Ended, Stuck, State, start, prints}
use Rattle.alma_code.specs.Plain.{PlainCode}
use Rattle.alma_lower_implements.specs.Implements.{state_after, line_in}
use Rattle.alma_machine.specs.declared.machine.RunEnd.{RunEnd}
use Rattle.alma_machine.specs.declared.machine.RunEnd.TheVariants as run
use Rattle.alma_machine.specs.Runs.{run_end_of, made}
use Rattle.alma_machine.specs.View.{MachineView}
use Rattle.alma_run_laws.proofs.Fronts.{fresh, HasRun, front_of_more, whole_is_front}
use Rattle.alma_ir.specs.Tree.{Program}
use Rattle.alma_plan.specs.Course.{Goes, cut_short, hungry, hungry_within, whole}
use Rattle.alma_plan.specs.Plan.{Due, Ending}
use Rattle.alma_plan.specs.Ends.{program_end, run_end}
use Rattle.alma_lower.specs.CodeFor.{IsCodeFor}
use Rattle.alma_plan.specs.Programs.{Runs, mode_end, code_due, IsRun, Means}

module _ (program : List ℕ) (failed : Ending) where
  -- the answer of a run that was not cut short is by the mode in which it is left
  mode_is : (m : Mode) (line : ℕ) → mode_end program failed m line ≡ program_end program failed (run_end (run_end_of m) line)
  mode_is Going line = refl
  mode_is Failing line = refl
  mode_is Stuck line = refl
  mode_is (Ended ended.Succeeded) line = refl
  mode_is (Ended ended.Failed) line = refl
  mode_is (Ended (ended.Fault fault)) line = refl

  -- the end of a run that was not cut short is due
  end_is : (code : PlainCode) (input : List ℕ) (new : State) (steps : ℕ) (answer : RunEnd)
      → answer ≡ run_end_of (state_after code input steps).mode
      → new ≡ state_after code input steps
      → (code_due program failed code input steps).end ≡ program_end program failed (run_end answer (line_in code new))
  end_is code input new steps answer is same =
      let s = state_after code input steps in
      mode_is s.mode (line_in code s) ∙ ap (λ r. program_end program failed (run_end r (line_in code s))) (sym is)
      ∙ ap (λ t. program_end program failed (run_end answer (line_in code t))) (sym same)

module _ (program : List ℕ) (failed : Ending) (code : PlainCode) (input : List ℕ) (new : MachineView) (steps : ℕ) (a b : SinkSide) where
  -- a run that was not cut short goes as its code is due
  goes_whole : (answer : RunEnd) → answer ≡ run_end_of (state_after code input steps).mode → new.state ≡ state_after code input steps
      → Appends a.written b.written (prints code input steps (start code)) → b.faults ≡ a.faults
      → Goes program (IsRun program failed code input steps) a b (program_end program failed (run_end answer (line_in code new.state)))
  goes_whole answer is same out quiet =
      whole (code_due program failed code input steps) refl (end_is program failed code input new.state steps answer is same) refl
      (record { bytes_are = out; quiet = quiet })

  -- a run from the start goes so
  goes_fresh : (answer : RunEnd) → HasRun (fresh code input) new steps answer a b
      → Goes program (IsRun program failed code input steps) a b (program_end program failed (run_end answer (line_in code new.state)))
  goes_fresh run.Succeeded h = goes_whole run.Succeeded h.answered h.state h.out h.cause.ok
  goes_fresh run.Failed h = goes_whole run.Failed h.answered h.state h.out h.cause.ok
  goes_fresh (run.Fault fault) h = goes_whole (run.Fault fault) h.answered h.state h.out h.cause.ok
  goes_fresh run.StepsOut h = goes_whole run.StepsOut h.answered h.state h.out h.cause.ok
  goes_fresh run.WriteFault h =
      let le : made (fresh code input) new ≤ steps = omega (arith, h.few) in
      cut_short (code_due program failed code input steps) refl refl refl (record {
        front = front_of_more a.written b.written code input (made (fresh code input) new) steps (start code) le h.write_fault;
        risen = (h.cause.later, h.cause.err);
      })
  goes_fresh run.Memory h =
      let le : made (fresh code input) new ≤ steps = omega (arith, h.few) in
      hungry_within (code_due program failed code input steps) refl refl
      (whole_is_front a.written b.written code input (made (fresh code input) new) steps (start code) le h.memory) h.cause.ok

  pub goes_run : (old : MachineView) (answer : RunEnd) → old ≡ fresh code input → HasRun old new steps answer a b
      → Goes program (IsRun program failed code input steps) a b (program_end program failed (run_end answer (line_in code new.state)))
  goes_run old answer e h = goes_fresh answer (subst (λ (o : MachineView). HasRun o new steps answer a b) e h)

-- ---- programs

module _ (program : List ℕ) (failed : Ending) (p : Program) (code : PlainCode) where
  -- what is due from the code of a program is from the program
  due_of_program : (input : List ℕ) (steps : ℕ) (due : Due) → IsCodeFor p code → IsRun program failed code input steps due
      → Means program failed (Runs p input steps) due
  due_of_program input steps due is e = (code, is, e)

  pub run_is_due : (steps : ℕ) → IsCodeFor p code → (input : List ℕ) → (due : Due) × Means program failed (Runs p input steps) due
  run_is_due steps is input = (code_due program failed code input steps, (code, is, refl))

  -- a run of the code of a program goes as the program's
  pub goes_program : (input : List ℕ) (steps : ℕ) (a b : SinkSide) (end : Ending) → IsCodeFor p code
      → Goes program (IsRun program failed code input steps) a b end
      → Goes program (Means program failed (Runs p input steps)) a b end
  goes_program input steps a b end is (cut_short due may none e out) =
      cut_short due (due_of_program input steps due is may) none e out
  goes_program input steps a b end is (hungry e out) = hungry e out
  goes_program input steps a b end is (hungry_within due may e out faults) =
      hungry_within due (due_of_program input steps due is may) e out faults
  goes_program input steps a b end is (whole due may is_end none out) = whole due (due_of_program input steps due is may) is_end none out
