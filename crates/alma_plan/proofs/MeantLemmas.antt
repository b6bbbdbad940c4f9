-- What is due from a run of a program is what its meaning says.
use Rattle.std.proofs.Common.{◌≡◌, ◌≤◌, ◌∙◌, ℕ, List, ap, sym, subst, refl}
use Rattle.std.specs.Prelude.{length}
use Rattle.alma_base.specs.Limits.{input_limit}
use Rattle.alma_code.specs.declared.step.End.TheVariants as ended
use Rattle.alma_code.specs.Machine.{Mode, Going, Failing, Ended, Stuck}
use Rattle.alma_ir.specs.Tree.{Program}
use Rattle.alma_lower_implements.specs.Implements.{state_after, line_in}
use Rattle.alma_plan.specs.Plan.{Due, Ending}
use Rattle.alma_run_laws.specs.Shown.{Shows, shown_end}
use Rattle.alma_run_laws.proofs.Meant.{code_shows}
use Rattle.alma_plan.specs.Meant.{IsMeant, meant_ending}
use Rattle.alma_plan.specs.Programs.{Runs, mode_end, sense}

module _ (program : List ℕ) (failed : Ending) where
  -- a machine that is left in a mode ends the call as the end that it shows
  mode_meant : (m : Mode) (line : ℕ) → mode_end program failed m line ≡ meant_ending program failed (shown_end m line)
  mode_meant (Ended ended.Succeeded) line = refl
  mode_meant (Ended ended.Failed) line = refl
  mode_meant (Ended (ended.Fault fault)) line = refl
  mode_meant Going line = refl
  mode_meant Failing line = refl
  mode_meant Stuck line = refl

  pub run_is_meant : (p : Program) (input : List ℕ) (steps : ℕ) (due : Due) → length input ≤ input_limit
      → (sense program failed).means (Runs p input steps) due → IsMeant program failed p input steps due
  run_is_meant p input steps due short m =
      let s = state_after m.0 input steps in
      let end = shown_end s.mode (line_in m.0 s) in
      record {
        end = end;
        shows = subst (λ (d : Due). Shows p input steps d.out end) (sym m.2) (code_shows m.0 p input steps m.1.implements short);
        ends = ap (λ (d : Due). d.end) m.2 ∙ mode_meant s.mode (line_in m.0 s);
        unstored = ap (λ (d : Due). d.stored) m.2;
      }
