-- What is due from a run of a program, in words of its meaning.
use Rattle.std.specs.Prelude.{◌≡◌, ℕ, List, None}
use Rattle.alma_driver_words.specs.Exit as exit
use Rattle.alma_ir.specs.Tree.{Program}
use Rattle.alma_mean.specs.Events.{End, Succeeded, Failed, Faulted, CutOff}
use Rattle.alma_plan.specs.Plan.{Due, Ending, steps_out, success, tells}
use Rattle.alma_run_laws.specs.Shown.{Shows}
use Rattle.alma_plan.specs.Programs.{fault_words}

module _ (program : List ℕ) (failed : Ending) where
  -- how a call ends whose run shows this end of the meaning: a fault is told with its name and its line; where the meaning is cut off
  -- the steps ran out
  abbrev pub meant_ending : End → Ending
  meant_ending Succeeded = success
  meant_ending Failed = failed
  meant_ending (Faulted fault line) = tells program exit.faulted (fault_words fault line)
  meant_ending CutOff = steps_out program

  -- What is due is what so many steps of a program show on an input: the prints and the end of its meaning, or a front of them.
  pub record IsMeant (p : Program) (input : List ℕ) (steps : ℕ) (due : Due) : Type 0 where
    pub end : End
    pub shows : Shows p input steps due.out end
    pub ends : due.end ≡ meant_ending end
    pub unstored : due.stored ≡ None
