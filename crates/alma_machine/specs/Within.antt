-- How far a run came that may be cut short, apart from what its sink holds.
use Rattle.std.specs.Prelude.{◌≡◌, ◌≤◌, ◌+◌, ℕ}
use Rattle.alma_code.specs.Machine.{after, prints}
use Rattle.alma_machine.specs.View.{MachineView}
use Rattle.alma_machine.specs.declared.machine.RunEnd.{RunEnd}
use Rattle.alma_machine.specs.Runs.{ShowsLast, last_print, run_end_of, is_steps_out, made, OnWhole, OnStepsOut}

-- so far comes a run of at most so many steps with this answer
pub record RunsWithin (old new : MachineView) (budget : ℕ) (result : RunEnd) : Type 0 where
  -- whole: the machine is where it is after the budget, and so are its answer and its prints
  pub answer : OnWhole result (result ≡ run_end_of (after old.code old.input budget old.state).mode)
  pub state : OnWhole result (new.state ≡ after old.code old.input budget old.state)
  pub all_prints : OnWhole result
      (prints old.code old.input (made old new) old.state ≡ prints old.code old.input budget old.state)
  -- in each case: it is where it is after the steps that were made
  pub few : new.state.steps ≤ old.state.steps + budget
  pub state_is : new.state ≡ after old.code old.input (made old new) old.state
  pub steps_out : OnStepsOut result (made old new ≡ budget)
  pub shows : ShowsLast result new.printed (last_print old.code old.input (made old new) old.state old.printed)
  pub running : new.running ≡ is_steps_out result
  pub same : (new.code ≡ old.code) × (new.input ≡ old.input)
