-- What a machine keeps while it runs.
use Rattle.std.specs.Prelude.{◌≤◌}
use Rattle.alma_code.specs.Fits.{Fits}
use Rattle.alma_code.specs.Machine.{State}
use Rattle.alma_code.specs.Plain.{PlainCode}
use Rattle.alma_code.specs.Rules.{IsSound}
use Rattle.alma_machine_acts.specs.Steps.{IsLive}

-- its code is sound, its state fits, it has not ended, and no more entries were pushed or popped than steps made
pub record Stands (code : PlainCode) (state : State) : Type 0 where
  pub sound : IsSound code
  pub fits : Fits code state
  pub live : IsLive state.mode
  pub choices : state.choices ≤ state.steps
  pub fails : state.fails ≤ state.steps
