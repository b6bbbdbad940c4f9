-- What a pool keeps of each program while no turn was refused.
use Rattle.std.specs.Prelude.{◌≡◌, true, Option, None}
use Rattle.alma_code.specs.declared.step.End.{End}
use Rattle.alma_machine.specs.View.{MachineView}
use Rattle.alma_pool.specs.declared.pool.Player.{Player}
use Rattle.alma_pool.specs.Pool.{PlayerState, ended_in}

-- its end is known, and it can go on where it has none
pub record IsReady (machine : MachineView) (end : Option End) : Type 0 where
  pub end_is : end ≡ ended_in machine.state.mode
  pub running : end ≡ None → machine.running ≡ true

-- a program as contracts see it
abbrev pub played_of : Player → PlayerState
played_of p = record { code = p.machine.code; input = p.machine.input; state = p.machine.state; output = p.output.items }
