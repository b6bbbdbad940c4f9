-- A carry that is made at its first gain.
use Rattle.std.specs.Prelude.{[], Option, None, Some}
use Rattle.std.specs.declared.alloc.Global.{Global}
use Rattle.std.specs.declared.boxed.Box.{Box}
use Rattle.alma_base.specs.Carry.{Carry}
use Rattle.alma_code.specs.declared.cell.Cell.{Cell}

-- the carry in its box, which is empty where there is none
abbrev pub carry_in : Option (Box (Carry Cell) Global) → Carry Cell
carry_in None = []
carry_in (Some made) = made.value
