-- What READ needs.
use Rattle.std.specs.Prelude.{◌≤◌, ◌+◌, List}
use Rattle.alma_base.specs.Limits.{input_limit}
use Rattle.alma_base.specs.declared.number.ReadInt.{ReadInt}
use Rattle.alma_base.specs.declared.number.ReadInt.TheVariants.{Number, NoNumber, TooLarge}
use Rattle.alma_code.specs.declared.cell.Cell.TheVariants as cell
use Rattle.alma_code.specs.Fits.{IsPosition}
use Rattle.alma_code.specs.Picture.{PlainFrame, cell_at}
use Rattle.alma_machine_acts.specs.Rows.{HasNumberIn}

-- the first cell of the first frame is a number slot that holds an input position
pub record HasPosition (now : List PlainFrame) : Type 0 where
  pub number : HasNumberIn now 0 0
  pub position : IsPosition (cell_at now 0 0 cell.Unset)

-- the place behind a number that is found is a place of an input
abbrev pub IsBelow : ReadInt → Type 0
IsBelow (Number v behind) = behind ≤ input_limit + 1
IsBelow NoNumber = Unit {0}
IsBelow TooLarge = Unit {0}
