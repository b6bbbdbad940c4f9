-- What an error says.
use Rattle.std.specs.Prelude.{◌≡◌, List, Option, Some}
use Rattle.alma_ir.specs.Tree.{Program}
use Rattle.alma_join.specs.Joined.{JoinFault, Missing, Twice, HeadDiffers, TooLarge, join_fault}
use Rattle.alma_join.specs.declared.error.JoinError.{JoinError}
use Rattle.alma_join.specs.declared.error.JoinError.TheVariants as error

-- it is this fault; that memory is wanted is no fault of the modules
abbrev pub IsErrorOf : JoinError → Option JoinFault → Type 0
IsErrorOf (error.Missing unit routine) fault = fault ≡ Some (Missing unit routine)
IsErrorOf (error.Twice unit routine) fault = fault ≡ Some (Twice unit routine)
IsErrorOf (error.HeadDiffers unit routine) fault = fault ≡ Some (HeadDiffers unit routine)
IsErrorOf (error.TooLarge unit) fault = fault ≡ Some (TooLarge unit)
IsErrorOf error.Memory fault = Unit {0}

-- it is the fault of these modules
abbrev pub IsJoinError : JoinError → List Program → Type 0
IsJoinError e units = IsErrorOf e (join_fault units)
