-- What the code's values of a module that is checked stand for.
use Rattle.std.specs.Prelude.{Bool, true, false, List, map, Option, None, Some}
use Rattle.alma_ir.specs.Tree as ir
use Rattle.alma_ir.specs.View.{routine_of}
use Rattle.alma_rules.specs.Scene.{Scene}
use Rattle.alma_check_type.specs.Told.{fault_of}
use Rattle.alma_check_stmt.specs.declared.checked.Checked.{Checked}
use Rattle.alma_check_stmt.specs.Inner.Gathered.{Stage, stage}

-- the routines, where none is Bad
abbrev pub unless_bad : Bool → List ir.Routine → Option (List ir.Routine)
unless_bad true rs = None
unless_bad false rs = Some rs

-- the routines that are checked, where none is Bad
abbrev pub routines_in : Checked → Option (List ir.Routine)
routines_in x = unless_bad x.is_bad (map routine_of x.routines.items)

-- how far a module is checked, with the scene of its reader
abbrev pub stand : Checked → Scene → Stage
stand x s = stage (fault_of x.fault) (routines_in x) x.next s
