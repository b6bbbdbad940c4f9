use Rattle.std.proofs.Common.{map}
use Rattle.alma_ir.specs.View.{program_of}
use Rattle.alma_join.specs.Numbers.{numbers_in}
use Rattle.alma_join.proofs.Units.{UnitsNumbered}
use Rattle.alma_join.proofs.import.number_units.Given as goal

abbrev pub invariant-loop-i : goal.invariant-loop-i
invariant-loop-i l = UnitsNumbered (map program_of l.units) l.i l.next (map numbers_in l.tables.items)
