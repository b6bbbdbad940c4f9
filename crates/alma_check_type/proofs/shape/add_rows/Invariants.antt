use Rattle.std.proofs.Common.{◌≡◌, ◌-◌, take}
use Rattle.alma_rules.specs.Types as types
use Rattle.alma_check_type.specs.Told.{formed_of}
use Rattle.alma_check_type.proofs.shape.add_rows.Given as goal

abbrev pub invariant-loop-done : goal.invariant-loop-done
invariant-loop-done l = types.rows_on l.fn.reader l.indices (formed_of l.fn.element) ≡ types.rows_on l.reader
    (take (l.count - l.done) l.indices) (formed_of l.formed)
