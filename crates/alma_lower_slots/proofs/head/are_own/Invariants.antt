use Rattle.std.proofs.Common.{◌≡◌, ◌≤◌, take}
use Rattle.std.specs.Prelude.{sum_by}
use Rattle.alma_code.specs.Layout.{param_slots}
use Rattle.alma_lower_slots.proofs.head.are_own.Given as goal

abbrev pub invariant-loop-param : goal.invariant-loop-param
invariant-loop-param l =
    record {
      sum : l.slots ≡ sum_by (λ p. param_slots p.kind p.cells) (take l.param-index l.params);
      within : l.slots ≤ l.own;
    }
