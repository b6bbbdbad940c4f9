-- The arms that are left complete those that were passed.
use Rattle.std.proofs.Common.{◌≡◌, ℕ, drop}
use Rattle.alma_ir.specs.Tree.{Else}
use Rattle.alma_ir.specs.View.{cases_list}
use Rattle.alma_lower_work.specs.Front.{Around, Front, front}
use Rattle.alma_lower_parts.specs.Cases.{PutsAllArms}
use Rattle.alma_lower_parts.proofs.pass.pass_unlabelled.Given as goal

abbrev pub invariant-loop-arm : goal.invariant-loop-arm
invariant-loop-arm l = record {
  count : l.first ≡ l.arm-index;
  completes : (s : Around) (line value bound : ℕ) (c : Front) (rest : Else)
      → PutsAllArms s line value bound (front l.work) c (cases_list (drop l.arm-index l.arms)) rest
      → PutsAllArms s line value bound (front l.fn.work) c (cases_list l.arms) rest;
}
