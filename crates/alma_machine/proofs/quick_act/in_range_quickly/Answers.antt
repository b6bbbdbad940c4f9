use Rattle.std.proofs.Common.{rules, sym, ℤ}
use Rattle.alma_code.specs.Machine.{quiet_step}
use Rattle.alma_machine.proofs.quick_act.in_range_quickly.Goals as goal

pub returns-in-Ok : goal.returns-in-Ok
returns-in-Ok c s same = record {
  step = sym (c.in-Ok.ensures.number s (λ (v : ℤ). quiet_step s) same);
  kept = search rules;
}
