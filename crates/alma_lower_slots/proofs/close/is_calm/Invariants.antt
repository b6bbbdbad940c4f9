use Rattle.std.proofs.Common.{ℕ, ◌<◌, ◌≤◌, get_or}
use Rattle.alma_code.specs.declared.instr.Instr.TheVariants as I
use Rattle.alma_code.specs.Plain.{code_of}
use Rattle.alma_lower_slots.specs.Inner.Checks.{IsCalm}
use Rattle.alma_lower_slots.proofs.close.is_calm.Given as goal

abbrev pub invariant-loop-before : goal.invariant-loop-before
invariant-loop-before l = (at : ℕ) → l.low < at → at ≤ l.before → IsCalm (get_or (code_of l.code).instrs at I.Fail) at l.high
