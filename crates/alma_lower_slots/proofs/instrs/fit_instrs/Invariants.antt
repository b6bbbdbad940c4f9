use Rattle.std.proofs.Common.{ℕ, ◌<◌, ◌≤◌, get_or}
use Rattle.alma_code.specs.declared.instr.Instr.TheVariants as I
use Rattle.alma_code.specs.Plain.{code_of}
use Rattle.alma_lower_slots.specs.Inner.Checks.{FitsInstr}
use Rattle.alma_lower_slots.proofs.instrs.fit_instrs.Given as goal

abbrev pub invariant-loop-at : goal.invariant-loop-at
invariant-loop-at l =
    (at : ℕ) → l.start ≤ at → at < l.at
    → FitsInstr (code_of l.code) l.own l.kinds l.stretches l.routine at (get_or (code_of l.code).instrs at I.Fail)
