use Rattle.std.proofs.Common.{ℕ, ◌<◌, ◌≤◌, get_or}
use Rattle.alma_code.specs.declared.instr.Instr.TheVariants as I
use Rattle.alma_code.specs.Plain.{code_of}
use Rattle.alma_lower_slots.specs.Inner.Checks.{IsClear}
use Rattle.alma_lower_slots.specs.Slots.{body_of}
use Rattle.alma_lower_slots.proofs.marks.are_clear.Given as goal

abbrev pub invariant-loop-at : goal.invariant-loop-at
invariant-loop-at l = (at : ℕ) → l.start ≤ at → at < l.at → IsClear l.marks (body_of (get_or (code_of l.code).instrs at I.Fail))
