use Rattle.std.proofs.Common.{◌≡◌, ℕ, ◌<◌, ◌≤◌, get_or, Some}
use Rattle.std.specs.Prelude.{true}
use Rattle.alma_code.specs.declared.instr.Instr.TheVariants as I
use Rattle.alma_code.specs.Plain.{code_of}
use Rattle.alma_lower_slots.specs.Inner.Checks.{mark_of}
use Rattle.alma_lower_slots.proofs.marks.marks_of.Given as goal

abbrev pub invariant-loop-at : goal.invariant-loop-at
invariant-loop-at l =
    (at a : ℕ) → l.start ≤ at → at < l.at → mark_of (get_or (code_of l.code).instrs at I.Fail) ≡ Some a
    → get_or l.marks.items a true ≡ true
