use Rattle.std.proofs.Common.{◌≡◌, ℕ, ◌-◌, ◌<◌, ◌≤◌, length, get_or, Some}
use Rattle.alma_code.specs.declared.instr.Instr.TheVariants as I
use Rattle.alma_code.specs.Plain.{code_of}
use Rattle.alma_lower_slots.specs.Inner.Checks.{IsAmong, no_sources}
use Rattle.alma_lower_slots.specs.Slots.{away}
use Rattle.alma_lower_slots.proofs.sources.sources_of.Given as goal

abbrev pub invariant-loop-at : goal.invariant-loop-at
invariant-loop-at l =
    record {
      count : length l.sources.items ≡ l.end - l.start;
      all :
          (at t : ℕ) → l.start ≤ at → at < l.at → away (get_or (code_of l.code).instrs at I.Fail) ≡ Some t
          → l.start ≤ t → t < l.end → IsAmong (get_or l.sources.items (t - l.start) no_sources) at;
    }
