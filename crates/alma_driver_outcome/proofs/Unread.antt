-- Code without a reading instruction has one due on every input.
use Rattle.std.proofs.Common.{◌≡◌, ◌∙◌, ℕ, List, ap}
use Rattle.std.specs.Prelude.{Bool, false, None}
use Rattle.alma_code.specs.Plain.{PlainCode}
use Rattle.alma_code.specs.Reads.{code_reads}
use Rattle.alma_code.specs.Machine.{State, start, after, prints}
use Rattle.alma_lower_implements.specs.Implements.{line_in}
use Rattle.alma_run_laws.proofs.Unread.{after_alike, prints_alike}
use Rattle.alma_driver_outcome.specs.Outcome.{Due, code_due, reading_of}
use Rattle.alma_driver_outcome.specs.Ends.{mode_end, counts_in}
use Rattle.alma_driver_outcome.specs.Showing.{Prints}

module _ (code : PlainCode) (input other : List ℕ) where
  -- a due by a state and prints
  abbrev due_at : (steps : ℕ) (stats : Bool) → State → List ℕ → Due
  due_at steps stats s out = record {
    end = mode_end s.mode (line_in code s) (counts_in stats s);
    out = out;
    stored = None;
    reading = reading_of (code_reads code);
  }

  -- what a run comes to
  pub due_alike : (steps : ℕ) (stats : Bool) → code_reads code ≡ false
      → code_due code input steps (Prints stats) ≡ code_due code other steps (Prints stats)
  due_alike steps stats q =
      ap (λ (s : State). due_at steps stats s (prints code input steps (start code)))
      (after_alike code input other steps (start code) q)
      ∙ ap (λ (out : List ℕ). due_at steps stats (after code other steps (start code)) out)
      (prints_alike code input other steps (start code) q)
