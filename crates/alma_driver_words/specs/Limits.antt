-- The limits of what words may ask for.
use Rattle.std.specs.Prelude.{◌≤◌, length}
use Rattle.alma_driver_words.specs.Words.{Request, Check, Compile, Listing, Run, Exec, Trace, Sample}
use Rattle.alma_driver_words.specs.Words.{greatest_steps, greatest_lines, greatest_watches}

-- for no more steps, watched names and lines than words may name
abbrev pub IsWithinLimits : Request → Type 0
IsWithinLimits (Check name) = Unit {0}
IsWithinLimits (Compile name object) = Unit {0}
IsWithinLimits (Listing object) = Unit {0}
IsWithinLimits (Run name steps stats) = steps ≤ greatest_steps
IsWithinLimits (Exec object steps stats) = steps ≤ greatest_steps
IsWithinLimits (Trace name steps watch) = (steps ≤ greatest_steps) × (length watch ≤ greatest_watches)
IsWithinLimits (Sample lines) = lines ≤ greatest_lines
