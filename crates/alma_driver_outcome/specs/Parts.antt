-- How the parts of a call that comes to an outcome may go, in the frame that all programs share: to their end, or into a fault or want of
-- memory.
use Rattle.std.specs.Prelude.{◌≡◌, List, ℕ}
use Rattle.alma_io.specs.Sides.{SinkSide, SourceSide, FilesSide}
use Rattle.alma_plan.specs.Course as plan_course
use Rattle.alma_plan.specs.Course.{Course}
use Rattle.alma_plan.specs.Plan as plan
use Rattle.alma_plan.specs.Plan.{Reading}
use Rattle.alma_driver_outcome.specs.Ends.{ending_in, program}
use Rattle.alma_driver_outcome.specs.Outcome.{Due}
use Rattle.alma_driver_outcome.specs.declared.end.End.{End}

-- what is due, where the words name this file
abbrev pub shown_in : (file : List ℕ) → Due → plan.Due
shown_in file due = record { end = ending_in file due.end; out = due.out; stored = due.stored }

-- what may be shown where an outcome is due
abbrev pub MayShow : (file : List ℕ) → (Due → Type 0) → plan.Due → Type 0
MayShow file outcome shown = (due : Due) × outcome due × (shown ≡ shown_in file due)

-- the same, with what becomes of the input
abbrev pub MayCome : (file : List ℕ) → (Due → Type 0) → Reading → plan.Due → Type 0
MayCome file outcome reading shown = (due : Due) × outcome due × (reading ≡ due.reading) × (shown ≡ shown_in file due)

-- How a part that writes to out alone may come to this end, whichever file the words name.
abbrev pub Goes : (Due → Type 0) → SinkSide → SinkSide → End → Type 0
Goes outcome out out' end = (file : List ℕ) → plan_course.Goes program (MayShow file outcome) out out' (ending_in file end)

-- How a part may come to this end, which may ask for these files.
abbrev pub Serves : (asks : List ℕ → Type 0) → (Due → Type 0) → FilesSide → FilesSide → SourceSide → SourceSide → SinkSide → SinkSide → End
    → Type 0
Serves asks outcome files files' input input' out out' end =
    (file : List ℕ) → Course program asks (MayCome file outcome) files files' input input' out out' (ending_in file end)

-- a part that asks for no file
abbrev pub NoFile : List ℕ → Type 0
NoFile name = ⊥

-- How a part may go that leaves the files.
abbrev pub Runs : (Due → Type 0) → SourceSide → SourceSide → SinkSide → SinkSide → End → Type 0
Runs outcome input input' out out' end = (files : FilesSide) → Serves NoFile outcome files files input input' out out' end

-- How a part may go that may store, and leaves the input and out.
abbrev pub Works : (Due → Type 0) → FilesSide → FilesSide → End → Type 0
Works outcome files files' end = (input : SourceSide) (out : SinkSide) → Serves NoFile outcome files files' input input out out end
