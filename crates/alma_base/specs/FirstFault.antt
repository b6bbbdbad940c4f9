-- The first fault of several tests, over the type of the faults, and an answer that tells it.
use Rattle.std.specs.Prelude.{◌≡◌, Bool, true, false, Option, Some, None, Result, Ok, Err}

-- the fault where the test fails, and else what comes after
abbrev pub unless : {F : Type 0} → (holds : Bool) → F → Option F → Option F
unless true fault rest = rest
unless false fault rest = Some fault

-- the first of two that is there
abbrev pub or_else : {F : Type 0} → Option F → Option F → Option F
or_else (Some fault) rest = Some fault
or_else None rest = rest

-- an answer is an error exactly where there is this fault, and tells it
abbrev pub TellsFault : {F T : Type 0} → Option F → Result T F → Type 0
TellsFault found (Ok answer) = found ≡ None
TellsFault found (Err told) = found ≡ Some told
