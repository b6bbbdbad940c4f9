-- What the requests of the words read.
use Rattle.std.specs.Prelude.{◌≡◌, List, ℕ, Option, Some, None}
use Rattle.alma_base.specs.Limits.{source_limit, object_limit}
use Rattle.alma_driver_words.specs.Words.{Request, Check, Compile, Listing, Run, Exec, Trace, Sample}

-- the file that a request reads; a sample reads none
abbrev pub read_by : Request → Option (List ℕ)
read_by (Check name) = Some name
read_by (Compile name object) = Some name
read_by (Listing object) = Some object
read_by (Run name steps stats) = Some name
read_by (Exec object steps stats) = Some object
read_by (Trace name steps watch) = Some name
read_by (Sample lines) = None

-- a request reads this file
abbrev pub IsReadBy : Request → (name : List ℕ) → Type 0
IsReadBy request name = read_by request ≡ Some name

-- the greatest number of bytes of that file
abbrev pub limit_of : Request → ℕ
limit_of (Check name) = source_limit
limit_of (Compile name object) = source_limit
limit_of (Listing object) = object_limit
limit_of (Run name steps stats) = source_limit
limit_of (Exec object steps stats) = object_limit
limit_of (Trace name steps watch) = source_limit
limit_of (Sample lines) = source_limit
