-- What the adapters are seen as, and what reading a whole file may answer.
use Rattle.std.specs.Prelude.{◌≤◌, List, ℕ, length, Option, Result, Ok, Err}
use Rattle.std.specs.Global.{Vec}
use Rattle.alma_io.specs.Files.{Told, MayHave, MayPass}
use Rattle.alma_io.specs.declared.files.Fetch.{Fetch}
use Rattle.alma_io.specs.declared.files.Fetch.TheVariants.{Absent, Failed, TooLong, Memory}

-- a reader or a writer with a count of its faults: the bytes that are left or written, where it tells them
pub record StreamState : Type 0 where
  pub bytes : Option (List ℕ)
  pub faults : ℕ

-- the file system with its counts of faults
pub record SystemState : Type 0 where
  pub fetch_faults : ℕ
  pub store_faults : ℕ

-- what reading an open file to its end may answer
abbrev pub IsReadWhole : Told → ℕ → Result (Vec ℕ) Fetch → Type 0
IsReadWhole told limit (Ok v) = MayHave told v.items × (length v.items ≤ limit)
IsReadWhole told limit (Err Absent) = ⊥
IsReadWhole told limit (Err TooLong) = MayPass told limit
IsReadWhole told limit (Err Failed) = Unit {0}
IsReadWhole told limit (Err Memory) = Unit {0}
