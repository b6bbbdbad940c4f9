-- What reading a source to its end may answer.
use Rattle.std.specs.Prelude.{◌≡◌, ◌≤◌, ◌<◌, List, ℕ, length, Option, None, Some, Result, Ok, Err}
use Rattle.std.specs.Global.{Vec}
use Rattle.std.specs.Io.KnownBytes.{Consumes}
use Rattle.alma_io.specs.Causes.{Rose}
use Rattle.alma_io.specs.declared.whole.ReadAll.{ReadAll}
use Rattle.alma_io.specs.declared.whole.ReadAll.TheVariants.{Fault, TooLong, Memory}

-- known bytes lose a prefix of so many bytes
abbrev pub LosesBytes : Option (List ℕ) → Option (List ℕ) → ℕ → Type 0
LosesBytes old new count = (bytes : List ℕ) × Consumes old new bytes × (length bytes ≡ count)

-- known bytes lose a prefix of so many bytes at most
abbrev pub LosesAtMost : Option (List ℕ) → Option (List ℕ) → ℕ → Type 0
LosesAtMost old new most = (bytes : List ℕ) × Consumes old new bytes × (length bytes ≤ most)

-- known bytes are more than so many
abbrev pub MayHaveMore : Option (List ℕ) → ℕ → Type 0
MayHaveMore None limit = Unit {0}
MayHaveMore (Some bytes) limit = limit < length bytes

-- the source is said to have failed only where it did: its count rose then, and else stays
abbrev pub HasReadCause : ℕ → ℕ → Result (Vec ℕ) ReadAll → Type 0
HasReadCause before now (Ok v) = now ≡ before
HasReadCause before now (Err Fault) = (before ≤ now) × Rose before now
HasReadCause before now (Err TooLong) = now ≡ before
HasReadCause before now (Err Memory) = now ≡ before
