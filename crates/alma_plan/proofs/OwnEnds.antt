-- Plans whose ends are the program's own: none is a fault of the outside, or want of memory.
use Rattle.std.proofs.Common.{◌≡◌, ◌≢◌, ℕ, List}
use Rattle.alma_plan.specs.Plan.{Due, Plan, Sense, Fetches, Judges, Reads, Ends}

module _ {V L : Type 0} (sense : Sense V L) where
  -- what a last value means is an end of the program's own: no fault of the outside, and no want of memory
  abbrev pub IsOwn : L → Type 0
  IsOwn last = (due : Due) → sense.means last due → (due.end.status ≢ 6) × (due.end.status ≢ 7) × (due.end.status ≢ 8)

  -- so do all last values of a plan
  abbrev pub HasOwnEnds : Plan V L → Type 0
  HasOwnEnds (Fetches name limit next) = (bytes : List ℕ) → HasOwnEnds (next bytes)
  HasOwnEnds (Judges source next) = (verdict : V) → HasOwnEnds (next verdict)
  HasOwnEnds (Reads last) = (bytes : List ℕ) → IsOwn (last bytes)
  HasOwnEnds (Ends last) = IsOwn last

-- a source comes to one verdict
abbrev pub HaveOneVerdict : {V L : Type 0} → Sense V L → Type 0
HaveOneVerdict {V} sense = (source : List ℕ) (one other : V) → sense.judged source one → sense.judged source other → one ≡ other
