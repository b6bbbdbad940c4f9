-- What the laws of the copying code machine say of a code.
use Rattle.std.specs.Prelude.{◌≡◌, ℕ, List}
use Rattle.alma_code.specs.Plain.{PlainCode}
use Rattle.alma_code.specs.Machine.{State, Stuck, step, after, start}
use Rattle.alma_code.specs.Fits.{Fits}

-- from the start the machine always has a next step until it ends: it never meets a slot of a wrong
-- kind, a dead place, or an address or a number that is not in the code
abbrev pub NeverStuck : PlainCode → (input : List ℕ) → Type 0
NeverStuck code input = (n : ℕ) → (after code input n (start code)).mode ≡ Stuck → ⊥

-- a state that fits is followed by one that fits
abbrev pub StaysFit : PlainCode → (input : List ℕ) → Type 0
StaysFit code input = (s : State) → Fits code s → Fits code (step code input s).state
