-- A choice between two terms of which only the one that is taken is computed.
use Rattle.std.specs.Prelude.{Bool, true, false}

-- the first where the test is true, and else the second
abbrev pub if_true : {A : Type 0} → Bool → (Unit {0} → A) → (Unit {0} → A) → A
if_true true first second = first tt
if_true false first second = second tt
