-- The error of a `?` is that of the part.
use Rattle.std.proofs.Common.{◌≡◌, Result, Ok, Err, MatchResult, sym, subst}
use Rattle.std.specs.Prelude.{IsErrAnd}

pub stopped : {T E : Type 0} (P : T → Type 0) (Q : E → Type 0) (r : Result T E) (e : E) → IsErrAnd r (λ y. y ≡ e) → Q e
    → MatchResult r P Q
stopped P Q (Ok x) e h q = absurd h
stopped P Q (Err y) e h q = subst Q (sym h) q
