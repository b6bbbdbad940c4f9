-- Files of which one may be stored.
use Rattle.std.proofs.Common.{◌≡◌, ℕ, List, refl, sym, subst}
use Rattle.std.specs.Prelude.{◌≢◌, Bool, true, false}
use Rattle.std.specs.Str.{bytes_eq}
use Rattle.std.proofs.lemmas.Slice.Eq.{bytes_eq-Decides}
use Rattle.alma_io.specs.Sides.{FilesSide}

-- where one tells what it told, and the others do, all do
pub told_stays : (f g : FilesSide) (name : List ℕ) → ((other : List ℕ) → other ≢ name → g.told other ≡ f.told other)
    → g.told name ≡ f.told name → (other : List ℕ) → g.told other ≡ f.told other
told_stays f g name others same other = by (bytes_eq other name) refl
  where
    by : (b : Bool) → bytes_eq other name ≡ b → g.told other ≡ f.told other
    by true e = subst (λ n. g.told n ≡ f.told n) (sym ((bytes_eq-Decides other name).0 e)) same
    by false e = others other (λ q. cc ((bytes_eq-Decides other name).1 q, e))
