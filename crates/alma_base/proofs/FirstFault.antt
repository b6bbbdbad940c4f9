-- Several tests that have no fault.
use Rattle.std.proofs.Common.{◌≡◌, ◌∙◌, Bool, true, false, Option, Some, None, refl, ap}
use Rattle.alma_base.specs.FirstFault.{unless, or_else}

-- no fault of a test and of what comes after it: the test holds, and nothing comes after
pub unless_none : {F : Type 0} (holds : Bool) (f : F) (rest : Option F) → unless holds f rest ≡ None → (holds ≡ true) × (rest ≡ None)
unless_none true f rest e = (refl, e)
unless_none false f rest e = absurd cc

-- where neither of two is there, the first that is there is none
pub or_none : {F : Type 0} (a rest : Option F) → or_else a rest ≡ None → (a ≡ None) × (rest ≡ None)
or_none None rest e = (refl, e)
or_none (Some f) rest e = absurd cc

-- a test that holds hands on to what comes after it
pub unless_holds : {F : Type 0} {holds : Bool} (f : F) (rest : Option F) → holds ≡ true → unless holds f rest ≡ rest
unless_holds f rest e = ap (λ x. unless x f rest) e

-- a test that holds, and no fault after it
pub unless_clean : {F : Type 0} (holds : Bool) (f : F) (rest : Option F) → holds ≡ true → rest ≡ None → unless holds f rest ≡ None
unless_clean holds f rest e r = ap (λ x. unless x f rest) e ∙ r

-- two that are not there
pub or_clean : {F : Type 0} {a rest : Option F} → a ≡ None → rest ≡ None → or_else a rest ≡ None
or_clean {rest = rest} e r = ap (λ x. or_else x rest) e ∙ r
