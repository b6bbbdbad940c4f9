-- The first argument slot of a call.
use Rattle.std.proofs.Common.{◌≡◌, ℕ, ◌<◌, ◌≤◌, List, [], ◌∷◌, length, refl, arith}
use Rattle.std.specs.Prelude.{true, nat_eq}
use Rattle.alma_code.specs.declared.head.CodeParam.{CodeParam}
use Rattle.alma_code.specs.Rules.{holds_first}

pub first_some : (ps : List CodeParam) (first : ℕ) → 0 < length ps → holds_first ps first ≡ true
first_some [] first lt = absurd (omega arith)
first_some (p ∷ ps) first lt = refl

pub first_none : (ps : List CodeParam) (first : ℕ) → length ps ≤ 0 → holds_first ps first ≡ nat_eq first 0
first_none [] first le = refl
first_none (p ∷ ps) first le = absurd (omega arith)

pub ruleset firsts = (first_some, first_none)
