-- Programs that were compiled are within their limit of size, and those that were refused for it are past it.
use Rattle.std.proofs.Common.{◌≡◌, ◌≤◌, ◌<◌, ℕ, refl, inl, inr}
use Rattle.std.proofs.lemmas.Bool.{cases_lt}
use Rattle.std.specs.Prelude.{◌⊎◌, Result, Ok, Err}
use Rattle.alma_base.specs.Limits.{size_limit}
use Rattle.alma_code.specs.declared.code.Code.{Code}
use Rattle.alma_ir.specs.Tree.{Program}
use Rattle.alma_lower.specs.declared.lowering.LowerError.{LowerError}
use Rattle.alma_lower.specs.declared.lowering.LowerError.TheVariants as lower
use Rattle.alma_run_laws.specs.Shown.{size_of}

-- what the compiler answers
abbrev pub lowered : Code → Result Code LowerError
lowered code = Ok code

abbrev pub not_lowered : LowerError → Result Code LowerError
not_lowered error = Err error

-- a program that was compiled is within its limit
pub compiled_within : (p : Program) (code : Code) → (size_limit < size_of p → lowered code ≡ not_lowered (lower.TooMuchCode (size_of p)))
    → size_of p ≤ size_limit
compiled_within p code too_much = by (cases_lt size_limit (size_of p))
  where
    by : (size_limit < size_of p) ⊎ (size_of p ≤ size_limit) → size_of p ≤ size_limit
    by (inl past) = cc (too_much past)
    by (inr small) = small

-- one that was refused for its size is past it, and that is the size
pub refused_large : (p : Program) (n : ℕ)
    → (size_limit < size_of p → not_lowered (lower.TooMuchCode n) ≡ not_lowered (lower.TooMuchCode (size_of p)))
    → (size_of p ≤ size_limit → (k : ℕ) → not_lowered (lower.TooMuchCode n) ≡ not_lowered (lower.TooMuchCode k) → ⊥)
    → (size_limit < size_of p) × (n ≡ size_of p)
refused_large p n too_much within = by (cases_lt size_limit (size_of p))
  where
    by : (size_limit < size_of p) ⊎ (size_of p ≤ size_limit) → (size_limit < size_of p) × (n ≡ size_of p)
    by (inl past) = (past, cc (too_much past))
    by (inr small) = absurd (within small n refl)
