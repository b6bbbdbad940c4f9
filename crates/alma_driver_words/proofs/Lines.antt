-- The lines of a sample, put together one by one.
use Rattle.std.proofs.Common.{◌≡◌, ◌<◌, ◌+◌, ◌-◌, ◌∙◌, ℕ, suc, List, ◌++◌, ap, subst, append_assoc, arith}
use Rattle.alma_driver_words.specs.Sample.{line_of, lines_from, next_number}

-- a line and those behind it
pub lines_next : (all text mid : List ℕ) (lines turn number : ℕ) → turn < lines → text ++ lines_from (lines - turn) number ≡ all
    → mid ≡ text ++ line_of number → mid ++ lines_from (lines - (turn + 1)) (next_number number) ≡ all
lines_next all text mid lines turn number more h e =
    let left : lines - turn ≡ suc (lines - (turn + 1)) = omega (arith, more) in
    let rest : List ℕ = lines_from (lines - (turn + 1)) (next_number number) in
    ap (λ (z : List ℕ). z ++ rest) e ∙ append_assoc text (line_of number) rest
    ∙ subst (λ (z : ℕ). text ++ lines_from z number ≡ all) left h
