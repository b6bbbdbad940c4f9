-- Which labels are noted, behind an arm and in front of the next.
use Rattle.std.specs.Prelude.{◌≡◌, ℕ, ◌++◌, Bool, true, false, take, length, List, Option, None, Some}
use Rattle.alma_rules.specs.Parts as parts

-- the labels that are noted: all of an arm behind those before it; where one of them is Bad, those before it and some more
abbrev pub GrowsBy : List parts.Span → Option (List parts.Span) → List parts.Span → Type 0
GrowsBy old (Some ls) new = new ≡ old ++ ls
GrowsBy old None new = take (length old) new ≡ old

-- of the labels that are noted, those that stand before the next arm
abbrev pub trail_for_entries : ℕ → Bool → List parts.Span → List parts.Span
trail_for_entries before true spans = spans
trail_for_entries before false spans = take before spans
