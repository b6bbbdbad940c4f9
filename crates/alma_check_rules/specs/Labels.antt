-- What is kept beside the labels of a CASE.
use Rattle.std.specs.BTreeMap.{BTreeMap}
use Rattle.std.specs.List.{AllByRecursion}
use Rattle.std.specs.Prelude.{◌≡◌, ◌&&◌, nat_eq, false, Bool, ℕ, ◌≤◌, ℤ, List, length, take, drop}
use Rattle.alma_rules.specs.Parts as parts
use Rattle.alma_rules.specs.StmtRules.{share_value}
use Rattle.alma_check_rules.specs.declared.part.Span.{Span}
use Rattle.alma_check_rules.specs.Reach.{Rises, Covers}

-- each span is covered
abbrev pub CoversAll : BTreeMap (ℕ × ℤ) ℤ → List Span → Type 0
CoversAll m spans = AllByRecursion (λ x. Covers m x.base x.range.low x.range.high) spans

-- the first spans are covered by one map, and those of the arm behind them by another
pub record IsIndexed (spans : List Span) (settled : ℕ) (before arm : BTreeMap (ℕ × ℤ) ℤ) : Type 0 where
  pub before_rises : Rises before
  pub arm_rises : Rises arm
  pub before_covers : CoversAll before (take settled spans)
  pub arm_covers : CoversAll arm (drop settled spans)
  pub within : settled ≤ length spans

-- where it is false, no span that is covered shares a value with x
abbrev pub SharesNone : BTreeMap (ℕ × ℤ) ℤ → parts.Span → Bool → Type 0
SharesNone m x may = may ≡ false → (y : parts.Span) → Covers m y.base y.range.low y.range.high
    → (nat_eq x.base y.base && share_value x.range y.range) ≡ false
