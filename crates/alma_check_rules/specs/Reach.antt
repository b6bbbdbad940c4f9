-- How far spans reach, by where they begin: of those of one base, each reaches further than all that begin before it.
use Rattle.std.specs.Prelude.{◌≡◌, ℕ, ℤ, ◌<ℤ◌, ◌≤ℤ◌, Option, None, Some, Bool, true, false}
use Rattle.std.specs.declared.cmp.Ordering.{Ordering}
use Rattle.std.specs.Ordering.{nat_cmp, int_cmp, ordering_then}
use Rattle.std.specs.BTreeMap.{BTreeMap, get}

-- by base, and then by where a span begins
abbrev pub start_cmp : ℕ × ℤ → ℕ × ℤ → Ordering
start_cmp x y = ordering_then (nat_cmp x.0 y.0) (int_cmp x.1 y.1)

-- how far a span reaches that begins here
abbrev pub end_at : BTreeMap (ℕ × ℤ) ℤ → ℕ → ℤ → Option ℤ
end_at m base low = get start_cmp m (base, low)

-- each reaches further than all of its base that begin before it
pub record Rises (m : BTreeMap (ℕ × ℤ) ℤ) : Type 0 where
  pub rises : (base : ℕ) (x y v w : ℤ) → end_at m base x ≡ Some v → end_at m base y ≡ Some w → x <ℤ y → v <ℤ w

-- the same, but for the one that begins at `low`
pub record RisesBut (m : BTreeMap (ℕ × ℤ) ℤ) (but : ℕ) (low : ℤ) : Type 0 where
  pub rises : (base : ℕ) (x y v w : ℤ) → end_at m base x ≡ Some v → end_at m base y ≡ Some w → x <ℤ y → (base ≡ but → x ≡ low → ⊥) → v <ℤ w

-- one of this base begins no later than the span, and reaches as far
pub record Covers (m : BTreeMap (ℕ × ℤ) ℤ) (base : ℕ) (low high : ℤ) : Type 0 where
  pub start : ℤ
  pub end : ℤ
  pub noted : end_at m base start ≡ Some end
  pub begins : start ≤ℤ low
  pub reaches : high ≤ℤ end

-- what was covered is so still
pub record Keeps (m n : BTreeMap (ℕ × ℤ) ℤ) : Type 0 where
  pub keeps : (base : ℕ) (low high : ℤ) → Covers m base low high → Covers n base low high

-- the furthest end of those that begin at `low` or before
abbrev pub IsEndUpTo : BTreeMap (ℕ × ℤ) ℤ → ℕ → ℤ → Option ℤ → Type 0
IsEndUpTo m base low None = (x v : ℤ) → end_at m base x ≡ Some v → low <ℤ x
IsEndUpTo m base low (Some end) = Covers m base low end × ((x v : ℤ) → end_at m base x ≡ Some v → x ≤ℤ low → v ≤ℤ end)

-- what begins at `start` stands behind `low`, and reaches no further than `high`
pub record IsWithin (m : BTreeMap (ℕ × ℤ) ℤ) (base : ℕ) (low high : ℤ) (start : ℤ) : Type 0 where
  pub end : ℤ
  pub noted : end_at m base start ≡ Some end
  pub behind : low <ℤ start
  pub near : end ≤ℤ high

-- the next that begins behind `low`, where it reaches no further than `high`
abbrev pub IsNextWithin : BTreeMap (ℕ × ℤ) ℤ → ℕ → ℤ → ℤ → Option ℤ → Type 0
IsNextWithin m base low high None = (x v : ℤ) → end_at m base x ≡ Some v → low <ℤ x → high <ℤ v
IsNextWithin m base low high (Some start) = IsWithin m base low high start

-- a span is covered, or none of its base that begins no later reaches as far
abbrev pub IsReached : BTreeMap (ℕ × ℤ) ℤ → ℕ → ℤ → ℤ → Bool → Type 0
IsReached m base low high true = Covers m base low high
IsReached m base low high false = (x v : ℤ) → end_at m base x ≡ Some v → x ≤ℤ low → v <ℤ high

-- what begins at `low` reaches to `high`, further than all that begin before it; those behind it may reach less far
pub record IsTopped (m : BTreeMap (ℕ × ℤ) ℤ) (base : ℕ) (low high : ℤ) : Type 0 where
  pub noted : end_at m base low ≡ Some high
  pub before : (x v : ℤ) → end_at m base x ≡ Some v → x <ℤ low → v <ℤ high
  pub but : RisesBut m base low
