-- What is told of a subrange, of the shapes and values of its bounds.
use Rattle.std.proofs.Common.{◌≡◌, ℕ, List, [], ◌∷◌, Option, None, Some, refl, ap, ◌∙◌}
use Rattle.std.specs.Prelude.{option_map}
use Rattle.alma_base.specs.declared.fault.CheckFault.{CheckFault}
use Rattle.alma_rules.specs.Numbered as tree
use Rattle.alma_rules.specs.Judgement.{BrokenRule, both_of, broken_at, unless}
use Rattle.alma_rules.specs.Scene.{Scene}
use Rattle.alma_rules.specs.Parts.{Typing}
use Rattle.alma_rules.specs.Answers.{first}
use Rattle.alma_rules.specs.Types.{Reading, reading_then, reading_with, reading_at, reading_change, read_constant, subrange_rules}
use Rattle.alma_rules.specs.Types.{subrange_of}
use Rattle.alma_check_type.specs.declared.reading.Bound.{Bound}
use Rattle.alma_check_type.specs.Told.{told, told_both, told_at, told_change, told_sub, earlier, bound_of, a_told, sub_of, pair_rules}
use Rattle.alma_check_type.specs.Told.{first_rule}
use Rattle.alma_check_type.proofs.Tells.{then_told, at_told, change_told}

by_bounds : (n : ℕ) (s : Scene) (f : Option BrokenRule) (v w : Option Typing)
    → told_change subrange_of (told_at n (subrange_rules s) (a_told f s (both_of v w))) ≡ told_sub n
    (a_told f s (both_of (option_map bound_of v) (option_map bound_of w)))
by_bounds n s f None w = refl
by_bounds n s f (Some a) None = refl
by_bounds n s f (Some a) (Some b) = go (pair_rules s (bound_of a, bound_of b))
  where
    go : (rules : List CheckFault) → told_change subrange_of (a_told (earlier f (first (broken_at n rules))) s (unless rules (Some (a, b))))
        ≡ told_change sub_of (a_told (earlier f (first (broken_at n rules))) s (unless rules (Some (bound_of a, bound_of b))))
    go [] = refl
    go (r ∷ rs) = refl

pub sub_told : (s : Scene) (n : ℕ) (low high : tree.Expr)
    → told (reading_change subrange_of (reading_at n (subrange_rules s) (reading_then (read_constant s low) (λ i. read_constant i high))))
    ≡ told_sub n (told_both (told (reading_with bound_of (read_constant s low))) (told (reading_with bound_of (read_constant s high))))
sub_told s n low high =
    let r : Reading (Typing × Typing) = reading_then (read_constant s low) (λ i. read_constant i high) in
    change_told subrange_of (reading_at n (subrange_rules s) r)
    ∙ ap (told_change subrange_of) (at_told n (subrange_rules s) r
    ∙ ap (told_at n (subrange_rules s)) (then_told (read_constant s low) (λ i. read_constant i high)))
    ∙ by_bounds n s (earlier (first (read_constant s low).faults) (first (read_constant s high).faults)) (read_constant s low).value
    (read_constant s high).value

module _ (n : ℕ) (s : Scene) (f : Option BrokenRule) (p : Bound × Bound) where
  pub sub_broken : (rule : CheckFault) → Some rule ≡ first_rule (pair_rules s p)
      → a_told (earlier f (Some (record { node = n; fault = rule }))) s None ≡ told_sub n (a_told f s (Some p))
  sub_broken rule h = go (pair_rules s p) h
    where
      go : (rules : List CheckFault) → Some rule ≡ first_rule rules
          → a_told (earlier f (Some (record { node = n; fault = rule }))) s None ≡ told_change sub_of
          (a_told (earlier f (first (broken_at n rules))) s (unless rules (Some p)))
      go [] h = absurd (cc)
      go (r ∷ rs) h = let e : rule ≡ r = cc in rw e refl
