-- What is told, as parts are put together.
use Rattle.std.proofs.Common.{◌≡◌, ℕ, List, [], ◌∷◌, ◌++◌, Option, None, Some, refl, sym, ap, ◌∙◌, append_assoc}
use Rattle.std.specs.Prelude.{option_map}
use Rattle.alma_base.specs.declared.fault.CheckFault.{CheckFault}
use Rattle.alma_rules.specs.Judgement.{BrokenRule, both_of, broken_at, unless}
use Rattle.alma_rules.specs.Scene.{Scene}
use Rattle.alma_rules.specs.Answers.{first}
use Rattle.alma_rules.specs.Types.{Reading, reading_then, reading_at, reading_change, with_change}
use Rattle.alma_rules.specs.Types.{ShapeOrLimit, cons_index}
use Rattle.alma_check_type.specs.Told.{Told, told, told_both, told_with, told_at, told_changed, told_change, earlier, onward, join, alone}
use Rattle.alma_check_type.specs.Told.{a_told}

-- ---- told of parts

pub first_joined : (xs ys : List BrokenRule) → first (xs ++ ys) ≡ earlier (first xs) (first ys)
first_joined [] ys = refl
first_joined (x ∷ xs) ys = refl

pub earlier_none : (a : Option BrokenRule) → earlier a None ≡ a
earlier_none None = refl
earlier_none (Some x) = refl

pub earlier_assoc : (a b c : Option BrokenRule) → earlier a (earlier b c) ≡ earlier (earlier a b) c
earlier_assoc None b c = refl
earlier_assoc (Some x) b c = refl

pub told_as : {A : Type 0} (a b : Option BrokenRule) (s : Scene) (v w : Option A) → a ≡ b → v ≡ w → a_told a s v ≡ a_told b s w
told_as a b s v w p q = rw (p, q) refl

pub then_told : {A B : Type 0} (a : Reading A) (f : Scene → Reading B) → told (reading_then a f) ≡ told_both (told a) (told (f a.scene))
then_told a f = ap (λ x. a_told x (f a.scene).scene (both_of a.value (f a.scene).value)) (first_joined a.faults (f a.scene).faults)

pub at_told : {A : Type 0} (n : ℕ) (rules : Option A → List CheckFault) (r : Reading A)
    → told (reading_at n rules r) ≡ told_at n rules (told r)
at_told n rules r = ap (λ x. a_told x r.scene (unless (rules r.value) r.value)) (first_joined r.faults (broken_at n (rules r.value)))

changed_told : {B : Type 0} (s : Scene) (faults : List BrokenRule) (v : Option (Scene × B))
    → told (with_change s faults v) ≡ told_changed (first faults) s v
changed_told s faults None = refl
changed_told s faults (Some p) = refl

pub change_told : {A B : Type 0} (f : Scene → A → Scene × B) (r : Reading A) → told (reading_change f r) ≡ told_change f (told r)
change_told f r = changed_told r.scene r.faults (option_map (f r.scene) r.value)

-- ---- lists

pub onward_begin : {A : Type 0} (t : Told (List A)) → onward None (Some []) t ≡ t
onward_begin t = ap (λ v. a_told t.fault t.scene v) (go t.value)
  where
    go : {A : Type 0} (v : Option (List A)) → option_map join (both_of (Some []) v) ≡ v
    go None = refl
    go (Some xs) = refl

joined_three : {A : Type 0} (u v w : Option (List A))
    → option_map join (both_of u (option_map join (both_of v w))) ≡ option_map join (both_of (option_map join (both_of u v)) w)
joined_three None v w = refl
joined_three (Some x) None w = refl
joined_three (Some x) (Some y) None = refl
joined_three (Some x) (Some y) (Some z) = ap Some (sym (append_assoc x y z))

-- a list behind a part of it, and then another
pub onward_both : {A : Type 0} (f : Option BrokenRule) (v : Option (List A)) (a b : Told (List A))
    → onward f v (told_with join (told_both a b)) ≡ onward (onward f v a).fault (onward f v a).value b
onward_both f v a b = told_as _ _ b.scene _ _ (earlier_assoc f a.fault b.fault) (joined_three v a.value b.value)

cons_alone : (v : Option ShapeOrLimit) (w : Option (List ℕ))
    → option_map cons_index (both_of v w) ≡ option_map join (both_of (option_map alone v) w)
cons_alone None w = refl
cons_alone (Some x) None = refl
cons_alone (Some x) (Some ys) = refl

pub onward_cons : (f : Option BrokenRule) (v : Option (List ℕ)) (a : Told ShapeOrLimit) (b : Told (List ℕ))
    → onward f v (told_with cons_index (told_both a b)) ≡ onward (onward f v (told_with alone a)).fault
    (onward f v (told_with alone a)).value b
onward_cons f v a b =
    ap (λ w. onward f v (a_told (earlier a.fault b.fault) b.scene w)) (cons_alone a.value b.value)
    ∙ onward_both f v (told_with alone a) b

-- ---- the names of types

-- for tactics
pub ruleset steps = (first_joined, earlier_none)
