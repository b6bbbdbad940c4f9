-- Lists of phrases that fit a place of a program, and facts of values that there may not be.
use Rattle.std.proofs.Common.{◌≡◌, ℕ, ◌<◌, ◌≤◌, Bool, true, false, List, [], ◌∷◌, ◌++◌, Option, None, Some, refl, subst, arith}
use Rattle.std.specs.Prelude.{option_map, option_and_then}
use Rattle.std.specs.List.{AllByRecursion}
use Rattle.alma_base.specs.declared.fault.CheckFault.{CheckFault}
use Rattle.alma_ir.specs.Tree.{Loop, ForTo, SomeOf, Return, a_loop}
use Rattle.alma_ir.specs.Phrases.{Phrase, StmtPhrase}
use Rattle.alma_ir.specs.Checked.{loops_of, LoopLeaves, IsNoReturn}
use Rattle.alma_ir.proofs.Each.{each_of_append, each_follows}
use Rattle.alma_rules.specs.Judgement.{unless, both_of}
use Rattle.alma_resolved.specs.Fits.{Place, LoopFits, Fits, PhrasesFit}

loop_wider : (lo hi low high : ℕ) (l : Loop) → low ≤ lo → hi ≤ high → LoopFits lo hi l → LoopFits low high l
loop_wider lo hi low high (a_loop d range counter limit from to by body) p q h =
    (h.0, h.1, h.2, omega (arith, h.3, p), h.4, omega (arith, h.5, q), h.6)

wider : (k : Place) (i : Bool) (lo hi low high : ℕ) (x : Phrase) → low ≤ lo → hi ≤ high → Fits k i lo hi x → Fits k i low high x
wider k i lo hi low high (StmtPhrase (ForTo l)) p q h = loop_wider lo hi low high l p q h
wider k i lo hi low high (StmtPhrase (SomeOf l)) p q h = loop_wider lo hi low high l p q h
wider k i lo hi low high x p q h = h

outside : (k : Place) (i : Bool) (lo hi : ℕ) (x : Phrase) → Fits k true lo hi x → Fits k i lo hi x
outside k i lo hi (StmtPhrase (Return e)) h = absurd (let e : true ≡ false = h.0 in cc)
outside k i lo hi x h = h

no_return : (k : Place) (lo hi : ℕ) (x : Phrase) → Fits k true lo hi x → IsNoReturn x
no_return k lo hi (StmtPhrase (Return e)) h = absurd (let e : true ≡ false = h.0 in cc)
no_return k lo hi x h = tt

-- ---- lists of phrases

each_wider : (k : Place) (i : Bool) (lo hi low high : ℕ) (xs : List Phrase) → low ≤ lo → hi ≤ high → AllByRecursion (Fits k i lo hi) xs
    → AllByRecursion (Fits k i low high) xs
each_wider k i lo hi low high xs p q h = each_follows (Fits k i lo hi) (Fits k i low high) (λ x g. wider k i lo hi low high x p q g) xs h

pub laid_nil : (k : Place) (i : Bool) (lo hi : ℕ) → lo ≤ hi → PhrasesFit k i lo hi []
laid_nil k i lo hi le = record { le = le; all = tt }

pub laid_cons : {k : Place} {i : Bool} {lo hi : ℕ} {xs : List Phrase} (x : Phrase) → Fits k i lo hi x → PhrasesFit k i lo hi xs
    → PhrasesFit k i lo hi (x ∷ xs)
laid_cons x f h = record { le = h.le; all = (f, h.all) }

pub laid_join : {k : Place} {i : Bool} {lo mid hi : ℕ} {xs ys : List Phrase} → PhrasesFit k i lo mid xs → PhrasesFit k i mid hi ys
    → PhrasesFit k i lo hi (xs ++ ys)
laid_join {k} {i} {lo} {mid} {hi} {xs} {ys} p q = record {
  le = omega (arith, p.le, q.le);
  all = each_of_append (Fits k i lo hi) xs ys (each_wider k i lo mid lo hi xs (omega arith) q.le p.all)
      (each_wider k i mid hi lo hi ys p.le (omega arith) q.all);
}

pub laid_wide : {k : Place} {i : Bool} {lo hi : ℕ} {xs : List Phrase} (low high : ℕ) → low ≤ lo → hi ≤ high → PhrasesFit k i lo hi xs
    → PhrasesFit k i low high xs
laid_wide {k} {i} {lo} {hi} {xs} low high a b p =
    record { le = omega (arith, a, b, p.le); all = each_wider k i lo hi low high xs a b p.all }

pub laid_one : {k : Place} {i : Bool} {lo hi : ℕ} {xs : List Phrase} → PhrasesFit k i lo hi xs → PhrasesFit k i lo hi (xs ++ [])
laid_one {k} {i} {lo} {hi} {xs} p = record { le = p.le; all = each_of_append (Fits k i lo hi) xs [] p.all tt }

pub laid_outside : {k : Place} {lo hi : ℕ} {xs : List Phrase} (i : Bool) → PhrasesFit k true lo hi xs → PhrasesFit k i lo hi xs
laid_outside {k} {lo} {hi} {xs} i p = record {
  le = p.le;
  all =
      each_follows (Fits k true lo hi) (Fits k i lo hi) (outside k i lo hi) xs p.all;
}

pub laid_stays : {k : Place} {lo hi : ℕ} {xs : List Phrase} → PhrasesFit k true lo hi xs → AllByRecursion IsNoReturn xs
laid_stays {k} {lo} {hi} {xs} p = each_follows (Fits k true lo hi) IsNoReturn (no_return k lo hi) xs p.all

-- loops behind have other hidden slots
loop_leaves : (n m lo hi : ℕ) (l : Loop) → n < lo → m < lo → LoopFits lo hi l → LoopLeaves n m l
loop_leaves n m lo hi (a_loop d range counter limit from to by body) p q h = (
  λ e. omega (arith, e, p, h.3),
  λ e. omega (arith, e, p, h.3, h.4),
  λ e. omega (arith, e, q, h.3),
  λ e. omega (arith, e, q, h.3, h.4),
)

leaves : (k : Place) (i : Bool) (n m lo hi : ℕ) → n < lo → m < lo → (x : Phrase) → Fits k i lo hi x
    → AllByRecursion (LoopLeaves n m) (loops_of x)
leaves k i n m lo hi p q (StmtPhrase (ForTo l)) h = (loop_leaves n m lo hi l p q h, tt)
leaves k i n m lo hi p q (StmtPhrase (SomeOf l)) h = (loop_leaves n m lo hi l p q h, tt)
leaves k i n m lo hi p q x h = tt

pub laid_leaves : {k : Place} {i : Bool} {lo hi : ℕ} {xs : List Phrase} (n m : ℕ) → n < lo → m < lo → PhrasesFit k i lo hi xs
    → AllByRecursion (λ x. AllByRecursion (LoopLeaves n m) (loops_of x)) xs
laid_leaves {k} {i} {lo} {hi} {xs} n m p q h =
    each_follows (Fits k i lo hi) (λ x. AllByRecursion (LoopLeaves n m) (loops_of x)) (leaves k i n m lo hi p q) xs h.all

-- ---- values that there may not be

abbrev WhenIs : {A : Type 0} → Option A → (A → Type 0) → Type 0
WhenIs None P = Unit {0}
WhenIs (Some x) P = P x

-- a fact of the value, where there is one
pub record When {A : Type 0} (v : Option A) (P : A → Type 0) : Type 0 where
  pub gives : WhenIs v P

pub when_some : {A : Type 0} {P : A → Type 0} (x : A) → P x → When (Some x) P
when_some x h = record { gives = h }

pub when_none : {A : Type 0} {P : A → Type 0} → When None P
when_none = record { gives = tt }

pub when_is : {A : Type 0} {P : A → Type 0} {v : Option A} (x : A) → v ≡ Some x → When v P → P x
when_is {A} {P} {v} x e h = subst (λ w. WhenIs w P) e h.gives

pub when_all : {A : Type 0} {P : A → Type 0} (v : Option A) → ((x : A) → v ≡ Some x → P x) → When v P
when_all None f = record { gives = tt }
when_all (Some x) f = record { gives = f x refl }

pub when_map : {A B : Type 0} {P : A → Type 0} {Q : B → Type 0} {v : Option A} (f : A → B) → When v P → ((x : A) → P x → Q (f x))
    → When (option_map f v) Q
when_map {A} {B} {P} {Q} {v = None} f h g = record { gives = tt }
when_map {A} {B} {P} {Q} {v = Some x} f h g = record { gives = g x h.gives }

pub when_then : {A B : Type 0} {P : A → Type 0} {Q : B → Type 0} {v : Option A} (f : A → Option B) → When v P
    → ((x : A) → P x → When (f x) Q) → When (option_and_then f v) Q
when_then {A} {B} {P} {Q} {v = None} f h g = record { gives = tt }
when_then {A} {B} {P} {Q} {v = Some x} f h g = g x h.gives

pub when_both : {A B : Type 0} {P : A → Type 0} {Q : B → Type 0} {v : Option A} {w : Option B} → When v P → When w Q
    → When (both_of v w) (λ p. P p.0 × Q p.1)
when_both {A} {B} {P} {Q} {v = None} h g = record { gives = tt }
when_both {A} {B} {P} {Q} {v = Some x} {w = None} h g = record { gives = tt }
when_both {A} {B} {P} {Q} {v = Some x} {w = Some y} h g = record { gives = (h.gives, g.gives) }

pub when_node : {A : Type 0} {P Q : A → Type 0} (rules : Option A → List CheckFault) (v : Option A) → When v P
    → ((x : A) → P x → rules (Some x) ≡ [] → Q x) → When (unless (rules v) v) Q
when_node {A} {P} {Q} rules None h g = none (rules None)
  where
    none : (fs : List CheckFault) → When (unless fs None) Q
    none [] = record { gives = tt }
    none (f ∷ fs) = record { gives = tt }
when_node {A} {P} {Q} rules (Some x) h g = some (rules (Some x)) (g x h.gives)
  where
    some : (fs : List CheckFault) → (fs ≡ [] → Q x) → When (unless fs (Some x)) Q
    some [] g = record { gives = g refl }
    some (f ∷ fs) g = record { gives = tt }

pub when_unless : {A : Type 0} {Q : A → Type 0} (fs : List CheckFault) (x : A) → (fs ≡ [] → Q x) → When (unless fs (Some x)) Q
when_unless [] x g = record { gives = g refl }
when_unless (f ∷ fs) x g = record { gives = tt }

pub when_unless_none : {A : Type 0} {Q : A → Type 0} (fs : List CheckFault) → When (unless fs None) Q
when_unless_none [] = record { gives = tt }
when_unless_none (f ∷ fs) = record { gives = tt }

pub when_weaker : {A : Type 0} {P Q : A → Type 0} {v : Option A} → When v P → ((x : A) → P x → Q x) → When v Q
when_weaker {A} {P} {Q} {v = None} h g = record { gives = tt }
when_weaker {A} {P} {Q} {v = Some x} h g = record { gives = g x h.gives }

pub laid_both : {k : Place} {i : Bool} {lo hi : ℕ} {xs ys : List Phrase} → PhrasesFit k i lo hi xs → PhrasesFit k i lo hi ys
    → PhrasesFit k i lo hi (xs ++ ys)
laid_both {k} {i} {lo} {hi} {xs} {ys} p q = record { le = p.le; all = each_of_append (Fits k i lo hi) xs ys p.all q.all }

pub when_pair : {A : Type 0} {P Q : A → Type 0} {v : Option A} → When v P → When v Q → When v (λ x. P x × Q x)
when_pair {A} {P} {Q} {v = None} h g = record { gives = tt }
when_pair {A} {P} {Q} {v = Some x} h g = record { gives = (h.gives, g.gives) }
