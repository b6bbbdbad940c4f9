-- What stays said of a fault, and what a node is, as parts are put together.
use Rattle.std.proofs.Common.{◌≡◌, ℕ, List, [], ◌∷◌, ◌++◌, Option, Result, Ok, Err, refl, sym, subst}
use Rattle.std.specs.Prelude.{option_map, option_and_then}
use Rattle.std.specs.Result.{IsErrAnd}
use Rattle.alma_base.specs.declared.fault.CheckFault.{CheckFault}
use Rattle.alma_rules.specs.declared.error.Stop.{Stop}
use Rattle.alma_rules.specs.declared.error.Stop.TheVariants.{Fault, Memory}
use Rattle.alma_rules.specs.Judgement.{BrokenRule, Judgement, of_value, broken_at, at_node, both, both_of, and_then, with, with_some}
use Rattle.alma_rules.specs.Answers.{Stops, Answers}

pub stops_more : (xs ys : List BrokenRule) (e : Stop) → Stops xs e → Stops (xs ++ ys) e
stops_more [] ys (Fault f n) h = absurd (cc)
stops_more (x ∷ xs) ys (Fault f n) h = h
stops_more xs ys Memory h = tt

-- an error that `?` hands on
pub passed : {A X : Type 0} (j : Judgement A) (w : X → A) (n : ℕ) (r : Result (Option X) Stop) (e : Stop) → IsErrAnd r (λ x. x ≡ e)
    → Stops j.faults e → Answers j w n r
passed j w n (Ok v) e h f = absurd h
passed j w n (Err x) e h f = rw h f

-- want of memory says nothing
pub no_memory : {A X : Type 0} (j : Judgement A) (w : X → A) (n : ℕ) (r : Result (Option X) Stop) → IsErrAnd r (λ x. x ≡ Memory)
    → Answers j w n r
no_memory j w n (Ok v) h = absurd h
no_memory j w n (Err x) h = rw h tt

-- another way to say what is judged
pub answers_as : {A X : Type 0} (j k : Judgement A) (w : X → A) (n : ℕ) (r : Result (Option X) Stop) → j ≡ k → Answers k w n r
    → Answers j w n r
answers_as j k w n r is a = subst (λ i. Answers i w n r) (sym is) a

module _ {A : Type 0} (k : ℕ) (rules : Option A → List CheckFault) (j : Judgement A) where
  pub node_part : (e : Stop) → Stops j.faults e → Stops (at_node k rules j).faults e
  node_part e h = stops_more j.faults (broken_at k (rules j.value)) e h

  pub node_stops : (e : Stop) (n : ℕ) (v : Option A) → j ≡ of_value n v → Stops (broken_at k (rules v)) e
      → Stops (at_node k rules j).faults e
  node_stops e n v is h = rw is h

  pub node_fine : (n : ℕ) (v : Option A) → j ≡ of_value n v → rules v ≡ [] → at_node k rules j ≡ of_value n v
  node_fine n v is h = rw (is, h) refl

module _ {A B : Type 0} (a : Judgement A) (f : ℕ → Judgement B) (e : Stop) where
  pub first_stops : Stops a.faults e → Stops (and_then a f).faults e
  first_stops h = stops_more a.faults (f a.next).faults e h

  pub then_stops : (n : ℕ) (v : Option A) → a ≡ of_value n v → Stops (f n).faults e → Stops (and_then a f).faults e
  then_stops n v is h = rw is h

pub then_fine : {A B : Type 0} (a : Judgement A) (f : ℕ → Judgement B) (n m : ℕ) (v : Option A) (w : Option B) → a ≡ of_value n v
    → f n ≡ of_value m w → and_then a f ≡ of_value m (both_of v w)
then_fine a f n m v w p q = rw (p, q) refl

pub both_fine : {A B : Type 0} (n m : ℕ) (v : Option A) (j : Judgement B) (w : Option B) → j ≡ of_value m w
    → both (of_value n v) j ≡ of_value m (both_of v w)
both_fine n m v j w h = rw h refl

pub with_fine : {A B : Type 0} (f : A → B) (j : Judgement A) (n : ℕ) (v : Option A) → j ≡ of_value n v
    → with f j ≡ of_value n (option_map f v)
with_fine f j n v h = rw h refl

pub with_some_fine : {A B : Type 0} (f : A → Option B) (j : Judgement A) (n : ℕ) (v : Option A) → j ≡ of_value n v
    → with_some f j ≡ of_value n (option_and_then f v)
with_some_fine f j n v h = rw h refl

pub ruleset judging = (
  passed,
  no_memory,
  node_part,
  node_stops,
  node_fine,
  first_stops,
  then_stops,
  then_fine,
  both_fine,
  with_fine,
  with_some_fine,
)
