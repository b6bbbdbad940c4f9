-- A node of several parts, and a list of parts, one after another.
use Rattle.std.proofs.Common.{◌≡◌, ℕ, List, [], ◌∷◌, ◌++◌, Option, None, Some, Result, Ok, Err, refl, ap}
use Rattle.std.specs.Prelude.{option_map}
use Rattle.std.specs.Result.{IsErrAnd}
use Rattle.alma_rules.specs.declared.error.Stop.{Stop}
use Rattle.alma_rules.specs.declared.error.Stop.TheVariants.{Memory}
use Rattle.alma_rules.specs.Judgement.{BrokenRule, Judgement, fine, of_value, and_then, both, both_of, with}
use Rattle.alma_rules.specs.Answers.{Stops, Answers}
use Rattle.alma_rules.specs.Onward.{Continues, onward}
use Rattle.alma_rules.proofs.Judging.{stops_more}

-- what is judged, by its parts
abbrev pub judged : {A : Type 0} → List BrokenRule → ℕ → Option A → Judgement A
judged fs n v = record { faults = fs; next = n; value = v }

-- ---- a node whose first part is judged: `finish` makes it of its parts

pub first_fine : {A B C X : Type 0} (finish : Judgement (A × B) → Judgement C) (whole : Judgement C) (a : Judgement A) (g : ℕ → Judgement B)
    (w : X → C)
    (m k : ℕ) (v : Option A) (r : Result (Option X) Stop)
    → whole ≡ finish (and_then a g) → a ≡ of_value m v → Answers (finish (both (of_value m v) (g m))) w k r → Answers whole w k r
first_fine finish whole a g w m k v r is h x = rw (is, h) x

-- ---- a part in front of the rest, behind those so far: `join` puts lists together, `cons` one part in front of a list

module _ {A B C D : Type 0} (join : A → B → D) (cons : C × B → B) where
  -- the part stops
  pub onward_stops : (xs : Option A) (j : Judgement C) (rest : ℕ → Judgement B) (e : Stop) → Stops j.faults e
      → Stops (onward join xs (with cons (and_then j rest))).faults e
  onward_stops None j rest e h = stops_more j.faults (rest j.next).faults e h
  onward_stops (Some x) j rest e h = stops_more j.faults (rest j.next).faults e h

  -- the part is Bad, or what is so far
  pub onward_bad : (xs : Option A) (j : Judgement C) (m : ℕ) (rest : ℕ → Judgement B) → j ≡ of_value m None
      → onward join xs (with cons (and_then j rest)) ≡ onward join None (rest m)
  onward_bad None j m rest h = rw h refl
  onward_bad (Some x) j m rest h = rw h refl

  pub onward_none : (j : Judgement C) (m : ℕ) (v : Option C) (rest : ℕ → Judgement B) → j ≡ of_value m v
      → onward join None (with cons (and_then j rest)) ≡ onward join None (rest m)
  onward_none j m v rest h = rw h refl

  -- one more part
  pub onward_some : (x y : A) (v : C) (j : Judgement C) (m : ℕ) (rest : ℕ → Judgement B) → j ≡ of_value m (Some v)
      → ((b : B) → join x (cons (v, b)) ≡ join y b) → onward join (Some x) (with cons (and_then j rest)) ≡ onward join (Some y) (rest m)
  onward_some x y v j m rest h same = rw h (by (rest m).faults (rest m).next (rest m).value)
    where
      by : (fs : List BrokenRule) (n : ℕ) (w : Option B)
          → judged {A = D} (fs) (n) (option_map (join x) (option_map cons (both_of (Some v) w))) ≡ judged (fs) (n) (option_map (join y) w)
      by fs n None = refl
      by fs n (Some b) = ap (λ d. judged {A = D} (fs) (n) (Some d)) (same b)

-- the first part, and the rest behind it
pub onward_first : {A B D : Type 0} (join : A → B → D) (cons : A × B → D) (v : Option A) (m : ℕ) (j : Judgement B)
    → ((a : A) (b : B) → cons (a, b) ≡ join a b)
    → with cons (both (of_value m v) j) ≡ onward join v j
onward_first join cons None m j same = refl
onward_first {A} {B} {D} join cons (Some a) m j same = by j.faults j.next j.value
  where
    by : (fs : List BrokenRule) (n : ℕ) (w : Option B)
        → judged {A = D} (fs) (n) (option_map cons (both_of (Some a) w)) ≡ judged (fs) (n) (option_map (join a) w)
    by fs n None = refl
    by fs n (Some b) = ap (λ d. judged {A = D} (fs) (n) (Some d)) (same a b)

-- no part yet
pub onward_begin : {A B : Type 0} (join : A → B → B) (nil : A) (j : Judgement B) → ((b : B) → join nil b ≡ b) → onward join (Some nil) j ≡ j
onward_begin {A} {B} join nil j same = by j.faults j.next j.value
  where
    by : (fs : List BrokenRule) (n : ℕ) (w : Option B)
        → judged {A = B} (fs) (n) (option_map (join nil) w) ≡ judged (fs) (n) (w)
    by fs n None = refl
    by fs n (Some b) = ap (λ d. judged {A = B} (fs) (n) (Some d)) (same b)

-- no part is left
pub onward_end : {A B : Type 0} (join : A → B → A) (nil : B) (v : Option A) (m : ℕ) → ((a : A) → join a nil ≡ a)
    → onward join v (fine m nil) ≡ of_value m v
onward_end join nil None m same = refl
onward_end join nil (Some a) m same = ap (λ d. of_value m (Some d)) (same a)

-- an error that `?` hands on
pub passed_on : {A X : Type 0} (j : Judgement A) (next : X → Judgement A) (r : Result X Stop) (e : Stop) → IsErrAnd r (λ x. x ≡ e)
    → Stops j.faults e → Continues j next r
passed_on j next (Ok v) e h f = absurd h
passed_on j next (Err x) e h f = rw h f

-- want of memory says nothing
pub no_memory_on : {A X : Type 0} (j : Judgement A) (next : X → Judgement A) (r : Result X Stop) → IsErrAnd r (λ x. x ≡ Memory)
    → Continues j next r
no_memory_on j next (Ok v) h = absurd h
no_memory_on j next (Err x) h = rw h tt

-- ---- lists

pub nothing_behind : {A : Type 0} (xs : List A) → xs ++ [] ≡ xs
nothing_behind [] = refl
nothing_behind (x ∷ xs) = ap (λ l. x ∷ l) (nothing_behind xs)

pub append_more : {A : Type 0} (xs ys zs : List A) → (xs ++ ys) ++ zs ≡ xs ++ (ys ++ zs)
append_more [] ys zs = refl
append_more (x ∷ xs) ys zs = ap (λ l. x ∷ l) (append_more xs ys zs)
