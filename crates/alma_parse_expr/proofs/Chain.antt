-- What a part gave, with the token and the end of a node behind it.
use Rattle.std.proofs.Common.{◌≡◌, ◌<◌, ℕ, length, arith, pred, false, true, List, ◌∷◌, Result}
use Rattle.std.proofs.Common.{Ok, Err, MatchResult, Box, Global, refl, sym, subst}
use Rattle.alma_tree.specs.declared.kind.Kind.{Kind}
use Rattle.alma_tree.specs.Depth.{opens, closes}
use Rattle.alma_tree.specs.Numbers.{Step, token, node, ◌>>◌}
use Rattle.alma_grammar.specs.Parts.{Part, one}
use Rattle.alma_parse_cursor.specs.declared.cursor.Cursor as cursors
use Rattle.alma_parse_cursor.specs.declared.fault.Fault.{Fault}
use Rattle.alma_parse_cursor.specs.Parsing.{At, position_of, Opens, Reads, Fails, Extends}
use Rattle.alma_parse_cursor.specs.Joins.{Followed, Numbered}
use Rattle.alma_parse_cursor.proofs.Joins as joins
use Rattle.alma_parse_cursor.proofs.Joins.{Gives, Token}
use Rattle.alma_parse_cursor.proofs.Loops.{grouped}
use Rattle.alma_parse_cursor.proofs.Steps.{same, passed, closed, closed_any, counted, replaced, extending, twice}
use Rattle.alma_parse_cursor.proofs.Turns.{want}
use Rattle.alma_parse_expr.specs.Joins.{Boxed}

-- a token that opens and closes nothing, and one that closes
pub plain : (k : Kind) (d : ℕ) → opens k ≡ false → closes k ≡ false → Token k d d
plain k d h g a b x = passed h g x

pub closing : (k : Kind) (d : ℕ) → opens k ≡ false → closes k ≡ true → Token k d (pred d)
closing k d h g a b x = closed_any h g x

pub matching : (k : Kind) {l : Kind} {d e : ℕ} {f g : At} → opens k ≡ false → closes k ≡ true → Opens l d e f g → Token k e d
matching k h i y a b x = closed h i y x

renumbered : {T : Type 0} (s : T → List Kind → List Kind) (n : T → Step) (p : List Part → List Part) (d f : ℕ) (a : At)
    (z : Result ((T × ℕ) × cursors.Cursor) Fault) → Gives (λ v. s v.0) (λ v. (n v.0 >> token) >> node v.1) p d f a z
    → Gives (λ v. s v.0) (λ v. n v.0 >> token >> node v.1) p d f a z
renumbered s n p d f a (Ok u) y = same refl (sym (grouped (n u.0.0) token (node u.0.1))) y
renumbered s n p d f a (Err g) y = y

module _ {T : Type 0} (s : T → List Kind → List Kind) (n : T → Step) (k : Kind) (p : List Part → List Part) (d e f : ℕ) (a : At) where
  -- a part, the token behind it, and the end of a node
  pub ended_behind : Token k e f → (r q : Result (T × cursors.Cursor) Fault) → Followed k r q → Gives s n p d e a r
      → (z : Result ((T × ℕ) × cursors.Cursor) Fault) → Numbered q z
      → Gives (λ v ks. s v.0 (k ∷ ks)) (λ v. n v.0 >> token >> node v.1) (λ o. p (one k ∷ o)) d f a z
  ended_behind h r q x y z w = renumbered (λ v ks. s v (k ∷ ks)) n (λ o. p (one k ∷ o)) d f a z
      (joins.ended (λ v ks. s v (k ∷ ks)) (λ v. n v >> token) (λ o. p (one k ∷ o)) d f a q z w
      (joins.followed s n {k = k} p d e f a h r q x y))

-- what is given at any depth is given at this one
pub at_depth : {T : Type 0} (s : T → List Kind → List Kind) (n : T → Step) (p : List Part → List Part) (d : ℕ) (a : At)
    (r : Result (T × cursors.Cursor) Fault)
    → MatchResult r (λ t. (e : ℕ) → Reads (s t.0) (n t.0) p e e a (position_of t.1)) (λ f. (e : ℕ) → Fails f p e a) → Gives s n p d d a r
at_depth s n p d a (Ok u) y = y d
at_depth s n p d a (Err g) y = y d

-- behind a part and a token fewer tokens are left
pub fewer : {T : Type 0} (s : T → List Kind → List Kind) (n : T → Step) (p : List Part → List Part) (d e : ℕ) (a : At) (k : Kind)
    (r : Result (T × cursors.Cursor) Fault) (u : T × cursors.Cursor) → Followed k r (Ok u) → Gives s n p d e a r
    → length (position_of u.1).kinds < length a.kinds
fewer s n p d e a k (Ok t) u x y = omega (arith, x.1.shorter, y.shorter)
fewer s n p d e a k (Err g) u x y = absurd (cc)

module _ {T : Type 0} (s : T → List Kind → List Kind) (n : T → Step) (p : List Part → List Part) (d e : ℕ) (a : At) where
  -- a part in a box
  pub in_box : (r : Result (T × cursors.Cursor) Fault) (q : Result (Box T Global × cursors.Cursor) Fault) → Boxed r q → Gives s n p d e a r
      → Gives (λ b. s b.value) (λ b. n b.value) p d e a q
  in_box (Ok t) (Ok u) x y = subst (λ c. Reads (s u.0.value) (n u.0.value) p d e a (position_of c)) (sym x.1) (replaced s n x.0 y)
  in_box (Ok t) (Err g) x y = want x
  in_box (Err g) q x y = subst (Gives (λ b. s b.value) (λ b. n b.value) p d e a) (sym x) y

-- what extends a first part, with the end of a node behind it
abbrev pub Extending : {T : Type 0} → (T → List Kind → List Kind) → (T → Step) → (List Part → List Part) → (List Kind → List Kind) → Step
    → ℕ → At
    → Result (T × cursors.Cursor) Fault → Type 0
Extending s n p t m d a r = MatchResult r (λ x. Extends t m p (s x.0) (n x.0) d a (position_of x.1)) (λ e. Fails e p d a)

pub ended_extending : {T : Type 0} (s : T → List Kind → List Kind) (n : T → Step) (p : List Part → List Part) (t : List Kind → List Kind)
    (m : Step)
    (d : ℕ) (a : At) (r : Result (T × cursors.Cursor) Fault) (z : Result ((T × ℕ) × cursors.Cursor) Fault) → Numbered r z
    → Extending s n p t m d a r
    → Extending (λ v. s v.0) (λ v. n v.0 >> node v.1) p t m d a z
ended_extending s n p t m d a (Ok x) (Ok u) w y = subst (λ v. Extends t m p (s v) (n v >> node u.0.1) d a (position_of u.1)) (sym w.0)
    (twice y (extending refl refl (counted w.1)))
ended_extending s n p t m d a (Ok x) (Err g) w y = want w
ended_extending s n p t m d a (Err g) z w y = subst (Extending (λ v. s v.0) (λ v. n v.0 >> node v.1) p t m d a) (sym w) y
