-- What was read before the last part of a node.
use Rattle.std.proofs.Common.{◌≡◌, ℕ, List, ◌∷◌, Result, Ok, Err, sym, subst}
use Rattle.alma_tree.specs.declared.kind.Kind.{Kind}
use Rattle.alma_tree.specs.Numbers.{Step, token, ◌>>◌}
use Rattle.alma_grammar.specs.Parts.{Part, one}
use Rattle.alma_parse_cursor.specs.declared.cursor.Cursor as cursors
use Rattle.alma_parse_cursor.specs.declared.fault.Fault.{Fault}
use Rattle.alma_parse_cursor.specs.Parsing.{At, position_of, Reads, Becomes, Fails}
use Rattle.alma_parse_cursor.specs.Joins.{Followed}
use Rattle.alma_parse_cursor.proofs.Joins as joins
use Rattle.alma_parse_cursor.proofs.Joins.{Gives, Token}
use Rattle.alma_parse_cursor.proofs.Loops.{Loops}
use Rattle.alma_parse_cursor.proofs.Turns.{Lists}
use Rattle.alma_parse_cursor.proofs.Steps.{then, after, same}
use Rattle.alma_parse_expr.specs.Joins.{Pushed}
use Rattle.alma_parse_expr.specs.Made.{made}
use Rattle.alma_parse_expr.proofs.Growing.{pushed_turn, pushed_fault}

-- From a to b, and from depth d to depth e, it read what stands before a last part, and what that one reads, or how it fails, is said of
-- both.
pub record Front (spelled : (List Kind → List Kind) → List Kind → List Kind) (numbered : Step → Step)
    (parts : (List Part → List Part) → List Part → List Part) (d e : ℕ) (a b : At) : Type 0 where
  pub reads : (t : List Kind → List Kind) (m : Step) (q : List Part → List Part) (f : ℕ) (c : At) → Reads t m q e f b c
      → Reads (spelled t) (numbered m) (parts q) d f a c
  pub fails : (q : List Part → List Part) (fault : Fault) → Fails fault q e b → Fails fault (parts q) d a

-- a part that was read
pub part : {s : List Kind → List Kind} {n : Step} {p : List Part → List Part} {d e : ℕ} {a b : At} → Reads s n p d e a b
    → Front (λ t ks. s (t ks)) (λ m. n >> m) (λ q o. p (q o)) d e a b
part x = record { reads = λ t m q f c y. then x y; fails = λ q fault y. after x y }

-- a part and the token behind it
pub part_and : {T : Type 0} (s : T → List Kind → List Kind) (n : T → Step) (k : Kind) (p : List Part → List Part) (d e f : ℕ) (a : At)
    → Token k e f → (r : Result (T × cursors.Cursor) Fault) (u : T × cursors.Cursor) → Followed k r (Ok u) → Gives s n p d e a r
    → Front (λ t ks. s u.0 (k ∷ t ks)) (λ m. n u.0 >> token >> m) (λ q o. p (one k ∷ q o)) d f a (position_of u.1)
part_and s n k p d e f a h r u x y = record {
  reads = λ t m q g c z. joins.behind s n p d e f a h r u x y z;
  fails = λ q fault z. after (joins.followed s n p d e f a h r (Ok u) x y) z;
}

-- one behind the other
pub and_then : {s t : (List Kind → List Kind) → List Kind → List Kind} {n m : Step → Step}
    {p q : (List Part → List Part) → List Part → List Part}
    {d e f : ℕ} {a b c : At} → Front s n p d e a b → Front t m q e f b c → Front (λ u. s (t u)) (λ l. n (m l)) (λ r. p (q r)) d f a c
and_then {t = t} {m = m} {q = q} x y = record {
  reads = λ u l r g k z. x.reads (t u) (m l) (q r) g k (y.reads u l r g k z);
  fails = λ r fault z. x.fails (q r) fault (y.fails r fault z);
}

module _ {T U : Type 0} (s : T → List Kind → List Kind) (n : T → Step) (s' : U → List Kind → List Kind) (n' : U → Step)
    {t : (List Kind → List Kind) → List Kind → List Kind} {m : Step → Step} {p : (List Part → List Part) → List Part → List Part}
    {d e : ℕ} {a b : At} (x : Front t m p d e a b) (q : List Part → List Part) (f : ℕ) where
  -- what is made of a last part reads it and what stands before it
  pub whole : (g : T → U) → ((v : T) → s' (g v) ≡ t (s v)) → ((v : T) → n' (g v) ≡ m (n v))
      → (r : Result (T × cursors.Cursor) Fault) (z : Result (U × cursors.Cursor) Fault) → z ≡ made g r → Gives s n q e f b r
      → Gives s' n' (p q) d f a z
  whole g h k (Ok v) z w y = subst (Gives s' n' (p q) d f a) (sym w)
      (same (h v.0) (k v.0) (x.reads (s v.0) (n v.0) q f (position_of v.1) y))
  whole g h k (Err i) z w y = subst (Gives s' n' (p q) d f a) (sym w) (x.fails q i y)

module _ {T : Type 0} (s : T → List Kind → List Kind) (n : T → Step)
    {t : (List Kind → List Kind) → List Kind → List Kind} {m : Step → Step} {p : (List Part → List Part) → List Part → List Part}
    {d e : ℕ} {a b : At} (x : Front t m p d e a b) (q : List Part → List Part) (f : ℕ) where
  -- a last part and what stands before it
  pub both : (r : Result (T × cursors.Cursor) Fault) → Gives s n q e f b r → Gives (λ v. t (s v)) (λ v. m (n v)) (p q) d f a r
  both (Ok v) y = x.reads (s v.0) (n v.0) q f (position_of v.1) y
  both (Err i) y = x.fails q i y

module _ {T : Type 0} {s : T → List Kind → List Kind} {sa : List T → List Kind → List Kind} {n : T → Step} {na : List T → Step}
    (l : Lists s sa n na)
    {p : Part} (q : List Part → List Part) {d : ℕ} {a b : At} (xs ys : List T) (loop : Loops (sa xs) (na xs) p d a b)
    (h : Becomes (λ o. p ∷ o) (λ o. q (p ∷ o)) b.kinds) (r : Result (T × cursors.Cursor) Fault) where
  -- one more turn of a loop that puts what it read at the end of a list
  pub one_more : (c : cursors.Cursor) → Pushed r xs ys (Ok c) → Gives s n q d d b r → Loops (sa ys) (na ys) p d a (position_of c)
  one_more c x y = pushed_turn s sa n na p q d a b l xs ys loop h r c x y

  -- a turn that ends in a fault
  pub no_more : (e : Fault) → Pushed r xs ys (Err e) → Gives s n q d d b r → Fails e (λ o. p ∷ o) d a
  no_more e x y = pushed_fault s sa n na p q d a b xs ys loop h r e x y
