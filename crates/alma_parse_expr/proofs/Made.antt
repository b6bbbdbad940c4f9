-- What a call gave, and what is made of it.
use Rattle.std.proofs.Common.{◌≡◌, ℕ, List, Result, Ok, Err, MatchResult, sym, subst}
use Rattle.alma_tree.specs.declared.kind.Kind.{Kind}
use Rattle.alma_tree.specs.Numbers.{Step, ◌>>◌}
use Rattle.alma_grammar.specs.Parts.{Part}
use Rattle.alma_parse_cursor.specs.declared.cursor.Cursor as cursors
use Rattle.alma_parse_cursor.specs.declared.fault.Fault.{Fault}
use Rattle.alma_parse_cursor.specs.Parsing.{At, position_of, Reads, Becomes, Extends, Fails}
use Rattle.alma_parse_cursor.proofs.Joins.{Gives}
use Rattle.alma_parse_cursor.proofs.Steps.{then, after, same, becoming, becoming_fails, extending}
use Rattle.alma_parse_cursor.proofs.Turns.{want}
use Rattle.alma_parse_expr.specs.Made.{made, Made}

module _ {T U : Type 0} (s : T → List Kind → List Kind) (n : T → Step) (s' : U → List Kind → List Kind) (n' : U → Step) where
  -- what the part read is what is made of it
  pub made_gives : (p : List Part → List Part) (d e : ℕ) (a : At) (f : T → U)
      → ((v : T) → s' (f v) ≡ s v) → ((v : T) → n' (f v) ≡ n v)
      → (r : Result (T × cursors.Cursor) Fault) (q : Result (U × cursors.Cursor) Fault)
      → q ≡ made f r → Gives s n p d e a r → Gives s' n' p d e a q
  made_gives p d e a f g h (Ok t) q x y = subst (Gives s' n' p d e a) (sym x) (same (g t.0) (h t.0) y)
  made_gives p d e a f g h (Err i) q x y = subst (Gives s' n' p d e a) (sym x) y

  -- the same where it takes memory
  pub made_or_gives : (p : List Part → List Part) (d e : ℕ) (a : At) (R : T → U → Type 0)
      → ((v : T) (u : U) → R v u → s' u ≡ s v) → ((v : T) (u : U) → R v u → n' u ≡ n v) → (r : Result (T × cursors.Cursor) Fault)
      (q : Result (U × cursors.Cursor) Fault) → Made R r q → Gives s n p d e a r → Gives s' n' p d e a q
  made_or_gives p d e a R g h (Ok t) (Ok u) x y =
      subst (λ c. Reads (s' u.0) (n' u.0) p d e a (position_of c)) (sym x.1) (same (g t.0 u.0 x.0) (h t.0 u.0 x.0) y)
  made_or_gives p d e a R g h (Ok t) (Err i) x y = want x
  made_or_gives p d e a R g h (Err i) q x y = subst (Gives s' n' p d e a) (sym x) y

module _ {T : Type 0} (s : T → List Kind → List Kind) (n : T → Step) where
  -- a part behind what was read before
  pub behind_front : {t : List Kind → List Kind} {m : Step} {p : List Part → List Part} {d e : ℕ} {a b : At} → Reads t m p d e a b
      → (q : List Part → List Part) (f : ℕ) (r : Result (T × cursors.Cursor) Fault) → Gives s n q e f b r
      → Gives (λ v ks. t (s v ks)) (λ v. m >> n v) (λ o. p (q o)) d f a r
  behind_front x q f (Ok u) y = then x y
  behind_front x q f (Err i) y = after x y

  -- the parts in other words
  pub becoming_gives : (p q : List Part → List Part) (d e : ℕ) (a : At) → Becomes p q a.kinds → (r : Result (T × cursors.Cursor) Fault)
      → Gives s n q d e a r → Gives s n p d e a r
  becoming_gives p q d e a h (Ok u) y = becoming h y
  becoming_gives p q d e a h (Err i) y = becoming_fails h y

module _ {T U : Type 0} (s : T → List Kind → List Kind) (n : T → Step) (s' : U → List Kind → List Kind) (n' : U → Step) where
  -- what is made of a part that extends a first one
  pub made_extends : (t : List Kind → List Kind) (m : Step) (p : List Part → List Part) (d : ℕ) (a : At) (f : T → U)
      → ((v : T) → s' (f v) ≡ (λ ks. t (s v ks))) → ((v : T) → n' (f v) ≡ (m >> n v)) → (r : Result (T × cursors.Cursor) Fault)
      (q : Result (U × cursors.Cursor) Fault) → q ≡ made f r → Gives s n p d d a r
      → MatchResult q (λ x. Extends t m p (s' x.0) (n' x.0) d a (position_of x.1)) (λ e. Fails e p d a)
  made_extends t m p d a f g h (Ok u) q x y =
      subst (λ r. MatchResult r (λ x. Extends t m p (s' x.0) (n' x.0) d a (position_of x.1)) (λ e. Fails e p d a)) (sym x)
      (extending (g u.0) (h u.0) y)
  made_extends t m p d a f g h (Err i) q x y =
      subst (λ r. MatchResult r (λ x. Extends t m p (s' x.0) (n' x.0) d a (position_of x.1)) (λ e. Fails e p d a)) (sym x) y

  -- the same where it takes memory
  pub made_or_extends : (t : List Kind → List Kind) (m : Step) (p : List Part → List Part) (d : ℕ) (a : At) (R : T → U → Type 0)
      → ((v : T) (u : U) → R v u → s' u ≡ (λ ks. t (s v ks))) → ((v : T) (u : U) → R v u → n' u ≡ (m >> n v))
      → (r : Result (T × cursors.Cursor) Fault)
      (q : Result (U × cursors.Cursor) Fault) → Made R r q → Gives s n p d d a r
      → MatchResult q (λ x. Extends t m p (s' x.0) (n' x.0) d a (position_of x.1)) (λ e. Fails e p d a)
  made_or_extends t m p d a R g h (Ok v) (Ok u) x y =
      subst (λ c. Extends t m p (s' u.0) (n' u.0) d a (position_of c)) (sym x.1) (extending (g v.0 u.0 x.0) (h v.0 u.0 x.0) y)
  made_or_extends t m p d a R g h (Ok v) (Err i) x y = want x
  made_or_extends t m p d a R g h (Err i) q x y =
      subst (λ r. MatchResult r (λ x. Extends t m p (s' x.0) (n' x.0) d a (position_of x.1)) (λ e. Fails e p d a)) (sym x) y
