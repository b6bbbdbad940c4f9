-- What is read behind a part, of what the part gave.
use Rattle.std.proofs.Common.{ℕ, List, ◌∷◌, Result, Ok, Err, MatchResult, ap, sym, subst}
use Rattle.alma_tree.specs.declared.kind.Kind.{Kind}
use Rattle.alma_tree.specs.Numbers.{Step, token, node, ◌>>◌}
use Rattle.alma_grammar.specs.Parts.{Part, one}
use Rattle.alma_parse_cursor.specs.declared.cursor.Cursor as cursors
use Rattle.alma_parse_cursor.specs.declared.fault.Fault.{Fault}
use Rattle.alma_parse_cursor.specs.Parsing.{At, position_of, Passes, Reads, Fails}
use Rattle.alma_parse_cursor.specs.Joins.{Followed, Numbered}
use Rattle.alma_parse_cursor.proofs.Steps.{then, after, first, same, replaced, counted}
use Rattle.alma_parse_cursor.proofs.Turns.{want}

-- what a call gave: it read this, with its value, or reading ends in its fault
abbrev pub Gives : {T : Type 0} → (T → List Kind → List Kind) → (T → Step) → (List Part → List Part) → ℕ → ℕ → At
    → Result (T × cursors.Cursor) Fault → Type 0
Gives s n p d e a r = MatchResult r (λ t. Reads (s t.0) (n t.0) p d e a (position_of t.1)) (λ f. Fails f p d a)

-- what passing this token reads
abbrev pub Token : Kind → ℕ → ℕ → Type 0
Token k d e = (a b : At) → Passes k a b → Reads (λ r. k ∷ r) token (λ o. one k ∷ o) d e a b

module _ {T : Type 0} (s : T → List Kind → List Kind) (n : T → Step) {k : Kind} (p : List Part → List Part) (d e f : ℕ) (a : At) where
  -- a part and the token behind it
  pub followed : Token k e f → (r q : Result (T × cursors.Cursor) Fault) → Followed k r q → Gives s n p d e a r
      → Gives (λ v ks. s v (k ∷ ks)) (λ v. n v >> token) (λ o. p (one k ∷ o)) d f a q
  followed h (Ok t) (Ok u) x y = replaced (λ v ks. s v (k ∷ ks)) (λ v. n v >> token) x.0 (then y (h _ _ x.1))
  followed h (Ok t) (Err g) x y = after y (x e)
  followed h (Err g) q x y = subst (Gives (λ v ks. s v (k ∷ ks)) (λ v. n v >> token) (λ o. p (one k ∷ o)) d f a) (sym x) (first y)

  -- a part and the token behind it, and what was read then
  pub behind : Token k e f → (r : Result (T × cursors.Cursor) Fault) (u : T × cursors.Cursor) → Followed k r (Ok u) → Gives s n p d e a r
      → {t : List Kind → List Kind} {m : Step} {q : List Part → List Part} {g : ℕ} {b : At} → Reads t m q f g (position_of u.1) b
      → Reads (λ ks. s u.0 (k ∷ t ks)) (n u.0 >> token >> m) (λ o. p (one k ∷ q o)) d g a b
  behind h (Ok t) u x y z = then (replaced s n x.0 y) (then (h _ _ x.1) z)
  behind h (Err g) u x y z = absurd (cc)

module _ {T : Type 0} (s : T → List Kind → List Kind) (n : T → Step) (p : List Part → List Part) (d e : ℕ) (a : At) where
  -- a part and the end of a node behind it
  pub ended : (r : Result (T × cursors.Cursor) Fault) (q : Result ((T × ℕ) × cursors.Cursor) Fault) → Numbered r q → Gives s n p d e a r
      → Gives (λ v. s v.0) (λ v. n v.0 >> node v.1) p d e a q
  ended (Ok t) (Ok u) x y = same (ap s x.0) (ap (λ v. n v >> node u.0.1) x.0) (then y (counted x.1))
  ended (Ok t) (Err g) x y = want x
  ended (Err g) q x y = subst (Gives (λ v. s v.0) (λ v. n v.0 >> node v.1) p d e a) (sym x) y
