-- A loop in which a part that a function has read is put at the end of a list.
use Rattle.std.proofs.Common.{ℕ, List, [], ◌∷◌, ◌++◌, Result, Ok, Err, MatchResult, sym, subst}
use Rattle.alma_tree.specs.declared.kind.Kind.{Kind}
use Rattle.alma_tree.specs.Numbers.{Step}
use Rattle.alma_grammar.specs.Parts.{Part}
use Rattle.alma_parse_cursor.specs.declared.cursor.Cursor as cursors
use Rattle.alma_parse_cursor.specs.declared.fault.Fault.{Fault}
use Rattle.alma_parse_cursor.specs.Parsing.{At, position_of, Becomes, Fails}
use Rattle.alma_parse_cursor.proofs.Joins.{Gives}
use Rattle.alma_parse_cursor.proofs.Loops.{Loops, broken}
use Rattle.alma_parse_cursor.proofs.Turns.{Lists, grown, want}
use Rattle.alma_parse_expr.specs.Joins.{Pushed}

module _ {T : Type 0} (s : T → List Kind → List Kind) (sa : List T → List Kind → List Kind) (n : T → Step) (na : List T → Step) (p : Part)
    (q : List Part → List Part) (d : ℕ) (a b : At) where
  -- one more turn
  pub pushed_turn : Lists s sa n na → (xs ys : List T) → Loops (sa xs) (na xs) p d a b → Becomes (λ o. p ∷ o) (λ o. q (p ∷ o)) b.kinds
      → (r : Result (T × cursors.Cursor) Fault) (c : cursors.Cursor) → Pushed r xs ys (Ok c) → Gives s n q d d b r
      → Loops (sa ys) (na ys) p d a (position_of c)
  pushed_turn l xs ys loop h (Ok t) c x y =
      subst (λ zs. Loops (sa zs) (na zs) p d a (position_of c)) (sym x.0)
      (subst (λ at. Loops (sa (xs ++ (t.0 ∷ []))) (na (xs ++ (t.0 ∷ []))) p d a (position_of at)) (sym x.1)
      (grown {xs = xs} {x = t.0} l loop h y))
  pushed_turn l xs ys loop h (Err e) c x y = absurd (cc)

  -- a turn that ends in a fault
  pub pushed_fault : (xs ys : List T) → Loops (sa xs) (na xs) p d a b → Becomes (λ o. p ∷ o) (λ o. q (p ∷ o)) b.kinds
      → (r : Result (T × cursors.Cursor) Fault) (e : Fault) → Pushed r xs ys (Err e) → Gives s n q d d b r → Fails e (λ o. p ∷ o) d a
  pushed_fault xs ys loop h (Ok t) e x y = want x
  pushed_fault xs ys loop h (Err f) e x y =
      subst (λ r. MatchResult r (λ c. Unit {0}) (λ g. Fails g (λ o. p ∷ o) d a)) (sym x) (broken loop h y)
