-- What is read before the last part of a phrase, and the links of sums and products.
use Rattle.std.proofs.Common.{◌≡◌, ℕ, pred, List, ◌∷◌, Result, Ok, Err, refl, ap}
use Rattle.alma_tree.specs.declared.kind.Kind.{Kind}
use Rattle.alma_tree.specs.declared.leaf.AddOperator.{AddOperator}
use Rattle.alma_tree.specs.declared.leaf.MulOperator.{MulOperator}
use Rattle.alma_tree.specs.declared.phrase.AddLink as dk
use Rattle.alma_tree.specs.declared.phrase.MulLink as dn
use Rattle.alma_tree.specs.declared.phrase.Term as dm
use Rattle.alma_tree.specs.declared.phrase.Factor as dr
use Rattle.alma_tree.specs.Spelling.{add_kind, mul_kind, spell_term, spell_factor}
use Rattle.alma_tree.specs.View.{view_term, view_factor}
use Rattle.alma_tree.specs.Numbers.{Step, token, ◌>>◌, number_term, number_factor}
use Rattle.alma_grammar.specs.Parts.{Part, one, factor_part, term_parts}
use Rattle.alma_parse_cursor.specs.declared.cursor.Cursor as cursors
use Rattle.alma_parse_cursor.specs.declared.fault.Fault.{Fault}
use Rattle.alma_parse_cursor.specs.Parsing.{At, Passes, Opens, Becomes, Fails}
use Rattle.alma_parse_cursor.proofs.Joins.{Gives}
use Rattle.alma_parse_cursor.proofs.Loops.{Loops}
use Rattle.alma_parse_cursor.proofs.Turns.{Lists}
use Rattle.alma_parse_cursor.proofs.Steps.{passed, shallower}
use Rattle.alma_parse_expr.specs.Joins.{Pushed}
use Rattle.alma_parse_expr.specs.Made.{made}
use Rattle.alma_parse_expr.proofs.Growing.{pushed_fault}
use Rattle.alma_parse_expr.proofs.Made.{made_gives, behind_front}
use Rattle.alma_parse_expr.proofs.Heads as heads
use Rattle.alma_parse_expr.proofs.Values.{a_term, a_factor}

-- a term with the operator before it
pub term_linked : (op : AddOperator) {a b : At} (d : ℕ) → Passes (add_kind op) a b → (r : Result (dm.Term × cursors.Cursor) Fault)
    (q : Result (dk.AddLink × cursors.Cursor) Fault) → q ≡ made (λ v. dk.roll-AddLink (record { operator = op; operand = v })) r
    → Gives a_term number_term term_parts d d b r
    → Gives (λ v ks. add_kind (dk.out-AddLink v).operator ∷ spell_term (view_term (dk.out-AddLink v).operand) ks)
    (λ v. token >> number_term (dk.out-AddLink v).operand) (λ o. one (add_kind op) ∷ term_parts o) d d a q
term_linked op {a = a} d x r q e y =
    made_gives (λ v ks. add_kind op ∷ a_term v ks) (λ v. token >> number_term v)
    (λ v ks. add_kind (dk.out-AddLink v).operator ∷ spell_term (view_term (dk.out-AddLink v).operand) ks)
    (λ v. token >> number_term (dk.out-AddLink v).operand) (λ o. one (add_kind op) ∷ term_parts o) d d a
    (λ v. dk.roll-AddLink (record { operator = op; operand = v }))
    (λ v. ap (λ o ks. add_kind o.operator ∷ spell_term (view_term o.operand) ks)
    (dk.out-roll-AddLink (record { operator = op; operand = v })))
    (λ v. ap (λ o. token >> number_term o.operand) (dk.out-roll-AddLink (record { operator = op; operand = v }))) r q e
    (behind_front a_term number_term (passed (heads.add_opens op) (heads.add_closes op) x) term_parts d r y)

-- a factor with the operator before it
pub factor_linked : (op : MulOperator) {a b : At} (d : ℕ) → Passes (mul_kind op) a b → (r : Result (dr.Factor × cursors.Cursor) Fault)
    (q : Result (dn.MulLink × cursors.Cursor) Fault) → q ≡ made (λ v. record { operator = op; operand = v }) r
    → Gives a_factor number_factor (λ o. factor_part ∷ o) d d b r
    → Gives (λ v ks. mul_kind v.operator ∷ spell_factor (view_factor v.operand) ks) (λ v. token >> number_factor v.operand)
    (λ o. one (mul_kind op) ∷ factor_part ∷ o) d d a q
factor_linked op {a = a} d x r q e y =
    made_gives (λ v ks. mul_kind op ∷ a_factor v ks) (λ v. token >> number_factor v)
    (λ v ks. mul_kind v.operator ∷ spell_factor (view_factor v.operand) ks) (λ v. token >> number_factor v.operand)
    (λ o. one (mul_kind op) ∷ factor_part ∷ o) d d a (λ v. record { operator = op; operand = v }) (λ v. refl) (λ v. refl) r q e
    (behind_front a_factor number_factor (passed (heads.mul_opens op) (heads.mul_closes op) x) (λ o. factor_part ∷ o) d r y)

-- the depth behind a bracket is that before it
pub shallower_gives : {T : Type 0} (s : T → List Kind → List Kind) (n : T → Step) (p : List Part → List Part) {k : Kind} {d e : ℕ}
    {f g : At}
    → Opens k d e f g → (a : At) (r : Result (T × cursors.Cursor) Fault) → Gives s n p e (pred e) a r → Gives s n p e d a r
shallower_gives s n p x a (Ok t) y = shallower x y
shallower_gives s n p x a (Err i) y = y

-- a turn that ends in a fault, of a loop over this kind of list
pub broken_turn : {A : Type 0} {s : A → List Kind → List Kind} {sa : List A → List Kind → List Kind} {n : A → Step} {na : List A → Step}
    → Lists s sa n na
    → (p : Part) (q : List Part → List Part) (d : ℕ) (a b : At) (xs ys : List A) → Loops (sa xs) (na xs) p d a b
    → Becomes (λ o. p ∷ o) (λ o. q (p ∷ o)) b.kinds → (r : Result (A × cursors.Cursor) Fault) (e : Fault) → Pushed r xs ys (Err e)
    → Gives s n q d d b r
    → Fails e (λ o. p ∷ o) d a
broken_turn {s = s} {sa = sa} {n = n} {na = na} l p q d a b xs ys loop h r e x y = pushed_fault s sa n na p q d a b xs ys loop h r e x y
