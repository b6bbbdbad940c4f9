-- Places in a list of tokens, steps from one to another, and boxes and vectors: what values of a tree's types are built with.
use Rattle.std.proofs.Common.{◌≡◌, ◌≤◌, ◌<◌, ◌+◌, ◌^◌, ◌∙◌, ℕ, suc, List, [], ◌∷◌, length, Option, None, Some}
use Rattle.std.proofs.Common.{true, Box, Vec, Global, refl, ap, arith, lt_of_le_of_lt, le_refl, eq-eqb}
use Rattle.std.specs.Prelude.{nat_eq}
use Rattle.alma_tree.specs.declared.kind.Kind.{Kind}
use Rattle.alma_tree.specs.declared.leaf.Leaf.{Leaf}
use Rattle.alma_tree.specs.declared.leaf.Name.{Name}
use Rattle.alma_tree.specs.Numbers.{Cursor, Step, where_so, and_then, token, node, leaf, stay, ◌>>◌, number_name}
use denote.RawPtr.{null_ptr}

-- ---- places

-- a place in a list of so many tokens: the next token and the next node there, and the tokens that are left
pub record Place (total : ℕ) (left : List Kind) : Type 0 where
  pub at : Cursor
  pub all : at.token + length left ≡ total
  pub small : total < 2 ^ 63

-- behind the next token
unfoldable pub next : {total : ℕ} {k : Kind} {left : List Kind} → Place total (k ∷ left) → Place total left
next p = record { at = record { token = suc p.at.token; node = p.at.node }; all = omega (arith, p.all); small = p.small }

-- behind the end of a node
unfoldable pub counted : {total : ℕ} {left : List Kind} → Place total left → Place total left
counted p = record { at = record { token = p.at.token; node = suc p.at.node }; all = p.all; small = p.small }

-- the leaf and the name of the next token
unfoldable pub leaf_at : {total : ℕ} {left : List Kind} → Place total left → Leaf
leaf_at p = record { token = p.at.token }

unfoldable pub name_at : {total : ℕ} {left : List Kind} → Place total left → Name
name_at p = record { node = p.at.node; token = p.at.token }

-- ---- steps

-- the step leads from one cursor to another, and to no earlier token
pub record Walk (step : Step) (a b : Cursor) : Type 0 where
  pub steps : step a ≡ Some b
  pub rises : a.token ≤ b.token

-- one walk and then another
infixr 10 ◌⊳◌
pub ◌⊳◌ : {f g : Step} {a b c : Cursor} → Walk f a b → Walk g b c → Walk (f >> g) a c
◌⊳◌ {f} {g} v w = record { steps = ap (λ (o : Option Cursor). and_then o g) v.steps ∙ w.steps; rises = omega (arith, v.rises, w.rises) }

-- the same walk of a step that is equal
pub of_step : {f g : Step} {a b : Cursor} → f ≡ g → Walk g a b → Walk f a b
of_step {f} {g} {a} e w = record { steps = ap (λ (h : Step). h a) e ∙ w.steps; rises = w.rises }

pub stayed : {total : ℕ} {left : List Kind} (p : Place total left) → Walk stay p.at p.at
stayed p = record { steps = refl; rises = le_refl _ }

pub one_token : {total : ℕ} {k : Kind} {left : List Kind} (p : Place total (k ∷ left)) → Walk token p.at (next p).at
unfolding next
one_token p = record { steps = refl; rises = omega arith }

same_number : (n : ℕ) → nat_eq n n ≡ true
same_number n = eq-eqb n n refl

pub one_node : {total : ℕ} {left : List Kind} (p : Place total left) → Walk (node p.at.node) p.at (counted p).at
unfolding counted
one_node p = record {
  steps = ap (λ c. where_so c (record { token = p.at.token; node = suc p.at.node })) (same_number p.at.node);
  rises = le_refl _;
}

pub one_leaf : {total : ℕ} {k : Kind} {left : List Kind} (p : Place total (k ∷ left)) → Walk (leaf (leaf_at p).token) p.at (next p).at
unfolding next leaf_at
one_leaf p = record {
  steps = ap (λ c. where_so c (record { token = suc p.at.token; node = p.at.node })) (same_number p.at.token);
  rises = omega arith;
}

pub one_name : {total : ℕ} {k : Kind} {left : List Kind} (p : Place total (k ∷ left))
    → Walk (number_name (name_at p)) p.at (counted (next p)).at
unfolding next leaf_at name_at
one_name p = one_leaf p ⊳ one_node (next p)

-- with a token between two walks, and so many tokens behind both, there is one token more in all
pub one_more : {f g : Step} {a b : Cursor} {total : ℕ} {k : Kind} {left : List Kind} (p : Place total (k ∷ left))
    → Walk f a p.at → Walk g (next p).at b → (n to : ℕ) → b.token + n ≤ to → a.token + suc n ≤ to
unfolding next
one_more p v w n to few = omega (arith, v.rises, w.rises, few)

-- ---- parts

-- a value that is seen as this tree, and that is numbered from this cursor to a place in front of the rest
pub record Part {A P : Type 0} (view : A → P) (number : A → Step) (t : P) (total : ℕ) (rest : List Kind) (a : Cursor) : Type 0 where
  pub value : A
  pub seen : view value ≡ t
  pub to : Place total rest
  pub walk : Walk (number value) a to.at

-- the same of a list, each item of which has a token
pub record Parts {A P : Type 0} (view : List A → P) (number : List A → Step) (t : P) (total : ℕ) (rest : List Kind) (a : Cursor)
    : Type 0 where
  pub items : List A
  pub seen : view items ≡ t
  pub to : Place total rest
  pub walk : Walk (number items) a to.at
  pub few : a.token + length items ≤ to.at.token

pub no_value : {A P : Type 0} {view : Option A → P} {number : Option A → Step} {total : ℕ} {rest : List Kind} (p : Place total rest)
    → number None ≡ stay → Part view number (view None) total rest p.at
no_value p e = record { value = None; seen = refl; to = p; walk = of_step e (stayed p) }

pub no_items : {A P : Type 0} {view : List A → P} {number : List A → Step} {total : ℕ} {rest : List Kind} (p : Place total rest)
    → number [] ≡ stay → Parts view number (view []) total rest p.at
no_items p e = record { items = []; seen = refl; to = p; walk = of_step e (stayed p); few = omega arith }

-- three and four paths at once
pub ap₃ : {A B C D : Type 0} (f : A → B → C → D) {a a' : A} {b b' : B} {c c' : C} → a ≡ a' → b ≡ b' → c ≡ c' → f a b c ≡ f a' b' c'
ap₃ f p q r = λ i. f (p i) (q i) (r i)

pub ap₄ : {A B C D E : Type 0} (f : A → B → C → D → E) {a a' : A} {b b' : B} {c c' : C} {d d' : D} → a ≡ a' → b ≡ b' → c ≡ c' → d ≡ d'
    → f a b c d ≡ f a' b' c' d'
ap₄ f p q r s = λ i. f (p i) (q i) (r i) (s i)

-- ---- boxes and vectors

abbrev pub anywhere : Global
anywhere = record { memory = record { seal = tt } }

abbrev pub box : {A : Type 0} → A → Box A Global
box x = record { ptr = null_ptr; alloc = anywhere; value = x }

abbrev pub vec : {A : Type 0} (items : List A) → length items < 2 ^ 63 → Vec A Global
vec items small = record {
  ptr = null_ptr;
  len = length items;
  cap = length items;
  alloc = anywhere;
  items = items;
  ok = (refl, le_refl _);
  small = small;
}

-- there are no more items than tokens
few_items : (n at rest total : ℕ) (to : ℕ) → at + n ≤ to → to + rest ≡ total → total < 2 ^ 63 → n < 2 ^ 63
few_items n at rest total to few all small = lt_of_le_of_lt (omega (arith, few, all)) small

pub short : {A P : Type 0} {view : List A → P} {number : List A → Step} {t : P} {total : ℕ} {rest : List Kind} {a : Cursor}
    (s : Parts view number t total rest a) → length s.items < 2 ^ 63
short {total = total} {rest = rest} {a = a} s =
    few_items (length s.items) a.token (length rest) total s.to.at.token s.few s.to.all s.to.small

abbrev pub vec_of : {A P : Type 0} {view : List A → P} {number : List A → Step} {t : P} {total : ℕ} {rest : List Kind} {a : Cursor}
    → Parts view number t total rest a → Vec A Global
vec_of s = vec s.items (short s)
