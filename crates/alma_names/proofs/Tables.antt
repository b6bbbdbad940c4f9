-- Tables of shapes: one more shape, and what stays the same of those before it.
use Rattle.std.proofs.Common.{inl, inr, ⊎_elim, ◌≡◌, ℕ, ◌+◌, ◌<◌, ◌≤◌, List, [], ◌∷◌, ◌++◌, Some, IsSomeAnd, length, get_or, slice_get}
use Rattle.std.proofs.Common.{refl, ap, sym, subst, ◌∙◌, append_assoc, append-nil, suc, zero, arith, length-append}
use Rattle.std.specs.Prelude.{◌⊎◌, IsTrue}
use Rattle.std.proofs.lemmas.List.{get_or_append_left}
use Rattle.std.proofs.lemmas.List.Elements.{All-push}
use Rattle.alma_names.specs.declared.shapes.Shape.{Shape}
use Rattle.alma_base.specs.Limits.{cell_limit}
use Rattle.alma_names.specs.Shapes.{PlainShape, integer, char, boolean, sub, row, plain_of, table_of, cells_in, cell_counts}
use Rattle.alma_names.specs.Shapes.{cell_counts_from, cells_at, first_shapes, is_index, IsBaseOf, HasIndex, HasBase, IsShapeAt}
use Rattle.alma_names.specs.Table.{IsTable, IsSmall}

-- the plain table of one more shape
pub table_push : (ss : List Shape) (s : Shape) → table_of (ss ++ s ∷ []) ≡ table_of ss ++ plain_of s ∷ []
table_push [] s = refl
table_push (x ∷ xs) s = ap (λ t. plain_of x ∷ t) (table_push xs s)

-- a table is as long as its shapes
pub table_len : (ss : List Shape) → length (table_of ss) ≡ length ss
table_len [] = refl
table_len (s ∷ ss) = ap suc (table_len ss)

-- the shape of a number
pub table_at : (ss : List Shape) (i : ℕ) (d : Shape) → i < length ss → slice_get (table_of ss) i ≡ Some (plain_of (get_or ss i d))
table_at [] i d h = absurd (omega arith)
table_at (s ∷ ss) zero d h = refl
table_at (s ∷ ss) (suc i) d h = table_at ss i d (omega arith)

counts_push_from : (a : List PlainShape) (cs : List ℕ) (t : List PlainShape) (s : PlainShape)
    → cell_counts_from a cs (t ++ s ∷ []) ≡ cell_counts_from a cs t ++ cells_in (a ++ t) (cell_counts_from a cs t) s ∷ []
counts_push_from a cs [] s = ap (λ t. cs ++ cells_in t cs s ∷ []) (sym (append-nil a))
counts_push_from a cs (x ∷ t) s =
    counts_push_from (a ++ x ∷ []) (cs ++ cells_in a cs x ∷ []) t s
    ∙ ap (λ b. cell_counts_from (a ++ x ∷ []) (cs ++ cells_in a cs x ∷ []) t
    ++ cells_in b (cell_counts_from (a ++ x ∷ []) (cs ++ cells_in a cs x ∷ []) t) s ∷ []) (append_assoc a (x ∷ []) t)

-- the cells of one more shape
pub counts_push : (t : List PlainShape) (s : PlainShape) → cell_counts (t ++ s ∷ []) ≡ cell_counts t ++ cells_in t (cell_counts t) s ∷ []
unfolding cell_counts
counts_push t s = counts_push_from [] [] t s

counts_len_from : (t : List PlainShape) (cs : List ℕ) (rest : List PlainShape)
    → length (cell_counts_from t cs rest) ≡ length cs + length rest
counts_len_from t cs [] = omega arith
counts_len_from t cs (s ∷ rest) = omega (
  arith,
  counts_len_from (t ++ s ∷ []) (cs ++ cells_in t cs s ∷ []) rest,
  length-append cs (cells_in t cs s ∷ []),
)

-- each shape has its cells
pub counts_len : (t : List PlainShape) → length (cell_counts t) ≡ length t
unfolding cell_counts
counts_len t = omega (arith, counts_len_from [] [] t)

-- a shape keeps its cells in a longer table
pub cells_still : (t : List PlainShape) (s : PlainShape) (id : ℕ) → id < length t → cells_at (t ++ s ∷ []) id ≡ cells_at t id
cells_still t s id h = rw (counts_push t s) (get_or_append_left (cell_counts t) _ 0 id (omega (arith, counts_len t)))

-- what holds of the shape of a number holds of it in a longer table
pub there_still : {X : Type 0} (P : X → Type 0) (t u : List X) (i : ℕ) → IsSomeAnd (slice_get t i) P → IsSomeAnd (slice_get (t ++ u) i) P
there_still P [] u i h = absurd h
there_still P (x ∷ t) u zero h = h
there_still P (x ∷ t) u (suc i) h = there_still P t u i h

index_still : (t u : List PlainShape) (s : PlainShape) → HasIndex t s → HasIndex (t ++ u) s
index_still t u (row i e) h = there_still (λ s. IsTrue (is_index s)) t u i h
index_still t u s h = h

base_still : (t u : List PlainShape) (s : PlainShape) → HasBase t s → HasBase (t ++ u) s
base_still t u (sub b r) h = there_still (λ s. IsBaseOf r s) t u b h
base_still t u s h = h

-- the five conditions hold in a longer table
shape_still : (t u : List PlainShape) (n : ℕ) (s : PlainShape) → IsShapeAt t n s → IsShapeAt (t ++ u) n s
shape_still t u n s h = record {
  names = h.names;
  index = index_still t u s h.index;
  count = h.count;
  base = base_still t u s h.base;
  fields = h.fields;
}

-- a shape of a table with one more is one from before or the last
last_or_before : {X : Type 0} (t : List X) (s : X) (n : ℕ) (x : X) → slice_get (t ++ s ∷ []) n ≡ Some x → (slice_get t n ≡ Some x)
    ⊎ ((n ≡ length t) × (s ≡ x))
last_or_before [] s zero x h = inr (refl, cc)
last_or_before [] s (suc n) x h = absurd (cc)
last_or_before (y ∷ t) s zero x h = inl h
last_or_before (y ∷ t) s (suc n) x h = ⊎_elim (λ a. inl a) (λ b. inr (ap suc b.0, b.1)) (last_or_before t s n x h)

-- one more shape that meets the five conditions, with its cells
pub table_more : (t : List PlainShape) (cs : List ℕ) (s : PlainShape) (n : ℕ) → IsTable t cs → IsShapeAt t (length t) s
    → n ≡ cells_in t (cell_counts t) s → n ≤ cell_limit → IsTable (t ++ s ∷ []) (cs ++ n ∷ [])
table_more t cs s n k h e le = record {
  counted = rw (counts_push t s, k.counted, e) refl;
  long = simp length-append (omega (arith, k.long));
  small = All-push IsSmall cs n k.small le;
  shapes = λ i x at. ⊎_elim
      (λ old. shape_still t (s ∷ []) i x (k.shapes i x old))
      (λ new. subst (λ y. IsShapeAt (t ++ s ∷ []) i y) new.1
      (subst (λ j. IsShapeAt (t ++ s ∷ []) j s) (sym new.0) (shape_still t (s ∷ []) (length t) s h)))
      (last_or_before t s i x at);
}

empty_table : IsTable [] []
unfolding cell_counts
empty_table = record { counted = refl; long = refl; small = λ k d lt. absurd (omega arith); shapes = λ n s at. absurd (cc) }

-- the table of INTEGER, CHAR and BOOLEAN
pub first_table : IsTable first_shapes (1 ∷ 1 ∷ 1 ∷ [])
first_table =
    let a = table_more [] [] integer 1 empty_table (record { names = tt; index = tt; count = tt; base = tt; fields = tt }) refl
    (omega arith) in
    let b = table_more (integer ∷ []) (1 ∷ []) char 1 a (record { names = tt; index = tt; count = tt; base = tt; fields = tt }) refl
    (omega arith) in
    table_more (integer ∷ char ∷ []) (1 ∷ 1 ∷ []) boolean 1 b (record { names = tt; index = tt; count = tt; base = tt; fields = tt }) refl
    (omega arith)

-- a shape that was looked up meets the five conditions
pub shape_there : (t u : List PlainShape) (cs : List ℕ) (n : ℕ) (s : PlainShape) → IsTable u cs → u ≡ t → slice_get t n ≡ Some s
    → IsShapeAt t n s
shape_there t u cs n s k v at = subst (λ w. IsShapeAt w n s) v (k.shapes n s (rw v at))

pub ruleset tables = (table_push, table_len, table_at, counts_push)
