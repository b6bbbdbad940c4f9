-- The offsets of fields.
use Rattle.std.proofs.Common.{◌≤◌, Option, None, IfSome, true, false, if◌then◌else◌, ◌≡◌, ℕ, ◌+◌, ◌<◌, List, [], ◌∷◌, ◌++◌, Some, length}
use Rattle.std.proofs.Common.{get_or, refl, ap, sym, subst, ◌∙◌, arith, take, drop, set, add-one, drop-cons, suc}
use Rattle.std.proofs.lemmas.List.{take_more, take_more_set, drop-set-lt}
use Rattle.std.specs.Prelude.{bytes_eq, option_map}
use Rattle.alma_names.specs.declared.shapes.FieldOf.{FieldOf}
use Rattle.alma_names.specs.declared.shapes.Shape.{Shape}
use Rattle.alma_names.specs.declared.shapes.ShapeId.{ShapeId}
use Rattle.alma_names.specs.Table.{IsTable}
use Rattle.alma_names.proofs.Tables.{table_push, table_more}
use Rattle.alma_base.specs.Limits.{cell_limit}
use Rattle.alma_names.specs.Shapes.{plain_of, table_of, field_named, PlainShape, PlainField, fields, field_of, fields_of, cells_in}
use Rattle.alma_names.specs.Shapes.{cell_counts, sum_of_cells, place_fields, placed_shape, AllBelow, NamesOnlyBelow, HasIndex, HasCount}
use Rattle.alma_names.specs.Shapes.{HasBase}
use Rattle.alma_names.specs.Shapes.{HasDistinctNames, names_of, IsShapeAt}

-- the fields of one more
pub fields_push : (fs : List FieldOf) (f : FieldOf) → fields_of (fs ++ f ∷ []) ≡ fields_of fs ++ field_of f ∷ []
fields_push [] s = refl
fields_push (x ∷ xs) s = ap (λ t. field_of x ∷ t) (fields_push xs s)

pub fields_len : (fs : List FieldOf) → length (fields_of fs) ≡ length fs
fields_len [] = refl
fields_len (f ∷ fs) = ap suc (fields_len fs)

-- the offset of one more field
pub placed_push : (cs : List ℕ) (offset : ℕ) (fs : List FieldOf) (f : FieldOf)
    → place_fields cs offset (fields_of (fs ++ f ∷ [])) ≡ place_fields cs offset (fields_of fs)
    ++ record { name = f.name.items; offset = offset + sum_of_cells cs (fields_of fs); shape = f.shape.0 } ∷ []
placed_push cs offset [] f = ap (λ n. record { name = f.name.items; offset = n; shape = f.shape.0 } ∷ []) (omega arith)
placed_push cs offset (x ∷ xs) f =
    ap (λ t. record { name = x.name.items; offset = offset; shape = x.shape.0 } ∷ t)
    (placed_push cs (offset + get_or cs x.shape.0 0) xs f
    ∙ ap (λ n. place_fields cs (offset + get_or cs x.shape.0 0) (fields_of xs)
    ++ record { name = f.name.items; offset = n; shape = f.shape.0 } ∷ []) (omega arith))

placed_sum : (cs ds : List ℕ) (offset : ℕ) (fs : List PlainField) → sum_of_cells cs (place_fields ds offset fs) ≡ sum_of_cells cs fs
placed_sum cs ds offset [] = refl
placed_sum cs ds offset (f ∷ fs) = ap (λ n. get_or cs f.shape 0 + n) (placed_sum cs ds (offset + get_or ds f.shape 0) fs)

-- an offset changes no size
pub cells_placed : (t : List PlainShape) (cs ds : List ℕ) (s : PlainShape) → cells_in t cs (placed_shape ds s) ≡ cells_in t cs s
cells_placed t cs ds (fields fs) = placed_sum cs ds 0 fs
cells_placed t cs ds s = refl

placed_below : (n : ℕ) (ds : List ℕ) (offset : ℕ) (fs : List PlainField) → AllBelow n fs → AllBelow n (place_fields ds offset fs)
placed_below n ds offset [] h = h
placed_below n ds offset (f ∷ fs) h = (h.0, placed_below n ds (offset + get_or ds f.shape 0) fs h.1)

pub placed_names : (ds : List ℕ) (offset : ℕ) (fs : List PlainField) → names_of (place_fields ds offset fs) ≡ names_of fs
placed_names ds offset [] = refl
placed_names ds offset (f ∷ fs) = ap (λ t. f.name ∷ t) (placed_names ds (offset + get_or ds f.shape 0) fs)

-- an offset breaks no condition
pub shape_placed : (t : List PlainShape) (n : ℕ) (ds : List ℕ) (s : PlainShape) → NamesOnlyBelow n s → HasIndex t s → HasCount s
    → HasBase t s → HasDistinctNames s → IsShapeAt t n (placed_shape ds s)
shape_placed t n ds (fields fs) a b c d e =
    record { names = placed_below n ds 0 fs a; index = b; count = c; base = d; fields = rw (placed_names ds 0 fs) e }
shape_placed t n ds s a b c d e = record { names = a; index = b; count = c; base = d; fields = e }

pub sum_push : (cs : List ℕ) (fs : List FieldOf) (f : FieldOf)
    → sum_of_cells cs (fields_of (fs ++ f ∷ [])) ≡ sum_of_cells cs (fields_of fs) + get_or cs f.shape.0 0
sum_push cs [] f = omega arith
sum_push cs (x ∷ xs) f = let h : sum_of_cells cs (fields_of (xs ++ f ∷ [])) ≡ sum_of_cells cs (fields_of xs) + get_or cs f.shape.0 0 =
    sum_push cs xs f in omega (arith, h)

-- the fields at a place of two lists that agree from there on
same_there : (xs ys : List FieldOf) (i : ℕ) (d : FieldOf) → i < length xs → i < length ys → drop i ys ≡ drop i xs
    → (get_or ys i d ≡ get_or xs i d) × (drop (i + 1) ys ≡ drop (i + 1) xs)
same_there xs ys i d p q h =
    let a : drop i xs ≡ get_or xs i d ∷ drop (i + 1) xs = rw (add-one i) (drop-cons xs i d p) in
    let b : drop i ys ≡ get_or ys i d ∷ drop (i + 1) ys = rw (add-one i) (drop-cons ys i d q) in
    let e : get_or ys i d ∷ drop (i + 1) ys ≡ get_or xs i d ∷ drop (i + 1) xs = sym b ∙ h ∙ a in
    (cc, cc)

-- fields xs whose first i were placed, which gave ys: the next is placed
module _ (cs : List ℕ) (xs ys : List FieldOf) (i offset : ℕ) (d : FieldOf) (p : i < length xs) (q : length ys ≡ length xs)
    (h : drop i ys ≡ drop i xs)
    (done : fields_of (take i ys) ≡ place_fields cs 0 (fields_of (take i xs))) (sum : offset ≡ sum_of_cells cs (fields_of (take i xs)))
  where
    there : get_or ys i d ≡ get_or xs i d
    there = (same_there xs ys i d p (omega arith) h).0

    pub place_front : fields_of (take (i + 1)
        (set ys i (record { name = (get_or ys i d).name; offset = offset; shape = (get_or ys i d).shape }))) ≡ place_fields cs 0
        (fields_of (take (i + 1) xs))
    place_front =
        let lt : i < length ys = omega arith in
        let e : (get_or ys i d) ≡ (get_or xs i d) = there in
        let z : 0 + sum_of_cells cs (fields_of (take i xs)) ≡ sum_of_cells cs (fields_of (take i xs)) = omega arith in
        rw (
          take_more_set ys i (record { name = (get_or ys i d).name; offset = offset; shape = (get_or ys i d).shape }) lt,
          take_more xs i d p,
          fields_push,
          placed_push,
          done,
          e,
          sum,
          z,
        ) refl

    pub place_rest : (y : FieldOf) → drop (i + 1) (set ys i y) ≡ drop (i + 1) xs
    place_rest y = drop-set-lt (i + 1) ys i y (omega arith) ∙ (same_there xs ys i d p (omega arith) h).1

    pub place_tail : sum_of_cells cs (fields_of (drop i xs)) ≡ get_or cs (get_or ys i d).shape.0 0
        + sum_of_cells cs (fields_of (drop (i + 1) xs))
    place_tail =
        let a : drop i xs ≡ get_or xs i d ∷ drop (i + 1) xs = rw (add-one i) (drop-cons xs i d p) in
        rw (a, there) refl

    pub place_below : (n : ℕ) → AllBelow n (fields_of (drop i xs)) → AllBelow n (fields_of (drop (i + 1) xs))
    place_below n b =
        let a : drop i xs ≡ get_or xs i d ∷ drop (i + 1) xs = rw (add-one i) (drop-cons xs i d p) in
        (subst (λ l. AllBelow n (fields_of l)) a b).1

    pub place_sum : offset + get_or cs (get_or ys i d).shape.0 0 ≡ sum_of_cells cs (fields_of (take (i + 1) xs))
    place_sum = rw (take_more xs i d p, sum_push, there, sum) refl

named_below : (n : ℕ) (name : List ℕ) (fs : List PlainField) → AllBelow n fs → IfSome (field_named name fs) (λ f. f.1 < n)
named_below n name [] h = tt
named_below n name (f ∷ fs) h = elim (bytes_eq f.name name)
    as (λ b. IfSome (if b then Some (f.offset, f.shape) else field_named name fs) (λ g. g.1 < n))
    [ true ↦ h.0 | false ↦ named_below n name fs h.1 ]

-- a field that is found has a shape from before
pub field_below : (n : ℕ) (name : List ℕ) (fs : List PlainField) (r : Option (ℕ × ShapeId)) → AllBelow n fs
    → option_map (λ f. (f.0, f.1.0)) r ≡ field_named name fs → IfSome r (λ f. f.1.0 < n)
field_below n name fs None h e = tt
field_below n name fs (Some f) h e = subst (λ o. IfSome o (λ g. g.1 < n)) (sym e) (named_below n name fs h)

-- a table with one more shape, whose offsets were set
pub table_added : (t : List PlainShape) (ss : List Shape) (cs : List ℕ) (s : PlainShape) (x : Shape) (n : ℕ) → IsTable (table_of ss) cs
    → table_of ss ≡ t
    → NamesOnlyBelow (length t) s → HasIndex t s → HasCount s → HasBase t s → HasDistinctNames s
    → plain_of x ≡ placed_shape (cell_counts t) s → n ≡ cells_in t (cell_counts t) s → n ≤ cell_limit
    → IsTable (table_of (ss ++ x ∷ [])) (cs ++ n ∷ [])
table_added t ss cs s x n k v a b c d e p m le =
    rw (table_push ss x, v, p) (table_more t cs (placed_shape (cell_counts t) s) n (rw v at k)
    (shape_placed t (length t) (cell_counts t) s a b c d e) (m ∙ sym (cells_placed t (cell_counts t) (cell_counts t) s)) le)

pub ruleset placing = (fields_push, fields_len, placed_push, cells_placed, place_front, place_rest, place_sum)
