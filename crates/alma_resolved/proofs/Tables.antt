-- Tables of shapes as declarations make them: what each shape keeps, so that the table fits.
use Rattle.std.proofs.Common.{◌≡◌, ◌⊎◌, inl, inr, ℕ, zero, suc, ◌+◌, ◌*◌, ◌<◌, ◌≤◌, Bool, true, false, List, [], ◌∷◌, ◌++◌, length, get_or}
use Rattle.std.proofs.Common.{Option, None, Some, refl, sym, ap, ◌∙◌, subst, arith, append_assoc, append-nil, length-append}
use Rattle.std.specs.Prelude.{not, is_some, slice_get, option_map, option_and_then, unwrap_or, bytes_eq, if◌then◌else◌}
use Rattle.std.specs.List.{AllByRecursion}
use Rattle.std.proofs.lemmas.Int.{ints}
use Rattle.std.proofs.lemmas.Option.{slice_get_within}
use Rattle.std.proofs.Math.Seq.{get_or-append_seam}
use Rattle.alma_base.specs.declared.number.Range.{Range}
use Rattle.alma_base.specs.Numbers.{range_size, whole_range}
use Rattle.alma_names.specs.Shapes.{PlainShape, PlainField, integer, char, boolean, listed, sub, row, fields, range_of, range_at, base_of}
use Rattle.alma_names.specs.Shapes.{base_at, size_of, values_at, sum_of_cells, cells_in, cell_counts, cells_at, place_fields, field_named}
use Rattle.alma_names.specs.Shapes.{field_at, first_shapes}
use Rattle.alma_names.proofs.Tables.{counts_push, counts_len, cells_still}
use Rattle.alma_ir.specs.Checked.{IsOrdered}
use Rattle.alma_ir.proofs.Each.{each_follows}
use Rattle.alma_rules.specs.Scene.{Scene, row_of}
use Rattle.alma_resolved.specs.Scenes.{structured_in, TableFits}
use Rattle.alma_resolved.proofs.Slots.{simple_cells}

-- ---- tables with more shapes

pub get_still : (t u : List PlainShape) (a : ℕ) → a < length t → slice_get (t ++ u) a ≡ slice_get t a
get_still [] u a lt = absurd (omega (arith, lt))
get_still (x ∷ t) u zero lt = refl
get_still (x ∷ t) u (suc a) lt = get_still t u a (omega (arith, lt))

pub range_still : (t u : List PlainShape) (a : ℕ) → a < length t → range_at (t ++ u) a ≡ range_at t a
range_still t u a lt = ap (λ o. option_and_then range_of o) (get_still t u a lt)

pub structured_still : (t u : List PlainShape) (a : ℕ) → a < length t → structured_in (t ++ u) a ≡ structured_in t a
structured_still t u a lt = ap (λ o. not (is_some o)) (range_still t u a lt)

values_still : (t u : List PlainShape) (a : ℕ) → a < length t → values_at (t ++ u) a ≡ values_at t a
values_still t u a lt = ap size_of (range_still t u a lt)

pub cells_more : (t u : List PlainShape) (a : ℕ) → a < length t → cells_at (t ++ u) a ≡ cells_at t a
cells_more t [] a lt = ap (λ x. cells_at x a) (append-nil t)
cells_more t (x ∷ u) a lt =
    ap (λ y. cells_at y a) (sym (append_assoc t (x ∷ []) u))
    ∙ (cells_more (t ++ x ∷ []) u a (omega (arith, lt, length-append t (x ∷ []))) ∙ cells_still t x a lt)

-- a simple shape is one of the table
pub simple_there : (t : List PlainShape) (a : ℕ) → structured_in t a ≡ false → a < length t
simple_there t a h = by (slice_get t a) refl h
  where
    by : (o : Option PlainShape) → slice_get t a ≡ o → not (is_some (option_and_then range_of o)) ≡ false → a < length t
    by None q h = absurd (let bad : true ≡ false = h in cc)
    by (Some x) q h = slice_get_within t a x q

pub simple_still : (t u : List PlainShape) (a : ℕ) → structured_in t a ≡ false → structured_in (t ++ u) a ≡ false
simple_still t u a h = structured_still t u a (simple_there t a h) ∙ h

-- ---- what a shape keeps

-- a field lies in so many cells
abbrev pub FieldKeeps : List PlainShape → (n : ℕ) → PlainField → Type 0
FieldKeeps t n f = (f.shape < length t) × (f.offset + cells_at t f.shape ≤ n)

-- the shape of this number
abbrev pub ShapeKeeps : List PlainShape → (a : ℕ) → PlainShape → Type 0
ShapeKeeps t a integer = Unit {0}
ShapeKeeps t a char = Unit {0}
ShapeKeeps t a boolean = Unit {0}
ShapeKeeps t a (listed n) = 0 < n
ShapeKeeps t a (sub b r) = (structured_in t b ≡ false) × IsOrdered r
ShapeKeeps t a (row i e) = (structured_in t i ≡ false) × (e < length t) × (values_at t i * cells_at t e ≤ cells_at t a)
ShapeKeeps t a (fields fs) = AllByRecursion (FieldKeeps t (cells_at t a)) fs

-- a table whose shapes keep this, behind the first three
pub record TableKeeps (t : List PlainShape) : Type 0 where
  pub firsts : (a : ℕ) → a < 3 → structured_in t a ≡ false
  pub each : (a : ℕ) (x : PlainShape) → slice_get t a ≡ Some x → ShapeKeeps t a x

at_most : (n m : ℕ) → n ≡ m → n ≤ m
at_most n m e = omega (arith, e)

shape_still : (t u : List PlainShape) (a : ℕ) (x : PlainShape) → a < length t → ShapeKeeps t a x → ShapeKeeps (t ++ u) a x
shape_still t u a integer lt h = tt
shape_still t u a char lt h = tt
shape_still t u a boolean lt h = tt
shape_still t u a (listed n) lt h = h
shape_still t u a (sub b r) lt h = (simple_still t u b h.0, h.1)
shape_still t u a (row i e) lt h = (
  simple_still t u i h.0,
  omega (arith, h.1, length-append t u),
  rw (values_still t u i (simple_there t i h.0), cells_more t u e h.1, cells_more t u a lt) h.2,
)
shape_still t u a (fields fs) lt h =
    each_follows (FieldKeeps t (cells_at t a)) (FieldKeeps (t ++ u) (cells_at (t ++ u) a))
    (λ f g. (omega (arith, g.0, length-append t u), omega (arith, g.1, cells_more t u f.shape g.0, cells_more t u a lt))) fs h

last_or_before : (t : List PlainShape) (s : PlainShape) (n : ℕ) (x : PlainShape) → slice_get (t ++ s ∷ []) n ≡ Some x
    → (slice_get t n ≡ Some x) ⊎ ((n ≡ length t) × (s ≡ x))
last_or_before [] s zero x h = inr (refl, cc)
last_or_before [] s (suc n) x h = absurd (cc)
last_or_before (y ∷ t) s zero x h = inl h
last_or_before (y ∷ t) s (suc n) x h = by (last_or_before t s n x h)
  where
    by : (slice_get t n ≡ Some x) ⊎ ((n ≡ length t) × (s ≡ x)) → (slice_get t n ≡ Some x) ⊎ ((suc n ≡ suc (length t)) × (s ≡ x))
    by (inl a) = inl a
    by (inr b) = inr (ap suc b.0, b.1)

pub table_more : (t : List PlainShape) (s : PlainShape) → TableKeeps t → ShapeKeeps (t ++ s ∷ []) (length t) s → TableKeeps (t ++ s ∷ [])
table_more t s h k = record {
  firsts = λ a lt. simple_still t (s ∷ []) a (h.firsts a lt);
  each = λ a x e. by a x (last_or_before t s a x e);
}
  where
    by : (a : ℕ) (x : PlainShape) → (slice_get t a ≡ Some x) ⊎ ((a ≡ length t) × (s ≡ x)) → ShapeKeeps (t ++ s ∷ []) a x
    by a x (inl q) = shape_still t (s ∷ []) a x (slice_get_within t a x q) (h.each a x q)
    by a x (inr q) = subst (λ y. ShapeKeeps (t ++ s ∷ []) a y) q.1 (subst (λ n. ShapeKeeps (t ++ s ∷ []) n s) (sym q.0) k)

-- ---- one shape more

last_cells : (t : List PlainShape) (s : PlainShape) → cells_at (t ++ s ∷ []) (length t) ≡ cells_in t (cell_counts t) s
last_cells t s =
    ap (λ cs. get_or cs (length t) 0) (counts_push t s)
    ∙ (ap (λ n. get_or (cell_counts t ++ cells_in t (cell_counts t) s ∷ []) n 0) (sym (counts_len t))
    ∙ get_or-append_seam (cell_counts t) (cells_in t (cell_counts t) s) [] 0)

pub row_keeps : (t : List PlainShape) (i e : ℕ) → TableKeeps t → structured_in t i ≡ false → e < length t → TableKeeps (t ++ row i e ∷ [])
row_keeps t i e h simple lt = table_more t (row i e) h (
  simple_still t (row i e ∷ []) i simple,
  omega (arith, lt, length-append t (row i e ∷ [])),
  at_most (values_at (t ++ row i e ∷ []) i * cells_at (t ++ row i e ∷ []) e) (cells_at (t ++ row i e ∷ []) (length t))
      (ap (λ n. n * cells_at (t ++ row i e ∷ []) e) (values_still t (row i e ∷ []) i (simple_there t i simple))
      ∙ (ap (λ n. values_at t i * n) (cells_still t (row i e) e lt) ∙ sym (last_cells t (row i e)))),
)

placed_sum : (cs : List ℕ) (o : ℕ) (fs : List PlainField) → sum_of_cells cs (place_fields cs o fs) ≡ sum_of_cells cs fs
placed_sum cs o [] = refl
placed_sum cs o (f ∷ fs) = ap (λ n. get_or cs f.shape 0 + n) (placed_sum cs (o + get_or cs f.shape 0) fs)

-- the shapes of fields are of the table
abbrev pub FieldsThere : List PlainShape → List PlainField → Type 0
FieldsThere t fs = AllByRecursion (λ f. f.shape < length t) fs

placed_keep : (t u : List PlainShape) (n o : ℕ) (fs : List PlainField) → FieldsThere t fs → o + sum_of_cells (cell_counts t) fs ≤ n
    → AllByRecursion (FieldKeeps (t ++ u) n) (place_fields (cell_counts t) o fs)
placed_keep t u n o [] h le = tt
placed_keep t u n o (f ∷ fs) h le = (
  (omega (arith, h.0, length-append t u), omega (arith, cells_more t u f.shape h.0, le)),
  placed_keep t u n (o + get_or (cell_counts t) f.shape 0) fs h.1 (omega (arith, le)),
)

pub record_keeps : (t : List PlainShape) (fs : List PlainField) → TableKeeps t → FieldsThere t fs
    → TableKeeps (t ++ fields (place_fields (cell_counts t) 0 fs) ∷ [])
record_keeps t fs h there =
    let x = fields (place_fields (cell_counts t) 0 fs) in
    let all : cells_at (t ++ fields (place_fields (cell_counts t) 0 fs) ∷ []) (length t) ≡ sum_of_cells (cell_counts t) fs =
    last_cells t (fields (place_fields (cell_counts t) 0 fs)) ∙ placed_sum (cell_counts t) 0 fs in
    table_more t x h (placed_keep t (x ∷ []) (cells_at (t ++ x ∷ []) (length t)) 0 fs there (omega (arith, all)))

pub sub_keeps : (t : List PlainShape) (b : ℕ) (r : Range) → TableKeeps t → structured_in t b ≡ false → IsOrdered r
    → TableKeeps (t ++ sub b r ∷ [])
sub_keeps t b r h simple le = table_more t (sub b r) h (simple_still t (sub b r ∷ []) b simple, le)

pub listed_keeps : (t : List PlainShape) (n : ℕ) → TableKeeps t → 0 < n → TableKeeps (t ++ listed n ∷ [])
listed_keeps t n h some = table_more t (listed n) h some

-- the last shape is simple
pub last_range : (t : List PlainShape) (s : PlainShape) → range_at (t ++ s ∷ []) (length t) ≡ range_of s
last_range [] s = refl
last_range (x ∷ t) s = last_range t s

pub first_keeps : TableKeeps first_shapes
first_keeps = record { firsts = by; each = shapes }
  where
    by : (a : ℕ) → a < 3 → structured_in first_shapes a ≡ false
    by zero lt = refl
    by (suc zero) lt = refl
    by (suc (suc zero)) lt = refl
    by (suc (suc (suc a))) lt = absurd (omega (arith, lt))

    shapes : (a : ℕ) (x : PlainShape) → slice_get first_shapes a ≡ Some x → ShapeKeeps first_shapes a x
    shapes zero x e = subst (λ y. ShapeKeeps first_shapes 0 y) (let same : integer ≡ x = cc in same) tt
    shapes (suc zero) x e = subst (λ y. ShapeKeeps first_shapes 1 y) (let same : char ≡ x = cc in same) tt
    shapes (suc (suc zero)) x e = subst (λ y. ShapeKeeps first_shapes 2 y) (let same : boolean ≡ x = cc in same) tt
    shapes (suc (suc (suc a))) x e = absurd (cc)

-- ---- such a table fits

-- a shape and its base
pub base_structured : (t : List PlainShape) (a : ℕ) → TableKeeps t → structured_in t a ≡ structured_in t (base_at t a)
base_structured t a h = by (slice_get t a) refl
  where
    by : (o : Option PlainShape) → slice_get t a ≡ o
        → not (is_some (option_and_then range_of o)) ≡ structured_in t (unwrap_or (option_map (base_of a) o) a)
    by None q = sym (ap (λ p. not (is_some (option_and_then range_of p))) q)
    by (Some integer) q = sym (ap (λ p. not (is_some (option_and_then range_of p))) q)
    by (Some char) q = sym (ap (λ p. not (is_some (option_and_then range_of p))) q)
    by (Some boolean) q = sym (ap (λ p. not (is_some (option_and_then range_of p))) q)
    by (Some (listed n)) q = sym (ap (λ p. not (is_some (option_and_then range_of p))) q)
    by (Some (sub b r)) q = sym (h.each a (sub b r) q).0
    by (Some (row i e)) q = sym (ap (λ p. not (is_some (option_and_then range_of p))) q)
    by (Some (fields fs)) q = sym (ap (λ p. not (is_some (option_and_then range_of p))) q)

base_cells : (s : Scene) (a : ℕ) → TableKeeps s.shapes → cells_at s.shapes a ≡ cells_at s.shapes (base_at s.shapes a)
base_cells s a h = by (slice_get s.shapes a) refl
  where
    by : (o : Option PlainShape) → slice_get s.shapes a ≡ o
        → cells_at s.shapes a ≡ cells_at s.shapes (unwrap_or (option_map (base_of a) o) a)
    by None q = refl
    by (Some integer) q = refl
    by (Some char) q = refl
    by (Some boolean) q = refl
    by (Some (listed n)) q = refl
    by (Some (sub b r)) q = simple_cells s a (ap (λ p. not (is_some (option_and_then range_of p))) q)
        ∙ sym (simple_cells s b (h.each a (sub b r) q).0)
    by (Some (row i e)) q = refl
    by (Some (fields fs)) q = refl

size_same : (o : Option Range) → not (is_some o) ≡ false → size_of o ≡ range_size (unwrap_or o whole_range)
size_same None h = absurd (let bad : true ≡ false = h in cc)
size_same (Some r) h = refl

row_fits : (t : List PlainShape) (a i e : ℕ) → TableKeeps t → option_and_then row_of (slice_get t a) ≡ Some (i, e)
    → (structured_in t i ≡ false) × (range_size (unwrap_or (range_at t i) whole_range) * cells_at t e ≤ cells_at t a)
row_fits t a i e h = by (slice_get t a) refl
  where
    made : (j f : ℕ) → slice_get t a ≡ Some (row j f) → (structured_in t j ≡ false)
        × (range_size (unwrap_or (range_at t j) whole_range) * cells_at t f ≤ cells_at t a)
    made j f q =
        let k = h.each a (row j f) q in
        (k.0, subst (λ n. n * cells_at t f ≤ cells_at t a) (size_same (range_at t j) k.0) k.2)

    by : (o : Option PlainShape) → slice_get t a ≡ o → option_and_then row_of o ≡ Some (i, e)
        → (structured_in t i ≡ false) × (range_size (unwrap_or (range_at t i) whole_range) * cells_at t e ≤ cells_at t a)
    by None q p = absurd (cc)
    by (Some integer) q p = absurd (cc)
    by (Some char) q p = absurd (cc)
    by (Some boolean) q p = absurd (cc)
    by (Some (listed n)) q p = absurd (cc)
    by (Some (sub b r)) q p = absurd (cc)
    by (Some (row j f)) q p =
        let first : j ≡ i = ap (λ (x : Option (ℕ × ℕ)). (unwrap_or x (0, 0)).0) p in
        let second : f ≡ e = ap (λ (x : Option (ℕ × ℕ)). (unwrap_or x (0, 0)).1) p in
        subst (λ n. (structured_in t n ≡ false) × (range_size (unwrap_or (range_at t n) whole_range) * cells_at t e ≤ cells_at t a)) first
        (subst (λ n. (structured_in t j ≡ false) × (range_size (unwrap_or (range_at t j) whole_range) * cells_at t n ≤ cells_at t a)) second
        (made j f q))
    by (Some (fields fs)) q p = absurd (cc)

named_fits : (t : List PlainShape) (n : ℕ) (name : List ℕ) (fs : List PlainField) (o f : ℕ) → AllByRecursion (FieldKeeps t n) fs
    → field_named name fs ≡ Some (o, f) → (f < length t) × (o + cells_at t f ≤ n)
named_fits t n name [] o f h e = absurd (cc)
named_fits t n name (x ∷ xs) o f h e = by (bytes_eq x.name name) e (λ p. named_fits t n name xs o f h.1 p)
  where
    by : (c : Bool) → (if c then Some (x.offset, x.shape) else field_named name xs) ≡ Some (o, f)
        → (field_named name xs ≡ Some (o, f) → (f < length t) × (o + cells_at t f ≤ n)) → (f < length t) × (o + cells_at t f ≤ n)
    by true p rest =
        let first : x.offset ≡ o = ap (λ (y : Option (ℕ × ℕ)). (unwrap_or y (0, 0)).0) p in
        let second : x.shape ≡ f = ap (λ (y : Option (ℕ × ℕ)). (unwrap_or y (0, 0)).1) p in
        subst (λ m. (m < length t) × (o + cells_at t m ≤ n)) second
        (subst (λ m. (x.shape < length t) × (m + cells_at t x.shape ≤ n)) first h.0)
    by false p rest = rest p

field_fits : (t : List PlainShape) (name : List ℕ) (a o f : ℕ) → TableKeeps t → field_at name (slice_get t a) ≡ Some (o, f)
    → o + cells_at t f ≤ cells_at t a
field_fits t name a o f h = by (slice_get t a) refl
  where
    by : (x : Option PlainShape) → slice_get t a ≡ x → field_at name x ≡ Some (o, f) → o + cells_at t f ≤ cells_at t a
    by None q p = absurd (cc)
    by (Some integer) q p = absurd (cc)
    by (Some char) q p = absurd (cc)
    by (Some boolean) q p = absurd (cc)
    by (Some (listed n)) q p = absurd (cc)
    by (Some (sub b r)) q p = absurd (cc)
    by (Some (row j g)) q p = absurd (cc)
    by (Some (fields fs)) q p = (named_fits t (cells_at t a) name fs o f (h.each a (fields fs) q) p).1

whole_ordered : IsOrdered whole_range
whole_ordered = omega (arith, ints)

pub ordered_at : (t : List PlainShape) (a : ℕ) → TableKeeps t → IsOrdered (unwrap_or (range_at t a) whole_range)
ordered_at t a h = by (slice_get t a) refl
  where
    by : (o : Option PlainShape) → slice_get t a ≡ o → IsOrdered (unwrap_or (option_and_then range_of o) whole_range)
    by None q = whole_ordered
    by (Some integer) q = whole_ordered
    by (Some char) q = omega (arith, ints)
    by (Some boolean) q = omega (arith, ints)
    by (Some (listed n)) q = let some : 0 < n = h.each a (listed n) q in omega (arith, ints, some)
    by (Some (sub b r)) q = (h.each a (sub b r) q).1
    by (Some (row i e)) q = whole_ordered
    by (Some (fields fs)) q = whole_ordered

pub table_fits : (s : Scene) → TableKeeps s.shapes → TableFits s.shapes
table_fits s h = record {
  simple = λ a e. simple_cells s a e;
  rows = λ a i e q. (row_fits s.shapes a i e h q).1;
  indices = λ a i e q. (row_fits s.shapes a i e h q).0;
  fields = λ name a o f q. field_fits s.shapes name a o f h q;
  alike = λ a b e. base_structured s.shapes a h ∙ (ap (λ n. structured_in s.shapes n) e ∙ sym (base_structured s.shapes b h));
  same = λ a b e. base_cells s a h ∙ (ap (λ n. cells_at s.shapes n) e ∙ sym (base_cells s b h));
  basic = λ a lt. base_structured s.shapes a h ∙ h.firsts (base_at s.shapes a) lt;
  firsts = h.firsts;
  ordered = λ a. ordered_at s.shapes a h;
}
