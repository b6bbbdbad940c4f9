-- The fields of an index, and the entries of its map.
use Rattle.std.proofs.Common.{◌≡◌, ◌≢◌, ℕ, ◌<◌, ◌≤◌, List, [], ◌∷◌, ◌++◌, Option, None, Some, IfSome, Bool, true, false, cond}
use Rattle.std.proofs.Common.{if◌then◌else◌, Vec, Global, length, map, slice_get, get_or, take, AllPairs, refl, ap, sym, ◌∙◌, arith, suc}
use Rattle.std.proofs.Common.{zero}
use Rattle.std.specs.Prelude.{bytes_eq}
use Rattle.std.specs.Option.{option_map}
use Rattle.std.specs.Map.{lookup}
use Rattle.std.proofs.lemmas.List.{map-append}
use Rattle.std.proofs.lemmas.Slice.Eq.{bytes_eq-Decides}
use Rattle.indexmap.specs.IndexMap.{insert_entry}
use Rattle.alma_names.specs.declared.shapes.FieldOf.{FieldOf}
use Rattle.alma_names.specs.declared.shapes.Shape.{Shape}
use Rattle.alma_names.specs.declared.shapes.ShapeId.{ShapeId}
use Rattle.alma_base.specs.Limits.{cell_limit}
use Rattle.alma_names.specs.Shapes.{PlainField, PlainShape, fields, fields_of, names_of, field_named, AllBelow, NamesOnlyBelow, HasIndex}
use Rattle.alma_names.specs.Shapes.{HasCount, HasBase, HasDistinctNames, placed_shape, plain_of, table_of, first_shapes, cells_in}
use Rattle.alma_names.specs.Shapes.{cell_counts}
use Rattle.alma_names.specs.Table.{IsIndexedTable, indexed_field, fields_in}
use Rattle.alma_names.proofs.Added.{added}
use Rattle.alma_names.proofs.Placing.{field_below, table_added, placed_names}
use Rattle.alma_names.proofs.Tables.{table_push, first_table}

-- an entry of the map of an index
abbrev Entry : Type 0
Entry = Vec ℕ Global × (ℕ × ShapeId)

-- the offset of a field and the number of its shape
abbrev place_of : ℕ × ShapeId → ℕ × ℕ
place_of v = (v.0, v.1.0)

-- a key is the name
abbrev is_named : List ℕ → Vec ℕ Global → Bool
is_named name k = bytes_eq name k.items

bytes_swap : (a b : List ℕ) → bytes_eq a b ≡ bytes_eq b a
bytes_swap a b = by (bytes_eq a b) (bytes_eq b a) (bytes_eq-Decides a b).0 (bytes_eq-Decides a b).1 (bytes_eq-Decides b a).0
    (bytes_eq-Decides b a).1
  where
    by : (x y : Bool) → (x ≡ true → a ≡ b) → (a ≡ b → x ≡ true) → (y ≡ true → b ≡ a) → (b ≡ a → y ≡ true) → x ≡ y
    by true y p p' q q' = sym (q' (sym (p refl)))
    by false true p p' q q' = p' (sym (q refl))
    by false false p p' q q' = refl

bytes_apart : (a b : List ℕ) → a ≢ b → bytes_eq a b ≡ false
bytes_apart a b n = by (bytes_eq a b) (bytes_eq-Decides a b).0
  where
    by : (x : Bool) → (x ≡ true → a ≡ b) → x ≡ false
    by true p = absurd (n (p refl))
    by false p = refl

-- what a look-up in the map says of the fields
looked_up : (name : List ℕ) (es : List Entry) → option_map place_of (lookup (is_named name) es) ≡ field_named name (map indexed_field es)
looked_up name [] = refl
looked_up name (e ∷ es) =
    rw (bytes_swap e.0.items name)
    (elim (bytes_eq name e.0.items) as (λ b. option_map place_of
    (cond b (Some e.1) (lookup (is_named name) es)) ≡ (if b then Some (place_of e.1) else field_named name (map indexed_field es)))
    [ true ↦ refl | false ↦ looked_up name es ])

-- a look-up in the map of an index of the fields fs
module _ (name : List ℕ) (es : List Entry) (fs : List PlainField) (v : map indexed_field es ≡ fs) where
  pub look_up : (r : Option (ℕ × ShapeId)) → r ≡ lookup (is_named name) es → option_map place_of r ≡ field_named name fs
  look_up r h = rw (← v, h) (looked_up name es)

  missed : field_named name fs ≡ None → lookup (is_named name) es ≡ None
  missed h = by (lookup (is_named name) es) (looked_up name es ∙ rw (v) h)
    where
      by : (o : Option (ℕ × ShapeId)) → option_map place_of o ≡ None → o ≡ None
      by None p = refl
      by (Some x) p = absurd (cc)

  -- the fields after an insertion of a name that they did not have
  pub pushed : (key : Vec ℕ Global) (x : ℕ × ShapeId) → field_named name fs ≡ None → key.items ≡ name → (new : List Entry)
      → new ≡ insert_entry (λ a b. bytes_eq a.items b.items) es key x
      → map indexed_field new ≡ fs ++ record { name = name; offset = x.0; shape = x.1.0 } ∷ []
  pushed key x none is new h =
      let same : lookup (is_named key.items) es ≡ None = rw is (missed none) in
      rw (h, added (λ a b. bytes_eq a.items b.items) key x es same, map-append indexed_field es _, v, is) refl

name_there : (fs : List FieldOf) (k : ℕ) (d : FieldOf) → k < length fs → get_or (names_of (fields_of fs)) k [] ≡ (get_or fs k d).name.items
name_there [] k d lt = absurd (omega arith)
name_there (f ∷ fs) zero d lt = refl
name_there (f ∷ fs) (suc k) d lt = name_there fs k d (omega arith)

names_len : (fs : List FieldOf) → length (names_of (fields_of fs)) ≡ length fs
names_len [] = refl
names_len (f ∷ fs) = ap suc (names_len fs)

-- where the names differ, that of a field is not among those before it
name_at_is_new : (fs : List FieldOf) (k : ℕ) (d : FieldOf) → k < length fs → AllPairs (λ a b. a ≢ b) (names_of (fields_of fs))
    → field_named (get_or fs k d).name.items (fields_of (take k fs)) ≡ None
name_at_is_new [] k d lt h = absurd (omega arith)
name_at_is_new (f ∷ fs) zero d lt h = refl
name_at_is_new (f ∷ fs) (suc k) d lt h =
    let apart : f.name.items ≢ (get_or fs k d).name.items =
    λ e. h 0 (suc k) [] (omega arith) (omega (arith, names_len fs)) (e ∙ sym (name_there fs k d (omega arith))) in
    rw (bytes_apart f.name.items (get_or fs k d).name.items apart)
    (name_at_is_new fs k d (omega arith) (λ i j x below within. h (suc i) (suc j) x (omega arith) (omega arith)))

pub name_is_new : (fs : List FieldOf) (k : ℕ) (f : FieldOf) → k < length fs → f ≡ get_or fs k f
    → AllPairs (λ a b. a ≢ b) (names_of (fields_of fs)) → field_named f.name.items (fields_of (take k fs)) ≡ None
name_is_new fs k f lt is h = ap (λ x. field_named x.name.items (fields_of (take k fs))) is ∙ name_at_is_new fs k f lt h

fields_below : (n : ℕ) (s : PlainShape) → NamesOnlyBelow n s → AllBelow n (fields_in s)
fields_below n (fields fs) h = h
fields_below n s h = tt

-- the shape of a number, and the fields in its index
shape_of_index : (t : List PlainShape) (n : ℕ) (d : List PlainField) → n < length t → (s : PlainShape) × (slice_get t n ≡ Some s)
    × (get_or (map fields_in t) n d ≡ fields_in s)
shape_of_index [] n d lt = absurd (omega arith)
shape_of_index (s ∷ t) zero d lt = (s, refl, refl)
shape_of_index (s ∷ t) (suc n) d lt = shape_of_index t n d (omega arith)

-- a field that a look-up in the index of a shape finds has a shape from before
module _ (t u : List PlainShape) (cs : List ℕ) (is : List (List PlainField)) (k : IsIndexedTable u cs is) (v : u ≡ t) (n : ℕ)
    (d : List PlainField) (lt : n < length t) (name : List ℕ) (r : Option (ℕ × ShapeId))
    (e : option_map place_of r ≡ field_named name (get_or is n d)) where
  shape : (s : PlainShape) × (slice_get t n ≡ Some s) × (get_or (map fields_in t) n d ≡ fields_in s)
  shape = shape_of_index t n d lt

  indexed : get_or is n d ≡ fields_in shape.0
  indexed = ap (λ l. get_or l n d) (k.indexed ∙ ap (map fields_in) v) ∙ shape.2

  pub field_within : IfSome r (λ f. f.1.0 < n)
  field_within = field_below n name (fields_in shape.0) r
      (fields_below n shape.0 (k.table.shapes n shape.0 (ap (λ w. slice_get w n) v ∙ shape.1)).names) (e ∙ ap (field_named name) indexed)

-- the table of INTEGER, CHAR and BOOLEAN, which have no fields
pub first_indexed_table : IsIndexedTable first_shapes (1 ∷ 1 ∷ 1 ∷ []) ([] ∷ [] ∷ [] ∷ [])
first_indexed_table = record { table = first_table; indexed = refl }

-- a table with one more shape, whose offsets were set, and its index
pub indexed_table_added : (t : List PlainShape) (ss : List Shape) (cs : List ℕ) (is : List (List PlainField)) (s : PlainShape) (x : Shape)
    (n : ℕ) (fs : List PlainField) → IsIndexedTable (table_of ss) cs is → table_of ss ≡ t
    → NamesOnlyBelow (length t) s → HasIndex t s → HasCount s → HasBase t s → HasDistinctNames s
    → plain_of x ≡ placed_shape (cell_counts t) s → n ≡ cells_in t (cell_counts t) s → n ≤ cell_limit → fs ≡ fields_in (plain_of x)
    → IsIndexedTable (table_of (ss ++ x ∷ [])) (cs ++ n ∷ []) (is ++ fs ∷ [])
indexed_table_added t ss cs is s x n fs k v a b c d e p m le f = record {
  table = table_added t ss cs s x n k.table v a b c d e p m le;
  indexed = rw (table_push ss x, map-append fields_in (table_of ss) (plain_of x ∷ []), k.indexed, f) refl;
}

-- a shape whose names differ has different ones also where its offsets are set
pub placed_distinct : (cs : List ℕ) (s : PlainShape) → HasDistinctNames s → HasDistinctNames (placed_shape cs s)
placed_distinct cs (fields fs) h = rw (placed_names cs 0 fs) h
placed_distinct cs s h = h
