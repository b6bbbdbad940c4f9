-- What a table of shapes keeps beside its list, and how its code counts.
use Rattle.std.specs.Global.{Global}
use Rattle.std.specs.Prelude.{◌≡◌, ℕ, ◌≤◌, List, [], length, All, map, Some, ◌<◌, Option, MatchOption, slice_get, Vec}
use Rattle.std.specs.HashMap.{HashMap}
use Rattle.alma_base.specs.Limits.{cell_limit}
use Rattle.alma_names.specs.declared.shapes.ShapeId.{ShapeId}
use Rattle.alma_names.specs.Shapes.{PlainField, PlainShape, fields, cell_counts, IsShapeAt}

-- a number of cells that a shape may have
abbrev pub IsSmall : ℕ → Type 0
IsSmall n = n ≤ cell_limit

-- cs is the number of cells of each shape, none is too many, and the five conditions of `add` hold of each shape
pub record IsTable (t : List PlainShape) (cs : List ℕ) : Type 0 where
  pub counted : cs ≡ cell_counts t
  pub long : length cs ≡ length t
  pub small : All IsSmall cs
  pub shapes : (n : ℕ) (s : PlainShape) → slice_get t n ≡ Some s → IsShapeAt t n s

-- the field that an entry of an index stands for: the key is its name, and the value its offset and its shape
abbrev pub indexed_field : Vec ℕ Global × (ℕ × ShapeId) → PlainField
indexed_field e = record { name = e.0.items; offset = e.1.0; shape = e.1.1.0 }

-- the fields of an index, in order
abbrev pub indexed_fields : {S : Type 0} → HashMap (Vec ℕ Global) (ℕ × ShapeId) S → List PlainField
indexed_fields m = map indexed_field m.entries

-- the fields of a shape, in order: only a record has any
abbrev pub fields_in : PlainShape → List PlainField
fields_in (fields fs) = fs
fields_in s = []

-- a table with its cells cs, and with the fields of each shape in its index
pub record IsIndexedTable (t : List PlainShape) (cs : List ℕ) (indexes : List (List PlainField)) : Type 0 where
  pub table : IsTable t cs
  pub indexed : indexes ≡ map fields_in t

-- the number n, or nothing where it is past the limit
abbrev pub CountsUpToLimit : Option ℕ → ℕ → Type 0
CountsUpToLimit answer n = MatchOption answer (cell_limit < n) (λ m. (m ≡ n) × (m ≤ cell_limit))
