-- A table of shapes as a list of plain shapes, in which a shape's number is its place, and what each shape holds.
use Rattle.std.specs.Prelude.{◌≢◌, ℕ, ◌+◌, ◌*◌, ◌<◌, ◌≤◌, pos, ◌-ℤ◌, ◌≤ℤ◌, nat_lt, Bool, true, false, ◌||◌, IsTrue, IsFalse, List, []}
use Rattle.std.specs.Prelude.{◌∷◌, ◌++◌, map, get_or, slice_get, AllPairs, bytes_eq, Option, None, Some, IsSomeAnd, option_map}
use Rattle.std.specs.Prelude.{option_and_then, unwrap_or, Result, Ok, Err, if◌then◌else◌}
use Rattle.alma_base.specs.Limits.{cell_limit}
use Rattle.alma_base.specs.Numbers.{range_size, whole_range, char_range}
use Rattle.alma_base.specs.declared.number.Range.{Range}
use Rattle.alma_names.specs.declared.shapes.FieldOf.{FieldOf}
use Rattle.alma_names.specs.declared.shapes.Shape.{Shape}
use Rattle.alma_names.specs.declared.shapes.Shape.TheVariants as shape
use Rattle.alma_names.specs.declared.shapes.ShapeId.{ShapeId}
use Rattle.alma_names.specs.declared.shapes.ShapeError.{ShapeError}
use Rattle.alma_names.specs.declared.shapes.ShapeError.TheVariants.{TooLarge, Memory}

-- a field of a record: its name, the cells of the fields before it, and the number of its shape
pub record PlainField : Type 0 where
  pub name : List ℕ
  pub offset : ℕ
  pub shape : ℕ

-- the shape of a type: listed is an enumeration, sub a subrange, row an array, fields a record
pub data PlainShape : Type 0 where
  integer : PlainShape
  char : PlainShape
  boolean : PlainShape
  listed : (count : ℕ) → PlainShape
  sub : (base : ℕ) → (range : Range) → PlainShape
  row : (index element : ℕ) → PlainShape
  fields : List PlainField → PlainShape

-- the field that one of the code stands for
abbrev pub field_of : FieldOf → PlainField
field_of f = record { name = f.name.items; offset = f.offset; shape = f.shape.0 }

-- the fields that those of the code stand for
abbrev pub fields_of : List FieldOf → List PlainField
fields_of [] = []
fields_of (f ∷ fs) = field_of f ∷ fields_of fs

-- the shape that one of the code stands for
abbrev pub plain_of : Shape → PlainShape
plain_of shape.Integer = integer
plain_of shape.Char = char
plain_of shape.Boolean = boolean
plain_of (shape.Listed n) = listed n
plain_of (shape.Sub b r) = sub b.0 r
plain_of (shape.Row i e) = row i.0 e.0
plain_of (shape.Fields fs) = fields (fields_of fs.items)

-- the table that a list of shapes of the code stands for
abbrev pub table_of : List Shape → List PlainShape
table_of [] = []
table_of (s ∷ ss) = plain_of s ∷ table_of ss

-- the number of INTEGER in each table
abbrev pub integer_shape : ℕ
integer_shape = 0

-- the number of CHAR in each table
abbrev pub char_shape : ℕ
char_shape = 1

-- the number of BOOLEAN in each table
abbrev pub boolean_shape : ℕ
boolean_shape = 2

-- the table that each begins with, in which INTEGER, CHAR and BOOLEAN stand by their numbers
abbrev pub first_shapes : List PlainShape
first_shapes = integer ∷ char ∷ boolean ∷ []

-- the numbers of the values of a simple shape; rows and records have none
abbrev pub range_of : PlainShape → Option Range
range_of integer = Some whole_range
range_of char = Some char_range
range_of boolean = Some (record { low = pos 0; high = pos 1 })
range_of (listed n) = Some (record { low = pos 0; high = pos n -ℤ pos 1 })
range_of (sub b r) = Some r
range_of s = None

-- the numbers of the values of the shape that has this number in the table
abbrev pub range_at : List PlainShape → ℕ → Option Range
range_at t id = option_and_then range_of (slice_get t id)

-- the base type of a shape, whose number is id: a subrange names it, any other shape is its own
abbrev pub base_of : ℕ → PlainShape → ℕ
base_of id (sub b r) = b
base_of id s = id

-- the base type of the shape of a number
abbrev pub base_at : List PlainShape → ℕ → ℕ
base_at t id = unwrap_or (option_map (base_of id) (slice_get t id)) id

-- the number of values of a range; a structured shape has none
abbrev pub size_of : Option Range → ℕ
size_of None = 0
size_of (Some r) = range_size r

-- the number of values of the shape of a number: as an index it gives a row so many elements
abbrev pub values_at : List PlainShape → ℕ → ℕ
values_at t id = size_of (range_at t id)

-- the number of cells of all fields, where the shapes have the cells cs
abbrev pub sum_of_cells : List ℕ → List PlainField → ℕ
sum_of_cells cs [] = 0
sum_of_cells cs (f ∷ fs) = get_or cs f.shape 0 + sum_of_cells cs fs

-- the number of cells of a shape over a table whose shapes have the cells cs
abbrev pub cells_in : List PlainShape → List ℕ → PlainShape → ℕ
cells_in t cs (row i e) = values_at t i * get_or cs e 0
cells_in t cs (fields fs) = sum_of_cells cs fs
cells_in t cs s = 1

-- the number of cells of each shape of a table, in order: each over the shapes t before it, which have the cells cs
abbrev pub cell_counts_from : List PlainShape → List ℕ → List PlainShape → List ℕ
cell_counts_from t cs [] = cs
cell_counts_from t cs (s ∷ rest) = cell_counts_from (t ++ s ∷ []) (cs ++ cells_in t cs s ∷ []) rest

-- the number of cells of each shape of a table, in order
unfoldable pub cell_counts : List PlainShape → List ℕ
cell_counts t = cell_counts_from [] [] t

-- the number of cells of the shape of a number
abbrev pub cells_at : List PlainShape → ℕ → ℕ
cells_at t id = get_or (cell_counts t) id 0

-- the number of elements of a row
abbrev pub elements : List PlainShape → PlainShape → ℕ
elements t (row i e) = values_at t i
elements t s = 0

-- the shape has too many cells or, a row, too many elements
abbrev pub is_too_large : List PlainShape → PlainShape → Bool
is_too_large t s = nat_lt cell_limit (elements t s) || nat_lt cell_limit (cells_in t (cell_counts t) s)

-- each field's shape has a number below n
abbrev pub AllBelow : ℕ → List PlainField → Type 0
AllBelow n [] = Unit {0}
AllBelow n (f ∷ fs) = (f.shape < n) × AllBelow n fs

-- the shape is made only of shapes with numbers below n
abbrev pub NamesOnlyBelow : ℕ → PlainShape → Type 0
NamesOnlyBelow n (sub b r) = b < n
NamesOnlyBelow n (row i e) = (i < n) × (e < n)
NamesOnlyBelow n (fields fs) = AllBelow n fs
NamesOnlyBelow n s = Unit {0}

-- what may index a row: a simple shape other than INTEGER itself
abbrev pub is_index : PlainShape → Bool
is_index integer = false
is_index (row i e) = false
is_index (fields fs) = false
is_index s = true

-- what may be the base of a subrange: a simple shape that is no subrange
abbrev pub is_base : PlainShape → Bool
is_base (sub b r) = false
is_base (row i e) = false
is_base (fields fs) = false
is_base s = true

-- the inner range has its low end at or below its high end, and lies within the outer one
pub record LiesIn (inner outer : Range) : Type 0 where
  pub ordered : inner.low ≤ℤ inner.high
  pub low : outer.low ≤ℤ inner.low
  pub high : inner.high ≤ℤ outer.high

-- the shape may be the base of a subrange with this range
pub record IsBaseOf (range : Range) (s : PlainShape) : Type 0 where
  pub base : IsTrue (is_base s)
  pub within : IsSomeAnd (range_of s) (λ r. LiesIn range r)

-- the shape of a number may be the base of a subrange with this range
abbrev pub IsBaseFor : List PlainShape → ℕ → Range → Type 0
IsBaseFor t id range = IsSomeAnd (slice_get t id) (λ s. IsBaseOf range s)

-- the index shape of a row may index one
abbrev pub HasIndex : List PlainShape → PlainShape → Type 0
HasIndex t (row i e) = IsSomeAnd (slice_get t i) (λ s. IsTrue (is_index s))
HasIndex t s = Unit {0}

-- an enumeration has a name
abbrev pub HasCount : PlainShape → Type 0
HasCount (listed n) = 1 ≤ n
HasCount s = Unit {0}

-- the base of a subrange may be one, with its range
abbrev pub HasBase : List PlainShape → PlainShape → Type 0
HasBase t (sub b r) = IsBaseFor t b r
HasBase t s = Unit {0}

-- the names of fields, in order
abbrev pub names_of : List PlainField → List (List ℕ)
names_of fs = map (λ f. f.name) fs

-- the fields of a record have different names
abbrev pub HasDistinctNames : PlainShape → Type 0
HasDistinctNames (fields fs) = AllPairs (λ a b. a ≢ b) (names_of fs)
HasDistinctNames s = Unit {0}

-- the five rules above hold of the shape of number n in a table
pub record IsShapeAt (t : List PlainShape) (n : ℕ) (s : PlainShape) : Type 0 where
  pub names : NamesOnlyBelow n s
  pub index : HasIndex t s
  pub count : HasCount s
  pub base : HasBase t s
  pub fields : HasDistinctNames s

-- each field stands behind the cells of those before it, the first at the offset
abbrev pub place_fields : List ℕ → ℕ → List PlainField → List PlainField
place_fields cs offset [] = []
place_fields cs offset (f ∷ fs) = record { name = f.name; offset = offset; shape = f.shape } ∷ place_fields cs
    (offset + get_or cs f.shape 0) fs

-- a record with its fields placed from 0 on, and any other shape as it is
abbrev pub placed_shape : List ℕ → PlainShape → PlainShape
placed_shape cs (fields fs) = fields (place_fields cs 0 fs)
placed_shape cs s = s

-- a shape that is too large is refused, and only such a one is refused as too large
abbrev pub Refuses : Bool → Result ShapeId ShapeError → Type 0
Refuses large (Ok id) = IsFalse large
Refuses large (Err TooLarge) = IsTrue large
Refuses large (Err Memory) = IsFalse large

-- the offset and the shape of the field of a name, among fields
abbrev pub field_named : List ℕ → List PlainField → Option (ℕ × ℕ)
field_named name [] = None
field_named name (f ∷ fs) = if bytes_eq f.name name then Some (f.offset, f.shape) else field_named name fs

-- the same in a shape: only records have fields
abbrev pub field_in : List ℕ → PlainShape → Option (ℕ × ℕ)
field_in name (fields fs) = field_named name fs
field_in name s = None

-- the same where there is a shape
abbrev pub field_at : List ℕ → Option PlainShape → Option (ℕ × ℕ)
field_at name s = option_and_then (field_in name) s
