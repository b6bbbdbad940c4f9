-- What the tables of shapes take, and the names of an enumeration.
use Rattle.std.specs.Global.{Global}
use Rattle.std.specs.Prelude.{ℕ, Bool, true, false, List, map, slice_get, Option, None, Some, Vec}
use Rattle.alma_names.specs.Shapes.{PlainShape, PlainField, is_index}
use Rattle.alma_rules.specs.Types.{ShapeOrLimit, formed, too_large}

-- P where the flag is true, and else what always holds
abbrev pub Shows : Bool → Type 0 → Type 0
Shows true P = P
Shows false P = Unit {0}

-- there is a shape, and it may index an array
abbrev pub may_index_as : Option PlainShape → Bool
may_index_as None = false
may_index_as (Some s) = is_index s

-- the shape of this number is in the table, and may index an array
abbrev pub may_index : List PlainShape → ℕ → Bool
may_index t i = may_index_as (slice_get t i)

-- the field of a name with a shape, not placed yet
abbrev pub field_view : Vec ℕ Global × ℕ → PlainField
field_view e = record { name = e.0.items; offset = 0; shape = e.1 }

-- the fields of names with their shapes, in order
abbrev pub fields_view : List (Vec ℕ Global × ℕ) → List PlainField
fields_view es = map field_view es

-- ---- enumerations

-- the shape, where it is not past a limit
abbrev pub shape_of_formed : ShapeOrLimit → Option ℕ
shape_of_formed (formed shape) = Some shape
shape_of_formed too_large = None
