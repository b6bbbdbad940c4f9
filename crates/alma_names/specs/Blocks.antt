-- A block as the list of its declarations, in their order and with different names, and what a look-up finds in it.
use Rattle.std.specs.Global.{Global}
use Rattle.std.specs.Prelude.{ℕ, pos, Bool, false, if◌then◌else◌, nat_le, List, [], ◌∷◌, map, slice_get, position, bytes_eq, codes, Option}
use Rattle.std.specs.Prelude.{None, Some, option_and_then, Vec}
use Rattle.std.specs.HashMap.{HashMap}
use Rattle.alma_names.specs.declared.block.Declaration.{Declaration}
use Rattle.alma_names.specs.declared.block.Entry.{Entry}
use Rattle.alma_names.specs.declared.block.Entry.TheVariants.{Constant, Named, Bad}
use Rattle.alma_names.specs.declared.shapes.ShapeId.{ShapeId}
use Rattle.alma_names.specs.Shapes.{integer_shape, char_shape, boolean_shape}

-- a declared name, the token from which on it is visible, and what it stands for
pub record DeclaredName : Type 0 where
  pub name : List ℕ
  pub from : ℕ
  pub entry : Entry

-- one declaration of a map from names, with its name
abbrev pub declared_of : Vec ℕ Global × Declaration → DeclaredName
declared_of e = record { name = e.0.items; from = e.1.from; entry = e.1.entry }

-- the declarations of a map from names, in the order in which they were made
abbrev pub block_of : {S : Type 0} → HashMap (Vec ℕ Global) Declaration S → List DeclaredName
block_of m = map declared_of m.entries

-- the shape of this number in a table
abbrev pub shape_id : ℕ → ShapeId
shape_id n = record { 0 = n }

-- the names that stand outside each module, visible at each token: three types and two constants
abbrev pub predeclared : List DeclaredName
predeclared =
    record { name = codes "INTEGER"; from = 0; entry = Named (shape_id integer_shape) }
    ∷ record { name = codes "CHAR"; from = 0; entry = Named (shape_id char_shape) }
    ∷ record { name = codes "BOOLEAN"; from = 0; entry = Named (shape_id boolean_shape) }
    ∷ record { name = codes "TRUE"; from = 0; entry = Constant (shape_id boolean_shape) (pos 1) }
    ∷ record { name = codes "FALSE"; from = 0; entry = Constant (shape_id boolean_shape) (pos 0) }
    ∷ []

-- the place of a name in a block
abbrev pub place : List ℕ → List DeclaredName → Option ℕ
place name b = position (λ d. bytes_eq name d.name) b

-- the declaration is visible at the token
abbrev pub is_visible : ℕ → Option DeclaredName → Bool
is_visible at None = false
is_visible at (Some d) = nat_le d.from at

-- the place i, where the declaration there is visible at the token
abbrev pub visible_place : ℕ → List DeclaredName → ℕ → Option ℕ
visible_place at b i = if is_visible at (slice_get b i) then Some i else None

-- the place of a name in a block, where it is visible at the token
abbrev pub seen : List ℕ → ℕ → List DeclaredName → Option ℕ
seen name at b = option_and_then (visible_place at b) (place name b)

-- what a declaration stands for; what is not declared is Bad
abbrev pub entry_in : Option DeclaredName → Entry
entry_in None = Bad
entry_in (Some d) = d.entry
