-- Types: the rules broken in a type expression, the names and shapes that it declares, and its shape.
use Rattle.std.specs.Prelude.{ℕ, ◌+◌, ℤ, pos, Bool, true, false, ◌&&◌, ◌||◌, not, nat_eq, if◌then◌else◌, List, [], ◌∷◌, ◌++◌, length}
use Rattle.std.specs.Prelude.{bytes_eq, Option, None, Some, option_map}
use Rattle.alma_base.specs.declared.fault.CheckFault.{CheckFault}
use Rattle.alma_base.specs.declared.fault.CheckFault.TheVariants as fault
use Rattle.alma_base.specs.Choice.{if_true}
use Rattle.alma_names.specs.declared.block.Entry.{Entry}
use Rattle.alma_names.specs.declared.block.Entry.TheVariants as entry
use Rattle.alma_names.specs.Shapes.{PlainShape, PlainField, listed, sub, row, fields, is_too_large, placed_shape, cell_counts}
use Rattle.alma_names.specs.Shapes.{integer_shape}
use Rattle.alma_names.specs.Blocks.{shape_id}
use Rattle.alma_names.specs.Scopes.{with_declared}
use Rattle.alma_rules.specs.Numbered as tree
use Rattle.alma_rules.specs.Judgement.{BrokenRule, Judgement, broken_at, unless, if_unbroken, both_of, when, holds}
use Rattle.alma_rules.specs.Scene.{Scene, Found, absent, bad, named, found, text_at, base, is_structured, is_first, in_constant}
use Rattle.alma_rules.specs.Parts.{Typing}
use Rattle.alma_rules.specs.ExprRules.{undeclared}
use Rattle.alma_rules.specs.StmtRules.{is_above}
use Rattle.alma_rules.specs.Walk.{judge_expr}

-- what a type expression gives: the rules broken in it, the scene with what it declares, and its value, or None where it is Bad
pub record Reading (A : Type 0) : Type 0 where
  pub faults : List BrokenRule
  pub scene : Scene
  pub value : Option A

-- a value with which no rule is broken and nothing is declared
abbrev pub gives : {A : Type 0} → Scene → A → Reading A
gives s x = record { faults = []; scene = s; value = Some x }

-- the rules of a node
abbrev pub reading_at : {A : Type 0} → ℕ → (Option A → List CheckFault) → Reading A → Reading A
reading_at n rules r =
    record { faults = r.faults ++ broken_at n (rules r.value); scene = r.scene; value = unless (rules r.value) r.value }

-- two phrases, the second read in the scene that the first leaves
abbrev pub reading_both : {A B : Type 0} → Reading A → Reading B → Reading (A × B)
reading_both a b = record { faults = a.faults ++ b.faults; scene = b.scene; value = both_of a.value b.value }

-- one phrase and then another, in the scene that the first leaves
abbrev pub reading_then : {A B : Type 0} → Reading A → (Scene → Reading B) → Reading (A × B)
reading_then a f = reading_both a (f a.scene)

-- what a function makes of the value
abbrev pub reading_with : {A B : Type 0} → (A → B) → Reading A → Reading B
reading_with f r = record { faults = r.faults; scene = r.scene; value = option_map f r.value }

-- a value that changes the scene
abbrev pub with_change : {B : Type 0} → Scene → List BrokenRule → Option (Scene × B) → Reading B
with_change s faults None = record { faults = faults; scene = s; value = None }
with_change s faults (Some p) = record { faults = faults; scene = p.0; value = Some p.1 }

-- what a function makes of the value and the scene
abbrev pub reading_change : {A B : Type 0} → (Scene → A → Scene × B) → Reading A → Reading B
reading_change f r = with_change r.scene r.faults (option_map (f r.scene) r.value)

-- what is judged of an expression, which declares nothing
abbrev pub reading_of : {A : Type 0} → Scene → Judgement A → Reading A
reading_of s j = record { faults = j.faults; scene = s; value = j.value }

-- an expression in a constant place
abbrev pub read_constant : Scene → tree.Expr → Reading Typing
read_constant s e = reading_of s (judge_expr (in_constant s) 0 e)

-- ---- declarations

-- the scene with a name, visible from a token on, where it is the first of its name in its block
abbrev pub declare_name : Scene → tree.Name → (from : ℕ) → Entry → Scene
declare_name s name from e =
    if is_first s name then record s {
      blocks =
          with_declared s.blocks (record { name = text_at s name.token; from = from; entry = e });
    } else s

-- Redeclared: a Name in a declaration whose block declares it earlier in the text
abbrev pub redeclaration_rules : Scene → tree.Name → List CheckFault
redeclaration_rules s name = when (not (is_first s name)) fault.Redeclared

-- the same, of several names, each at its node
abbrev pub redeclared_all : Scene → List tree.Name → List BrokenRule
redeclared_all s [] = []
redeclared_all s (x ∷ xs) = broken_at x.node (redeclaration_rules s x) ++ redeclared_all s xs

-- ---- the rules

-- NotType: a Name in place of a type that names no type
abbrev pub not_type : Found → Bool
not_type absent = false
not_type bad = false
not_type (named shape) = false
not_type f = true

-- the rules on a Name in place of a type
abbrev pub type_name_rules : Found → Option ℕ → List CheckFault
type_name_rules f v = when (undeclared f) fault.Undeclared ++ when (not_type f) fault.NotType

-- the shape that a name stands for, if it names a type
abbrev pub shape_in : Found → Option ℕ
shape_in (named shape) = Some shape
shape_in f = None

-- a Name in place of a type
abbrev pub read_type_name : Scene → tree.Name → Reading ℕ
read_type_name s name =
    reading_at name.node (type_name_rules (found s name)) (record { faults = []; scene = s; value = shape_in (found s name) })

-- a shape of the table, or one past a limit, which is in none
pub data ShapeOrLimit : Type 0 where
  formed : (shape : ℕ) → ShapeOrLimit
  too_large : ShapeOrLimit

-- IndexType: an index type of an array that is INTEGER itself or structured
abbrev pub bad_index : Scene → ShapeOrLimit → Bool
bad_index s (formed shape) = nat_eq shape integer_shape || is_structured s shape
bad_index s too_large = true

-- the rules on an index type
abbrev pub index_type_rules : Scene → Option ShapeOrLimit → List CheckFault
index_type_rules s v = when (holds (bad_index s) v) fault.IndexType

-- TypeMismatch: a subrange whose bounds have different bases
abbrev pub other_bounds : Scene → Typing × Typing → Bool
other_bounds s p = not (nat_eq (base s p.0.shape) (base s p.1.shape))

-- ConstRange: a subrange with low above high
abbrev pub no_subrange : Scene → Typing × Typing → Bool
no_subrange s p = nat_eq (base s p.0.shape) (base s p.1.shape) && is_above p.0.constant p.1.constant

-- the rules on a subrange
abbrev pub subrange_rules : Scene → Option (Typing × Typing) → List CheckFault
subrange_rules s v = when (holds (other_bounds s) v) fault.TypeMismatch ++ when (holds (no_subrange s) v) fault.ConstRange

-- TooLarge: a TypeNode past a limit
abbrev pub is_past : ShapeOrLimit → Bool
is_past (formed shape) = false
is_past too_large = true

-- the rules on the size of a type
abbrev pub size_rules : Option ShapeOrLimit → List CheckFault
size_rules v = when (holds is_past v) fault.TooLarge

-- ---- shapes

-- the table with one more shape, where it is not past a limit
abbrev pub add_shape : Scene → PlainShape → Scene × ShapeOrLimit
add_shape s shape = if_true (is_too_large s.shapes shape)
    (λ _. (s, too_large))
    (λ _. (record s { shapes = s.shapes ++ placed_shape (cell_counts s.shapes) shape ∷ [] }, formed (length s.shapes)))

-- the array with this index and this element
abbrev pub row_on : ℕ → Scene × ShapeOrLimit → Scene × ShapeOrLimit
row_on i (s, formed e) = add_shape s (row i e)
row_on i (s, too_large) = (s, too_large)

-- the arrays with these indices, from the inside outwards
abbrev pub rows_on : Scene → List ℕ → ShapeOrLimit → Scene × ShapeOrLimit
rows_on s [] f = (s, f)
rows_on s (i ∷ is) f = row_on i (rows_on s is f)

-- the same, of a pair
abbrev pub rows_of : Scene → List ℕ × ShapeOrLimit → Scene × ShapeOrLimit
rows_of s p = rows_on s p.0 p.1

-- the number of a shape; 0 of one past a limit
abbrev pub number_in : ShapeOrLimit → ℕ
number_in (formed shape) = shape
number_in too_large = 0

-- the subrange of this base between two values
abbrev pub subrange_from : Scene → ℕ → Option ℤ → Option ℤ → Scene × ShapeOrLimit
subrange_from s b (Some low) (Some high) = add_shape s (sub b (record { low = low; high = high }))
subrange_from s b low high = (s, too_large)

-- the subrange between two expressions
abbrev pub subrange_of : Scene → Typing × Typing → Scene × ShapeOrLimit
subrange_of s p = subrange_from s (base s p.0.shape) p.0.constant p.1.constant

-- ---- enumerations

-- each of the names is the first of its name in its block
abbrev pub all_first : Scene → List tree.Name → Bool
all_first s [] = true
all_first s (x ∷ xs) = is_first s x && all_first s xs

-- the token of the last of the names
abbrev pub last_token : tree.Name → List tree.Name → ℕ
last_token x [] = x.token
last_token x (y ∷ ys) = last_token y ys

-- the entry of the value number i of a shape; Bad where that is
abbrev pub value_entry : Option ℕ → ℕ → Entry
value_entry None i = entry.Bad
value_entry (Some shape) i = entry.Constant (shape_id shape) (pos i)

-- the names from number i on stand for the values of a shape, or are Bad; they are visible behind the closing parenthesis
abbrev pub declare_values : Scene → (from : ℕ) → Option ℕ → (i : ℕ) → List tree.Name → Scene
declare_values s from shape i [] = s
declare_values s from shape i (x ∷ xs) = declare_values (declare_name s x from (value_entry shape i)) from shape (i + 1) xs

-- an enumeration, whose names are declared with its shape, and are Bad where it is past a limit
abbrev pub listed_in : List BrokenRule → (from : ℕ) → List tree.Name → Scene × ShapeOrLimit → Reading ShapeOrLimit
listed_in faults from names (s, formed shape) =
    record { faults = faults; scene = declare_values s from (Some shape) 0 names; value = Some (formed shape) }
listed_in faults from names (s, too_large) = record { faults = faults; scene = declare_values s from None 0 names; value = Some too_large }

-- an enumeration, Bad where one of its names is not the first of its name
abbrev pub read_listed : Scene → List tree.Name → (from : ℕ) → Reading ShapeOrLimit
read_listed s names from = if_true (all_first s names)
    (λ _. listed_in [] from names (add_shape s (listed (length names))))
    (λ _. record { faults = redeclared_all s names; scene = declare_values s from None 0 names; value = None })

-- the names of a list
abbrev pub all_names : tree.Names → List tree.Name
all_names x = x.first ∷ x.more

-- ---- records

-- Redeclared: a field whose record declares it earlier in the text
abbrev pub is_field : Scene → tree.Name → List tree.Name → Bool
is_field s x [] = false
is_field s x (y ∷ ys) = bytes_eq (text_at s y.token) (text_at s x.token) || is_field s x ys

-- the rules broken at the names of fields, behind earlier ones
abbrev pub redeclared_fields : Scene → (earlier : List tree.Name) → List tree.Name → List BrokenRule
redeclared_fields s earlier [] = []
redeclared_fields s earlier (x ∷ xs) =
    broken_at x.node (when (is_field s x earlier) fault.Redeclared) ++ redeclared_fields s (earlier ++ x ∷ []) xs

-- the fields of these names and this shape; the table gives them their offsets
abbrev pub fields_with : Scene → List tree.Name → ℕ → List PlainField
fields_with s [] shape = []
fields_with s (x ∷ xs) shape = record { name = text_at s x.token; offset = 0; shape = shape } ∷ fields_with s xs shape

-- the fields of a list, Bad where one is declared twice
abbrev pub fields_of_type : Scene → List tree.Name → List BrokenRule → Reading ℕ → Reading (List PlainField)
fields_of_type s names faults t =
    record { faults = faults ++ t.faults; scene = t.scene; value = if_unbroken faults (option_map (fields_with s names) t.value) }

-- fields, and others behind them
abbrev pub joined_fields : List PlainField × List PlainField → List PlainField
joined_fields p = p.0 ++ p.1

-- the record of these fields
abbrev pub record_of : Scene → List PlainField → Scene × ShapeOrLimit
record_of s fs = add_shape s (fields fs)

-- the names of a field list
abbrev pub field_names : tree.FieldList → List tree.Name
field_names (tree.empty_fields n) = []
field_names (tree.fields n names t) = all_names names

-- indices of arrays, and others behind them
abbrev pub joined_indices : List ℕ × List ℕ → List ℕ
joined_indices p = p.0 ++ p.1

-- an index of an array in front of others
abbrev pub cons_index : ShapeOrLimit × List ℕ → List ℕ
cons_index p = number_in p.0 ∷ p.1

-- an index type
abbrev pub index_type_at : tree.PlainType → Reading ShapeOrLimit → Reading ShapeOrLimit
index_type_at p r = reading_at (tree.plain_node p) (index_type_rules r.scene) r

-- ---- the walk

unfoldable mutual
  -- a type: its shape
  pub read_type : Scene → tree.TypeNode → Reading ℕ
  read_type s (tree.type_node n dims p) =
      reading_with number_in (reading_at n size_rules (reading_change rows_of (reading_then (read_arrays s dims) (λ i. read_plain i p))))

  -- the indices of the ARRAY parts, if there are any
  pub read_arrays : Scene → tree.Arrays → Reading (List ℕ)
  read_arrays s tree.no_arrays = gives s []
  read_arrays s (tree.arrays n d rest) = reading_with joined_indices (reading_then (read_dimensions s d) (λ i. read_dimension_tail i rest))

  -- the indices of further ARRAY parts
  pub read_dimension_tail : Scene → tree.DimensionTail → Reading (List ℕ)
  read_dimension_tail s tree.no_dimensions = gives s []
  read_dimension_tail s (tree.more_dimensions d rest) =
      reading_with joined_indices (reading_then (read_dimensions s d) (λ i. read_dimension_tail i rest))

  -- the indices of an ARRAY part
  pub read_dimensions : Scene → tree.Dimensions → Reading (List ℕ)
  read_dimensions s (tree.dimensions p rest) =
      reading_with cons_index (reading_then (index_type_at p (read_plain s p)) (λ i. read_plains i rest))

  -- further indices of an ARRAY part
  pub read_plains : Scene → tree.PlainTail → Reading (List ℕ)
  read_plains s tree.no_plain = gives s []
  read_plains s (tree.more_plain p rest) =
      reading_with cons_index (reading_then (index_type_at p (read_plain s p)) (λ i. read_plains i rest))

  -- a plain type: its shape, or that it is past a limit
  pub read_plain : Scene → tree.PlainType → Reading ShapeOrLimit
  read_plain s (tree.type_name n name) = reading_with formed (read_type_name s name)
  read_plain s (tree.listed n names) = read_listed s (all_names names) (last_token names.first names.more + 2)
  read_plain s (tree.subrange n low high) =
      reading_change subrange_of (reading_at n (subrange_rules s) (reading_then (read_constant s low) (λ i. read_constant i high)))
  read_plain s (tree.record_type n first rest) =
      reading_change record_of (reading_with joined_fields
      (reading_then (read_fields s [] first) (λ i. read_field_tail i (field_names first) rest)))

  -- fields, behind those with these names
  pub read_fields : Scene → (earlier : List tree.Name) → tree.FieldList → Reading (List PlainField)
  read_fields s earlier (tree.empty_fields n) = gives s []
  read_fields s earlier (tree.fields n names t) =
      fields_of_type s (all_names names) (redeclared_fields s earlier (all_names names)) (read_type s t)

  -- further field lists, behind fields with these names
  pub read_field_tail : Scene → (earlier : List tree.Name) → tree.FieldListTail → Reading (List PlainField)
  read_field_tail s earlier tree.no_fields = gives s []
  read_field_tail s earlier (tree.more_fields x rest) =
      reading_with joined_fields (reading_then (read_fields s earlier x) (λ i. read_field_tail i (earlier ++ field_names x) rest))

-- the names of the enumerations in a type, in the order of the text
unfoldable mutual
  -- of a type
  pub type_names : tree.TypeNode → List tree.Name
  type_names (tree.type_node n dims p) = arrays_names dims ++ plain_names p

  -- of the ARRAY parts, if there are any
  pub arrays_names : tree.Arrays → List tree.Name
  arrays_names tree.no_arrays = []
  arrays_names (tree.arrays n d rest) = dimensions_names d ++ dimension_tail_names rest

  -- of further ARRAY parts
  pub dimension_tail_names : tree.DimensionTail → List tree.Name
  dimension_tail_names tree.no_dimensions = []
  dimension_tail_names (tree.more_dimensions d rest) = dimensions_names d ++ dimension_tail_names rest

  -- of an ARRAY part
  pub dimensions_names : tree.Dimensions → List tree.Name
  dimensions_names (tree.dimensions p rest) = plain_names p ++ plains_names rest

  -- of further plain types
  pub plains_names : tree.PlainTail → List tree.Name
  plains_names tree.no_plain = []
  plains_names (tree.more_plain p rest) = plain_names p ++ plains_names rest

  -- of a plain type
  pub plain_names : tree.PlainType → List tree.Name
  plain_names (tree.type_name n name) = []
  plain_names (tree.listed n names) = all_names names
  plain_names (tree.subrange n low high) = []
  plain_names (tree.record_type n first rest) = fields_names first ++ field_tail_names rest

  -- of a field list
  pub fields_names : tree.FieldList → List tree.Name
  fields_names (tree.empty_fields n) = []
  fields_names (tree.fields n names t) = type_names t

  -- of further field lists
  pub field_tail_names : tree.FieldListTail → List tree.Name
  field_tail_names tree.no_fields = []
  field_tail_names (tree.more_fields x rest) = fields_names x ++ field_tail_names rest
