-- The fields of a record, name by name.
use Rattle.std.specs.Global.{Global}
use Rattle.std.specs.Map.{lookup}
use Rattle.std.specs.Prelude.{◌≡◌, ℕ, Bool, true, false, ◌||◌, List, [], ◌∷◌, ◌++◌, slice_get, bytes_eq, Option, None, Some, is_some}
use Rattle.std.specs.Prelude.{option_map, Vec}
use Rattle.alma_base.specs.declared.fault.CheckFault.TheVariants as fault
use Rattle.alma_names.specs.Shapes.{PlainField}
use Rattle.alma_scan.specs.Tokens.{Lexeme}
use Rattle.alma_rules.specs.Numbered as tree
use Rattle.alma_rules.specs.Judgement.{BrokenRule}
use Rattle.alma_rules.specs.Scene.{Scene, text_of}
use Rattle.alma_rules.specs.Types.{ShapeOrLimit, record_of}
use Rattle.alma_check_type.specs.declared.field.Fields.{Fields}
use Rattle.alma_check_type.specs.Told.{Told, fault_of, earlier, onward, told_change}
use Rattle.alma_check_type.specs.Inner.Tables.{fields_view}

-- the text of a token
abbrev pub text_in : List Lexeme → ℕ → List ℕ
text_in tokens t = text_of (slice_get tokens t)

-- a text is that of a name among others
abbrev pub among : List Lexeme → List ℕ → List tree.Name → Bool
among tokens text [] = false
among tokens text (y ∷ ys) = bytes_eq (text_in tokens y.token) text || among tokens text ys

-- a map has these names, and no other
unfoldable pub Knows : List Lexeme → List (Vec ℕ Global × ℕ) → List tree.Name → Type 0
Knows tokens es earlier = (text : List ℕ) → is_some (lookup (λ k. bytes_eq text k.items) es) ≡ among tokens text earlier

-- what is told of fields
pub record ToldFields : Type 0 where
  pub fault : Option BrokenRule
  pub value : Option (List PlainField)

-- the fields, or None where the flag says that they are Bad
abbrev pub unless_bad : Bool → List PlainField → Option (List PlainField)
unless_bad true fs = None
unless_bad false fs = Some fs

-- what is told of the code's fields: the first broken rule, and the fields, None where Bad
abbrev pub told_fields : Fields → ToldFields
told_fields r = record { fault = fault_of r.fault; value = unless_bad r.is_bad (fields_view r.names.entries) }

-- before the first field: no broken rule and no field
abbrev pub nothing_told : ToldFields
nothing_told = record { fault = None; value = Some [] }

-- the field of a name with a shape, not placed yet
abbrev pub field_at : List Lexeme → ℕ → tree.Name → PlainField
field_at tokens shape x = record { name = text_in tokens x.token; offset = 0; shape = shape }

-- the rule that is broken by a field whose name an earlier one has
abbrev pub redeclared_field : tree.Name → BrokenRule
redeclared_field x = record { node = x.node; fault = fault.Redeclared }

-- fields with one more; they are Bad where the flag says that an earlier one has its name
abbrev pub field_as : Bool → List Lexeme → ℕ → tree.Name → ToldFields → ToldFields
field_as true tokens shape x t = record { fault = earlier t.fault (Some (redeclared_field x)); value = None }
field_as false tokens shape x t = record { fault = t.fault; value = option_map (λ fs. fs ++ field_at tokens shape x ∷ []) t.value }

-- fields with one more, whose name is looked for among those before it
abbrev pub with_field : List Lexeme → (before : List tree.Name) → ℕ → tree.Name → ToldFields → ToldFields
with_field tokens before shape x t = field_as (among tokens (text_in tokens x.token) before) tokens shape x t

-- fields with one more for each of some names, all of one shape
abbrev pub with_fields : List Lexeme → (before : List tree.Name) → ℕ → List tree.Name → ToldFields → ToldFields
with_fields tokens before shape [] t = t
with_fields tokens before shape (x ∷ xs) t = with_fields tokens (before ++ x ∷ []) shape xs (with_field tokens before shape x t)

-- fields, which are Bad where the shape of the next ones is
abbrev pub begun : Option ℕ → ToldFields → ToldFields
begun None t = record { fault = t.fault; value = None }
begun (Some shape) t = t

-- the number of a shape, or 0 where it is Bad, and then the fields are Bad too
abbrev pub shape_or_zero : Option ℕ → ℕ
shape_or_zero None = 0
shape_or_zero (Some shape) = shape

-- fields with one more for each of some names, whose shape may be Bad
abbrev pub shape_fields : List Lexeme → (before : List tree.Name) → Option ℕ → List tree.Name → ToldFields → ToldFields
shape_fields tokens before shape xs t = with_fields tokens before (shape_or_zero shape) xs (begun shape t)

-- fields behind which a type was read, with the rule that it broke where they broke none
abbrev pub join_fields : ToldFields → Told ℕ → ToldFields
join_fields t shape = record { fault = earlier t.fault shape.fault; value = t.value }

-- the same, as what is told with a scene
abbrev pub told_list : ToldFields → Scene → Told (List PlainField)
told_list t s = record { fault = t.fault; scene = s; value = t.value }

-- the record of some fields, put into the table
abbrev pub told_record : Told (List PlainField) → Told ShapeOrLimit
told_record t = told_change record_of t

-- what is told of a list, behind a part of it that is read
abbrev pub told_on : ToldFields → Told (List PlainField) → Told (List PlainField)
told_on t u = onward t.fault t.value u

-- with a rule that is broken behind them
abbrev pub behind : ToldFields → Option BrokenRule → ToldFields
behind t fault = record { fault = earlier t.fault fault; value = t.value }
