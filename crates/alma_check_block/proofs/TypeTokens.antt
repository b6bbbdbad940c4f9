-- A type leaves the tokens of its scene.
use Rattle.std.proofs.Common.{◌≡◌, ℕ, ◌+◌, List, [], ◌∷◌, ◌++◌, Option, None, Some, Bool, true, false, refl, ◌∙◌}
use Rattle.std.specs.Prelude.{ℤ, option_map, if◌then◌else◌, length}
use Rattle.alma_base.specs.Choice.{if_true}
use Rattle.alma_names.specs.Shapes.{PlainShape, row, sub, listed, fields, is_too_large, placed_shape, cell_counts}
use Rattle.alma_names.specs.declared.block.Entry.{Entry}
use Rattle.alma_names.specs.Scopes.{with_declared}
use Rattle.alma_rules.specs.Numbered as tree
use Rattle.alma_rules.specs.Judgement.{BrokenRule}
use Rattle.alma_rules.specs.Scene.{Scene, base, is_first, text_at}
use Rattle.alma_rules.specs.Types.{Reading, reading_at, reading_then, reading_with, subrange_rules, reading_change, with_change, add_shape}
use Rattle.alma_rules.specs.Types.{ShapeOrLimit, formed, too_large, row_on, rows_on, rows_of, record_of, subrange_of, subrange_from}
use Rattle.alma_rules.specs.Types.{declare_name}
use Rattle.alma_rules.specs.Types.{value_entry, declare_values, listed_in, read_listed, all_first, redeclared_all, all_names, last_token}
use Rattle.alma_rules.specs.Types.{field_names, joined_fields, read_constant, read_type, read_arrays, read_dimension_tail, read_dimensions}
use Rattle.alma_rules.specs.Types.{read_plains, read_plain, read_fields, read_field_tail}

shape_tokens : (s : Scene) (x : PlainShape) → (add_shape s x).0.tokens ≡ s.tokens
shape_tokens s x = go (is_too_large s.shapes x)
  where
    go : (b : Bool) → (if_true {A = Scene × ShapeOrLimit} b (λ _. (s, too_large))
        (λ _. (record s { shapes = s.shapes ++ placed_shape (cell_counts s.shapes) x ∷ [] }, formed (length s.shapes)))).0.tokens ≡ s.tokens
    go true = refl
    go false = refl

row_tokens : (i : ℕ) (p : Scene × ShapeOrLimit) → (row_on i p).0.tokens ≡ p.0.tokens
row_tokens i (s, formed e) = shape_tokens s (row i e)
row_tokens i (s, too_large) = refl

rows_tokens : (s : Scene) (is : List ℕ) (f : ShapeOrLimit) → (rows_on s is f).0.tokens ≡ s.tokens
rows_tokens s [] f = refl
rows_tokens s (i ∷ is) f = row_tokens i (rows_on s is f) ∙ rows_tokens s is f

declared_tokens : (s : Scene) (name : tree.Name) (from : ℕ) (e : Entry) → (declare_name s name from e).tokens ≡ s.tokens
declared_tokens s name from e = go (is_first s name)
  where
    go : (b : Bool) → (if b then record s
        { blocks = with_declared s.blocks (record { name = text_at s name.token; from = from; entry = e }) } else s).tokens ≡ s.tokens
    go true = refl
    go false = refl

values_tokens : (s : Scene) (from : ℕ) (shape : Option ℕ) (i : ℕ) (xs : List tree.Name)
    → (declare_values s from shape i xs).tokens ≡ s.tokens
values_tokens s from shape i [] = refl
values_tokens s from shape i (x ∷ xs) = values_tokens (declare_name s x from (value_entry shape i)) from shape (i + 1) xs
    ∙ declared_tokens s x from (value_entry shape i)

changed_tokens : {A B : Type 0} (f : Scene → A → Scene × B) (s : Scene) (faults : List BrokenRule) (v : Option A)
    → ((a : A) → (f s a).0.tokens ≡ s.tokens)
    → (with_change s faults (option_map (f s) v)).scene.tokens ≡ s.tokens
changed_tokens f s faults None h = refl
changed_tokens f s faults (Some a) h = h a

change_tokens : {A B : Type 0} (f : Scene → A → Scene × B) (r : Reading A) → ((i : Scene) (a : A) → (f i a).0.tokens ≡ i.tokens)
    → (reading_change f r).scene.tokens ≡ r.scene.tokens
change_tokens f r h = changed_tokens f r.scene r.faults r.value (h r.scene)

sub_tokens : (s : Scene) (b : ℕ) (low high : Option ℤ) → (subrange_from s b low high).0.tokens ≡ s.tokens
sub_tokens s b None high = refl
sub_tokens s b (Some l) None = refl
sub_tokens s b (Some l) (Some h) = shape_tokens s (sub b (record { low = l; high = h }))

listed_tokens : (faults : List BrokenRule) (from : ℕ) (xs : List tree.Name) (p : Scene × ShapeOrLimit)
    → (listed_in faults from xs p).scene.tokens ≡ p.0.tokens
listed_tokens faults from xs (s, formed shape) = values_tokens s from (Some shape) 0 xs
listed_tokens faults from xs (s, too_large) = values_tokens s from None 0 xs

names_tokens : (s : Scene) (xs : List tree.Name) (from : ℕ) → (read_listed s xs from).scene.tokens ≡ s.tokens
names_tokens s xs from = go (all_first s xs)
  where
    go : (b : Bool) → (if_true {A = Reading ShapeOrLimit} b (λ _. listed_in [] from xs (add_shape s (listed (length xs))))
        (λ _. record { faults = redeclared_all s xs; scene = declare_values s from None 0 xs; value = None })).scene.tokens ≡ s.tokens
    go true = listed_tokens [] from xs (add_shape s (listed (length xs))) ∙ shape_tokens s (listed (length xs))
    go false = values_tokens s from None 0 xs

mutual
  unfolding read_type

  pub type_tokens : (s : Scene) (x : tree.TypeNode) → (read_type s x).scene.tokens ≡ s.tokens
  type_tokens s (tree.type_node n dims p) =
      change_tokens rows_of (reading_then (read_arrays s dims) (λ i. read_plain i p)) (λ i a. rows_tokens i a.0 a.1)
      ∙ plain_tokens (read_arrays s dims).scene p ∙ arrays_tokens s dims

  arrays_tokens : (s : Scene) (x : tree.Arrays) → (read_arrays s x).scene.tokens ≡ s.tokens
  arrays_tokens s tree.no_arrays = refl
  arrays_tokens s (tree.arrays n d rest) = dimension_tail_tokens (read_dimensions s d).scene rest ∙ dimensions_tokens s d

  dimension_tail_tokens : (s : Scene) (x : tree.DimensionTail) → (read_dimension_tail s x).scene.tokens ≡ s.tokens
  dimension_tail_tokens s tree.no_dimensions = refl
  dimension_tail_tokens s (tree.more_dimensions d rest) = dimension_tail_tokens (read_dimensions s d).scene rest ∙ dimensions_tokens s d

  dimensions_tokens : (s : Scene) (x : tree.Dimensions) → (read_dimensions s x).scene.tokens ≡ s.tokens
  dimensions_tokens s (tree.dimensions p rest) = plains_tokens (read_plain s p).scene rest ∙ plain_tokens s p

  plains_tokens : (s : Scene) (x : tree.PlainTail) → (read_plains s x).scene.tokens ≡ s.tokens
  plains_tokens s tree.no_plain = refl
  plains_tokens s (tree.more_plain p rest) = plains_tokens (read_plain s p).scene rest ∙ plain_tokens s p

  plain_tokens : (s : Scene) (x : tree.PlainType) → (read_plain s x).scene.tokens ≡ s.tokens
  plain_tokens s (tree.type_name n name) = refl
  plain_tokens s (tree.listed n names) = names_tokens s (all_names names) (last_token names.first names.more + 2)
  plain_tokens s (tree.subrange n low high) =
      change_tokens subrange_of (reading_at n (subrange_rules s) (reading_then (read_constant s low) (λ i. read_constant i high)))
      (λ i p. sub_tokens i (base i p.0.shape) p.0.constant p.1.constant)
  plain_tokens s (tree.record_type n first rest) =
      change_tokens record_of (reading_with joined_fields
      (reading_then (read_fields s [] first) (λ i. read_field_tail i (field_names first) rest))) (λ i fs. shape_tokens i (fields fs))
      ∙ field_tail_tokens (read_fields s [] first).scene (field_names first) rest ∙ fields_tokens s [] first

  pub fields_tokens : (s : Scene) (before : List tree.Name) (x : tree.FieldList) → (read_fields s before x).scene.tokens ≡ s.tokens
  fields_tokens s before (tree.empty_fields n) = refl
  fields_tokens s before (tree.fields n names t) = type_tokens s t

  field_tail_tokens : (s : Scene) (before : List tree.Name) (x : tree.FieldListTail) → (read_field_tail s before x).scene.tokens ≡ s.tokens
  field_tail_tokens s before tree.no_fields = refl
  field_tail_tokens s before (tree.more_fields x rest) = field_tail_tokens (read_fields s before x).scene (before ++ field_names x) rest
      ∙ fields_tokens s before x
