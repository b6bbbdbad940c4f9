-- What declarations and headings leave of a scene as it is, whatever rules are broken in them.
use Rattle.std.proofs.Common.{◌≡◌, ℕ, ◌+◌, ℤ, Bool, true, false, List, [], ◌∷◌, ◌++◌, Option, None, Some, refl, ap, ◌∙◌, length}
use Rattle.std.specs.Prelude.{if◌then◌else◌, option_map}
use Rattle.alma_base.specs.Choice.{if_true}
use Rattle.alma_base.specs.declared.fault.CheckFault.{CheckFault}
use Rattle.alma_tree.specs.declared.leaf.Mode.{Mode}
use Rattle.alma_names.specs.declared.block.Entry.{Entry}
use Rattle.alma_names.specs.declared.block.Entry.TheVariants as entry
use Rattle.alma_names.specs.Shapes.{PlainShape, is_too_large, placed_shape, cell_counts, listed, fields, sub, row}
use Rattle.alma_names.specs.Blocks.{shape_id}
use Rattle.alma_names.specs.Scopes.{Blocks, with_declared, with_new_block}
use Rattle.alma_scan.specs.Tokens.{Lexeme}
use Rattle.alma_rules.specs.Numbered as tree
use Rattle.alma_rules.specs.Judgement.{BrokenRule, broken_at}
use Rattle.alma_rules.specs.Scene.{Scene, Returns, nothing, a_value, is_first, is_structured, text_at, base}
use Rattle.alma_rules.specs.Places.{width, mark_type}
use Rattle.alma_rules.specs.Types.{Reading, reading_change, with_change, reading_then, add_shape, ShapeOrLimit, formed, too_large, row_on}
use Rattle.alma_rules.specs.Types.{rows_on}
use Rattle.alma_rules.specs.Types.{rows_of, subrange_from, subrange_of, record_of, value_entry, declare_values, listed_in, all_first}
use Rattle.alma_rules.specs.Types.{redeclared_all, read_listed, all_names, last_token, declare_name, redeclaration_rules, read_constant}
use Rattle.alma_rules.specs.Types.{read_type}
use Rattle.alma_rules.specs.Types.{read_arrays, read_dimension_tail, read_dimensions, read_plains, read_plain, read_fields, read_field_tail}
use Rattle.alma_rules.specs.Types.{field_names, read_type_name, subrange_rules, reading_at, joined_fields, reading_with}
use Rattle.alma_rules.specs.Decls.{Frame, with_faults, with_scene, within_limit, constant_in, read_consts, type_in, read_types}
use Rattle.alma_rules.specs.Decls.{with_variable}
use Rattle.alma_rules.specs.Decls.{variable_access, variable_in, variables_in, variables_of, read_vars, with_texts, block_names, with_block}
use Rattle.alma_rules.specs.Decls.{with_routine, with_routines, decl_routines, param_access, param_kind, with_param, param_in, params_in}
use Rattle.alma_rules.specs.Decls.{formal_in, read_formals, formals_of, formal_names, too_deep, heading_at, with_depth, new_frame}
use Rattle.alma_rules.specs.Decls.{read_heading}
use Rattle.alma_rules.proofs.Limited.{limited_scene}

-- what is the same in scenes with other shapes, other names in the top block, and another RETURN
pub record Steady {A : Type 0} (F : Scene → A) : Type 0 where
  pub same : (s : Scene) (shapes : List PlainShape) (b : Blocks) (r : Returns) → b.below ≡ s.blocks.below
      → F (record s { shapes = shapes; blocks = b; returns = r }) ≡ F s

-- ---- names and shapes

declared_same : {A : Type 0} (F : Scene → A) → Steady F → (s : Scene) (name : tree.Name) (from : ℕ) (e : Entry)
    → F (declare_name s name from e) ≡ F s
declared_same {A} F h s name from e = by (is_first s name)
  where
    by : (b : Bool) → F (if b then record s
        { blocks = with_declared s.blocks (record { name = text_at s name.token; from = from; entry = e }) } else s) ≡ F s
    by true = h.same s s.shapes (with_declared s.blocks (record { name = text_at s name.token; from = from; entry = e })) s.returns refl
    by false = refl

add_same : {A : Type 0} (F : Scene → A) → Steady F → (s : Scene) (x : PlainShape) → F (add_shape s x).0 ≡ F s
add_same {A} F h s x = by (is_too_large s.shapes x)
  where
    by : (b : Bool) → F (if_true {A = Scene × ShapeOrLimit} b (λ u. (s, too_large))
        (λ u. (record s { shapes = s.shapes ++ placed_shape (cell_counts s.shapes) x ∷ [] }, formed (length s.shapes)))).0 ≡ F s
    by true = refl
    by false = h.same s (s.shapes ++ placed_shape (cell_counts s.shapes) x ∷ []) s.blocks s.returns refl

row_same : {A : Type 0} (F : Scene → A) → Steady F → (i : ℕ) (p : Scene × ShapeOrLimit) → F (row_on i p).0 ≡ F p.0
row_same F h i (s, formed e) = add_same F h s (row i e)
row_same F h i (s, too_large) = refl

rows_same : {A : Type 0} (F : Scene → A) → Steady F → (s : Scene) (is : List ℕ) (f : ShapeOrLimit) → F (rows_on s is f).0 ≡ F s
rows_same F h s [] f = refl
rows_same F h s (i ∷ is) f = row_same F h i (rows_on s is f) ∙ rows_same F h s is f

subrange_same : {A : Type 0} (F : Scene → A) → Steady F → (s : Scene) (b : ℕ) (low high : Option ℤ) → F (subrange_from s b low high).0 ≡ F s
subrange_same F h s b None high = refl
subrange_same F h s b (Some l) None = refl
subrange_same F h s b (Some l) (Some u) = add_same F h s (sub b (record { low = l; high = u }))

values_same : {A : Type 0} (F : Scene → A) → Steady F → (s : Scene) (from : ℕ) (shape : Option ℕ) (i : ℕ) (xs : List tree.Name)
    → F (declare_values s from shape i xs) ≡ F s
values_same F h s from shape i [] = refl
values_same F h s from shape i (x ∷ xs) = values_same F h (declare_name s x from (value_entry shape i)) from shape (i + 1) xs
    ∙ declared_same F h s x from (value_entry shape i)

listed_same : {A : Type 0} (F : Scene → A) → Steady F
    → (faults : List BrokenRule) (from : ℕ) (xs : List tree.Name) (p : Scene × ShapeOrLimit)
    → F (listed_in faults from xs p).scene ≡ F p.0
listed_same F h faults from xs (s, formed shape) = values_same F h s from (Some shape) 0 xs
listed_same F h faults from xs (s, too_large) = values_same F h s from None 0 xs

read_listed_same : {A : Type 0} (F : Scene → A) → Steady F → (s : Scene) (xs : List tree.Name) (from : ℕ)
    → F (read_listed s xs from).scene ≡ F s
read_listed_same {A} F h s xs from = by (all_first s xs)
  where
    by : (b : Bool) → F (if_true {A = Reading ShapeOrLimit} b (λ u. listed_in [] from xs (add_shape s (listed (length xs))))
        (λ u. record { faults = redeclared_all s xs; scene = declare_values s from None 0 xs; value = None })).scene ≡ F s
    by true = listed_same F h [] from xs (add_shape s (listed (length xs))) ∙ add_same F h s (listed (length xs))
    by false = values_same F h s from None 0 xs

-- a value that changes the scene
change_same : {A B C : Type 0} (F : Scene → A) (f : Scene → B → Scene × C) → ((s : Scene) (x : B) → F (f s x).0 ≡ F s) → (r : Reading B)
    → F (reading_change f r).scene ≡ F r.scene
change_same {A} {B} {C} F f h r = by r.value
  where
    by : (v : Option B) → F (with_change r.scene r.faults (option_map (f r.scene) v)).scene ≡ F r.scene
    by None = refl
    by (Some x) = h r.scene x

-- ---- types

mutual
  unfolding read_type

  pub type_same : {A : Type 0} (F : Scene → A) → Steady F → (s : Scene) (x : tree.TypeNode) → F (read_type s x).scene ≡ F s
  type_same F h s (tree.type_node n dims p) =
      change_same F rows_of (λ t y. rows_same F h t y.0 y.1) (reading_then (read_arrays s dims) (λ i. read_plain i p))
      ∙ (plain_same F h (read_arrays s dims).scene p ∙ arrays_same F h s dims)

  arrays_same : {A : Type 0} (F : Scene → A) → Steady F → (s : Scene) (x : tree.Arrays) → F (read_arrays s x).scene ≡ F s
  arrays_same F h s tree.no_arrays = refl
  arrays_same F h s (tree.arrays n d rest) = dimension_tail_same F h (read_dimensions s d).scene rest ∙ dimensions_same F h s d

  dimension_tail_same : {A : Type 0} (F : Scene → A) → Steady F → (s : Scene) (x : tree.DimensionTail)
      → F (read_dimension_tail s x).scene ≡ F s
  dimension_tail_same F h s tree.no_dimensions = refl
  dimension_tail_same F h s (tree.more_dimensions d rest) = dimension_tail_same F h (read_dimensions s d).scene rest
      ∙ dimensions_same F h s d

  dimensions_same : {A : Type 0} (F : Scene → A) → Steady F → (s : Scene) (x : tree.Dimensions) → F (read_dimensions s x).scene ≡ F s
  dimensions_same F h s (tree.dimensions p rest) = plains_same F h (read_plain s p).scene rest ∙ plain_same F h s p

  plains_same : {A : Type 0} (F : Scene → A) → Steady F → (s : Scene) (x : tree.PlainTail) → F (read_plains s x).scene ≡ F s
  plains_same F h s tree.no_plain = refl
  plains_same F h s (tree.more_plain p rest) = plains_same F h (read_plain s p).scene rest ∙ plain_same F h s p

  plain_same : {A : Type 0} (F : Scene → A) → Steady F → (s : Scene) (x : tree.PlainType) → F (read_plain s x).scene ≡ F s
  plain_same F h s (tree.type_name n name) = refl
  plain_same F h s (tree.listed n names) = read_listed_same F h s (all_names names) (last_token names.first names.more + 2)
  plain_same F h s (tree.subrange n low high) =
      change_same F subrange_of (λ t y. subrange_same F h t (base t y.0.shape) y.0.constant y.1.constant)
      (reading_at n (subrange_rules s) (reading_then (read_constant s low) (λ i. read_constant i high)))
  plain_same F h s (tree.record_type n first rest) =
      change_same F record_of (λ t y. add_same F h t (fields y))
      (reading_with joined_fields (reading_then (read_fields s [] first) (λ i. read_field_tail i (field_names first) rest)))
      ∙ (field_tail_same F h (read_fields s [] first).scene (field_names first) rest ∙ fields_same F h s [] first)

  fields_same : {A : Type 0} (F : Scene → A) → Steady F → (s : Scene) (earlier : List tree.Name) (x : tree.FieldList)
      → F (read_fields s earlier x).scene ≡ F s
  fields_same F h s earlier (tree.empty_fields n) = refl
  fields_same F h s earlier (tree.fields n names t) = type_same F h s t

  field_tail_same : {A : Type 0} (F : Scene → A) → Steady F → (s : Scene) (earlier : List tree.Name) (x : tree.FieldListTail)
      → F (read_field_tail s earlier x).scene ≡ F s
  field_tail_same F h s earlier tree.no_fields = refl
  field_tail_same F h s earlier (tree.more_fields x rest) =
      field_tail_same F h (read_fields s earlier x).scene (earlier ++ field_names x) rest ∙ fields_same F h s earlier x

-- ---- constants, types and variables

pub consts_same : {A : Type 0} (F : Scene → A) → Steady F → (f : Frame) (xs : List tree.ConstEntry) → F (read_consts f xs).scene ≡ F f.scene
consts_same F h f [] = refl
consts_same F h f (x ∷ xs) = consts_same F h (constant_in f x (read_constant f.scene x.value)) xs ∙ declared_same F h f.scene x.name _ _

pub types_same : {A : Type 0} (F : Scene → A) → Steady F → (f : Frame) (xs : List tree.TypeEntry) → F (read_types f xs).scene ≡ F f.scene
types_same F h f [] = refl
types_same F h f (x ∷ xs) =
    types_same F h (type_in f x (read_type f.scene x.type_node)) xs
    ∙ (declared_same F h (read_type f.scene x.type_node).scene x.name _ _ ∙ type_same F h f.scene x.type_node)

variable_same : {A : Type 0} (F : Scene → A) → Steady F → (f : Frame) (from : ℕ) (o : Option ℕ) (name : tree.Name)
    → F (variable_in f from o name).scene ≡ F f.scene
variable_same F h f from None name = declared_same F h f.scene name from entry.Bad
variable_same {A} F h f from (Some shape) name =
    by (is_first f.scene name) (declared_same F h f.scene name from (entry.Variable (shape_id shape) (variable_access f.scene f.slots)))
  where
    by : (b : Bool) → F (declare_name f.scene name from (entry.Variable (shape_id shape) (variable_access f.scene f.slots))) ≡ F f.scene
        → F (if_true b (λ u. within_limit name f (with_variable f name from shape))
        (λ u. with_faults f (broken_at name.node (redeclaration_rules f.scene name)))).scene ≡ F f.scene
    by true e = ap F (limited_scene name f (with_variable f name from shape)) ∙ e
    by false e = refl

variables_same : {A : Type 0} (F : Scene → A) → Steady F → (f : Frame) (from : ℕ) (o : Option ℕ) (xs : List tree.Name)
    → F (variables_in f from o xs).scene ≡ F f.scene
variables_same F h f from o [] = refl
variables_same F h f from o (x ∷ xs) = variables_same F h (variable_in f from o x) from o xs ∙ variable_same F h f from o x

pub vars_same : {A : Type 0} (F : Scene → A) → Steady F → (f : Frame) (xs : List tree.VarEntry) → F (read_vars f xs).scene ≡ F f.scene
vars_same F h f [] = refl
vars_same F h f (x ∷ xs) =
    vars_same F h (variables_of f x (read_type f.scene x.type_node)) xs
    ∙ (variables_same F h (with_scene f (read_type f.scene x.type_node).scene)
    (last_token x.names.first x.names.more + 3 + width (mark_type x.type_node)) (read_type f.scene x.type_node).value
    (all_names x.names)
    ∙ type_same F h f.scene x.type_node)

-- ---- headings

param_same : {A : Type 0} (F : Scene → A) → Steady F → (f : Frame) (from : ℕ) (mode : Option Mode) (o : Option ℕ) (name : tree.Name)
    → F (param_in f from mode o name).scene ≡ F f.scene
param_same F h f from mode None name = declared_same F h f.scene name from entry.Bad
param_same {A} F h f from mode (Some shape) name =
    by (is_first f.scene name) (declared_same F h f.scene name from (entry.Variable (shape_id shape) (param_access mode f.slots)))
  where
    by : (b : Bool) → F (declare_name f.scene name from (entry.Variable (shape_id shape) (param_access mode f.slots))) ≡ F f.scene
        → F (if_true b (λ u. within_limit name f (with_param f name from mode shape (param_kind (is_structured f.scene shape) mode)))
        (λ u. with_faults f (broken_at name.node (redeclaration_rules f.scene name)))).scene ≡ F f.scene
    by true e = ap F (limited_scene name f (with_param f name from mode shape (param_kind (is_structured f.scene shape) mode))) ∙ e
    by false e = refl

params_same : {A : Type 0} (F : Scene → A) → Steady F → (f : Frame) (from : ℕ) (mode : Option Mode) (o : Option ℕ) (xs : List tree.Name)
    → F (params_in f from mode o xs).scene ≡ F f.scene
params_same F h f from mode o [] = refl
params_same F h f from mode o (x ∷ xs) = params_same F h (param_in f from mode o x) from mode o xs ∙ param_same F h f from mode o x

formals_same : {A : Type 0} (F : Scene → A) → Steady F → (f : Frame) (xs : List tree.Formal) → F (read_formals f xs).scene ≡ F f.scene
formals_same F h f [] = refl
formals_same F h f (x ∷ xs) =
    formals_same F h (formal_in f x (read_type_name f.scene x.type_name)) xs
    ∙ params_same F h f (x.type_name.token + 1) x.mode (read_type_name f.scene x.type_name).value (all_names x.names)

routines_same : {A : Type 0} (F : Scene → A) → Steady F → (s : Scene) (r : ℕ) (x : tree.DeclTail) → F (with_routines s r x) ≡ F s
routines_same F h s r tree.no_decl = refl
routines_same {A} F h s r (tree.more_decl d rest) = routines_same F h (with_routine s r d) (r + decl_routines d) rest ∙ by d
  where
    by : (d : tree.Decl) → F (with_routine s r d) ≡ F s
    by (tree.const_decl n xs) = refl
    by (tree.type_decl n xs) = refl
    by (tree.var_decl n xs) = refl
    by (tree.procedure n name params result b end_name) = declared_same F h s name 0 (entry.Routine r)

-- the scene of a new block, before its routines are declared
abbrev pub begun : Scene → (r : ℕ) → Returns → List tree.Name → tree.Block → Scene
begun s r returns names b = record s {
  blocks = with_new_block s.blocks;
  declares = with_texts s (names ++ block_names b);
  routine = r;
  returns = returns;
}

pub block_same : {A : Type 0} (F : Scene → A) → Steady F → (s : Scene) (r : ℕ) (returns : Returns) (names : List tree.Name) (b : tree.Block)
    → F (with_block s r returns names b) ≡ F (begun s r returns names b)
block_same F h s r returns names (tree.block n ds body) = routines_same F h (begun s r returns names (tree.block n ds body)) (r + 1) ds

headed_same : {A : Type 0} (F : Scene → A) → Steady F → (f : Frame) (o : Option tree.Name) → F (heading_at f o).frame.scene ≡ F f.scene
headed_same F h f None = h.same f.scene f.scene.shapes f.scene.blocks nothing refl
headed_same F h f (Some name) = h.same f.scene f.scene.shapes f.scene.blocks (a_value (read_type_name f.scene name).value) refl

-- the frame in which the formals of a heading are read
abbrev first_frame : Scene → (r : ℕ) → Option tree.Params → tree.Block → Frame
first_frame s r params b = new_frame (with_block s r nothing (formal_names (formals_of params)) b) 0

pub head_same : {A : Type 0} (F : Scene → A) → Steady F
    → (s : Scene) (r n : ℕ) (params : Option tree.Params) (result : Option tree.Name) (b : tree.Block)
    → F (read_heading s r n params result b).frame.scene ≡ F (begun s r nothing (formal_names (formals_of params)) b)
head_same {A} F h s r n params result b =
    by (too_deep s) ∙ (headed_same F h (read_formals (first_frame s r params b) (formals_of params)) result
    ∙ (formals_same F h (first_frame s r params b) (formals_of params) ∙ block_same F h s r nothing (formal_names (formals_of params)) b))
  where
    by : (d : List CheckFault) → F (with_depth d n
        (heading_at (read_formals (first_frame s r params b) (formals_of params)) result)).frame.scene ≡ F
        (heading_at (read_formals (first_frame s r params b) (formals_of params)) result).frame.scene
    by [] = refl
    by (x ∷ xs) = refl

-- ---- what is the same

-- the text with its tokens, the blocks below the top one, and the place
pub record Ground : Type 0 where
  pub source : List ℕ
  pub tokens : List Lexeme
  pub below : List (List Rattle.alma_names.specs.Blocks.DeclaredName)
  pub constant : Bool
  pub inside : Bool

abbrev pub ground : Scene → Ground
ground s = record { source = s.source; tokens = s.tokens; below = s.blocks.below; constant = s.constant; inside = s.inside }

pub ground_steady : Steady ground
ground_steady = record { same = λ s shapes b r e. rw e refl }

pub headings_steady : Steady (λ (s : Scene). s.headings)
headings_steady = record { same = λ s shapes b r e. refl }
