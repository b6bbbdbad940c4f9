-- Declarations and headings: the rules broken in them, and what they declare.
use Rattle.std.specs.Prelude.{ℕ, ◌+◌, ℤ, Bool, true, false, ◌||◌, nat_le, nat_eq, if◌then◌else◌, List, [], ◌∷◌, ◌++◌, set, bytes_eq, Option}
use Rattle.std.specs.Prelude.{None, Some, option_map, option_and_then}
use Rattle.alma_base.specs.declared.fault.CheckFault.{CheckFault}
use Rattle.alma_base.specs.declared.fault.CheckFault.TheVariants as fault
use Rattle.alma_base.specs.Choice.{if_true}
use Rattle.alma_tree.specs.declared.leaf.Mode.{Mode}
use Rattle.alma_tree.specs.declared.leaf.Mode.TheVariants as modes
use Rattle.alma_names.specs.declared.block.Access.{Access}
use Rattle.alma_names.specs.declared.block.Access.TheVariants as access
use Rattle.alma_names.specs.declared.block.Entry.{Entry}
use Rattle.alma_names.specs.declared.block.Entry.TheVariants as entry
use Rattle.alma_base.specs.Limits.{cell_limit}
use Rattle.alma_names.specs.Blocks.{shape_id}
use Rattle.alma_names.specs.Scopes.{with_new_block}
use Rattle.alma_ir.specs.declared.program.Param.{Param}
use Rattle.alma_ir.specs.declared.program.ArgKind.{ArgKind}
use Rattle.alma_ir.specs.declared.program.ArgKind.TheVariants as kinds
use Rattle.alma_ir.specs.Tree as ir
use Rattle.alma_rules.specs.Numbered as tree
use Rattle.alma_rules.specs.Judgement.{BrokenRule, broken_at, if_unbroken, when, holds}
use Rattle.alma_rules.specs.Scene.{Scene, FormalOf, Heading, Returns, nothing, a_value, text_at, cells, range, level, is_structured}
use Rattle.alma_rules.specs.Scene.{is_first}
use Rattle.alma_rules.specs.Parts.{Typing}
use Rattle.alma_rules.specs.Places.{width, mark_expr, mark_type}
use Rattle.alma_rules.specs.Types.{Reading, declare_name, redeclaration_rules, all_names, last_token, read_type, read_type_name}
use Rattle.alma_rules.specs.Types.{read_constant}
use Rattle.alma_rules.specs.Types.{type_names}

-- ---- the frame of a routine

-- what declarations leave: the rules broken in them, the scene with what they declare, the next free slot and the declared
-- cells of the frame, the parameters, the formals (None where a type is Bad), and the variables
pub record Frame : Type 0 where
  pub faults : List BrokenRule
  pub scene : Scene
  pub slots : ℕ
  pub declared : ℕ
  pub params : List Param
  pub formals : List (Option FormalOf)
  pub variables : List ir.Global

-- the frame with further broken rules behind its own
abbrev pub with_faults : Frame → List BrokenRule → Frame
with_faults f faults = record f { faults = f.faults ++ faults }

-- the frame with another scene
abbrev pub with_scene : Frame → Scene → Frame
with_scene f s = record f { scene = s }

-- TooLarge: the Name of a variable or parameter with which its frame's declared cells would pass the limit; it takes no slots
abbrev pub too_large : Frame → tree.Name → Scene → Frame
too_large f name s = record f { faults = f.faults ++ broken_at name.node (fault.TooLarge ∷ []); scene = s }

-- a frame with one more variable or parameter, where its declared cells are within the limit
abbrev pub within_limit : tree.Name → (before after : Frame) → Frame
within_limit name f g = if_true (nat_le g.declared cell_limit) (λ _. g) (λ _. too_large f name g.scene)

-- ---- constants, types and variables

-- the entry of a constant of this shape; Bad where it has no value
abbrev pub constant_from : ℕ → Option ℤ → Entry
constant_from shape None = entry.Bad
constant_from shape (Some v) = entry.Constant (shape_id shape) v

-- the entry of a constant, of what its expression gives; Bad where that is
abbrev pub constant_entry : Option Typing → Entry
constant_entry None = entry.Bad
constant_entry (Some t) = constant_from t.shape t.constant

-- the entry of a type, of its shape; Bad where that is
abbrev pub type_entry : Option ℕ → Entry
type_entry None = entry.Bad
type_entry (Some shape) = entry.Named (shape_id shape)

-- a name in front of what it is declared as; it is visible behind the semicolon
abbrev pub enter : Frame → tree.Name → (from : ℕ) → List BrokenRule → Scene → Entry → Frame
enter f name from faults s e =
    record f { faults = f.faults ++ broken_at name.node (redeclaration_rules s name) ++ faults; scene = declare_name s name from e }

-- the frame behind an entry of CONST, of what its expression gives
abbrev pub constant_in : Frame → tree.ConstEntry → Reading Typing → Frame
constant_in f x r = enter f x.name (x.name.token + 3 + width (mark_expr x.value)) r.faults r.scene (constant_entry r.value)

-- the frame behind the entries of CONST
abbrev pub read_consts : Frame → List tree.ConstEntry → Frame
read_consts f [] = f
read_consts f (x ∷ xs) = read_consts (constant_in f x (read_constant f.scene x.value)) xs

-- the frame behind an entry of TYPE, of what its type expression gives
abbrev pub type_in : Frame → tree.TypeEntry → Reading ℕ → Frame
type_in f x r = enter f x.name (x.name.token + 3 + width (mark_type x.type_node)) r.faults r.scene (type_entry r.value)

-- the frame behind the entries of TYPE
abbrev pub read_types : Frame → List tree.TypeEntry → Frame
read_types f [] = f
read_types f (x ∷ xs) = read_types (type_in f x (read_type f.scene x.type_node)) xs

-- a variable of the module is global
abbrev pub variable_access : Scene → ℕ → Access
variable_access s slot = if nat_eq (level s) 0 then access.Global slot else access.Local slot

-- the frame with one more variable of this shape
abbrev pub with_variable : Frame → tree.Name → (from : ℕ) → ℕ → Frame
with_variable f name from shape =
    record f {
      scene = declare_name f.scene name from (entry.Variable (shape_id shape) (variable_access f.scene f.slots));
      slots = f.slots + cells f.scene shape;
      declared = f.declared + cells f.scene shape;
      variables = f.variables ++ record { name = text_at f.scene name.token; slot = f.slots; cells = cells f.scene shape } ∷ [];
    }

-- a variable, where its type is not Bad and it is the first of its name
abbrev pub variable_in : Frame → (from : ℕ) → Option ℕ → tree.Name → Frame
variable_in f from None name =
    record f {
      faults = f.faults ++ broken_at name.node (redeclaration_rules f.scene name);
      scene =
          declare_name f.scene name from entry.Bad;
    }
variable_in f from (Some shape) name = if_true (is_first f.scene name)
    (λ _. within_limit name f (with_variable f name from shape))
    (λ _. with_faults f (broken_at name.node (redeclaration_rules f.scene name)))

-- variables of one type, as `variable_in` has each
abbrev pub variables_in : Frame → (from : ℕ) → Option ℕ → List tree.Name → Frame
variables_in f from shape [] = f
variables_in f from shape (x ∷ xs) = variables_in (variable_in f from shape x) from shape xs

-- variables of one type: the faults at their names stand before those in their type
abbrev pub variables_of : Frame → tree.VarEntry → Reading ℕ → Frame
variables_of f x r =
    with_faults (variables_in (with_scene f r.scene) (last_token x.names.first x.names.more + 3 + width (mark_type x.type_node)) r.value
    (all_names x.names)) r.faults

-- the frame behind the entries of VAR
abbrev pub read_vars : Frame → List tree.VarEntry → Frame
read_vars f [] = f
read_vars f (x ∷ xs) = read_vars (variables_of f x (read_type f.scene x.type_node)) xs

-- ---- names of a block

-- the names that the entries of CONST declare
abbrev pub const_names : List tree.ConstEntry → List tree.Name
const_names [] = []
const_names (x ∷ xs) = x.name ∷ const_names xs

-- the names that the entries of TYPE declare, those of enumerations among them
abbrev pub type_entry_names : List tree.TypeEntry → List tree.Name
type_entry_names [] = []
type_entry_names (x ∷ xs) = x.name ∷ type_names x.type_node ++ type_entry_names xs

-- the names that the entries of VAR declare, those of enumerations among them
abbrev pub var_names : List tree.VarEntry → List tree.Name
var_names [] = []
var_names (x ∷ xs) = all_names x.names ++ type_names x.type_node ++ var_names xs

-- the names that declarations declare in their block, in the order of the text
abbrev pub decl_names : tree.Decl → List tree.Name
decl_names (tree.const_decl n xs) = const_names xs
decl_names (tree.type_decl n xs) = type_entry_names xs
decl_names (tree.var_decl n xs) = var_names xs
decl_names (tree.procedure n name params result b end_name) = name ∷ []

-- the same of all declarations of a block
abbrev pub decls_names : tree.DeclTail → List tree.Name
decls_names tree.no_decl = []
decls_names (tree.more_decl d rest) = decl_names d ++ decls_names rest

-- the names that the declarations of a block declare in it
abbrev pub block_names : tree.Block → List tree.Name
block_names (tree.block n decls body) = decls_names decls

-- the names of parameters, in the order of the text
abbrev pub formal_names : List tree.Formal → List tree.Name
formal_names [] = []
formal_names (x ∷ xs) = all_names x.names ++ formal_names xs

-- names by their texts, each with the token of its first declaration: one of them has this text
abbrev pub has_text : List ℕ → List (List ℕ × ℕ) → Bool
has_text text [] = false
has_text text (d ∷ ds) = bytes_eq text d.0 || has_text text ds

-- these names, with one more where none of them has its text
abbrev pub with_text : List (List ℕ × ℕ) → (text : List ℕ) → (token : ℕ) → List (List ℕ × ℕ)
with_text ds text token = if has_text text ds then ds else ds ++ (text, token) ∷ []

-- these names, with further ones behind them, each text once
abbrev pub texts_behind : Scene → List (List ℕ × ℕ) → List tree.Name → List (List ℕ × ℕ)
texts_behind s ds [] = ds
texts_behind s ds (x ∷ xs) = texts_behind s (with_text ds (text_at s x.token) x.token) xs

-- names by their texts, each text once
abbrev pub with_texts : Scene → List tree.Name → List (List ℕ × ℕ)
with_texts s xs = texts_behind s [] xs

-- ---- routines

-- the number of routines in declarations
unfoldable mutual
  -- of a block
  pub block_routines : tree.Block → ℕ
  block_routines (tree.block n decls body) = decls_routines decls

  -- of declarations
  pub decls_routines : tree.DeclTail → ℕ
  decls_routines tree.no_decl = 0
  decls_routines (tree.more_decl d rest) = decl_routines d + decls_routines rest

  -- of one declaration
  pub decl_routines : tree.Decl → ℕ
  decl_routines (tree.const_decl n xs) = 0
  decl_routines (tree.type_decl n xs) = 0
  decl_routines (tree.var_decl n xs) = 0
  decl_routines (tree.procedure n name params result b end_name) = 1 + block_routines b

-- a procedure's name is visible in its whole block; the routines have the numbers from r on, in the order of their words
abbrev pub with_routine : Scene → ℕ → tree.Decl → Scene
with_routine s r (tree.const_decl n xs) = s
with_routine s r (tree.type_decl n xs) = s
with_routine s r (tree.var_decl n xs) = s
with_routine s r (tree.procedure n name params result b end_name) = declare_name s name 0 (entry.Routine r)

-- the names of all procedures among declarations, as `with_routine` has each
abbrev pub with_routines : Scene → ℕ → tree.DeclTail → Scene
with_routines s r tree.no_decl = s
with_routines s r (tree.more_decl d rest) = with_routines (with_routine s r d) (r + decl_routines d) rest

-- the same of the declarations of a block
abbrev pub with_routines_of : Scene → ℕ → tree.Block → Scene
with_routines_of s r (tree.block n decls body) = with_routines s r decls

-- a new block, with the names that it declares, of which those before its declarations are given
abbrev pub with_block : Scene → (routine : ℕ) → Returns → List tree.Name → tree.Block → Scene
with_block s r returns names b =
    with_routines_of (record s {
      blocks = with_new_block s.blocks;
      declares = with_texts s (names ++ block_names b);
      routine = r;
      returns =
          returns;
    }) (r + 1) b

-- ---- headings

-- how a parameter takes its argument, by whether its type is structured, and by its mode
abbrev pub param_kind : (structured : Bool) → Option Mode → ArgKind
param_kind false None = kinds.Value
param_kind true None = kinds.Cells
param_kind s (Some modes.Var) = kinds.Place
param_kind false (Some modes.Mix) = kinds.Mix
param_kind true (Some modes.Mix) = kinds.Place

-- the declared cells of a parameter: those of its type where it is passed by value, and else one
abbrev pub declared_cells : Option Mode → ℕ → ℕ
declared_cells None n = n
declared_cells (Some m) n = 1

-- a simple MIX parameter has a slot for a place and one for a number
abbrev pub param_slots : ArgKind → ℕ → ℕ
param_slots kinds.Value n = 1
param_slots kinds.Place n = 1
param_slots kinds.Mix n = 2
param_slots kinds.Cells n = n

-- how a parameter is reached: by value it stands in its frame, with a mode it is reached through its slot
abbrev pub param_access : Option Mode → ℕ → Access
param_access None slot = access.Local slot
param_access (Some m) slot = access.Param slot

-- the frame with one more parameter of this mode, shape and kind
abbrev pub with_param : Frame → tree.Name → (from : ℕ) → Option Mode → ℕ → ArgKind → Frame
with_param f name from mode shape kind =
    record f {
      scene = declare_name f.scene name from (entry.Variable (shape_id shape) (param_access mode f.slots));
      slots = f.slots + param_slots kind (cells f.scene shape);
      declared = f.declared + declared_cells mode (cells f.scene shape);
      params = f.params ++ record { kind = kind; slot = f.slots; cells = cells f.scene shape; range = range f.scene shape } ∷ [];
    }

-- the frame with one more formal, None where its type is Bad
abbrev pub with_formal : Frame → Option FormalOf → Frame
with_formal f x = record f { formals = f.formals ++ x ∷ [] }

-- a parameter, where its type is not Bad and it is the first of its name; and its formal in any case
abbrev pub param_in : Frame → (from : ℕ) → Option Mode → Option ℕ → tree.Name → Frame
param_in f from mode None name =
    with_formal (record f {
      faults = f.faults ++ broken_at name.node (redeclaration_rules f.scene name);
      scene =
          declare_name f.scene name from entry.Bad;
    }) None
param_in f from mode (Some shape) name = with_formal (if_true (is_first f.scene name)
    (λ _. within_limit name f (with_param f name from mode shape (param_kind (is_structured f.scene shape) mode)))
    (λ _. with_faults f (broken_at name.node (redeclaration_rules f.scene name)))) (Some (record { mode = mode; shape = shape }))

-- parameters of one Formal, as `param_in` has each
abbrev pub params_in : Frame → (from : ℕ) → Option Mode → Option ℕ → List tree.Name → Frame
params_in f from mode shape [] = f
params_in f from mode shape (x ∷ xs) = params_in (param_in f from mode shape x) from mode shape xs

-- a Formal: its parameters are visible behind its type
abbrev pub formal_in : Frame → tree.Formal → Reading ℕ → Frame
formal_in f x r = with_faults (params_in f (x.type_name.token + 1) x.mode r.value (all_names x.names)) r.faults

-- the frame behind the Formals of a heading
abbrev pub read_formals : Frame → List tree.Formal → Frame
read_formals f [] = f
read_formals f (x ∷ xs) = read_formals (formal_in f x (read_type_name f.scene x.type_name)) xs

-- the Formals between parentheses, if there are any
abbrev pub formals_in : Option tree.Formals → List tree.Formal
formals_in None = []
formals_in (Some x) = x.first ∷ x.more

-- the Formals of a heading, if it has parentheses
abbrev pub formals_of : Option tree.Params → List tree.Formal
formals_of None = []
formals_of (Some x) = formals_in x.formals

-- TypeMismatch: the Name of a result type that is structured
abbrev pub structured_result : Scene → ℕ → Bool
structured_result s shape = is_structured s shape

-- the rules on the Name of a result type
abbrev pub result_rules : Scene → Option ℕ → List CheckFault
result_rules s v = when (holds (structured_result s) v) fault.TypeMismatch

-- NestedProcedure: a PROCEDURE that stands inside eight others
abbrev pub too_deep : Scene → List CheckFault
too_deep s = when (nat_le 8 (level s)) fault.NestedProcedure

-- a heading: its frame with the parameters, the result, and the heading, None where it is Bad
pub record FramedHeading : Type 0 where
  pub frame : Frame
  pub returns : Returns
  pub heading : Option Heading

-- all formals, where none is Bad
abbrev pub all_formals : List (Option FormalOf) → Option (List FormalOf)
all_formals [] = Some []
all_formals (None ∷ xs) = None
all_formals (Some x ∷ xs) = option_map (λ ys. x ∷ ys) (all_formals xs)

-- the heading with the parameters of a frame, this result and these formals
abbrev pub heading_with : Frame → Option ℕ → List FormalOf → Heading
heading_with f result formals = record { formals = formals; result = result; params = f.params }

-- the heading of a procedure without result, None where it is Bad
abbrev pub proper_heading : Frame → Option Heading
proper_heading f = if_unbroken f.faults (option_map (heading_with f None) (all_formals f.formals))

-- the heading of a function with a result of this shape, None where it is Bad
abbrev pub function_heading : Frame → ℕ → Option Heading
function_heading f result = if_unbroken f.faults (option_map (heading_with f (Some result)) (all_formals f.formals))

-- the frame with what RETURN gives in its routine
abbrev pub with_returns : Frame → Returns → Frame
with_returns f r = record f { scene = record f.scene { returns = r } }

-- the heading of a function, of what the Name of its result type gives, with the rules broken there
abbrev pub headed_function : Frame → tree.Name → Reading ℕ → FramedHeading
headed_function f name r =
    record {
      frame = with_returns (with_faults f (r.faults ++ broken_at name.node (result_rules f.scene r.value))) (a_value r.value);
      returns = a_value r.value;
      heading = option_and_then (function_heading (with_faults f (r.faults ++ broken_at name.node (result_rules f.scene r.value)))) r.value;
    }

-- the heading behind its parameters, with a result type or without one
abbrev pub heading_at : Frame → Option tree.Name → FramedHeading
heading_at f None = record { frame = with_returns f nothing; returns = nothing; heading = proper_heading f }
heading_at f (Some name) = headed_function f name (read_type_name f.scene name)

-- the heading with the rules that its depth breaks; Bad where there are any
abbrev pub with_depth : List CheckFault → ℕ → FramedHeading → FramedHeading
with_depth [] n h = h
with_depth (x ∷ xs) n h = record h { frame = with_faults h.frame (broken_at n (x ∷ xs)); heading = None }

-- a frame with nothing declared in it, and this first free slot
abbrev pub new_frame : Scene → (slots : ℕ) → Frame
new_frame s slots = record { faults = []; scene = s; slots = slots; declared = 0; params = []; formals = []; variables = [] }

-- the heading of routine r in a scene: its block, with its parameters
abbrev pub read_heading : Scene → (r : ℕ) → (node : ℕ) → Option tree.Params → Option tree.Name → tree.Block → FramedHeading
read_heading s r node params result b =
    with_depth (too_deep s) node
    (heading_at (read_formals (new_frame (with_block s r nothing (formal_names (formals_of params)) b) 0) (formals_of params)) result)

-- ---- all declarations of a block, in order; of procedures only the headings

-- the frame behind a heading, which the scene keeps by the number of the routine
abbrev pub heading_in : Frame → (r : ℕ) → tree.Name → FramedHeading → Frame
heading_in f r name h =
    record f {
      faults = f.faults ++ broken_at name.node (redeclaration_rules f.scene name) ++ h.frame.faults;
      scene = record f.scene { headings = set f.scene.headings r h.heading };
    }

-- the frame behind one declaration
abbrev pub read_decl : Frame → (r : ℕ) → tree.Decl → Frame
read_decl f r (tree.const_decl n xs) = read_consts f xs
read_decl f r (tree.type_decl n xs) = read_types f xs
read_decl f r (tree.var_decl n xs) = read_vars f xs
read_decl f r (tree.procedure n name params result b end_name) = heading_in f r name (read_heading f.scene r n params result b)

-- the frame behind all declarations of a block
abbrev pub read_decls : Frame → (r : ℕ) → tree.DeclTail → Frame
read_decls f r tree.no_decl = f
read_decls f r (tree.more_decl d rest) = read_decls (read_decl f r d) (r + decl_routines d) rest
