-- Declared cells: those of a frame are within the limit, and those of parameters are known from them.
use Rattle.std.proofs.Common.{◌≡◌, ℕ, ◌+◌, ◌≤◌, Bool, true, false, List, [], ◌∷◌, ◌++◌, Option, None, Some, refl, sym, ◌∙◌, arith}
use Rattle.std.specs.Prelude.{sum_by}
use Rattle.std.proofs.lemmas.List.Sums.{sum_by-cons}
use Rattle.alma_base.specs.Choice.{if_true}
use Rattle.alma_base.specs.Limits.{cell_limit}
use Rattle.alma_base.specs.declared.number.Range.{Range}
use Rattle.alma_base.specs.declared.fault.CheckFault.{CheckFault}
use Rattle.alma_tree.specs.declared.leaf.Mode.{Mode}
use Rattle.alma_tree.specs.declared.leaf.Mode.TheVariants as modes
use Rattle.alma_ir.specs.declared.program.Param.{Param}
use Rattle.alma_rules.specs.Numbered as tree
use Rattle.alma_rules.specs.Judgement.{broken_at}
use Rattle.alma_rules.specs.Scene.{Scene, cells, range, is_first, is_structured}
use Rattle.alma_rules.specs.Places.{width, mark_type}
use Rattle.alma_rules.specs.Types.{redeclaration_rules, read_constant, read_type, read_type_name, all_names, last_token}
use Rattle.alma_rules.specs.Decls.{Frame, with_faults, with_scene, within_limit, constant_in, read_consts, type_in, read_types}
use Rattle.alma_rules.specs.Decls.{with_variable}
use Rattle.alma_rules.specs.Decls.{variable_in, variables_in, variables_of, read_vars, declared_cells, param_kind, with_param, param_in}
use Rattle.alma_rules.specs.Decls.{params_in, formal_in, read_formals, formals_of, too_deep}
use Rattle.alma_rules.specs.Decls.{heading_at, with_depth, read_heading, read_decl, read_decls, decl_routines}
use Rattle.alma_rules.specs.Decls as decls
use Rattle.alma_rules.proofs.Limited.{limited_case}
use Rattle.alma_resolved.proofs.HeadsSound.{first_frame}
use Rattle.alma_resolved.proofs.Entries.{cells_declared}

-- ---- parameters

sum_more : (ps : List Param) (q : Param) → sum_by cells_declared (ps ++ q ∷ []) ≡ sum_by cells_declared ps + cells_declared q
sum_more [] q = omega (arith, sum_by-cons cells_declared q [])
sum_more (p ∷ ps) q = omega (arith, sum_by-cons cells_declared p (ps ++ q ∷ []), sum_by-cons cells_declared p ps, sum_more ps q)

abbrev made : Frame → Option Mode → ℕ → Param
made f mode shape = record {
  kind = param_kind (is_structured f.scene shape) mode;
  slot = f.slots;
  cells = cells f.scene shape;
  range =
      range f.scene shape;
}

kind_cells : (b : Bool) (mode : Option Mode) (slot n : ℕ) (r : Range)
    → cells_declared (record { kind = param_kind b mode; slot = slot; cells = n; range = r }) ≡ declared_cells mode n
kind_cells true None slot n r = refl
kind_cells false None slot n r = refl
kind_cells true (Some modes.Var) slot n r = refl
kind_cells false (Some modes.Var) slot n r = refl
kind_cells true (Some modes.Mix) slot n r = refl
kind_cells false (Some modes.Mix) slot n r = refl

param_cells : (f : Frame) (from : ℕ) (mode : Option Mode) (o : Option ℕ) (name : tree.Name) → f.declared ≡ sum_by cells_declared f.params
    → (param_in f from mode o name).declared ≡ sum_by cells_declared (param_in f from mode o name).params
param_cells f from mode None name h = h
param_cells f from mode (Some shape) name h = by (is_first f.scene name)
  where
    by : (b : Bool)
        → (decls.with_formal (if_true b
        (λ u. within_limit name f (with_param f name from mode shape (param_kind (is_structured f.scene shape) mode)))
        (λ u. with_faults f (broken_at name.node (redeclaration_rules f.scene name))))
        (Some (record { mode = mode; shape = shape }))).declared
        ≡ sum_by cells_declared (decls.with_formal
        (if_true b (λ u. within_limit name f (with_param f name from mode shape (param_kind (is_structured f.scene shape) mode)))
        (λ u. with_faults f (broken_at name.node (redeclaration_rules f.scene name))))
        (Some (record { mode = mode; shape = shape }))).params
    by true = limited_case (λ x. (decls.with_formal x (Some (record { mode = mode; shape = shape }))).declared ≡ sum_by cells_declared
        (decls.with_formal x (Some (record { mode = mode; shape = shape }))).params) name f
        (with_param f name from mode shape (param_kind (is_structured f.scene shape) mode))
        (λ le. omega (
          arith,
          h,
          sum_more f.params (made f mode shape),
          kind_cells (is_structured f.scene shape) mode f.slots (cells f.scene shape) (range f.scene shape),
        )) h
    by false = h

params_cells : (f : Frame) (from : ℕ) (mode : Option Mode) (o : Option ℕ) (xs : List tree.Name)
    → f.declared ≡ sum_by cells_declared f.params
    → (params_in f from mode o xs).declared ≡ sum_by cells_declared (params_in f from mode o xs).params
params_cells f from mode o [] h = h
params_cells f from mode o (x ∷ xs) h = params_cells (param_in f from mode o x) from mode o xs (param_cells f from mode o x h)

formals_cells : (f : Frame) (xs : List tree.Formal) → f.declared ≡ sum_by cells_declared f.params
    → (read_formals f xs).declared ≡ sum_by cells_declared (read_formals f xs).params
formals_cells f [] h = h
formals_cells f (x ∷ xs) h = formals_cells (formal_in f x (read_type_name f.scene x.type_name)) xs
    (params_cells f (x.type_name.token + 1) x.mode (read_type_name f.scene x.type_name).value (all_names x.names) h)

-- the declared cells of a heading are those of its parameters
pub head_cells : (s : Scene) (r n : ℕ) (params : Option tree.Params) (result : Option tree.Name) (b : tree.Block)
    → (read_heading s r n params result b).frame.declared ≡ sum_by cells_declared (read_heading s r n params result b).frame.params
head_cells s r n params result b = by (too_deep s) (one result (formals_cells (first_frame s r params b) (formals_of params) refl))
  where
    by : (d : List CheckFault) → (heading_at (read_formals (first_frame s r params b) (formals_of params)) result).frame.declared ≡ sum_by
        cells_declared (heading_at (read_formals (first_frame s r params b) (formals_of params)) result).frame.params
        → (with_depth d n (heading_at (read_formals (first_frame s r params b) (formals_of params)) result)).frame.declared ≡ sum_by
        cells_declared (with_depth d n (heading_at (read_formals (first_frame s r params b) (formals_of params)) result)).frame.params
    by [] h = h
    by (x ∷ xs) h = h

    one : (o : Option tree.Name) → (read_formals (first_frame s r params b) (formals_of params)).declared ≡ sum_by cells_declared
        (read_formals (first_frame s r params b) (formals_of params)).params
        → (heading_at (read_formals (first_frame s r params b) (formals_of params)) o).frame.declared ≡ sum_by cells_declared
        (heading_at (read_formals (first_frame s r params b) (formals_of params)) o).frame.params
    one None h = h
    one (Some name) h = h

-- ---- the limit

param_small : (f : Frame) (from : ℕ) (mode : Option Mode) (o : Option ℕ) (name : tree.Name) → f.declared ≤ cell_limit
    → (param_in f from mode o name).declared ≤ cell_limit
param_small f from mode None name h = h
param_small f from mode (Some shape) name h = by (is_first f.scene name)
  where
    by : (b : Bool) → (if_true b
        (λ u. within_limit name f (with_param f name from mode shape (param_kind (is_structured f.scene shape) mode)))
        (λ u. with_faults f (broken_at name.node (redeclaration_rules f.scene name)))).declared ≤ cell_limit
    by true = limited_case (λ x. x.declared ≤ cell_limit) name f
        (with_param f name from mode shape (param_kind (is_structured f.scene shape) mode)) (λ le. le) h
    by false = h

params_small : (f : Frame) (from : ℕ) (mode : Option Mode) (o : Option ℕ) (xs : List tree.Name) → f.declared ≤ cell_limit
    → (params_in f from mode o xs).declared ≤ cell_limit
params_small f from mode o [] h = h
params_small f from mode o (x ∷ xs) h = params_small (param_in f from mode o x) from mode o xs (param_small f from mode o x h)

formals_small : (f : Frame) (xs : List tree.Formal) → f.declared ≤ cell_limit → (read_formals f xs).declared ≤ cell_limit
formals_small f [] h = h
formals_small f (x ∷ xs) h =
    formals_small (formal_in f x (read_type_name f.scene x.type_name)) xs
    (params_small f (x.type_name.token + 1) x.mode (read_type_name f.scene x.type_name).value (all_names x.names) h)

-- the parameters of a heading are within the limit
pub head_small : (s : Scene) (r n : ℕ) (params : Option tree.Params) (result : Option tree.Name) (b : tree.Block)
    → sum_by cells_declared (read_heading s r n params result b).frame.params ≤ cell_limit
head_small s r n params result b =
    let small : (read_formals (first_frame s r params b) (formals_of params)).declared ≤ cell_limit =
    formals_small (first_frame s r params b) (formals_of params) (omega arith) in
    let same : sum_by cells_declared (read_heading s r n params result b).frame.params
    ≡ (read_formals (first_frame s r params b) (formals_of params)).declared = sym (head_cells s r n params result b)
    ∙ (down (too_deep s) ∙ one result) in
    omega (arith, same, small)
  where
    down : (d : List CheckFault) → (with_depth d n
        (heading_at (read_formals (first_frame s r params b) (formals_of params)) result)).frame.declared
        ≡ (heading_at (read_formals (first_frame s r params b) (formals_of params)) result).frame.declared
    down [] = refl
    down (x ∷ xs) = refl

    one : (o : Option tree.Name) → (heading_at (read_formals (first_frame s r params b) (formals_of params)) o).frame.declared
        ≡ (read_formals (first_frame s r params b) (formals_of params)).declared
    one None = refl
    one (Some name) = refl

-- ---- declarations

consts_keep : (f : Frame) (xs : List tree.ConstEntry) → (read_consts f xs).declared ≡ f.declared
consts_keep f [] = refl
consts_keep f (x ∷ xs) = consts_keep (constant_in f x (read_constant f.scene x.value)) xs

types_keep : (f : Frame) (xs : List tree.TypeEntry) → (read_types f xs).declared ≡ f.declared
types_keep f [] = refl
types_keep f (x ∷ xs) = types_keep (type_in f x (read_type f.scene x.type_node)) xs

variable_small : (f : Frame) (from : ℕ) (o : Option ℕ) (name : tree.Name) → f.declared ≤ cell_limit
    → (variable_in f from o name).declared ≤ cell_limit
variable_small f from None name h = h
variable_small f from (Some shape) name h = by (is_first f.scene name)
  where
    by : (b : Bool) → (if_true b (λ u. within_limit name f (with_variable f name from shape))
        (λ u. with_faults f (broken_at name.node (redeclaration_rules f.scene name)))).declared ≤ cell_limit
    by true = limited_case (λ x. x.declared ≤ cell_limit) name f (with_variable f name from shape) (λ le. le) h
    by false = h

variables_small : (f : Frame) (from : ℕ) (o : Option ℕ) (xs : List tree.Name) → f.declared ≤ cell_limit
    → (variables_in f from o xs).declared ≤ cell_limit
variables_small f from o [] h = h
variables_small f from o (x ∷ xs) h = variables_small (variable_in f from o x) from o xs (variable_small f from o x h)

vars_small : (f : Frame) (xs : List tree.VarEntry) → f.declared ≤ cell_limit → (read_vars f xs).declared ≤ cell_limit
vars_small f [] h = h
vars_small f (x ∷ xs) h =
    vars_small (variables_of f x (read_type f.scene x.type_node)) xs
    (variables_small (with_scene f (read_type f.scene x.type_node).scene)
    (last_token x.names.first x.names.more + 3 + width (mark_type x.type_node)) (read_type f.scene x.type_node).value
    (all_names x.names) h)

decl_small : (f : Frame) (r : ℕ) (d : tree.Decl) → f.declared ≤ cell_limit → (read_decl f r d).declared ≤ cell_limit
decl_small f r (tree.const_decl n xs) h = omega (arith, consts_keep f xs, h)
decl_small f r (tree.type_decl n xs) h = omega (arith, types_keep f xs, h)
decl_small f r (tree.var_decl n xs) h = vars_small f xs h
decl_small f r (tree.procedure n name params result b end_name) h = h

-- declarations stay within the limit
pub decls_small : (f : Frame) (r : ℕ) (x : tree.DeclTail) → f.declared ≤ cell_limit → (read_decls f r x).declared ≤ cell_limit
decls_small f r tree.no_decl h = h
decls_small f r (tree.more_decl d rest) h = decls_small (read_decl f r d) (r + decl_routines d) rest (decl_small f r d h)
