-- Declarations and headings: the variables, their names and the parameters are paid by the names of the tree.
use Rattle.std.proofs.Common.{◌≡◌, ℕ, ◌+◌, ◌≤◌, Bool, true, false, List, [], ◌∷◌, length, Option, None, Some, refl, ap, ◌∙◌, arith}
use Rattle.std.specs.Prelude.{sum_by}
use Rattle.std.proofs.lemmas.List.{length-append}
use Rattle.std.proofs.lemmas.List.Sums.{sum_by-cons, sum_by-append}
use Rattle.alma_base.specs.Choice.{if_true}
use Rattle.alma_base.specs.declared.fault.CheckFault.{CheckFault}
use Rattle.alma_tree.specs.declared.leaf.Mode.{Mode}
use Rattle.alma_scan.specs.Tokens.{Lexeme}
use Rattle.alma_names.specs.declared.block.Entry.TheVariants as entry
use Rattle.alma_names.specs.Blocks.{shape_id}
use Rattle.alma_ir.specs.declared.program.ArgKind.{ArgKind}
use Rattle.alma_ir.specs.declared.program.ArgKind.TheVariants as kinds
use Rattle.alma_ir.specs.declared.program.Param.{Param}
use Rattle.alma_ir.specs.Tree.{Global}
use Rattle.alma_ir.specs.Checked.{slots_of_kind, param_slots}
use Rattle.alma_rules.specs.Numbered as tree
use Rattle.alma_rules.specs.Judgement.{broken_at}
use Rattle.alma_rules.specs.Scene.{cells, range, is_first, is_structured, text_at}
use Rattle.alma_rules.specs.Places.{width, mark_expr, mark_type}
use Rattle.alma_rules.specs.Types.{read_constant, declare_name, redeclaration_rules, read_type, read_type_name, all_names, last_token}
use Rattle.alma_rules.specs.Decls.{Frame, with_faults, with_scene, within_limit, constant_entry, constant_in, read_consts, type_entry}
use Rattle.alma_rules.specs.Decls.{type_in}
use Rattle.alma_rules.specs.Decls.{read_types, variable_access, with_variable, variable_in, variables_in, variables_of, read_vars}
use Rattle.alma_rules.specs.Decls.{param_kind, with_param, with_formal, param_in, params_in, formal_in, read_formals, formals_of, too_deep}
use Rattle.alma_rules.specs.Decls.{heading_at, with_depth, read_heading, read_decl, read_decls, decl_routines}
use Rattle.alma_rules.specs.Scene.{Scene}
use Rattle.alma_rules.proofs.Limited.{limited_case}
use Rattle.alma_resolved.proofs.HeadsSound.{first_frame}
use Rattle.alma_resolved.proofs.Slots.{head_laid}
use Rattle.alma_resolved.proofs.Entries.{cells_of_kind, cells_declared}
use Rattle.alma_resolved.proofs.HeadCells.{head_cells}
use Rattle.alma_resolved.proofs.Named.{declared_same, type_same}
use Rattle.alma_resolved.proofs.LoopSlots.{ones}
use Rattle.alma_resolved.proofs.Printing.{sizes}
use Rattle.alma_resolved.proofs.DeclWeights.{weigh_names, weigh_vars, weigh_formals, weigh_block, weigh_decls, weigh_decl}

-- ---- variables

-- the scene has these tokens, and there are so many variables, with names of so many bytes
pub record Holds (tokens : List Lexeme) (f : Frame) (a b : ℕ) : Type 0 where
  pub tokens_are : f.scene.tokens ≡ tokens
  pub many : length f.variables ≤ a
  pub names : sum_by (λ (g : Global). length g.name) f.variables ≤ b

holds_up : (tokens : List Lexeme) (f : Frame) (a b c d : ℕ) → a ≤ c → b ≤ d → Holds tokens f a b → Holds tokens f c d
holds_up tokens f a b c d le more h = record {
  tokens_are = h.tokens_are;
  many = omega (arith, h.many, le);
  names =
      omega (arith, h.names, more);
}

consts_hold : (tokens : List Lexeme) (f : Frame) (a b : ℕ) (xs : List tree.ConstEntry) → Holds tokens f a b
    → Holds tokens (read_consts f xs) a b
consts_hold tokens f a b [] h = h
consts_hold tokens f a b (x ∷ xs) h =
    consts_hold tokens (constant_in f x (read_constant f.scene x.value)) a b xs
    (record {
      tokens_are = (declared_same f.scene x.name (x.name.token + 3 + width (mark_expr x.value))
          (constant_entry (read_constant f.scene x.value).value)).is ∙ h.tokens_are;
      many = h.many;
      names = h.names;
    })

types_hold : (tokens : List Lexeme) (f : Frame) (a b : ℕ) (xs : List tree.TypeEntry) → Holds tokens f a b
    → Holds tokens (read_types f xs) a b
types_hold tokens f a b [] h = h
types_hold tokens f a b (x ∷ xs) h =
    types_hold tokens (type_in f x (read_type f.scene x.type_node)) a b xs
    (record {
      tokens_are = (declared_same (read_type f.scene x.type_node).scene x.name (x.name.token + 3 + width (mark_type x.type_node))
          (type_entry (read_type f.scene x.type_node).value)).is ∙ ((type_same f.scene x.type_node).is ∙ h.tokens_are);
      many = h.many;
      names = h.names;
    })

variable_holds : (tokens : List Lexeme) (f : Frame) (a b from : ℕ) (o : Option ℕ) (x : tree.Name) → Holds tokens f a b
    → Holds tokens (variable_in f from o x) (a + 1) (b + sizes tokens x.token)
variable_holds tokens f a b from None x h =
    record {
      tokens_are = (declared_same f.scene x from entry.Bad).is ∙ h.tokens_are;
      many = omega (arith, h.many);
      names =
          omega (arith, h.names);
    }
variable_holds tokens f a b from (Some shape) x h =
    by (is_first f.scene x) ((declared_same f.scene x from (entry.Variable (shape_id shape) (variable_access f.scene f.slots))).is
    ∙ h.tokens_are)
  where
    made : Global
    made = record { name = text_at f.scene x.token; slot = f.slots; cells = cells f.scene shape }

    own : length (text_at f.scene x.token) ≡ sizes tokens x.token
    own = ap (λ ts. sizes ts x.token) h.tokens_are

    by : (c : Bool) → (declare_name f.scene x from (entry.Variable (shape_id shape) (variable_access f.scene f.slots))).tokens ≡ tokens
        → Holds tokens (if_true c (λ u. within_limit x f (with_variable f x from shape))
        (λ u. with_faults f (broken_at x.node (redeclaration_rules f.scene x)))) (a + 1) (b + sizes tokens x.token)
    by true e = limited_case (λ g. Holds tokens g (a + 1) (b + sizes tokens x.token)) x f (with_variable f x from shape) (λ le. record {
      tokens_are = e;
      many = omega (arith, length-append f.variables (made ∷ []), h.many);
      names = omega (
        arith,
        sum_by-append (λ (g : Global). length g.name) f.variables (made ∷ []),
        sum_by-cons (λ (g : Global). length g.name) made [],
        own,
        h.names,
      );
    }) (record { tokens_are = e; many = omega (arith, h.many); names = omega (arith, h.names) })
    by false e = record { tokens_are = h.tokens_are; many = omega (arith, h.many); names = omega (arith, h.names) }

variables_hold : (tokens : List Lexeme) (f : Frame) (a b from : ℕ) (o : Option ℕ) (xs : List tree.Name) → Holds tokens f a b
    → Holds tokens (variables_in f from o xs) (a + weigh_names ones xs) (b + weigh_names (sizes tokens) xs)
variables_hold tokens f a b from o [] h = holds_up tokens f a b (a + 0) (b + 0) (omega arith) (omega arith) h
variables_hold tokens f a b from o (x ∷ xs) h =
    holds_up tokens (variables_in (variable_in f from o x) from o xs) ((a + 1) + weigh_names ones xs)
    ((b + sizes tokens x.token) + weigh_names (sizes tokens) xs)
    (a + (1 + weigh_names ones xs)) (b + (sizes tokens x.token + weigh_names (sizes tokens) xs)) (omega arith) (omega arith)
    (variables_hold tokens (variable_in f from o x) (a + 1) (b + sizes tokens x.token) from o xs (variable_holds tokens f a b from o x h))

vars_hold : (tokens : List Lexeme) (f : Frame) (a b : ℕ) (xs : List tree.VarEntry) → Holds tokens f a b
    → Holds tokens (read_vars f xs) (a + weigh_vars ones xs) (b + weigh_vars (sizes tokens) xs)
vars_hold tokens f a b [] h = holds_up tokens f a b (a + 0) (b + 0) (omega arith) (omega arith) h
vars_hold tokens f a b (x ∷ xs) h =
    let one = variables_hold tokens (with_scene f (read_type f.scene x.type_node).scene) a b
    (last_token x.names.first x.names.more + 3 + width (mark_type x.type_node)) (read_type f.scene x.type_node).value
    (all_names x.names)
    (record { tokens_are = (type_same f.scene x.type_node).is ∙ h.tokens_are; many = h.many; names = h.names }) in
    let n = weigh_names ones (all_names x.names) in
    let m = weigh_names (sizes tokens) (all_names x.names) in
    holds_up tokens (read_vars (variables_of f x (read_type f.scene x.type_node)) xs) ((a + n) + weigh_vars ones xs)
    ((b + m) + weigh_vars (sizes tokens) xs)
    (a + (n + weigh_vars ones xs)) (b + (m + weigh_vars (sizes tokens) xs)) (omega arith) (omega arith)
    (vars_hold tokens (variables_of f x (read_type f.scene x.type_node)) (a + n) (b + m) xs
    (record { tokens_are = one.tokens_are; many = one.many; names = one.names }))

decl_holds : (tokens : List Lexeme) (f : Frame) (a b r : ℕ) (d : tree.Decl) → Holds tokens f a b
    → Holds tokens (read_decl f r d) (a + weigh_decl ones d) (b + weigh_decl (sizes tokens) d)
unfolding weigh_block
decl_holds tokens f a b r (tree.const_decl n xs) h =
    holds_up tokens (read_consts f xs) a b (a + 0) (b + 0) (omega arith) (omega arith) (consts_hold tokens f a b xs h)
decl_holds tokens f a b r (tree.type_decl n xs) h =
    holds_up tokens (read_types f xs) a b (a + 0) (b + 0) (omega arith) (omega arith) (types_hold tokens f a b xs h)
decl_holds tokens f a b r (tree.var_decl n xs) h = vars_hold tokens f a b xs h
decl_holds tokens f a b r (tree.procedure n x params result inner end_name) h =
    record { tokens_are = h.tokens_are; many = omega (arith, h.many); names = omega (arith, h.names) }

-- what declarations add is paid by what they weigh
pub decls_hold : (tokens : List Lexeme) (f : Frame) (a b r : ℕ) (x : tree.DeclTail) → Holds tokens f a b
    → Holds tokens (read_decls f r x) (a + weigh_decls ones x) (b + weigh_decls (sizes tokens) x)
unfolding weigh_block
decls_hold tokens f a b r tree.no_decl h = holds_up tokens f a b (a + 0) (b + 0) (omega arith) (omega arith) h
decls_hold tokens f a b r (tree.more_decl d rest) h =
    let n = weigh_decl ones d in
    let m = weigh_decl (sizes tokens) d in
    holds_up tokens (read_decls (read_decl f r d) (r + decl_routines d) rest) ((a + n) + weigh_decls ones rest)
    ((b + m) + weigh_decls (sizes tokens) rest)
    (a + (n + weigh_decls ones rest)) (b + (m + weigh_decls (sizes tokens) rest)) (omega arith) (omega arith)
    (decls_hold tokens (read_decl f r d) (a + n) (b + m) (r + decl_routines d) rest (decl_holds tokens f a b r d h))

-- ---- parameters

param_few : (f : Frame) (from : ℕ) (mode : Option Mode) (o : Option ℕ) (x : tree.Name)
    → length (param_in f from mode o x).params ≤ length f.params + 1
param_few f from mode None x = omega arith
param_few f from mode (Some shape) x = by (is_first f.scene x)
  where
    made : Param
    made = record {
      kind = param_kind (is_structured f.scene shape) mode;
      slot = f.slots;
      cells = cells f.scene shape;
      range =
          range f.scene shape;
    }

    by : (c : Bool)
        → length (with_formal (if_true c
        (λ u. within_limit x f (with_param f x from mode shape (param_kind (is_structured f.scene shape) mode)))
        (λ u. with_faults f (broken_at x.node (redeclaration_rules f.scene x)))) (Some (record { mode = mode; shape = shape }))).params
        ≤ length f.params + 1
    by true = limited_case (λ g. length (with_formal g (Some (record { mode = mode; shape = shape }))).params ≤ length f.params + 1) x f
        (with_param f x from mode shape (param_kind (is_structured f.scene shape) mode))
        (λ le. omega (arith, length-append f.params (made ∷ []))) (omega arith)
    by false = omega arith

params_few : (f : Frame) (from : ℕ) (mode : Option Mode) (o : Option ℕ) (xs : List tree.Name)
    → length (params_in f from mode o xs).params ≤ length f.params + weigh_names ones xs
params_few f from mode o [] = omega arith
params_few f from mode o (x ∷ xs) = omega (arith, params_few (param_in f from mode o x) from mode o xs, param_few f from mode o x)

formals_few : (f : Frame) (xs : List tree.Formal) → length (read_formals f xs).params ≤ length f.params + weigh_formals ones xs
formals_few f [] = omega arith
formals_few f (x ∷ xs) =
    omega (
      arith,
      formals_few (formal_in f x (read_type_name f.scene x.type_name)) xs,
      params_few f (x.type_name.token + 1) x.mode (read_type_name f.scene x.type_name).value (all_names x.names),
    )

-- the parameters of a heading are paid by their names
pub head_few : (s : Scene) (r n : ℕ) (params : Option tree.Params) (result : Option tree.Name) (b : tree.Block)
    → length (read_heading s r n params result b).frame.params ≤ weigh_formals ones (formals_of params)
head_few s r n params result b =
    omega (
      arith,
      ap (λ (ps : List Param). length ps) (deep (too_deep s) ∙ one result),
      formals_few (first_frame s r params b) (formals_of params),
    )
  where
    deep : (d : List CheckFault) → (with_depth d n
        (heading_at (read_formals (first_frame s r params b) (formals_of params)) result)).frame.params
        ≡ (heading_at (read_formals (first_frame s r params b) (formals_of params)) result).frame.params
    deep [] = refl
    deep (x ∷ xs) = refl

    one : (o : Option tree.Name) → (heading_at (read_formals (first_frame s r params b) (formals_of params)) o).frame.params
        ≡ (read_formals (first_frame s r params b) (formals_of params)).params
    one None = refl
    one (Some x) = refl

-- ---- slots

-- the slots of parameters are at most their declared cells, and one for each
slots_few : (ps : List Param) → sum_by param_slots ps ≤ sum_by cells_declared ps + length ps
slots_few [] = omega arith
slots_few (q ∷ qs) = omega (arith, sum_by-cons param_slots q qs, sum_by-cons cells_declared q qs, one q, slots_few qs)
  where
    one : (q : Param) → param_slots q ≤ cells_declared q + 1
    one q = by q.kind q.cells
      where
        by : (k : ArgKind) (n : ℕ) → slots_of_kind k n ≤ cells_of_kind k n + 1
        by kinds.Value n = omega arith
        by kinds.Place n = omega arith
        by kinds.Mix n = omega arith
        by kinds.Cells n = omega arith

-- the slots of a heading
pub head_slots : (s : Scene) (r n : ℕ) (params : Option tree.Params) (result : Option tree.Name) (b : tree.Block)
    → (read_heading s r n params result b).frame.slots ≤ (read_heading s r n params result b).frame.declared
    + length (read_heading s r n params result b).frame.params
head_slots s r n params result b =
    omega (
      arith,
      (head_laid s r n params result b).sum,
      head_cells s r n params result b,
      slots_few (read_heading s r n params result b).frame.params,
    )
