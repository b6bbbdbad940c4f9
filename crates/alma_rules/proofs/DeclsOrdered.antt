-- The rules that are broken in the declarations of a block, and in headings, stand in order.
use Rattle.std.proofs.Common.{ℕ, ◌+◌, ◌<◌, ◌≤◌, List, [], ◌∷◌, ◌++◌, Bool, Option, None, Some, arith}
use Rattle.std.specs.Prelude.{true, false}
use Rattle.alma_base.specs.Choice.{if_true}
use Rattle.alma_base.specs.declared.fault.CheckFault.{CheckFault}
use Rattle.alma_base.specs.declared.fault.CheckFault.TheVariants as fault
use Rattle.alma_tree.specs.declared.leaf.Mode.{Mode}
use Rattle.alma_rules.specs.Numbered as tree
use Rattle.alma_rules.specs.Judgement.{BrokenRule, broken_at}
use Rattle.alma_rules.specs.Scene.{Scene, is_first, is_structured}
use Rattle.alma_rules.specs.Types.{Reading, redeclaration_rules, all_names, last_token, read_type, read_type_name, read_constant}
use Rattle.alma_rules.specs.Places.{width, mark_type}
use Rattle.alma_rules.specs.Decls.{Frame, with_faults, with_scene, constant_in, read_consts, type_in, read_types, with_variable}
use Rattle.alma_rules.specs.Decls.{within_limit}
use Rattle.alma_rules.specs.Decls.{variable_in, variables_in, variables_of, read_vars, with_param, param_kind, param_in, params_in}
use Rattle.alma_rules.specs.Decls.{formal_in, read_formals, formals_in, formals_of, result_rules, too_deep, FramedHeading, heading_at}
use Rattle.alma_rules.specs.Decls.{with_depth}
use Rattle.alma_rules.specs.Decls.{new_frame, with_block, formal_names, read_decl, read_decls, decl_routines}
use Rattle.alma_rules.specs.Scene.{nothing, Found, found}
use Rattle.alma_rules.specs.Judgement.{holds}
use Rattle.alma_rules.specs.Types.{type_name_rules, shape_in}
use Rattle.alma_rules.specs.Decls.{structured_result}
use Rattle.alma_rules.specs.Rising.{rise_consts, rise_type_entries, rise_vars, rise_more_names, rise_formal, rise_more_formals}
use Rattle.alma_rules.specs.Rising.{rise_formals, rise_params, rise_result, rise_block, rise_decls, rise_decl, rise_body}
use Rattle.alma_rules.proofs.Ranks.{InOrder, empty, append, one}
use Rattle.alma_rules.proofs.Within.{Within, none, ordered, higher, up, joined, alone_at, node_end, own, placed}
use Rattle.alma_rules.proofs.Ordered.{stmts_in}
use Rattle.alma_rules.proofs.Limited.{limited_case}
use Rattle.alma_rules.proofs.TypesOrdered.{type_name_in, type_in as type_rules_in, redeclared_order, constant_in as constant_rules_in}

limit_order : InOrder 0 23 (fault.TooLarge ∷ [])
limit_order = one 0 23 true fault.TooLarge (omega arith) (omega arith)

-- a name behind what is read so far
named : (lo mid hi : ℕ) (a : List BrokenRule) (x : tree.Name) (fs : List CheckFault) → InOrder 0 23 fs → Within lo mid a → (mid ≤ x.node)
    × (x.node < hi) → Within lo hi (a ++ broken_at x.node fs)
named lo mid hi a x fs o w h = joined lo mid hi a _ w (alone_at mid x.node hi 23 fs o (omega arith) h.0 h.1)

-- a name with which the declared cells would pass the limit, or none
limit_in : (lo mid hi : ℕ) (f g : Frame) (x : tree.Name) → Within lo hi g.faults → Within lo mid f.faults → (mid ≤ x.node) × (x.node < hi)
    → Within lo hi (within_limit x f g).faults
limit_in lo mid hi f g x v w h = limited_case (λ k. Within lo hi k.faults) x f g (λ le. v) (named lo mid hi f.faults x _ limit_order w h)

consts_in : (lo mid hi : ℕ) (f : Frame) (xs : List tree.ConstEntry) → Within lo mid f.faults → rise_consts xs mid hi
    → Within lo hi (read_consts f xs).faults
consts_in lo mid hi f [] w h = higher lo mid hi f.faults w h
consts_in lo mid hi f (x ∷ xs) w h =
    consts_in lo h.2.0 hi (constant_in f x (read_constant f.scene x.value)) xs
    (joined lo h.0 h.2.0 _ _ (named lo mid h.0 f.faults x.name _ (redeclared_order f.scene x.name) w h.1)
    (constant_rules_in f.scene h.0 h.2.0 x.value h.2.1)) h.2.2

types_in : (lo mid hi : ℕ) (f : Frame) (xs : List tree.TypeEntry) → Within lo mid f.faults → rise_type_entries xs mid hi
    → Within lo hi (read_types f xs).faults
types_in lo mid hi f [] w h = higher lo mid hi f.faults w h
types_in lo mid hi f (x ∷ xs) w h =
    types_in lo h.2.0 hi (type_in f x (read_type f.scene x.type_node)) xs
    (joined lo h.0 h.2.0 _ _ (named lo mid h.0 f.faults x.name _ (redeclared_order (read_type f.scene x.type_node).scene x.name) w h.1)
    (type_rules_in f.scene h.0 h.2.0 x.type_node h.2.1)) h.2.2

var_in : (lo mid hi : ℕ) (f : Frame) (from : ℕ) (shape : Option ℕ) (x : tree.Name) → Within lo mid f.faults → (mid ≤ x.node) × (x.node < hi)
    → Within lo hi (variable_in f from shape x).faults
var_in lo mid hi f from None x w h = named lo mid hi f.faults x _ (redeclared_order f.scene x) w h
var_in lo mid hi f from (Some shape) x w h = go (is_first f.scene x)
  where
    go : (b : Bool) → Within lo hi (if_true b (λ _. within_limit x f (with_variable f x from shape))
        (λ _. with_faults f (broken_at x.node (redeclaration_rules f.scene x)))).faults
    go true = limit_in lo mid hi f (with_variable f x from shape) x (higher lo mid hi f.faults w (omega (arith, h.0, h.1))) w h
    go false = named lo mid hi f.faults x _ (redeclared_order f.scene x) w h

vars_in : (lo mid hi : ℕ) (f : Frame) (from : ℕ) (shape : Option ℕ) (xs : List tree.Name) → Within lo mid f.faults
    → rise_more_names xs mid hi → Within lo hi (variables_in f from shape xs).faults
vars_in lo mid hi f from shape [] w h = higher lo mid hi f.faults w h
vars_in lo mid hi f from shape (x ∷ xs) w h =
    vars_in lo h.0 hi (variable_in f from shape x) from shape xs (var_in lo mid h.0 f from shape x w h.1) h.2

var_entries_in : (lo mid hi : ℕ) (f : Frame) (xs : List tree.VarEntry) → Within lo mid f.faults → rise_vars xs mid hi
    → Within lo hi (read_vars f xs).faults
var_entries_in lo mid hi f [] w h = higher lo mid hi f.faults w h
var_entries_in lo mid hi f (x ∷ xs) w h =
    let r : Reading ℕ = read_type f.scene x.type_node in
    var_entries_in lo h.2.0 hi (variables_of f x r) xs
    (joined lo h.0 h.2.0 _ _ (up lo x.names.node h.0 _
    (vars_in lo mid x.names.node (with_scene f r.scene) (last_token x.names.first x.names.more + 3 + width (mark_type x.type_node))
    r.value (all_names x.names) w h.1.0) h.1.1)
    (type_rules_in f.scene h.0 h.2.0 x.type_node h.2.1)) h.2.2

parameter_in : (lo mid hi : ℕ) (f : Frame) (from : ℕ) (mode : Option Mode) (shape : Option ℕ) (x : tree.Name) → Within lo mid f.faults
    → (mid ≤ x.node) × (x.node < hi) → Within lo hi (param_in f from mode shape x).faults
parameter_in lo mid hi f from mode None x w h = named lo mid hi f.faults x _ (redeclared_order f.scene x) w h
parameter_in lo mid hi f from mode (Some shape) x w h = go (is_first f.scene x)
  where
    go : (b : Bool) → Within lo hi (if_true b
        (λ _. within_limit x f (with_param f x from mode shape (param_kind (is_structured f.scene shape) mode)))
        (λ _. with_faults f (broken_at x.node (redeclaration_rules f.scene x)))).faults
    go true = limit_in lo mid hi f (with_param f x from mode shape (param_kind (is_structured f.scene shape) mode)) x
        (higher lo mid hi f.faults w (omega (arith, h.0, h.1))) w h
    go false = named lo mid hi f.faults x _ (redeclared_order f.scene x) w h

parameters_in : (lo mid hi : ℕ) (f : Frame) (from : ℕ) (mode : Option Mode) (shape : Option ℕ) (xs : List tree.Name)
    → Within lo mid f.faults → rise_more_names xs mid hi → Within lo hi (params_in f from mode shape xs).faults
parameters_in lo mid hi f from mode shape [] w h = higher lo mid hi f.faults w h
parameters_in lo mid hi f from mode shape (x ∷ xs) w h =
    parameters_in lo h.0 hi (param_in f from mode shape x) from mode shape xs (parameter_in lo mid h.0 f from mode shape x w h.1) h.2

one_formal_in : (lo mid hi : ℕ) (f : Frame) (x : tree.Formal) → Within lo mid f.faults → rise_formal x mid hi
    → Within lo hi (formal_in f x (read_type_name f.scene x.type_name)).faults
one_formal_in lo mid hi f x w h =
    let r : Reading ℕ = read_type_name f.scene x.type_name in
    up lo x.node hi _ (joined lo h.0.0 x.node _ _
    (up lo x.names.node h.0.0 _ (parameters_in lo mid x.names.node f (x.type_name.token + 1) x.mode r.value (all_names x.names) w h.0.1.0)
    h.0.1.1)
    (type_name_in f.scene x.type_name h.0.0 x.node h.0.2)) h.1

more_formals_in : (lo mid hi : ℕ) (f : Frame) (xs : List tree.Formal) → Within lo mid f.faults → rise_more_formals xs mid hi
    → Within lo hi (read_formals f xs).faults
more_formals_in lo mid hi f [] w h = higher lo mid hi f.faults w h
more_formals_in lo mid hi f (x ∷ xs) w h =
    more_formals_in lo h.0 hi (formal_in f x (read_type_name f.scene x.type_name)) xs (one_formal_in lo mid h.0 f x w h.1) h.2

params_rules_in : (lo hi : ℕ) (f : Frame) (p : Option tree.Params) → Within lo lo f.faults → rise_params p lo hi
    → Within lo hi (read_formals f (formals_of p)).faults
params_rules_in lo hi f None w h = higher lo lo hi f.faults w h
params_rules_in lo hi f (Some p) w h = go p.formals h
  where
    go : (x : Option tree.Formals) → rise_formals x lo hi → Within lo hi (read_formals f (formals_in x)).faults
    go None h = higher lo lo hi f.faults w h
    go (Some x) h = up lo x.node hi _ (more_formals_in lo h.0.0 x.node (formal_in f x.first (read_type_name f.scene x.first.type_name))
        x.more (one_formal_in lo lo h.0.0 f x.first w h.0.1) h.0.2) h.1

name_order : (f : Found) (v : Option ℕ) → InOrder 0 3 (type_name_rules f v)
name_order f v = append 0 0 3 _ _ (one 0 0 _ fault.Undeclared (omega arith) (omega arith))
    (one 0 3 _ fault.NotType (omega arith) (omega arith))

result_in : (lo mid hi : ℕ) (f : Frame) (r : Option tree.Name) → Within lo mid f.faults → rise_result r mid hi
    → Within lo hi (heading_at f r).frame.faults
result_in lo mid hi f None w h = higher lo mid hi f.faults w h
result_in lo mid hi f (Some x) w h =
    joined lo mid hi f.faults _ w (placed 3 mid x.node hi _ (read_type_name f.scene x).value (result_rules f.scene) (omega arith)
    (empty 4 23 (omega arith))
    (λ v. one 0 23 (holds (structured_result f.scene) v) fault.TypeMismatch (omega arith) (omega arith))
    (own 3 mid x.node hi [] (type_name_rules (found f.scene x) (shape_in (found f.scene x))) (shape_in (found f.scene x))
    (name_order (found f.scene x) (shape_in (found f.scene x))) (none mid x.node h.0) h.0 h.1))

-- a PROCEDURE that stands too deep
depth_in : (lo k n hi : ℕ) (fs : List CheckFault) (x : FramedHeading) → InOrder 0 23 fs → Within lo k x.frame.faults → k ≤ n → n < hi
    → Within lo hi (with_depth fs n x).frame.faults
depth_in lo k n hi [] x o w le h = higher lo k hi x.frame.faults w (omega (arith, le, h))
depth_in lo k n hi (f ∷ fs) x o w le h = node_end lo n hi 23 x.frame.faults (f ∷ fs) o (omega arith) (higher lo k n x.frame.faults w le) h

-- ---- the numbers of a block rise

result_le : (lo hi : ℕ) (r : Option tree.Name) → rise_result r lo hi → lo ≤ hi
result_le lo hi None h = h
result_le lo hi (Some x) h = omega (arith, h.0, h.1)

params_le : (s : Scene) (lo hi : ℕ) (p : Option tree.Params) → rise_params p lo hi → lo ≤ hi
params_le s lo hi p h = ordered lo hi _ (params_rules_in lo hi (new_frame s 0) p (none lo lo (omega arith)) h)

body_le : (s : Scene) (lo hi : ℕ) (b : Option tree.Stmts) → rise_body b lo hi → lo ≤ hi
body_le s lo hi None h = h
body_le s lo hi (Some b) h = ordered lo hi _ (stmts_in s 0 lo hi b h)

mutual
  unfolding rise_block

  block_le : (s : Scene) (lo hi : ℕ) (b : tree.Block) → rise_block b lo hi → lo ≤ hi
  block_le s lo hi (tree.block n decls body) h =
      let a : lo ≤ h.0.0 = decls_le s lo h.0.0 decls h.0.1 in
      let c : h.0.0 ≤ n = body_le s h.0.0 n body h.0.2 in
      omega (arith, a, c, h.1)

  decls_le : (s : Scene) (lo hi : ℕ) (x : tree.DeclTail) → rise_decls x lo hi → lo ≤ hi
  decls_le s lo hi tree.no_decl h = h
  decls_le s lo hi (tree.more_decl d rest) h =
      let a : lo ≤ h.0 = decl_le s lo h.0 d h.1 in
      let b : h.0 ≤ hi = decls_le s h.0 hi rest h.2 in
      omega (arith, a, b)

  decl_le : (s : Scene) (lo hi : ℕ) (x : tree.Decl) → rise_decl x lo hi → lo ≤ hi
  decl_le s lo hi (tree.const_decl n xs) h =
      let a : lo ≤ n = ordered lo n _ (consts_in lo lo n (new_frame s 0) xs (none lo lo (omega arith)) h.0) in omega (arith, a, h.1)
  decl_le s lo hi (tree.type_decl n xs) h =
      let a : lo ≤ n = ordered lo n _ (types_in lo lo n (new_frame s 0) xs (none lo lo (omega arith)) h.0) in omega (arith, a, h.1)
  decl_le s lo hi (tree.var_decl n xs) h =
      let a : lo ≤ n = ordered lo n _ (var_entries_in lo lo n (new_frame s 0) xs (none lo lo (omega arith)) h.0) in omega (arith, a, h.1)
  decl_le s lo hi (tree.procedure n name params result b end_name) h =
      let a : h.0.0 ≤ h.0.2.0 = params_le s h.0.0 h.0.2.0 params h.0.2.1 in
      let c : h.0.2.0 ≤ h.0.2.2.0 = result_le h.0.2.0 h.0.2.2.0 result h.0.2.2.1 in
      let d : h.0.2.2.0 ≤ h.0.2.2.2.0 = block_le s h.0.2.2.0 h.0.2.2.2.0 b h.0.2.2.2.1 in
      omega (arith, h.0.1.0, h.0.1.1, a, c, d, h.0.2.2.2.2.0, h.0.2.2.2.2.1, h.1)

-- ---- the declarations of a block

decl_in : (lo mid hi : ℕ) (f : Frame) (r : ℕ) (x : tree.Decl) → Within lo mid f.faults → rise_decl x mid hi
    → Within lo hi (read_decl f r x).faults
unfolding rise_block
decl_in lo mid hi f r (tree.const_decl n xs) w h = up lo n hi _ (consts_in lo mid n f xs w h.0) h.1
decl_in lo mid hi f r (tree.type_decl n xs) w h = up lo n hi _ (types_in lo mid n f xs w h.0) h.1
decl_in lo mid hi f r (tree.var_decl n xs) w h = up lo n hi _ (var_entries_in lo mid n f xs w h.0) h.1
decl_in lo mid hi f r (tree.procedure n name params result b end_name) w h =
    let g : Frame = new_frame (with_block f.scene r nothing (formal_names (formals_of params)) b) 0 in
    let c : h.0.2.2.0 ≤ h.0.2.2.2.0 = block_le f.scene h.0.2.2.0 h.0.2.2.2.0 b h.0.2.2.2.1 in
    joined lo h.0.0 hi _ _ (named lo mid h.0.0 f.faults name _ (redeclared_order f.scene name) w h.0.1)
    (depth_in h.0.0 h.0.2.2.0 n hi (too_deep f.scene) _ (one 0 23 _ fault.NestedProcedure (omega arith) (omega arith))
    (result_in h.0.0 h.0.2.0 h.0.2.2.0 (read_formals g (formals_of params)) result
    (params_rules_in h.0.0 h.0.2.0 g params (none h.0.0 h.0.0 (omega arith)) h.0.2.1) h.0.2.2.1)
    (omega (arith, c, h.0.2.2.2.2.0, h.0.2.2.2.2.1)) h.1)

-- of a block only the declarations, and of procedures only the headings
pub decls_in : (lo mid hi : ℕ) (f : Frame) (r : ℕ) (x : tree.DeclTail) → Within lo mid f.faults → rise_decls x mid hi
    → Within lo hi (read_decls f r x).faults
unfolding rise_block
decls_in lo mid hi f r tree.no_decl w h = higher lo mid hi f.faults w h
decls_in lo mid hi f r (tree.more_decl d rest) w h =
    decls_in lo h.0 hi (read_decl f r d) (r + decl_routines d) rest (decl_in lo mid h.0 f r d w h.1) h.2
