-- What the declarations of a tree weigh: the names of variables, parameters and procedures, and the bodies.
use Rattle.std.proofs.Common.{ℕ, ◌+◌, ◌≤◌, List, [], ◌∷◌, Option, None, Some, arith}
use Rattle.alma_tree.specs.declared.leaf.Name.{Name}
use Rattle.alma_tree.specs.declared.leaf.Names.{Names}
use Rattle.alma_tree.specs.declared.phrase.Stmts as ds
use Rattle.alma_tree.specs.declared.module.Block as db
use Rattle.alma_tree.specs.declared.module.Decl as dh
use Rattle.alma_tree.specs.declared.module.VarEntry.{VarEntry}
use Rattle.alma_tree.specs.declared.module.Params.{Params}
use Rattle.alma_tree.specs.declared.module.Formals.{Formals}
use Rattle.alma_tree.specs.declared.module.Formal.{Formal}
use Rattle.alma_tree.specs.declared.module.Module.{Module}
use Rattle.alma_tree.specs.Numbers as number
use Rattle.alma_tree.specs.Numbers.{IsNumbered}
use Rattle.alma_rules.specs.Numbered as tree
use Rattle.alma_rules.specs.View as numbered
use Rattle.alma_rules.specs.Types.{all_names}
use Rattle.alma_rules.specs.Decls.{formals_of}
use Rattle.alma_resolved.proofs.Onward.{Up, up_stay, up_token, up_node, up_then, name_up}
use Rattle.alma_resolved.proofs.Standing.{lists_up, type_lists, consts_lists, types_lists, mode_up}
use Rattle.alma_resolved.proofs.Weights.{weigh_stmts, total, Weighs, weighs_up, weighs_both, weighs_after, weighs_before, name_weighs}
use Rattle.alma_resolved.proofs.Weights.{stmt_weighs, list_stmts_weighs}

-- ---- what declarations weigh

abbrev pub weigh_names : (W : ℕ → ℕ) → List tree.Name → ℕ
weigh_names W [] = 0
weigh_names W (x ∷ xs) = W x.token + weigh_names W xs

abbrev pub weigh_vars : (W : ℕ → ℕ) → List tree.VarEntry → ℕ
weigh_vars W [] = 0
weigh_vars W (x ∷ xs) = weigh_names W (all_names x.names) + weigh_vars W xs

abbrev pub weigh_formals : (W : ℕ → ℕ) → List tree.Formal → ℕ
weigh_formals W [] = 0
weigh_formals W (x ∷ xs) = weigh_names W (all_names x.names) + weigh_formals W xs

abbrev pub weigh_body : (W : ℕ → ℕ) → Option tree.Stmts → ℕ
weigh_body W None = 0
weigh_body W (Some body) = weigh_stmts W body

unfoldable mutual
  pub weigh_block : (W : ℕ → ℕ) → tree.Block → ℕ
  weigh_block W (tree.block n decls body) = weigh_decls W decls + weigh_body W body

  pub weigh_decls : (W : ℕ → ℕ) → tree.DeclTail → ℕ
  weigh_decls W tree.no_decl = 0
  weigh_decls W (tree.more_decl d rest) = weigh_decl W d + weigh_decls W rest

  pub weigh_decl : (W : ℕ → ℕ) → tree.Decl → ℕ
  weigh_decl W (tree.const_decl n xs) = 0
  weigh_decl W (tree.type_decl n xs) = 0
  weigh_decl W (tree.var_decl n xs) = weigh_vars W xs
  weigh_decl W (tree.procedure n name params result b end_name) = W name.token + (weigh_formals W (formals_of params) + weigh_block W b)

abbrev pub weigh_module : (W : ℕ → ℕ) → tree.Module → ℕ
weigh_module W m = W m.name.token + weigh_block W m.block

-- ---- no more than the tokens

more_names_weigh : (W : ℕ → ℕ) (xs : List Name) → Weighs W (number.numbers_of_names xs) (weigh_names W (numbered.names_of xs))
more_names_weigh W [] = weighs_up W _ up_stay
more_names_weigh W (x ∷ xs) = weighs_after W _ _ _ up_token (weighs_both W _ _ _ _ (name_weighs W x) (more_names_weigh W xs))

names_weigh : (W : ℕ → ℕ) (x : Names) → Weighs W (number.number_names x) (weigh_names W (all_names (numbered.view_names x)))
names_weigh W x = weighs_both W _ _ _ _ (name_weighs W x.first) (weighs_before W _ _ _ (more_names_weigh W x.more.items) (up_node x.node))

vars_weigh : (W : ℕ → ℕ) (xs : List VarEntry) → Weighs W (number.numbers_of_vars xs) (weigh_vars W (numbered.vars_of xs))
vars_weigh W [] = weighs_up W _ up_stay
vars_weigh W (x ∷ xs) =
    weighs_both W _ _ _ _ (names_weigh W x.names)
    (weighs_after W _ _ _ up_token (weighs_after W _ _ _ (lists_up _ _ (type_lists x.type_node))
    (weighs_after W _ _ _ up_token (vars_weigh W xs))))

formal_weighs : (W : ℕ → ℕ) (x : Formal) → Weighs W (number.number_formal x) (weigh_names W (all_names (numbered.view_names x.names)))
formal_weighs W x =
    weighs_after W _ _ _ (mode_up x.mode) (weighs_before W _ _ _ (names_weigh W x.names)
    (up_then _ _ up_token (up_then _ _ (name_up x.type_name) (up_node x.node))))

more_formals_weigh : (W : ℕ → ℕ) (xs : List Formal)
    → Weighs W (number.numbers_of_formals xs) (weigh_formals W (numbered.more_formals_of xs))
more_formals_weigh W [] = weighs_up W _ up_stay
more_formals_weigh W (x ∷ xs) = weighs_after W _ _ _ up_token (weighs_both W _ _ _ _ (formal_weighs W x) (more_formals_weigh W xs))

params_weigh : (W : ℕ → ℕ) (x : Option Params) → Weighs W (number.numbers_of_params x) (weigh_formals W (formals_of (numbered.params_of x)))
params_weigh W None = weighs_up W _ up_stay
params_weigh W (Some x) = by x.formals
  where
    by : (o : Option Formals) → Weighs W (number.numbers_inside_params o)
        (weigh_formals W (formals_of (Some (record { formals = numbered.formals_in o }))))
    by None = weighs_up W _ (up_then _ _ up_token up_token)
    by (Some f) =
        weighs_after W _ _ _ up_token
        (weighs_before W _ _ _ (weighs_both W _ _ _ _ (formal_weighs W f.first)
        (weighs_before W _ _ _ (more_formals_weigh W f.more.items) (up_node f.node))) up_token)

result_up : (x : Option Name) → Up (number.numbers_of_result x)
result_up None = up_stay
result_up (Some x) = up_then _ _ up_token (name_up x)

body_weighs : (W : ℕ → ℕ) (x : Option ds.Stmts) → Weighs W (number.numbers_of_body x) (weigh_body W (numbered.body_of x))
unfolding weigh_stmts
body_weighs W None = weighs_up W _ up_stay
body_weighs W (Some x) = weighs_after W _ _ _ up_token
    (weighs_both W _ _ _ _ (stmt_weighs W x.first.value) (weighs_before W _ _ _ (list_stmts_weighs W x.more.items) (up_node x.node)))

mutual
  unfolding weigh_block

  decl_weighs : (W : ℕ → ℕ) (x : dh.Decl) → Weighs W (number.number_decl x) (weigh_decl W (numbered.view_decl x))
  decl_weighs W (dh.Const n entries) = weighs_up W _
      (up_then _ _ up_token (up_then _ _ (lists_up _ _ (consts_lists entries.items)) (up_node n)))
  decl_weighs W (dh.Type n entries) = weighs_up W _
      (up_then _ _ up_token (up_then _ _ (lists_up _ _ (types_lists entries.items)) (up_node n)))
  decl_weighs W (dh.Var n entries) = weighs_after W _ _ _ up_token (weighs_before W _ _ _ (vars_weigh W entries.items) (up_node n))
  decl_weighs W (dh.Procedure' n l p r m shape row b e) =
      weighs_after W _ _ _ up_token (weighs_both W _ _ _ _ (name_weighs W l)
      (weighs_both W _ _ _ _ (params_weigh W p) (weighs_after W _ _ _ (result_up r) (weighs_after W _ _ _ up_token
      (weighs_before W _ _ _ (weighs_both W _ _ _ _ (row_weighs W row) (weighs_before W _ _ _ (body_weighs W b) (up_node m)))
      (up_then _ _ up_token (up_then _ _ (name_up e) (up_then _ _ up_token (up_node n)))))))))

  row_weighs : (W : ℕ → ℕ) {n : _} (x : db.Row_of-Decl n) → Weighs W (number.number_decls x) (weigh_decls W (numbered.view_decls x))
  row_weighs W db.end_of-Decl = weighs_up W _ up_stay
  row_weighs W (db.more_of-Decl d rest) = weighs_both W _ _ _ _ (decl_weighs W d) (row_weighs W rest)

list_weighs : (W : ℕ → ℕ) (xs : List dh.Decl) → Weighs W (number.numbers_of_decls xs) (weigh_decls W (numbered.decls_of xs))
unfolding weigh_block
list_weighs W [] = weighs_up W _ up_stay
list_weighs W (x ∷ xs) = weighs_both W _ _ _ _ (decl_weighs W x) (list_weighs W xs)

block_weighs : (W : ℕ → ℕ) (x : db.Block) → Weighs W (number.number_block x) (weigh_block W (numbered.view_block x))
unfolding weigh_block
block_weighs W x = weighs_both W _ _ _ _ (list_weighs W x.decls.items) (weighs_before W _ _ _ (body_weighs W x.body) (up_node x.node))

module_weighs : (W : ℕ → ℕ) (m : Module) → Weighs W (number.number_module m) (weigh_module W (numbered.view_module m))
module_weighs W m =
    weighs_after W _ _ _ up_token (weighs_both W _ _ _ _ (name_weighs W m.name)
    (weighs_after W _ _ _ up_token (weighs_before W _ _ _ (block_weighs W m.block)
    (up_then _ _ up_token (up_then _ _ (name_up m.end_name) (up_then _ _ up_token (up_node m.node)))))))

-- a numbered tree weighs no more than its tokens
pub numbered_weighs : (W : ℕ → ℕ) (m : Module) (tokens : ℕ) → IsNumbered m tokens → weigh_module W (numbered.view_module m) ≤ total W tokens
unfolding Weighs
numbered_weighs W m tokens h = omega (arith, module_weighs W m (record { token = 0; node = 0 }) (record { token = tokens; node = h.0 }) h.1)
