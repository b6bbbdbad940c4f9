-- Counting gives each phrase with the numbers that the parser gave it: declarations and the module.
use Rattle.std.specs.Prelude.{List, [], ◌∷◌, Option, None, Some}
use Rattle.alma_tree.specs.declared.leaf.Name.{Name}
use Rattle.alma_tree.specs.declared.phrase.Stmts as ds
use Rattle.alma_tree.specs.declared.phrase.Stmt as dt
use Rattle.alma_tree.specs.declared.module.Block as db
use Rattle.alma_tree.specs.declared.module.Decl as dh
use Rattle.alma_tree.specs.declared.module.ConstEntry.{ConstEntry}
use Rattle.alma_tree.specs.declared.module.TypeEntry.{TypeEntry}
use Rattle.alma_tree.specs.declared.module.VarEntry.{VarEntry}
use Rattle.alma_tree.specs.declared.module.Params.{Params}
use Rattle.alma_tree.specs.declared.module.Formals.{Formals}
use Rattle.alma_tree.specs.declared.module.Formal.{Formal}
use Rattle.alma_tree.specs.declared.module.Module.{Module}
use Rattle.alma_tree.specs.Numbers as number
use Rattle.alma_tree.specs.View as plain
use Rattle.alma_rules.specs.View as view
use Rattle.alma_resolved.proofs.Recount as count
use Rattle.alma_resolved.proofs.Steps.{Makes, stays, one_token, closes, behind_token, behind_mode, both, last, name_made}
use Rattle.alma_resolved.proofs.Phrases.{expr_made, stmt_made}
use Rattle.alma_resolved.proofs.Types.{names_made, type_made}

consts_made : (xs : List ConstEntry) → Makes (number.numbers_of_consts xs) (count.count_consts (plain.consts_of xs)) (view.consts_of xs)
consts_made [] = stays _
consts_made (x ∷ xs) = both _ (name_made x.name) (behind_token (both _ (expr_made x.value) (behind_token (last _ (consts_made xs)))))

types_made : (xs : List TypeEntry) → Makes (number.numbers_of_types xs) (count.count_types (plain.types_of xs)) (view.types_of xs)
types_made [] = stays _
types_made (x ∷ xs) = both _ (name_made x.name) (behind_token (both _ (type_made x.type_node) (behind_token (last _ (types_made xs)))))

vars_made : (xs : List VarEntry) → Makes (number.numbers_of_vars xs) (count.count_vars (plain.vars_of xs)) (view.vars_of xs)
vars_made [] = stays _
vars_made (x ∷ xs) = both _ (names_made x.names) (behind_token (both _ (type_made x.type_node) (behind_token (last _ (vars_made xs)))))

formal_made : (x : Formal) → Makes (number.number_formal x) (count.count_formal (plain.view_formal x)) (view.view_formal x)
formal_made x = behind_mode x.mode (both _ (names_made x.names) (behind_token (both _ (name_made x.type_name) (closes x.node _))))

formal_list_made : (xs : List Formal) → Makes (number.numbers_of_formals xs) (count.count_formal_tail (plain.formal_tail_of xs))
    (view.more_formals_of xs)
formal_list_made [] = stays _
formal_list_made (x ∷ xs) = behind_token (both _ (formal_made x) (last _ (formal_list_made xs)))

formals_made : (x : Formals) → Makes (number.number_formals x) (count.count_formals (plain.view_formals x)) (view.view_formals x)
formals_made x = both _ (formal_made x.first) (both _ (formal_list_made x.more.items) (closes x.node _))

inside_params_made : (x : Option Formals)
    → Makes (number.numbers_inside_params x) (count.count_params (plain.params_values x)) (count.params_of (view.formals_in x))
inside_params_made None = behind_token (one_token _)
inside_params_made (Some x) = behind_token (both _ (formals_made x) (one_token _))

params_made : (x : Option Params) → Makes (number.numbers_of_params x) (count.count_params (plain.params_of x)) (view.params_of x)
params_made None = stays _
params_made (Some x) = inside_params_made x.formals

result_made : (x : Option Name) → Makes (number.numbers_of_result x) (count.count_result (plain.result_of x)) (view.result_of x)
result_made None = stays _
result_made (Some x) = behind_token (last _ (name_made x))

stmt_list_made : (xs : List dt.Stmt) → Makes (number.numbers_of_stmts xs) (count.count_stmt_tail (plain.stmts_of xs)) (view.stmts_of xs)
stmt_list_made [] = stays _
stmt_list_made (x ∷ xs) = behind_token (both _ (stmt_made x) (last _ (stmt_list_made xs)))

body_made : (x : Option ds.Stmts) → Makes (number.numbers_of_body x) (count.count_body (plain.body_of x)) (view.body_of x)
body_made None = stays _
body_made (Some x) = behind_token (last _ (both _ (stmt_made x.first.value) (both _ (stmt_list_made x.more.items) (closes x.node _))))

mutual
  pub decl_made : (x : dh.Decl) → Makes (number.number_decl x) (count.count_decl (plain.view_decl x)) (view.view_decl x)
  decl_made (dh.Const n entries) = behind_token (both _ (consts_made entries.items) (closes n _))
  decl_made (dh.Type n entries) = behind_token (both _ (types_made entries.items) (closes n _))
  decl_made (dh.Var n entries) = behind_token (both _ (vars_made entries.items) (closes n _))
  decl_made (dh.Procedure' n l p r m shape row b e) =
      behind_token (both _ (name_made l) (both _ (params_made p)
      (both _ (result_made r) (behind_token (both _ (both _ (decls_made row) (both _
      (body_made b) (closes m _))) (behind_token (both _ (name_made e) (behind_token (closes n _)))))))))

  pub decls_made : {n : _} (x : db.Row_of-Decl n)
      → Makes (number.number_decls x) (count.count_decls (plain.view_decls x)) (view.view_decls x)
  decls_made db.end_of-Decl = stays _
  decls_made (db.more_of-Decl d rest) = both _ (decl_made d) (last _ (decls_made rest))

decl_list_made : (xs : List dh.Decl) → Makes (number.numbers_of_decls xs) (count.count_decls (plain.decls_of xs)) (view.decls_of xs)
decl_list_made [] = stays _
decl_list_made (x ∷ xs) = both _ (decl_made x) (last _ (decl_list_made xs))

block_made : (x : db.Block) → Makes (number.number_block x) (count.count_block (plain.view_block x)) (view.view_block x)
block_made x = both _ (decl_list_made x.decls.items) (both _ (body_made x.body) (closes x.node _))

pub module_made : (x : Module) → Makes (number.number_module x) (count.count_module (plain.view_module x)) (view.view_module x)
module_made x =
    behind_token (both _ (name_made x.name) (behind_token
    (both _ (block_made x.block) (behind_token (both _ (name_made x.end_name) (behind_token
    (closes x.node _)))))))
