-- Pieces of declarations that are no tree of their own: one entry, and what stands behind the opening parenthesis of parameters.
use Rattle.std.specs.Prelude.{List, ◌∷◌, Option, None, Some}
use Rattle.alma_tree.specs.declared.kind.Kind.{Kind}
use Rattle.alma_tree.specs.declared.kind.Kind.TheVariants as kinds
use Rattle.alma_tree.specs.declared.module.ConstEntry.{ConstEntry}
use Rattle.alma_tree.specs.declared.module.Formals.{Formals}
use Rattle.alma_tree.specs.declared.module.TypeEntry.{TypeEntry}
use Rattle.alma_tree.specs.declared.module.VarEntry.{VarEntry}
use Rattle.alma_tree.specs.Spelling.{spell_expr, spell_type_node, spell_names}
use Rattle.alma_tree.specs.View.{view_expr, view_type_node, view_names, view_formals}
use Rattle.alma_tree.specs.Numbers.{Step, token, ◌>>◌, number_name, number_expr, number_type, number_names, number_formals}
use Rattle.alma_grammar.specs.Filling.{InsideParams, closed_params, filled_params}

-- Name "=" Expr ";"
abbrev pub spell_const_entry : ConstEntry → List Kind → List Kind
spell_const_entry e rest = kinds.Name ∷ kinds.Equal ∷ spell_expr (view_expr e.value) (kinds.Semicolon ∷ rest)

-- Name "=" TypeNode ";"
abbrev pub spell_type_entry : TypeEntry → List Kind → List Kind
spell_type_entry e rest = kinds.Name ∷ kinds.Equal ∷ spell_type_node (view_type_node e.type_node) (kinds.Semicolon ∷ rest)

-- Names ":" TypeNode ";"
abbrev pub spell_var_entry : VarEntry → List Kind → List Kind
spell_var_entry e rest = spell_names (view_names e.names)
    (kinds.Colon ∷ spell_type_node (view_type_node e.type_node) (kinds.Semicolon ∷ rest))

-- Name "=" Expr ";", which is no node of its own
abbrev pub number_const_entry : ConstEntry → Step
number_const_entry e = number_name e.name >> token >> number_expr e.value >> token

-- Name "=" TypeNode ";", which is no node of its own
abbrev pub number_type_entry : TypeEntry → Step
number_type_entry e = number_name e.name >> token >> number_type e.type_node >> token

-- Names ":" TypeNode ";", which is no node of its own
abbrev pub number_var_entry : VarEntry → Step
number_var_entry e = number_names e.names >> token >> number_type e.type_node >> token

-- [ Formals ] ")": the parameters behind their opening parenthesis, as what may fill that part
abbrev pub inside_params_of : Option Formals → InsideParams
inside_params_of None = closed_params
inside_params_of (Some f) = filled_params (view_formals f)

-- [ Formals ] ")": the closing parenthesis is a token
abbrev pub number_inside_params : Option Formals → Step
number_inside_params None = token
number_inside_params (Some f) = number_formals f >> token
