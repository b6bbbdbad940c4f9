-- The kinds of the tokens that a tree stands for, put before those that follow it.
use Rattle.std.specs.Prelude.{List, [], ◌∷◌, Option, None, Some}
use Rattle.alma_tree.specs.declared.kind.Kind.{Kind}
use Rattle.alma_tree.specs.declared.kind.Kind.TheVariants as kinds
use Rattle.alma_tree.specs.declared.leaf.Relation.{Relation}
use Rattle.alma_tree.specs.declared.leaf.Relation.TheVariants as relations
use Rattle.alma_tree.specs.declared.leaf.Sign.{Sign}
use Rattle.alma_tree.specs.declared.leaf.Sign.TheVariants as signs
use Rattle.alma_tree.specs.declared.leaf.AddOperator.{AddOperator}
use Rattle.alma_tree.specs.declared.leaf.AddOperator.TheVariants as adds
use Rattle.alma_tree.specs.declared.leaf.MulOperator.{MulOperator}
use Rattle.alma_tree.specs.declared.leaf.MulOperator.TheVariants as muls
use Rattle.alma_tree.specs.declared.leaf.Mode.{Mode}
use Rattle.alma_tree.specs.declared.leaf.Mode.TheVariants as modes
use Rattle.alma_tree.specs.Tree.{Stmts, stmts, StmtTail, no_stmt, more_stmt, Stmt, nothing, assign, value, if_stmt, while_stmt, repeat_stmt}
use Rattle.alma_tree.specs.Tree.{for_stmt, some_stmt, case_stmt, either_stmt, forall_stmt, commit_stmt, return_stmt, read_stmt, write_stmt}
use Rattle.alma_tree.specs.Tree.{writeln_stmt}
use Rattle.alma_tree.specs.Tree.{ElsifTail, no_elsif, more_elsif, Else, no_else, else_stmts, By, no_by, by_expr, OrelseTail, no_orelse}
use Rattle.alma_tree.specs.Tree.{more_orelse}
use Rattle.alma_tree.specs.Tree.{Returned, no_value, returned, DesigTail, no_desig, more_desig, Arm, empty_arm, arm, ArmTail, no_arm}
use Rattle.alma_tree.specs.Tree.{more_arm}
use Rattle.alma_tree.specs.Tree.{Label, label, High, no_high, high_expr, LabelTail, no_label, more_label}
use Rattle.alma_tree.specs.Tree.{Expr, expr, Compared, no_relation, compared, Simple, simple, TermTail, no_term, more_term, Term, term}
use Rattle.alma_tree.specs.Tree.{FactorTail, no_factor, more_factor, Factor, not_factor, factor, Primary, number, literal, named, paren}
use Rattle.alma_tree.specs.Tree.{known, ord, chr}
use Rattle.alma_tree.specs.Tree.{Args, no_args, empty_args, args, Exprs, exprs, ExprTail, no_expr, more_expr}
use Rattle.alma_tree.specs.Tree.{Desig, desig, SelectorTail, no_selector, more_selector, Selector, field, index, NameTail, no_name}
use Rattle.alma_tree.specs.Tree.{more_name, Names, names}
use Rattle.alma_tree.specs.Tree.{TypeNode, type_node, ArrayTail, no_array, more_array, Dimensions, dimensions, PlainType, type_name, listed}
use Rattle.alma_tree.specs.Tree.{subrange}
use Rattle.alma_tree.specs.Tree.{record_type, PlainTail, no_plain, more_plain, FieldList, empty_fields, fields, FieldListTail, no_fields}
use Rattle.alma_tree.specs.Tree.{more_fields}
use Rattle.alma_tree.specs.Tree.{ConstTail, no_const, more_const, TypeTail, no_type, more_type, VarTail, no_var, more_var}
use Rattle.alma_tree.specs.Tree.{Formal, formal, FormalTail, no_formal, more_formal, Formals, formals, Params, no_params, empty_params}
use Rattle.alma_tree.specs.Tree.{params}
use Rattle.alma_tree.specs.Tree.{ResultName, no_result, result_name, Body, no_body, body, Block, block, DeclTail, no_decl, more_decl}
use Rattle.alma_tree.specs.Tree.{Decl, const_decl, type_decl, var_decl, procedure, Module, module_of}

-- ---- operators

-- the token of a relation; `#` and `<>` are one kind
abbrev pub relation_kind : Relation → Kind
relation_kind relations.Equal = kinds.Equal
relation_kind relations.Unequal = kinds.Unequal
relation_kind relations.Less = kinds.Less
relation_kind relations.LessEq = kinds.LessEq
relation_kind relations.Greater = kinds.Greater
relation_kind relations.GreaterEq = kinds.GreaterEq

-- the token of an operator between terms
abbrev pub add_kind : AddOperator → Kind
add_kind adds.Plus = kinds.Plus
add_kind adds.Minus = kinds.Minus
add_kind adds.Or = kinds.Or

-- the token of an operator between factors
abbrev pub mul_kind : MulOperator → Kind
mul_kind muls.Star = kinds.Star
mul_kind muls.Div = kinds.Div
mul_kind muls.Mod = kinds.Mod
mul_kind muls.And = kinds.And

-- [ Sign ]
abbrev pub spell_sign : Option Sign → List Kind → List Kind
spell_sign None rest = rest
spell_sign (Some signs.Plus) rest = kinds.Plus ∷ rest
spell_sign (Some signs.Minus) rest = kinds.Minus ∷ rest

-- [ VAR | MIX ]
abbrev pub spell_mode : Option Mode → List Kind → List Kind
spell_mode None rest = rest
spell_mode (Some modes.Var) rest = kinds.Var ∷ rest
spell_mode (Some modes.Mix) rest = kinds.Mix ∷ rest

-- ---- statements and expressions

abbrev mutual
  -- Stmts = Stmt { ";" Stmt } .
  pub spell_stmts : Stmts → List Kind → List Kind
  spell_stmts (stmts s more) rest = spell_stmt s (spell_stmt_tail more rest)

  -- { ";" Stmt }
  pub spell_stmt_tail : StmtTail → List Kind → List Kind
  spell_stmt_tail no_stmt rest = rest
  spell_stmt_tail (more_stmt s more) rest = kinds.Semicolon ∷ spell_stmt s (spell_stmt_tail more rest)

  -- Stmt, each choice as the grammar has it; the variable of a FOR or SOME is a Name alone
  pub spell_stmt : Stmt → List Kind → List Kind
  spell_stmt nothing rest = rest
  spell_stmt (assign d e) rest = spell_desig d (kinds.Assign ∷ spell_expr e rest)
  spell_stmt (value e) rest = spell_expr e rest
  spell_stmt (if_stmt e s more other) rest =
      kinds.If ∷ spell_expr e (kinds.Then ∷ spell_stmts s (spell_elsif_tail more (spell_else other (kinds.End ∷ rest))))
  spell_stmt (while_stmt e s) rest = kinds.While ∷ spell_expr e (kinds.Do ∷ spell_stmts s (kinds.End ∷ rest))
  spell_stmt (repeat_stmt s e) rest = kinds.Repeat ∷ spell_stmts s (kinds.Until ∷ spell_expr e rest)
  spell_stmt (for_stmt low high by s) rest =
      kinds.For ∷ kinds.Name ∷ kinds.Assign ∷ spell_expr low
      (kinds.To ∷ spell_expr high (spell_by by (kinds.Do ∷ spell_stmts s (kinds.End ∷ rest))))
  spell_stmt (some_stmt low high s) rest =
      kinds.Some ∷ kinds.Name ∷ kinds.Assign ∷ spell_expr low (kinds.To ∷ spell_expr high (kinds.Do ∷ spell_stmts s (kinds.End ∷ rest)))
  spell_stmt (case_stmt e a more other) rest =
      kinds.Case ∷ spell_expr e (kinds.Of ∷ spell_arm a (spell_arm_tail more (spell_else other (kinds.End ∷ rest))))
  spell_stmt (either_stmt s more) rest = kinds.Either ∷ spell_stmts s (spell_orelse_tail more (kinds.End ∷ rest))
  spell_stmt (forall_stmt choice s) rest = kinds.Forall ∷ spell_stmts choice (kinds.Do ∷ spell_stmts s (kinds.End ∷ rest))
  spell_stmt (commit_stmt s) rest = kinds.Commit ∷ spell_stmts s (kinds.End ∷ rest)
  spell_stmt (return_stmt e) rest = kinds.Return ∷ spell_returned e rest
  spell_stmt (read_stmt d more) rest = kinds.Read ∷ kinds.OpenParen ∷ spell_desig d (spell_desig_tail more (kinds.CloseParen ∷ rest))
  spell_stmt (write_stmt es) rest = kinds.Write ∷ kinds.OpenParen ∷ spell_exprs es (kinds.CloseParen ∷ rest)
  spell_stmt (writeln_stmt a) rest = kinds.Writeln ∷ spell_args a rest

  -- { ELSIF Expr THEN Stmts }
  pub spell_elsif_tail : ElsifTail → List Kind → List Kind
  spell_elsif_tail no_elsif rest = rest
  spell_elsif_tail (more_elsif e s more) rest = kinds.Elsif ∷ spell_expr e (kinds.Then ∷ spell_stmts s (spell_elsif_tail more rest))

  -- [ ELSE Stmts ]
  pub spell_else : Else → List Kind → List Kind
  spell_else no_else rest = rest
  spell_else (else_stmts s) rest = kinds.Else ∷ spell_stmts s rest

  -- [ BY Expr ]
  pub spell_by : By → List Kind → List Kind
  spell_by no_by rest = rest
  spell_by (by_expr e) rest = kinds.By ∷ spell_expr e rest

  -- { ORELSE Stmts }
  pub spell_orelse_tail : OrelseTail → List Kind → List Kind
  spell_orelse_tail no_orelse rest = rest
  spell_orelse_tail (more_orelse s more) rest = kinds.Orelse ∷ spell_stmts s (spell_orelse_tail more rest)

  -- [ Expr ], behind RETURN
  pub spell_returned : Returned → List Kind → List Kind
  spell_returned no_value rest = rest
  spell_returned (returned e) rest = spell_expr e rest

  -- { "," Desig }
  pub spell_desig_tail : DesigTail → List Kind → List Kind
  spell_desig_tail no_desig rest = rest
  spell_desig_tail (more_desig d more) rest = kinds.Comma ∷ spell_desig d (spell_desig_tail more rest)

  -- Arm = [ Label { "," Label } ":" Stmts ] .
  pub spell_arm : Arm → List Kind → List Kind
  spell_arm empty_arm rest = rest
  spell_arm (arm l more s) rest = spell_label l (spell_label_tail more (kinds.Colon ∷ spell_stmts s rest))

  -- { "|" Arm }
  pub spell_arm_tail : ArmTail → List Kind → List Kind
  spell_arm_tail no_arm rest = rest
  spell_arm_tail (more_arm a more) rest = kinds.Bar ∷ spell_arm a (spell_arm_tail more rest)

  -- Label = Expr [ ".." Expr ] .
  pub spell_label : Label → List Kind → List Kind
  spell_label (label e h) rest = spell_expr e (spell_high h rest)

  -- [ ".." Expr ]
  pub spell_high : High → List Kind → List Kind
  spell_high no_high rest = rest
  spell_high (high_expr e) rest = kinds.DotDot ∷ spell_expr e rest

  -- { "," Label }
  pub spell_label_tail : LabelTail → List Kind → List Kind
  spell_label_tail no_label rest = rest
  spell_label_tail (more_label l more) rest = kinds.Comma ∷ spell_label l (spell_label_tail more rest)

  -- Expr = Simple [ Relation Simple ] .
  pub spell_expr : Expr → List Kind → List Kind
  spell_expr (expr s right) rest = spell_simple s (spell_compared right rest)

  -- [ Relation Simple ]
  pub spell_compared : Compared → List Kind → List Kind
  spell_compared no_relation rest = rest
  spell_compared (compared r s) rest = relation_kind r ∷ spell_simple s rest

  -- Simple = [ Sign ] Term { AddOperator Term } .
  pub spell_simple : Simple → List Kind → List Kind
  spell_simple (simple sign t more) rest = spell_sign sign (spell_term t (spell_term_tail more rest))

  -- { AddOperator Term }
  pub spell_term_tail : TermTail → List Kind → List Kind
  spell_term_tail no_term rest = rest
  spell_term_tail (more_term o t more) rest = add_kind o ∷ spell_term t (spell_term_tail more rest)

  -- Term = Factor { MulOperator Factor } .
  pub spell_term : Term → List Kind → List Kind
  spell_term (term f more) rest = spell_factor f (spell_factor_tail more rest)

  -- { MulOperator Factor }
  pub spell_factor_tail : FactorTail → List Kind → List Kind
  spell_factor_tail no_factor rest = rest
  spell_factor_tail (more_factor o f more) rest = mul_kind o ∷ spell_factor f (spell_factor_tail more rest)

  -- Factor = NOT Primary | Primary .
  pub spell_factor : Factor → List Kind → List Kind
  spell_factor (not_factor p) rest = kinds.Not ∷ spell_primary p rest
  spell_factor (factor p) rest = spell_primary p rest

  -- Primary = Number | Literal | Desig [ Args ] | "(" Stmts ")" | KNOWN, ORD or CHR of one thing .
  pub spell_primary : Primary → List Kind → List Kind
  spell_primary number rest = kinds.Number ∷ rest
  spell_primary literal rest = kinds.Literal ∷ rest
  spell_primary (named d a) rest = spell_desig d (spell_args a rest)
  spell_primary (paren s) rest = kinds.OpenParen ∷ spell_stmts s (kinds.CloseParen ∷ rest)
  spell_primary (known d) rest = kinds.Known ∷ kinds.OpenParen ∷ spell_desig d (kinds.CloseParen ∷ rest)
  spell_primary (ord e) rest = kinds.Ord ∷ kinds.OpenParen ∷ spell_expr e (kinds.CloseParen ∷ rest)
  spell_primary (chr e) rest = kinds.Chr ∷ kinds.OpenParen ∷ spell_expr e (kinds.CloseParen ∷ rest)

  -- [ "(" [ Exprs ] ")" ]
  pub spell_args : Args → List Kind → List Kind
  spell_args no_args rest = rest
  spell_args empty_args rest = kinds.OpenParen ∷ kinds.CloseParen ∷ rest
  spell_args (args es) rest = kinds.OpenParen ∷ spell_exprs es (kinds.CloseParen ∷ rest)

  -- Exprs = Expr { "," Expr } .
  pub spell_exprs : Exprs → List Kind → List Kind
  spell_exprs (exprs e more) rest = spell_expr e (spell_expr_tail more rest)

  -- { "," Expr }
  pub spell_expr_tail : ExprTail → List Kind → List Kind
  spell_expr_tail no_expr rest = rest
  spell_expr_tail (more_expr e more) rest = kinds.Comma ∷ spell_expr e (spell_expr_tail more rest)

  -- Desig = Name { Selector } .
  pub spell_desig : Desig → List Kind → List Kind
  spell_desig (desig more) rest = kinds.Name ∷ spell_selector_tail more rest

  -- { Selector }
  pub spell_selector_tail : SelectorTail → List Kind → List Kind
  spell_selector_tail no_selector rest = rest
  spell_selector_tail (more_selector s more) rest = spell_selector s (spell_selector_tail more rest)

  -- Selector = "." Name | "[" Exprs "]" .
  pub spell_selector : Selector → List Kind → List Kind
  spell_selector field rest = kinds.Dot ∷ kinds.Name ∷ rest
  spell_selector (index es) rest = kinds.OpenBracket ∷ spell_exprs es (kinds.CloseBracket ∷ rest)

-- ---- names and types

-- { "," Name }
abbrev pub spell_name_tail : NameTail → List Kind → List Kind
spell_name_tail no_name rest = rest
spell_name_tail (more_name more) rest = kinds.Comma ∷ kinds.Name ∷ spell_name_tail more rest

-- Names = Name { "," Name } .
abbrev pub spell_names : Names → List Kind → List Kind
spell_names (names more) rest = kinds.Name ∷ spell_name_tail more rest

abbrev mutual
  -- TypeNode = { Dimensions } PlainType .
  pub spell_type_node : TypeNode → List Kind → List Kind
  spell_type_node (type_node arrays p) rest = spell_array_tail arrays (spell_plain_type p rest)

  -- { Dimensions }
  pub spell_array_tail : ArrayTail → List Kind → List Kind
  spell_array_tail no_array rest = rest
  spell_array_tail (more_array d more) rest = spell_dimensions d (spell_array_tail more rest)

  -- Dimensions = ARRAY PlainType { "," PlainType } OF .
  pub spell_dimensions : Dimensions → List Kind → List Kind
  spell_dimensions (dimensions p more) rest = kinds.Array ∷ spell_plain_type p (spell_plain_tail more (kinds.Of ∷ rest))

  -- PlainType = Name | "(" Names ")" | "[" Expr ".." Expr "]"
  --     | RECORD FieldList { ";" FieldList } END .
  pub spell_plain_type : PlainType → List Kind → List Kind
  spell_plain_type type_name rest = kinds.Name ∷ rest
  spell_plain_type (listed n) rest = kinds.OpenParen ∷ spell_names n (kinds.CloseParen ∷ rest)
  spell_plain_type (subrange low high) rest =
      kinds.OpenBracket ∷ spell_expr low (kinds.DotDot ∷ spell_expr high (kinds.CloseBracket ∷ rest))
  spell_plain_type (record_type f more) rest = kinds.Record ∷ spell_field_list f (spell_field_list_tail more (kinds.End ∷ rest))

  -- { "," PlainType }
  pub spell_plain_tail : PlainTail → List Kind → List Kind
  spell_plain_tail no_plain rest = rest
  spell_plain_tail (more_plain p more) rest = kinds.Comma ∷ spell_plain_type p (spell_plain_tail more rest)

  -- FieldList = [ Names ":" TypeNode ] .
  pub spell_field_list : FieldList → List Kind → List Kind
  spell_field_list empty_fields rest = rest
  spell_field_list (fields n t) rest = spell_names n (kinds.Colon ∷ spell_type_node t rest)

  -- { ";" FieldList }
  pub spell_field_list_tail : FieldListTail → List Kind → List Kind
  spell_field_list_tail no_fields rest = rest
  spell_field_list_tail (more_fields f more) rest = kinds.Semicolon ∷ spell_field_list f (spell_field_list_tail more rest)

-- ---- declarations and the module

-- { Name "=" Expr ";" }
abbrev pub spell_const_tail : ConstTail → List Kind → List Kind
spell_const_tail no_const rest = rest
spell_const_tail (more_const e more) rest = kinds.Name ∷ kinds.Equal ∷ spell_expr e (kinds.Semicolon ∷ spell_const_tail more rest)

-- { Name "=" TypeNode ";" }
abbrev pub spell_type_tail : TypeTail → List Kind → List Kind
spell_type_tail no_type rest = rest
spell_type_tail (more_type t more) rest = kinds.Name ∷ kinds.Equal ∷ spell_type_node t (kinds.Semicolon ∷ spell_type_tail more rest)

-- { Names ":" TypeNode ";" }
abbrev pub spell_var_tail : VarTail → List Kind → List Kind
spell_var_tail no_var rest = rest
spell_var_tail (more_var n t more) rest = spell_names n (kinds.Colon ∷ spell_type_node t (kinds.Semicolon ∷ spell_var_tail more rest))

-- Formal = [ VAR | MIX ] Names ":" Name .
abbrev pub spell_formal : Formal → List Kind → List Kind
spell_formal (formal mode n) rest = spell_mode mode (spell_names n (kinds.Colon ∷ kinds.Name ∷ rest))

-- { ";" Formal }
abbrev pub spell_formal_tail : FormalTail → List Kind → List Kind
spell_formal_tail no_formal rest = rest
spell_formal_tail (more_formal f more) rest = kinds.Semicolon ∷ spell_formal f (spell_formal_tail more rest)

-- Formals = Formal { ";" Formal } .
abbrev pub spell_formals : Formals → List Kind → List Kind
spell_formals (formals f more) rest = spell_formal f (spell_formal_tail more rest)

-- [ "(" [ Formals ] ")" ]
abbrev pub spell_params : Params → List Kind → List Kind
spell_params no_params rest = rest
spell_params empty_params rest = kinds.OpenParen ∷ kinds.CloseParen ∷ rest
spell_params (params f) rest = kinds.OpenParen ∷ spell_formals f (kinds.CloseParen ∷ rest)

-- [ ":" Name ]
abbrev pub spell_result_name : ResultName → List Kind → List Kind
spell_result_name no_result rest = rest
spell_result_name result_name rest = kinds.Colon ∷ kinds.Name ∷ rest

-- [ BEGIN Stmts ]
abbrev pub spell_body : Body → List Kind → List Kind
spell_body no_body rest = rest
spell_body (body s) rest = kinds.Begin ∷ spell_stmts s rest

abbrev mutual
  -- Block = { Decl } [ BEGIN Stmts ] .
  pub spell_block : Block → List Kind → List Kind
  spell_block (block decls b) rest = spell_decl_tail decls (spell_body b rest)

  -- { Decl }
  pub spell_decl_tail : DeclTail → List Kind → List Kind
  spell_decl_tail no_decl rest = rest
  spell_decl_tail (more_decl d more) rest = spell_decl d (spell_decl_tail more rest)

  -- Decl: CONST, TYPE or VAR and entries, or a PROCEDURE with heading, block, END, its name and `;`
  pub spell_decl : Decl → List Kind → List Kind
  spell_decl (const_decl entries) rest = kinds.Const ∷ spell_const_tail entries rest
  spell_decl (type_decl entries) rest = kinds.Type ∷ spell_type_tail entries rest
  spell_decl (var_decl entries) rest = kinds.Var ∷ spell_var_tail entries rest
  spell_decl (procedure p r b) rest =
      kinds.Procedure ∷ kinds.Name ∷ spell_params p (spell_result_name r
      (kinds.Semicolon ∷ spell_block b (kinds.End ∷ kinds.Name ∷ kinds.Semicolon ∷ rest)))

-- the spelling of a tree
abbrev pub spelling : Module → List Kind
spelling (module_of b) = kinds.Module ∷ kinds.Name ∷ kinds.Semicolon ∷ spell_block b (kinds.End ∷ kinds.Name ∷ kinds.Dot ∷ [])
