-- The plain tree that a value of the crate's types stands for: the numbers of nodes and leaves are left aside.
use Rattle.std.specs.Prelude.{List, [], ◌∷◌, Option, None, Some}
use Rattle.std.specs.declared.boxed.Box.{Box}
use Rattle.std.specs.declared.alloc.Global.{Global}
use Rattle.alma_tree.specs.declared.leaf.Name.{Name}
use Rattle.alma_tree.specs.declared.leaf.Names.{Names}
use Rattle.alma_tree.specs.declared.phrase.Stmts as ds
use Rattle.alma_tree.specs.declared.phrase.Stmt as dt
use Rattle.alma_tree.specs.declared.phrase.Elsif as df
use Rattle.alma_tree.specs.declared.phrase.Arm as da
use Rattle.alma_tree.specs.declared.phrase.Label as dl
use Rattle.alma_tree.specs.declared.phrase.Expr as de
use Rattle.alma_tree.specs.declared.phrase.Compared as dc
use Rattle.alma_tree.specs.declared.phrase.Simple as di
use Rattle.alma_tree.specs.declared.phrase.AddLink as dk
use Rattle.alma_tree.specs.declared.phrase.Term as dm
use Rattle.alma_tree.specs.declared.phrase.MulLink as dn
use Rattle.alma_tree.specs.declared.phrase.Factor as dr
use Rattle.alma_tree.specs.declared.phrase.Primary as dp
use Rattle.alma_tree.specs.declared.phrase.Args as dg
use Rattle.alma_tree.specs.declared.phrase.Exprs as dx
use Rattle.alma_tree.specs.declared.phrase.Desig as dd
use Rattle.alma_tree.specs.declared.phrase.Selector as dj
use Rattle.alma_tree.specs.declared.type_node.TypeNode as dy
use Rattle.alma_tree.specs.declared.type_node.Arrays as dz
use Rattle.alma_tree.specs.declared.type_node.Dimensions as dv
use Rattle.alma_tree.specs.declared.type_node.PlainType as dq
use Rattle.alma_tree.specs.declared.type_node.FieldList as dw
use Rattle.alma_tree.specs.declared.module.Block as db
use Rattle.alma_tree.specs.declared.module.Decl as dh
use Rattle.alma_tree.specs.declared.module.ConstEntry.{ConstEntry}
use Rattle.alma_tree.specs.declared.module.TypeEntry.{TypeEntry}
use Rattle.alma_tree.specs.declared.module.VarEntry.{VarEntry}
use Rattle.alma_tree.specs.declared.module.Params.{Params}
use Rattle.alma_tree.specs.declared.module.Formals.{Formals}
use Rattle.alma_tree.specs.declared.module.Formal.{Formal}
use Rattle.alma_tree.specs.declared.module.Module.{Module}
use Rattle.alma_tree.specs.Tree as tree

-- ---- statements and expressions

abbrev mutual
  -- Stmt: which choice it is, and the trees of its parts; the loop's variable is left aside
  pub view_stmt : dt.Stmt → tree.Stmt
  view_stmt (dt.Nothing n) = tree.nothing
  view_stmt (dt.Assign' n m l shape row e) = tree.assign (tree.desig (view_selectors row)) (view_expr e)
  view_stmt (dt.Value n e) = tree.value (view_expr e)
  view_stmt (dt.If' n e m b s shape row shape' row' other) =
      tree.if_stmt (view_expr e) (tree.stmts (view_stmt s) (view_stmts_row row)) (view_elsifs row') (view_else other)
  view_stmt (dt.While' n e m b s shape row) = tree.while_stmt (view_expr e) (tree.stmts (view_stmt s) (view_stmts_row row))
  view_stmt (dt.Repeat' n m b s shape row e) = tree.repeat_stmt (tree.stmts (view_stmt s) (view_stmts_row row)) (view_expr e)
  view_stmt (dt.For' n l low high by m b s shape row) =
      tree.for_stmt (view_expr low) (view_expr high) (view_by by) (tree.stmts (view_stmt s) (view_stmts_row row))
  view_stmt (dt.Some' n l low high m b s shape row) =
      tree.some_stmt (view_expr low) (view_expr high) (tree.stmts (view_stmt s) (view_stmts_row row))
  view_stmt (dt.Case' n e b a shape row other) = tree.case_stmt (view_expr e) (view_arm a) (view_arms row) (view_else other)
  view_stmt (dt.Either' n m b s shape row shape' row') =
      tree.either_stmt (tree.stmts (view_stmt s) (view_stmts_row row)) (view_orelses row')
  view_stmt (dt.Forall' n m b s shape row m' b' s' shape' row') =
      tree.forall_stmt (tree.stmts (view_stmt s) (view_stmts_row row)) (tree.stmts (view_stmt s') (view_stmts_row row'))
  view_stmt (dt.Commit' n m b s shape row) = tree.commit_stmt (tree.stmts (view_stmt s) (view_stmts_row row))
  view_stmt (dt.Return' n e) = tree.return_stmt (view_returned e)
  view_stmt (dt.Read' n m l shape row shape' row') = tree.read_stmt (tree.desig (view_selectors row)) (view_desigs row')
  view_stmt (dt.Write n es) = tree.write_stmt (view_exprs es)
  view_stmt (dt.Writeln' n a) = tree.writeln_stmt (view_args a)

  -- { ";" Stmt } inside a statement
  pub view_stmts_row : {n : _} → da.Row_of-Stmt n → tree.StmtTail
  view_stmts_row da.end_of-Stmt = tree.no_stmt
  view_stmts_row (da.more_of-Stmt s rest) = tree.more_stmt (view_stmt s) (view_stmts_row rest)

  -- { ELSIF Expr THEN Stmts } inside a statement
  pub view_elsifs : {n : _} → dt.Row_of-Elsif n → tree.ElsifTail
  view_elsifs dt.end_of-Elsif = tree.no_elsif
  view_elsifs (dt.more_of-Elsif (df.Elsif' e m b s shape row) rest) =
      tree.more_elsif (view_expr e) (tree.stmts (view_stmt s) (view_stmts_row row)) (view_elsifs rest)

  -- [ ELSE Stmts ] inside a statement
  pub view_else : dt.Held-Stmt-If-4 → tree.Else
  view_else dt.Stmt-If-4-None' = tree.no_else
  view_else (dt.Stmt-If-4-Some' m b s shape row) = tree.else_stmts (tree.stmts (view_stmt s) (view_stmts_row row))

  -- [ BY Expr ] inside a statement
  pub view_by : dl.Held-Stmt-For-4 → tree.By
  view_by dl.Stmt-For-4-None' = tree.no_by
  view_by (dl.Stmt-For-4-Some' e) = tree.by_expr (view_expr e)

  -- { ORELSE Stmts } inside a statement
  pub view_orelses : {n : _} → dt.Row_of-Stmts n → tree.OrelseTail
  view_orelses dt.end_of-Stmts = tree.no_orelse
  view_orelses (dt.more_of-Stmts m b s shape row rest) =
      tree.more_orelse (tree.stmts (view_stmt s) (view_stmts_row row)) (view_orelses rest)

  -- [ Expr ] behind RETURN
  pub view_returned : dl.Held-Stmt-For-4 → tree.Returned
  view_returned dl.Stmt-For-4-None' = tree.no_value
  view_returned (dl.Stmt-For-4-Some' e) = tree.returned (view_expr e)

  -- { "," Desig } inside READ
  pub view_desigs : {n : _} → dt.Row_of-Desig n → tree.DesigTail
  view_desigs dt.end_of-Desig = tree.no_desig
  view_desigs (dt.more_of-Desig m l shape row rest) = tree.more_desig (tree.desig (view_selectors row)) (view_desigs rest)

  -- Arm: with its labels and statements, or empty
  pub view_arm : da.Arm → tree.Arm
  view_arm (da.Empty n) = tree.empty_arm
  view_arm (da.Labelled' n l shape row m b s shape' row') =
      tree.arm (view_label l) (view_labels row) (tree.stmts (view_stmt s) (view_stmts_row row'))

  -- { "|" Arm } inside a CASE
  pub view_arms : {n : _} → dt.Row_of-Arm n → tree.ArmTail
  view_arms dt.end_of-Arm = tree.no_arm
  view_arms (dt.more_of-Arm a rest) = tree.more_arm (view_arm a) (view_arms rest)

  -- Label: one value, or the two ends of a range
  pub view_label : dl.Label → tree.Label
  view_label (dl.Label' n e h) = tree.label (view_expr e) (view_high h)

  -- [ ".." Expr ] inside a label
  pub view_high : dl.Held-Stmt-For-4 → tree.High
  view_high dl.Stmt-For-4-None' = tree.no_high
  view_high (dl.Stmt-For-4-Some' e) = tree.high_expr (view_expr e)

  -- { "," Label } inside an arm
  pub view_labels : {n : _} → da.Row_of-Label n → tree.LabelTail
  view_labels da.end_of-Label = tree.no_label
  view_labels (da.more_of-Label l rest) = tree.more_label (view_label l) (view_labels rest)

  -- Expr: one side, or two and their relation
  pub view_expr : de.Expr → tree.Expr
  view_expr (de.Expr' n s right) = tree.expr (view_simple s) (view_compared right)

  -- [ Relation Simple ] inside an expression
  pub view_compared : de.Held-Expr-right → tree.Compared
  view_compared de.Expr-right-None' = tree.no_relation
  view_compared (de.Expr-right-Some' b (dc.Compared' r s)) = tree.compared r (view_simple s)

  -- Simple: its sign, and its terms with the operators before them
  pub view_simple : di.Simple → tree.Simple
  view_simple (di.Simple' n sign b t shape row) = tree.simple sign (view_term t) (view_terms row)

  -- { AddOperator Term } inside a Simple
  pub view_terms : {n : _} → di.Row_of-AddLink n → tree.TermTail
  view_terms di.end_of-AddLink = tree.no_term
  view_terms (di.more_of-AddLink (dk.AddLink' o t) rest) = tree.more_term o (view_term t) (view_terms rest)

  -- Term: its factors with the operators before them
  pub view_term : dm.Term → tree.Term
  view_term (dm.Term' n f shape row) = tree.term (view_factor f) (view_factors row)

  -- { MulOperator Factor } inside a Term
  pub view_factors : {n : _} → dm.Row_of-MulLink n → tree.FactorTail
  view_factors dm.end_of-MulLink = tree.no_factor
  view_factors (dm.more_of-MulLink o f rest) = tree.more_factor o (view_factor f) (view_factors rest)

  -- Factor: a primary, with NOT before it or without
  pub view_factor : dr.Factor → tree.Factor
  view_factor (dr.Not n p) = tree.not_factor (view_primary p)
  view_factor (dr.Plain n p) = tree.factor (view_primary p)

  -- Primary: which choice it is, and the trees of its parts; the value of a number is left aside
  pub view_primary : dp.Primary → tree.Primary
  view_primary (dp.Number n l) = tree.number
  view_primary (dp.Literal n l) = tree.literal
  view_primary (dp.Desig' n m l shape row a) = tree.named (tree.desig (view_selectors row)) (view_args a)
  view_primary (dp.Paren' n b m b' s shape row) = tree.paren (tree.stmts (view_stmt s) (view_stmts_row row))
  view_primary (dp.Known' n m l shape row) = tree.known (tree.desig (view_selectors row))
  view_primary (dp.Ord' n b e) = tree.ord (view_expr e)
  view_primary (dp.Chr' n b e) = tree.chr (view_expr e)

  -- [ "(" [ Exprs ] ")" ] of a call: none, empty parentheses, or arguments
  pub view_args : dp.Held-Primary-Desig-2 → tree.Args
  view_args dp.Primary-Desig-2-None' = tree.no_args
  view_args (dp.Primary-Desig-2-Some' (dg.Args' dg.Args-values-None')) = tree.empty_args
  view_args (dp.Primary-Desig-2-Some' (dg.Args' (dg.Args-values-Some' es))) = tree.args (view_exprs es)

  -- Exprs: one or more expressions
  pub view_exprs : dx.Exprs → tree.Exprs
  view_exprs (dx.Exprs' b e shape row) = tree.exprs (view_expr e) (view_exprs_row row)

  -- { "," Expr } inside Exprs
  pub view_exprs_row : {n : _} → dx.Row_of-Expr n → tree.ExprTail
  view_exprs_row dx.end_of-Expr = tree.no_expr
  view_exprs_row (dx.more_of-Expr e rest) = tree.more_expr (view_expr e) (view_exprs_row rest)

  -- { Selector } inside a designator
  pub view_selectors : {n : _} → dd.Row_of-Selector n → tree.SelectorTail
  view_selectors dd.end_of-Selector = tree.no_selector
  view_selectors (dd.more_of-Selector s rest) = tree.more_selector (view_selector s) (view_selectors rest)

  -- Selector: a field, whose name is left aside, or an index
  pub view_selector : dj.Selector → tree.Selector
  view_selector (dj.Field n l) = tree.field
  view_selector (dj.Index n es) = tree.index (view_exprs es)

-- ---- the same of lists, options and structs that stand alone

-- { ";" Stmt }, as a list
abbrev pub stmts_of : List dt.Stmt → tree.StmtTail
stmts_of [] = tree.no_stmt
stmts_of (s ∷ rest) = tree.more_stmt (view_stmt s) (stmts_of rest)

-- Stmts: the first statement and those behind it
abbrev pub view_stmts : ds.Stmts → tree.Stmts
view_stmts s = tree.stmts (view_stmt s.first.value) (stmts_of s.more.items)

-- { ELSIF Expr THEN Stmts }, as a list
abbrev pub elsifs_of : List df.Elsif → tree.ElsifTail
elsifs_of [] = tree.no_elsif
elsifs_of (e ∷ rest) = tree.more_elsif (view_expr (df.out-Elsif e).test) (view_stmts (df.out-Elsif e).then) (elsifs_of rest)

-- [ ELSE Stmts ], as an option
abbrev pub else_of : Option ds.Stmts → tree.Else
else_of None = tree.no_else
else_of (Some s) = tree.else_stmts (view_stmts s)

-- [ BY Expr ], as an option
abbrev pub by_of : Option de.Expr → tree.By
by_of None = tree.no_by
by_of (Some e) = tree.by_expr (view_expr e)

-- { ORELSE Stmts }, as a list
abbrev pub orelses_of : List ds.Stmts → tree.OrelseTail
orelses_of [] = tree.no_orelse
orelses_of (s ∷ rest) = tree.more_orelse (view_stmts s) (orelses_of rest)

-- [ Expr ] behind RETURN, as an option
abbrev pub returned_of : Option de.Expr → tree.Returned
returned_of None = tree.no_value
returned_of (Some e) = tree.returned (view_expr e)

-- { "|" Arm }, as a list
abbrev pub arms_of : List da.Arm → tree.ArmTail
arms_of [] = tree.no_arm
arms_of (a ∷ rest) = tree.more_arm (view_arm a) (arms_of rest)

-- [ ".." Expr ], as an option
abbrev pub high_of : Option de.Expr → tree.High
high_of None = tree.no_high
high_of (Some e) = tree.high_expr (view_expr e)

-- { "," Label }, as a list
abbrev pub labels_of : List dl.Label → tree.LabelTail
labels_of [] = tree.no_label
labels_of (l ∷ rest) = tree.more_label (view_label l) (labels_of rest)

-- [ Relation Simple ], as an option
abbrev pub compared_of : Option (Box dc.Compared Global) → tree.Compared
compared_of None = tree.no_relation
compared_of (Some c) = tree.compared (dc.out-Compared c.value).relation (view_simple (dc.out-Compared c.value).right)

-- { AddOperator Term }, as a list
abbrev pub terms_of : List dk.AddLink → tree.TermTail
terms_of [] = tree.no_term
terms_of (l ∷ rest) = tree.more_term (dk.out-AddLink l).operator (view_term (dk.out-AddLink l).operand) (terms_of rest)

-- { MulOperator Factor }, as a list
abbrev pub factors_of : List dn.MulLink → tree.FactorTail
factors_of [] = tree.no_factor
factors_of (l ∷ rest) = tree.more_factor l.operator (view_factor l.operand) (factors_of rest)

-- "(" [ Exprs ] ")": what stands between parentheses that are there
abbrev pub args_values : Option dx.Exprs → tree.Args
args_values None = tree.empty_args
args_values (Some es) = tree.args (view_exprs es)

-- [ "(" [ Exprs ] ")" ], as an option
abbrev pub args_of : Option dg.Args → tree.Args
args_of None = tree.no_args
args_of (Some a) = args_values (dg.out-Args a).values

-- { "," Expr }, as a list
abbrev pub exprs_of : List de.Expr → tree.ExprTail
exprs_of [] = tree.no_expr
exprs_of (e ∷ rest) = tree.more_expr (view_expr e) (exprs_of rest)

-- { Selector }, as a list
abbrev pub selectors_of : List dj.Selector → tree.SelectorTail
selectors_of [] = tree.no_selector
selectors_of (s ∷ rest) = tree.more_selector (view_selector s) (selectors_of rest)

-- Desig: its selectors; the name itself is left aside
abbrev pub view_desig : dd.Desig → tree.Desig
view_desig d = tree.desig (selectors_of d.more.items)

-- { "," Desig }, as a list
abbrev pub desigs_of : List dd.Desig → tree.DesigTail
desigs_of [] = tree.no_desig
desigs_of (d ∷ rest) = tree.more_desig (view_desig d) (desigs_of rest)

-- ---- names and types

-- { "," Name }: how many names there are, whatever they are
abbrev pub name_tail_of : List Name → tree.NameTail
name_tail_of [] = tree.no_name
name_tail_of (n ∷ rest) = tree.more_name (name_tail_of rest)

-- Names: one name and those behind it
abbrev pub view_names : Names → tree.Names
view_names n = tree.names (name_tail_of n.more.items)

abbrev mutual
  -- TypeNode: its ARRAY parts and its plain type
  pub view_type_node : dy.TypeNode → tree.TypeNode
  view_type_node (dy.TypeNode' n arrays p) = tree.type_node (view_arrays arrays) (view_plain_type p)

  -- the ARRAY parts of a type: none, or one and those behind it
  pub view_arrays : dy.Held-TypeNode-arrays → tree.ArrayTail
  view_arrays dy.None' = tree.no_array
  view_arrays (dy.Some' (dz.Arrays' n p shape row shape' row')) =
      tree.more_array (tree.dimensions (view_plain_type p) (view_plains row)) (view_dimensions row')

  -- { Dimensions } behind the first ARRAY part of a type
  pub view_dimensions : {n : _} → dz.Row_of-Dimensions n → tree.ArrayTail
  view_dimensions dz.end_of-Dimensions = tree.no_array
  view_dimensions (dz.more_of-Dimensions p shape row rest) =
      tree.more_array (tree.dimensions (view_plain_type p) (view_plains row)) (view_dimensions rest)

  -- { "," PlainType } inside an ARRAY part
  pub view_plains : {n : _} → dz.Row_of-PlainType n → tree.PlainTail
  view_plains dz.end_of-PlainType = tree.no_plain
  view_plains (dz.more_of-PlainType p rest) = tree.more_plain (view_plain_type p) (view_plains rest)

  -- PlainType: a name, an enumeration, a subrange or a record
  pub view_plain_type : dq.PlainType → tree.PlainType
  view_plain_type (dq.Named n l) = tree.type_name
  view_plain_type (dq.Listed n l) = tree.listed (view_names l)
  view_plain_type (dq.Subrange n low high) = tree.subrange (view_expr low) (view_expr high)
  view_plain_type (dq.Record' n b f shape row) = tree.record_type (view_field_list f) (view_field_lists row)

  -- FieldList: names and their type, or nothing
  pub view_field_list : dw.FieldList → tree.FieldList
  view_field_list (dw.Empty n) = tree.empty_fields
  view_field_list (dw.Fields n l t) = tree.fields (view_names l) (view_type_node t)

  -- { ";" FieldList } inside a record
  pub view_field_lists : {n : _} → dq.Row_of-FieldList n → tree.FieldListTail
  view_field_lists dq.end_of-FieldList = tree.no_fields
  view_field_lists (dq.more_of-FieldList f rest) = tree.more_fields (view_field_list f) (view_field_lists rest)

-- { "," PlainType }, as a list
abbrev pub plains_of : List dq.PlainType → tree.PlainTail
plains_of [] = tree.no_plain
plains_of (p ∷ rest) = tree.more_plain (view_plain_type p) (plains_of rest)

-- { ";" FieldList }, as a list
abbrev pub field_lists_of : List dw.FieldList → tree.FieldListTail
field_lists_of [] = tree.no_fields
field_lists_of (f ∷ rest) = tree.more_fields (view_field_list f) (field_lists_of rest)

-- Dimensions: the index types of one ARRAY part
abbrev pub view_dimension : dv.Dimensions → tree.Dimensions
view_dimension d = tree.dimensions (view_plain_type d.first) (plains_of d.more.items)

-- { Dimensions }, as a list
abbrev pub dimensions_of : List dv.Dimensions → tree.ArrayTail
dimensions_of [] = tree.no_array
dimensions_of (d ∷ rest) = tree.more_array (view_dimension d) (dimensions_of rest)

-- the ARRAY parts of a type, as an option
abbrev pub arrays_of : Option dz.Arrays → tree.ArrayTail
arrays_of None = tree.no_array
arrays_of (Some a) = tree.more_array (view_dimension (dz.out-Arrays a).first) (dimensions_of (dz.out-Arrays a).more.items)

-- ---- declarations and the module

-- { Name "=" Expr ";" }, as a list
abbrev pub consts_of : List ConstEntry → tree.ConstTail
consts_of [] = tree.no_const
consts_of (e ∷ rest) = tree.more_const (view_expr e.value) (consts_of rest)

-- { Name "=" TypeNode ";" }, as a list
abbrev pub types_of : List TypeEntry → tree.TypeTail
types_of [] = tree.no_type
types_of (e ∷ rest) = tree.more_type (view_type_node e.type_node) (types_of rest)

-- { Names ":" TypeNode ";" }, as a list
abbrev pub vars_of : List VarEntry → tree.VarTail
vars_of [] = tree.no_var
vars_of (e ∷ rest) = tree.more_var (view_names e.names) (view_type_node e.type_node) (vars_of rest)

-- Formal: its mode and its names; the name of its type is left aside
abbrev pub view_formal : Formal → tree.Formal
view_formal f = tree.formal f.mode (view_names f.names)

-- { ";" Formal }, as a list
abbrev pub formal_tail_of : List Formal → tree.FormalTail
formal_tail_of [] = tree.no_formal
formal_tail_of (f ∷ rest) = tree.more_formal (view_formal f) (formal_tail_of rest)

-- Formals: one formal and those behind it
abbrev pub view_formals : Formals → tree.Formals
view_formals f = tree.formals (view_formal f.first) (formal_tail_of f.more.items)

-- "(" [ Formals ] ")": what stands between parentheses that are there
abbrev pub params_values : Option Formals → tree.Params
params_values None = tree.empty_params
params_values (Some f) = tree.params (view_formals f)

-- [ "(" [ Formals ] ")" ], as an option
abbrev pub params_of : Option Params → tree.Params
params_of None = tree.no_params
params_of (Some p) = params_values p.formals

-- [ ":" Name ]: whether a result type is named
abbrev pub result_of : Option Name → tree.ResultName
result_of None = tree.no_result
result_of (Some n) = tree.result_name

-- [ BEGIN Stmts ], as an option
abbrev pub body_of : Option ds.Stmts → tree.Body
body_of None = tree.no_body
body_of (Some s) = tree.body (view_stmts s)

abbrev mutual
  -- Decl: its entries, or the parameters, result and block of a procedure
  pub view_decl : dh.Decl → tree.Decl
  view_decl (dh.Const n entries) = tree.const_decl (consts_of entries.items)
  view_decl (dh.Type n entries) = tree.type_decl (types_of entries.items)
  view_decl (dh.Var n entries) = tree.var_decl (vars_of entries.items)
  view_decl (dh.Procedure' n l p r m shape row b e) =
      tree.procedure (params_of p) (result_of r) (tree.block (view_decls row) (body_of b))

  -- { Decl } inside the block of a procedure
  pub view_decls : {n : _} → db.Row_of-Decl n → tree.DeclTail
  view_decls db.end_of-Decl = tree.no_decl
  view_decls (db.more_of-Decl d rest) = tree.more_decl (view_decl d) (view_decls rest)

-- { Decl }, as a list
abbrev pub decls_of : List dh.Decl → tree.DeclTail
decls_of [] = tree.no_decl
decls_of (d ∷ rest) = tree.more_decl (view_decl d) (decls_of rest)

-- Block: its declarations and its body
abbrev pub view_block : db.Block → tree.Block
view_block b = tree.block (decls_of b.decls.items) (body_of b.body)

-- Module: its block; both its names are left aside
abbrev pub view_module : Module → tree.Module
view_module m = tree.module_of (view_block m.block)
