-- The numbered tree that a value of the declared types of a tree stands for.
use Rattle.std.specs.Prelude.{List, [], ◌∷◌, Option, None, Some}
use Rattle.std.specs.declared.boxed.Box.{Box}
use Rattle.std.specs.declared.alloc.Global.{Global}
use Rattle.alma_tree.specs.declared.leaf.Name.{Name}
use Rattle.alma_tree.specs.declared.leaf.Names.{Names}
use Rattle.alma_tree.specs.declared.phrase.Stmts as ds
use Rattle.alma_tree.specs.declared.phrase.Stmt as dt
use Rattle.alma_tree.specs.declared.phrase.Elsif as df
use Rattle.alma_tree.specs.declared.phrase.Arm as da
use Rattle.alma_tree.specs.declared.phrase.Label as dl
use Rattle.alma_tree.specs.declared.phrase.Expr as de
use Rattle.alma_tree.specs.declared.phrase.Compared as dc
use Rattle.alma_tree.specs.declared.phrase.Simple as di
use Rattle.alma_tree.specs.declared.phrase.AddLink as dk
use Rattle.alma_tree.specs.declared.phrase.Term as dm
use Rattle.alma_tree.specs.declared.phrase.MulLink as dn
use Rattle.alma_tree.specs.declared.phrase.Factor as dr
use Rattle.alma_tree.specs.declared.phrase.Primary as dp
use Rattle.alma_tree.specs.declared.phrase.Args as dg
use Rattle.alma_tree.specs.declared.phrase.Exprs as dx
use Rattle.alma_tree.specs.declared.phrase.Desig as dd
use Rattle.alma_tree.specs.declared.phrase.Selector as dj
use Rattle.alma_tree.specs.declared.type_node.TypeNode as dy
use Rattle.alma_tree.specs.declared.type_node.Arrays as dz
use Rattle.alma_tree.specs.declared.type_node.Dimensions as dv
use Rattle.alma_tree.specs.declared.type_node.PlainType as dq
use Rattle.alma_tree.specs.declared.type_node.FieldList as dw
use Rattle.alma_tree.specs.declared.module.Block as db
use Rattle.alma_tree.specs.declared.module.Decl as dh
use Rattle.alma_tree.specs.declared.module.ConstEntry.{ConstEntry}
use Rattle.alma_tree.specs.declared.module.TypeEntry.{TypeEntry}
use Rattle.alma_tree.specs.declared.module.VarEntry.{VarEntry}
use Rattle.alma_tree.specs.declared.module.Params.{Params}
use Rattle.alma_tree.specs.declared.module.Formals.{Formals}
use Rattle.alma_tree.specs.declared.module.Formal.{Formal}
use Rattle.alma_tree.specs.declared.module.Module.{Module}
use Rattle.alma_rules.specs.Numbered as tree

-- a name
abbrev pub view_name : Name → tree.Name
view_name l = record { node = l.node; token = l.token }

-- ---- statements and expressions

abbrev mutual
  -- a statement
  pub view_stmt : dt.Stmt → tree.Stmt
  view_stmt (dt.Nothing n) = tree.nothing n
  view_stmt (dt.Assign' n m l shape row e) = tree.assign n (tree.desig m (view_name l) (view_selectors row)) (view_expr e)
  view_stmt (dt.Value n e) = tree.value n (view_expr e)
  view_stmt (dt.If' n e m b s shape row shape' row' other) =
      tree.if_stmt n (view_expr e) (tree.stmts m (view_stmt s) (view_stmts_row row)) (view_elsifs row') (view_else other)
  view_stmt (dt.While' n e m b s shape row) = tree.while_stmt n (view_expr e) (tree.stmts m (view_stmt s) (view_stmts_row row))
  view_stmt (dt.Repeat' n m b s shape row e) = tree.repeat_stmt n (tree.stmts m (view_stmt s) (view_stmts_row row)) (view_expr e)
  view_stmt (dt.For' n l low high by m b s shape row) =
      tree.for_stmt n (view_name l) (view_expr low) (view_expr high) (view_by by) (tree.stmts m (view_stmt s) (view_stmts_row row))
  view_stmt (dt.Some' n l low high m b s shape row) =
      tree.some_stmt n (view_name l) (view_expr low) (view_expr high) (tree.stmts m (view_stmt s) (view_stmts_row row))
  view_stmt (dt.Case' n e b a shape row other) = tree.case_stmt n (view_expr e) (view_arm a) (view_arm_row row) (view_else other)
  view_stmt (dt.Either' n m b s shape row shape' row') =
      tree.either_stmt n (tree.stmts m (view_stmt s) (view_stmts_row row)) (view_orelses row')
  view_stmt (dt.Forall' n m b s shape row m' b' s' shape' row') =
      tree.forall_stmt n (tree.stmts m (view_stmt s) (view_stmts_row row)) (tree.stmts m' (view_stmt s') (view_stmts_row row'))
  view_stmt (dt.Commit' n m b s shape row) = tree.commit_stmt n (tree.stmts m (view_stmt s) (view_stmts_row row))
  view_stmt (dt.Return' n e) = tree.return_stmt n (view_returned e)
  view_stmt (dt.Read' n m l shape row shape' row') = tree.read_stmt n (tree.desig m (view_name l) (view_selectors row)) (view_desigs row')
  view_stmt (dt.Write n es) = tree.write_stmt n (view_exprs es)
  view_stmt (dt.Writeln' n a) = tree.writeln_stmt n (view_args a)

  -- statements behind the first
  pub view_stmts_row : {n : _} → da.Row_of-Stmt n → tree.StmtTail
  view_stmts_row da.end_of-Stmt = tree.no_stmt
  view_stmts_row (da.more_of-Stmt s rest) = tree.more_stmt (view_stmt s) (view_stmts_row rest)

  -- the ELSIF parts
  pub view_elsifs : {n : _} → dt.Row_of-Elsif n → tree.ElsifTail
  view_elsifs dt.end_of-Elsif = tree.no_elsif
  view_elsifs (dt.more_of-Elsif (df.Elsif' e m b s shape row) rest) =
      tree.more_elsif (view_expr e) (tree.stmts m (view_stmt s) (view_stmts_row row)) (view_elsifs rest)

  -- the ELSE part, if there is one
  pub view_else : dt.Held-Stmt-If-4 → tree.Else
  view_else dt.Stmt-If-4-None' = tree.no_else
  view_else (dt.Stmt-If-4-Some' m b s shape row) = tree.else_stmts (tree.stmts m (view_stmt s) (view_stmts_row row))

  -- the BY part, if there is one
  pub view_by : dl.Held-Stmt-For-4 → tree.By
  view_by dl.Stmt-For-4-None' = tree.no_by
  view_by (dl.Stmt-For-4-Some' e) = tree.by_expr (view_expr e)

  -- the ORELSE parts
  pub view_orelses : {n : _} → dt.Row_of-Stmts n → tree.OrelseTail
  view_orelses dt.end_of-Stmts = tree.no_orelse
  view_orelses (dt.more_of-Stmts m b s shape row rest) =
      tree.more_orelse (tree.stmts m (view_stmt s) (view_stmts_row row)) (view_orelses rest)

  -- the value of RETURN, if there is one
  pub view_returned : dl.Held-Stmt-For-4 → tree.Returned
  view_returned dl.Stmt-For-4-None' = tree.no_value
  view_returned (dl.Stmt-For-4-Some' e) = tree.returned (view_expr e)

  -- designators behind the first
  pub view_desigs : {n : _} → dt.Row_of-Desig n → tree.DesigTail
  view_desigs dt.end_of-Desig = tree.no_desig
  view_desigs (dt.more_of-Desig m l shape row rest) = tree.more_desig (tree.desig m (view_name l) (view_selectors row)) (view_desigs rest)

  -- an arm of CASE
  pub view_arm : da.Arm → tree.Arm
  view_arm (da.Empty n) = tree.empty_arm n
  view_arm (da.Labelled' n l shape row m b s shape' row') =
      tree.arm n (view_label l) (view_labels row) (tree.stmts m (view_stmt s) (view_stmts_row row'))

  -- arms of CASE behind the first
  pub view_arm_row : {n : _} → dt.Row_of-Arm n → tree.ArmTail
  view_arm_row dt.end_of-Arm = tree.no_arm
  view_arm_row (dt.more_of-Arm a rest) = tree.more_arm (view_arm a) (view_arm_row rest)

  -- a label
  pub view_label : dl.Label → tree.Label
  view_label (dl.Label' n e h) = tree.label n (view_expr e) (view_high h)

  -- the upper end of a label, if there is one
  pub view_high : dl.Held-Stmt-For-4 → tree.High
  view_high dl.Stmt-For-4-None' = tree.no_high
  view_high (dl.Stmt-For-4-Some' e) = tree.high_expr (view_expr e)

  -- labels behind the first
  pub view_labels : {n : _} → da.Row_of-Label n → tree.LabelTail
  view_labels da.end_of-Label = tree.no_label
  view_labels (da.more_of-Label l rest) = tree.more_label (view_label l) (view_labels rest)

  -- an expression
  pub view_expr : de.Expr → tree.Expr
  view_expr (de.Expr' n s right) = tree.expr n (view_simple s) (view_compared right)

  -- a relation with its right side, if there is one
  pub view_compared : de.Held-Expr-right → tree.Compared
  view_compared de.Expr-right-None' = tree.no_relation
  view_compared (de.Expr-right-Some' b (dc.Compared' r s)) = tree.compared r (view_simple s)

  -- a Simple
  pub view_simple : di.Simple → tree.Simple
  view_simple (di.Simple' n sign b t shape row) = tree.simple n sign (view_term t) (view_terms row)

  -- operators, each with its term
  pub view_terms : {n : _} → di.Row_of-AddLink n → tree.TermTail
  view_terms di.end_of-AddLink = tree.no_term
  view_terms (di.more_of-AddLink (dk.AddLink' o t) rest) = tree.more_term o (view_term t) (view_terms rest)

  -- a Term
  pub view_term : dm.Term → tree.Term
  view_term (dm.Term' n f shape row) = tree.term n (view_factor f) (view_factors row)

  -- operators, each with its factor
  pub view_factors : {n : _} → dm.Row_of-MulLink n → tree.FactorTail
  view_factors dm.end_of-MulLink = tree.no_factor
  view_factors (dm.more_of-MulLink o f rest) = tree.more_factor o (view_factor f) (view_factors rest)

  -- a Factor
  pub view_factor : dr.Factor → tree.Factor
  view_factor (dr.Not n p) = tree.not_factor n (view_primary p)
  view_factor (dr.Plain n p) = tree.factor n (view_primary p)

  -- a Primary
  pub view_primary : dp.Primary → tree.Primary
  view_primary (dp.Number n l) = tree.number n l.token
  view_primary (dp.Literal n l) = tree.literal n l.token
  view_primary (dp.Desig' n m l shape row a) = tree.named n (tree.desig m (view_name l) (view_selectors row)) (view_args a)
  view_primary (dp.Paren' n b m b' s shape row) = tree.paren n (tree.stmts m (view_stmt s) (view_stmts_row row))
  view_primary (dp.Known' n m l shape row) = tree.known n (tree.desig m (view_name l) (view_selectors row))
  view_primary (dp.Ord' n b e) = tree.ord n (view_expr e)
  view_primary (dp.Chr' n b e) = tree.chr n (view_expr e)

  -- the arguments, if there are parentheses
  pub view_args : dp.Held-Primary-Desig-2 → tree.Args
  view_args dp.Primary-Desig-2-None' = tree.no_args
  view_args (dp.Primary-Desig-2-Some' (dg.Args' dg.Args-values-None')) = tree.empty_args
  view_args (dp.Primary-Desig-2-Some' (dg.Args' (dg.Args-values-Some' es))) = tree.args (view_exprs es)

  -- a list of expressions
  pub view_exprs : dx.Exprs → tree.Exprs
  view_exprs (dx.Exprs' b e shape row) = tree.exprs (view_expr e) (view_exprs_row row)

  -- expressions behind the first
  pub view_exprs_row : {n : _} → dx.Row_of-Expr n → tree.ExprTail
  view_exprs_row dx.end_of-Expr = tree.no_expr
  view_exprs_row (dx.more_of-Expr e rest) = tree.more_expr (view_expr e) (view_exprs_row rest)

  -- the selectors behind a name
  pub view_selectors : {n : _} → dd.Row_of-Selector n → tree.SelectorTail
  view_selectors dd.end_of-Selector = tree.no_selector
  view_selectors (dd.more_of-Selector s rest) = tree.more_selector (view_selector s) (view_selectors rest)

  -- a selector
  pub view_selector : dj.Selector → tree.Selector
  view_selector (dj.Field n l) = tree.field n (view_name l)
  view_selector (dj.Index n es) = tree.index n (view_exprs es)

-- ---- the same of lists, options and structs that stand alone

-- statements behind the first
abbrev pub stmts_of : List dt.Stmt → tree.StmtTail
stmts_of [] = tree.no_stmt
stmts_of (s ∷ rest) = tree.more_stmt (view_stmt s) (stmts_of rest)

-- a list of statements
abbrev pub view_stmts : ds.Stmts → tree.Stmts
view_stmts s = tree.stmts s.node (view_stmt s.first.value) (stmts_of s.more.items)

-- the ELSIF parts
abbrev pub elsifs_of : List df.Elsif → tree.ElsifTail
elsifs_of [] = tree.no_elsif
elsifs_of (e ∷ rest) = tree.more_elsif (view_expr (df.out-Elsif e).test) (view_stmts (df.out-Elsif e).then) (elsifs_of rest)

-- the ELSE part, if there is one
abbrev pub else_of : Option ds.Stmts → tree.Else
else_of None = tree.no_else
else_of (Some s) = tree.else_stmts (view_stmts s)

-- the BY part, if there is one
abbrev pub by_of : Option de.Expr → tree.By
by_of None = tree.no_by
by_of (Some e) = tree.by_expr (view_expr e)

-- the ORELSE parts
abbrev pub orelses_of : List ds.Stmts → tree.OrelseTail
orelses_of [] = tree.no_orelse
orelses_of (s ∷ rest) = tree.more_orelse (view_stmts s) (orelses_of rest)

-- the value of RETURN, if there is one
abbrev pub returned_of : Option de.Expr → tree.Returned
returned_of None = tree.no_value
returned_of (Some e) = tree.returned (view_expr e)

-- arms of CASE behind the first
abbrev pub arms_of : List da.Arm → tree.ArmTail
arms_of [] = tree.no_arm
arms_of (a ∷ rest) = tree.more_arm (view_arm a) (arms_of rest)

-- the upper end of a label, if there is one
abbrev pub high_of : Option de.Expr → tree.High
high_of None = tree.no_high
high_of (Some e) = tree.high_expr (view_expr e)

-- labels behind the first
abbrev pub labels_of : List dl.Label → tree.LabelTail
labels_of [] = tree.no_label
labels_of (l ∷ rest) = tree.more_label (view_label l) (labels_of rest)

-- the relation with its right side, if there is one
abbrev pub compared_of : Option (Box dc.Compared Global) → tree.Compared
compared_of None = tree.no_relation
compared_of (Some c) = tree.compared (dc.out-Compared c.value).relation (view_simple (dc.out-Compared c.value).right)

-- operators, each with its term
abbrev pub terms_of : List dk.AddLink → tree.TermTail
terms_of [] = tree.no_term
terms_of (l ∷ rest) = tree.more_term (dk.out-AddLink l).operator (view_term (dk.out-AddLink l).operand) (terms_of rest)

-- operators, each with its factor
abbrev pub factors_of : List dn.MulLink → tree.FactorTail
factors_of [] = tree.no_factor
factors_of (l ∷ rest) = tree.more_factor l.operator (view_factor l.operand) (factors_of rest)

-- the arguments between parentheses, if there are any
abbrev pub args_values : Option dx.Exprs → tree.Args
args_values None = tree.empty_args
args_values (Some es) = tree.args (view_exprs es)

-- the arguments, if there are parentheses
abbrev pub args_of : Option dg.Args → tree.Args
args_of None = tree.no_args
args_of (Some a) = args_values (dg.out-Args a).values

-- expressions behind the first
abbrev pub exprs_of : List de.Expr → tree.ExprTail
exprs_of [] = tree.no_expr
exprs_of (e ∷ rest) = tree.more_expr (view_expr e) (exprs_of rest)

-- the selectors behind a name
abbrev pub selectors_of : List dj.Selector → tree.SelectorTail
selectors_of [] = tree.no_selector
selectors_of (s ∷ rest) = tree.more_selector (view_selector s) (selectors_of rest)

-- a designator
abbrev pub view_desig : dd.Desig → tree.Desig
view_desig d = tree.desig d.node (view_name d.name) (selectors_of d.more.items)

-- designators behind the first
abbrev pub desigs_of : List dd.Desig → tree.DesigTail
desigs_of [] = tree.no_desig
desigs_of (d ∷ rest) = tree.more_desig (view_desig d) (desigs_of rest)

-- ---- names and types

-- names behind the first
abbrev pub names_of : List Name → List tree.Name
names_of [] = []
names_of (n ∷ rest) = view_name n ∷ names_of rest

-- a list of names
abbrev pub view_names : Names → tree.Names
view_names n = record { node = n.node; first = view_name n.first; more = names_of n.more.items }

abbrev mutual
  -- a type
  pub view_type_node : dy.TypeNode → tree.TypeNode
  view_type_node (dy.TypeNode' n dims p) = tree.type_node n (view_arrays dims) (view_plain_type p)

  -- the ARRAY parts of a type, if there are any
  pub view_arrays : dy.Held-TypeNode-arrays → tree.Arrays
  view_arrays dy.None' = tree.no_arrays
  view_arrays (dy.Some' (dz.Arrays' n p shape row shape' row')) =
      tree.arrays n (tree.dimensions (view_plain_type p) (view_plains row)) (view_dimensions row')

  -- ARRAY parts behind the first
  pub view_dimensions : {n : _} → dz.Row_of-Dimensions n → tree.DimensionTail
  view_dimensions dz.end_of-Dimensions = tree.no_dimensions
  view_dimensions (dz.more_of-Dimensions p shape row rest) =
      tree.more_dimensions (tree.dimensions (view_plain_type p) (view_plains row)) (view_dimensions rest)

  -- plain types behind the first
  pub view_plains : {n : _} → dz.Row_of-PlainType n → tree.PlainTail
  view_plains dz.end_of-PlainType = tree.no_plain
  view_plains (dz.more_of-PlainType p rest) = tree.more_plain (view_plain_type p) (view_plains rest)

  -- a plain type
  pub view_plain_type : dq.PlainType → tree.PlainType
  view_plain_type (dq.Named n l) = tree.type_name n (view_name l)
  view_plain_type (dq.Listed n l) = tree.listed n (view_names l)
  view_plain_type (dq.Subrange n low high) = tree.subrange n (view_expr low) (view_expr high)
  view_plain_type (dq.Record' n b f shape row) = tree.record_type n (view_field_list f) (view_field_lists row)

  -- a field list
  pub view_field_list : dw.FieldList → tree.FieldList
  view_field_list (dw.Empty n) = tree.empty_fields n
  view_field_list (dw.Fields n l t) = tree.fields n (view_names l) (view_type_node t)

  -- field lists behind the first
  pub view_field_lists : {n : _} → dq.Row_of-FieldList n → tree.FieldListTail
  view_field_lists dq.end_of-FieldList = tree.no_fields
  view_field_lists (dq.more_of-FieldList f rest) = tree.more_fields (view_field_list f) (view_field_lists rest)

-- plain types behind the first
abbrev pub plains_of : List dq.PlainType → tree.PlainTail
plains_of [] = tree.no_plain
plains_of (p ∷ rest) = tree.more_plain (view_plain_type p) (plains_of rest)

-- field lists behind the first
abbrev pub field_lists_of : List dw.FieldList → tree.FieldListTail
field_lists_of [] = tree.no_fields
field_lists_of (f ∷ rest) = tree.more_fields (view_field_list f) (field_lists_of rest)

-- an ARRAY part of a type
abbrev pub view_dimension : dv.Dimensions → tree.Dimensions
view_dimension d = tree.dimensions (view_plain_type d.first) (plains_of d.more.items)

-- ARRAY parts behind the first
abbrev pub dimensions_of : List dv.Dimensions → tree.DimensionTail
dimensions_of [] = tree.no_dimensions
dimensions_of (d ∷ rest) = tree.more_dimensions (view_dimension d) (dimensions_of rest)

-- the ARRAY parts of a type, if there are any
abbrev pub arrays_of : Option dz.Arrays → tree.Arrays
arrays_of None = tree.no_arrays
arrays_of (Some a) = tree.arrays (dz.out-Arrays a).node (view_dimension (dz.out-Arrays a).first)
    (dimensions_of (dz.out-Arrays a).more.items)

-- ---- declarations and the module

-- an entry of CONST
abbrev pub view_const : ConstEntry → tree.ConstEntry
view_const e = record { name = view_name e.name; value = view_expr e.value }

-- the entries of CONST
abbrev pub consts_of : List ConstEntry → List tree.ConstEntry
consts_of [] = []
consts_of (e ∷ rest) = view_const e ∷ consts_of rest

-- an entry of TYPE
abbrev pub view_type_entry : TypeEntry → tree.TypeEntry
view_type_entry e = record { name = view_name e.name; type_node = view_type_node e.type_node }

-- the entries of TYPE
abbrev pub types_of : List TypeEntry → List tree.TypeEntry
types_of [] = []
types_of (e ∷ rest) = view_type_entry e ∷ types_of rest

-- an entry of VAR
abbrev pub view_var : VarEntry → tree.VarEntry
view_var e = record { names = view_names e.names; type_node = view_type_node e.type_node }

-- the entries of VAR
abbrev pub vars_of : List VarEntry → List tree.VarEntry
vars_of [] = []
vars_of (e ∷ rest) = view_var e ∷ vars_of rest

-- a Formal
abbrev pub view_formal : Formal → tree.Formal
view_formal f = record { node = f.node; mode = f.mode; names = view_names f.names; type_name = view_name f.type_name }

-- Formals behind the first
abbrev pub more_formals_of : List Formal → List tree.Formal
more_formals_of [] = []
more_formals_of (f ∷ rest) = view_formal f ∷ more_formals_of rest

-- a list of Formals
abbrev pub view_formals : Formals → tree.Formals
view_formals f = record { node = f.node; first = view_formal f.first; more = more_formals_of f.more.items }

-- the Formals between parentheses, if there are any
abbrev pub formals_in : Option Formals → Option tree.Formals
formals_in None = None
formals_in (Some f) = Some (view_formals f)

-- the parameters with their parentheses
abbrev pub view_params : Params → tree.Params
view_params p = record { formals = formals_in p.formals }

-- the parameters, if there are parentheses
abbrev pub params_of : Option Params → Option tree.Params
params_of None = None
params_of (Some p) = Some (view_params p)

-- the Name of the result type, if there is one
abbrev pub result_of : Option Name → Option tree.Name
result_of None = None
result_of (Some n) = Some (view_name n)

-- the body, if there is one
abbrev pub body_of : Option ds.Stmts → Option tree.Stmts
body_of None = None
body_of (Some s) = Some (view_stmts s)

abbrev mutual
  -- a declaration
  pub view_decl : dh.Decl → tree.Decl
  view_decl (dh.Const n entries) = tree.const_decl n (consts_of entries.items)
  view_decl (dh.Type n entries) = tree.type_decl n (types_of entries.items)
  view_decl (dh.Var n entries) = tree.var_decl n (vars_of entries.items)
  view_decl (dh.Procedure' n l p r m shape row b e) =
      tree.procedure n (view_name l) (params_of p) (result_of r) (tree.block m (view_decls row) (body_of b)) (view_name e)

  -- declarations
  pub view_decls : {n : _} → db.Row_of-Decl n → tree.DeclTail
  view_decls db.end_of-Decl = tree.no_decl
  view_decls (db.more_of-Decl d rest) = tree.more_decl (view_decl d) (view_decls rest)

-- the declarations of a block
abbrev pub decls_of : List dh.Decl → tree.DeclTail
decls_of [] = tree.no_decl
decls_of (d ∷ rest) = tree.more_decl (view_decl d) (decls_of rest)

-- a block
abbrev pub view_block : db.Block → tree.Block
view_block b = tree.block b.node (decls_of b.decls.items) (body_of b.body)

-- the module
abbrev pub view_module : Module → tree.Module
view_module m = record { node = m.node; name = view_name m.name; block = view_block m.block; end_name = view_name m.end_name }
