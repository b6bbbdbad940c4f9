-- The numbers in a tree: each leaf names its token, and the nodes are counted in post-order.
use Rattle.std.specs.Prelude.{◌≡◌, ℕ, suc, Bool, true, false, List, [], ◌∷◌, Option, None, Some, nat_eq}
use Rattle.std.specs.declared.boxed.Box.{Box}
use Rattle.std.specs.declared.alloc.Global.{Global}
use Rattle.alma_tree.specs.declared.leaf.Sign.{Sign}
use Rattle.alma_tree.specs.declared.leaf.Mode.{Mode}
use Rattle.alma_tree.specs.declared.leaf.Name.{Name}
use Rattle.alma_tree.specs.declared.leaf.Names.{Names}
use Rattle.alma_tree.specs.declared.phrase.Stmts as ds
use Rattle.alma_tree.specs.declared.phrase.Stmt as dt
use Rattle.alma_tree.specs.declared.phrase.Elsif as df
use Rattle.alma_tree.specs.declared.phrase.Arm as da
use Rattle.alma_tree.specs.declared.phrase.Label as dl
use Rattle.alma_tree.specs.declared.phrase.Expr as de
use Rattle.alma_tree.specs.declared.phrase.Compared as dc
use Rattle.alma_tree.specs.declared.phrase.Simple as di
use Rattle.alma_tree.specs.declared.phrase.AddLink as dk
use Rattle.alma_tree.specs.declared.phrase.Term as dm
use Rattle.alma_tree.specs.declared.phrase.MulLink as dn
use Rattle.alma_tree.specs.declared.phrase.Factor as dr
use Rattle.alma_tree.specs.declared.phrase.Primary as dp
use Rattle.alma_tree.specs.declared.phrase.Args as dg
use Rattle.alma_tree.specs.declared.phrase.Exprs as dx
use Rattle.alma_tree.specs.declared.phrase.Desig as dd
use Rattle.alma_tree.specs.declared.phrase.Selector as dj
use Rattle.alma_tree.specs.declared.type_node.TypeNode as dy
use Rattle.alma_tree.specs.declared.type_node.Arrays as dz
use Rattle.alma_tree.specs.declared.type_node.Dimensions as dv
use Rattle.alma_tree.specs.declared.type_node.PlainType as dq
use Rattle.alma_tree.specs.declared.type_node.FieldList as dw
use Rattle.alma_tree.specs.declared.module.Block as db
use Rattle.alma_tree.specs.declared.module.Decl as dh
use Rattle.alma_tree.specs.declared.module.ConstEntry.{ConstEntry}
use Rattle.alma_tree.specs.declared.module.TypeEntry.{TypeEntry}
use Rattle.alma_tree.specs.declared.module.VarEntry.{VarEntry}
use Rattle.alma_tree.specs.declared.module.Params.{Params}
use Rattle.alma_tree.specs.declared.module.Formals.{Formals}
use Rattle.alma_tree.specs.declared.module.Formal.{Formal}
use Rattle.alma_tree.specs.declared.module.Module.{Module}

-- the next token, and the next node
pub record Cursor : Type 0 where
  pub token : ℕ
  pub node : ℕ

-- from a cursor to the one behind a phrase, or to none where a number in the phrase is another
abbrev pub Step : Type 0
Step = Cursor → Option Cursor

-- the cursor behind a number that is the expected one; none where it is another
abbrev pub where_so : Bool → Cursor → Option Cursor
where_so true at = Some at
where_so false at = None

-- one token, whatever it is
abbrev pub token : Step
token at = Some (record { token = suc at.token; node = at.node })

-- the end of a node with this number
abbrev pub node : ℕ → Step
node n at = where_so (nat_eq n at.node) (record { token = at.token; node = suc at.node })

-- a leaf of the token with this number
abbrev pub leaf : ℕ → Step
leaf n at = where_so (nat_eq n at.token) (record { token = suc at.token; node = at.node })

-- nothing stands there, and the cursor stays where it is
abbrev pub stay : Step
stay at = Some at

-- a step from where an earlier one came to; none where the earlier one met another number
abbrev pub and_then : Option Cursor → Step → Option Cursor
and_then None f = None
and_then (Some at) f = f at

-- one step and then another
infixr 10 ◌>>◌
abbrev pub ◌>>◌ : Step → Step → Step
(f >> g) at = and_then (f at) g

-- Name: a leaf of its token, and a node
abbrev pub number_name : Name → Step
number_name l = leaf l.token >> node l.node

-- [ Sign ]: a token, and no node
abbrev pub number_sign : Option Sign → Step
number_sign None = stay
number_sign (Some s) = token

-- [ Mode ]: VAR or MIX is a token, and no node
abbrev pub number_mode : Option Mode → Step
number_mode None = stay
number_mode (Some m) = token

-- ---- statements and expressions

abbrev mutual
  -- Stmt: its words, signs and parts as they stand in the text, and then its node
  pub number_stmt : dt.Stmt → Step
  number_stmt (dt.Nothing n) = node n
  number_stmt (dt.Assign' n m l shape row e) = (number_name l >> number_selectors row >> node m) >> token >> number_expr e >> node n
  number_stmt (dt.Value n e) = number_expr e >> node n
  number_stmt (dt.If' n e m b s shape row shape' row' other) =
      token >> number_expr e >> token >> (number_stmt s >> number_stmts_row row >> node m) >> number_elsifs row' >> number_else other >>
      token >> node n
  number_stmt (dt.While' n e m b s shape row) =
      token >> number_expr e >> token >> (number_stmt s >> number_stmts_row row >> node m) >> token >> node n
  number_stmt (dt.Repeat' n m b s shape row e) =
      token >> (number_stmt s >> number_stmts_row row >> node m) >> token >> number_expr e >> node n
  number_stmt (dt.For' n l low high by m b s shape row) =
      token >> number_name l >> token >> number_expr low >> token >> number_expr high >> number_by by
      >> token >> (number_stmt s >> number_stmts_row row >> node m) >> token >> node n
  number_stmt (dt.Some' n l low high m b s shape row) =
      token >> number_name l >> token >> number_expr low >> token >> number_expr high
      >> token >> (number_stmt s >> number_stmts_row row >> node m) >> token >> node n
  number_stmt (dt.Case' n e b a shape row other) =
      token >> number_expr e >> token >> number_arm a >> number_arms row >> number_else other >> token >> node n
  number_stmt (dt.Either' n m b s shape row shape' row') =
      token >> (number_stmt s >> number_stmts_row row >> node m) >> number_orelses row' >> token >> node n
  number_stmt (dt.Forall' n m b s shape row m' b' s' shape' row') =
      token >> (number_stmt s >> number_stmts_row row >> node m)
      >> token >> (number_stmt s' >> number_stmts_row row' >> node m') >> token >> node n
  number_stmt (dt.Commit' n m b s shape row) = token >> (number_stmt s >> number_stmts_row row >> node m) >> token >> node n
  number_stmt (dt.Return' n e) = token >> number_returned e >> node n
  number_stmt (dt.Read' n m l shape row shape' row') =
      token >> token >> (number_name l >> number_selectors row >> node m) >> number_desigs row' >> token >> node n
  number_stmt (dt.Write n es) = token >> token >> number_exprs es >> token >> node n
  number_stmt (dt.Writeln' n a) = token >> number_args a >> node n

  -- { ";" Stmt } inside a statement; the node of the Stmts is counted behind the last of them
  pub number_stmts_row : {n : _} → da.Row_of-Stmt n → Step
  number_stmts_row da.end_of-Stmt = stay
  number_stmts_row (da.more_of-Stmt s rest) = token >> number_stmt s >> number_stmts_row rest

  -- { ELSIF Expr THEN Stmts }: both words are tokens, and an ELSIF is no node of its own
  pub number_elsifs : {n : _} → dt.Row_of-Elsif n → Step
  number_elsifs dt.end_of-Elsif = stay
  number_elsifs (dt.more_of-Elsif (df.Elsif' e m b s shape row) rest) =
      token >> number_expr e >> token >> (number_stmt s >> number_stmts_row row >> node m) >> number_elsifs rest

  -- [ ELSE Stmts ]: the word is a token, and the part is no node of its own
  pub number_else : dt.Held-Stmt-If-4 → Step
  number_else dt.Stmt-If-4-None' = stay
  number_else (dt.Stmt-If-4-Some' m b s shape row) = token >> (number_stmt s >> number_stmts_row row >> node m)

  -- [ BY Expr ]: the word is a token, and the part is no node of its own
  pub number_by : dl.Held-Stmt-For-4 → Step
  number_by dl.Stmt-For-4-None' = stay
  number_by (dl.Stmt-For-4-Some' e) = token >> number_expr e

  -- { ORELSE Stmts }: the word is a token, and the statements behind it are a node
  pub number_orelses : {n : _} → dt.Row_of-Stmts n → Step
  number_orelses dt.end_of-Stmts = stay
  number_orelses (dt.more_of-Stmts m b s shape row rest) =
      token >> (number_stmt s >> number_stmts_row row >> node m) >> number_orelses rest

  -- [ Expr ] behind RETURN, whose token the statement counts
  pub number_returned : dl.Held-Stmt-For-4 → Step
  number_returned dl.Stmt-For-4-None' = stay
  number_returned (dl.Stmt-For-4-Some' e) = number_expr e

  -- { "," Desig }: the comma is a token, and the designator a node
  pub number_desigs : {n : _} → dt.Row_of-Desig n → Step
  number_desigs dt.end_of-Desig = stay
  number_desigs (dt.more_of-Desig m l shape row rest) =
      token >> (number_name l >> number_selectors row >> node m) >> number_desigs rest

  -- Arm: its labels, the colon and its statements, and then its node; an empty arm is a node too
  pub number_arm : da.Arm → Step
  number_arm (da.Empty n) = node n
  number_arm (da.Labelled' n l shape row m b s shape' row') =
      number_label l >> number_labels row >> token >> (number_stmt s >> number_stmts_row row' >> node m) >> node n

  -- { "|" Arm }: the bar is a token
  pub number_arms : {n : _} → dt.Row_of-Arm n → Step
  number_arms dt.end_of-Arm = stay
  number_arms (dt.more_of-Arm a rest) = token >> number_arm a >> number_arms rest

  -- Label: its one or two expressions, and then its node
  pub number_label : dl.Label → Step
  number_label (dl.Label' n e h) = number_expr e >> number_high h >> node n

  -- [ ".." Expr ]: the two dots are one token, and the part is no node of its own
  pub number_high : dl.Held-Stmt-For-4 → Step
  number_high dl.Stmt-For-4-None' = stay
  number_high (dl.Stmt-For-4-Some' e) = token >> number_expr e

  -- { "," Label }: the comma is a token
  pub number_labels : {n : _} → da.Row_of-Label n → Step
  number_labels da.end_of-Label = stay
  number_labels (da.more_of-Label l rest) = token >> number_label l >> number_labels rest

  -- Expr: its one or two sides with the relation between them, and then its node
  pub number_expr : de.Expr → Step
  number_expr (de.Expr' n s right) = number_simple s >> number_compared right >> node n

  -- [ Relation Simple ]: the relation is a token, and the part is no node of its own
  pub number_compared : de.Held-Expr-right → Step
  number_compared de.Expr-right-None' = stay
  number_compared (de.Expr-right-Some' b (dc.Compared' r s)) = token >> number_simple s

  -- Simple: its sign, its terms and the operators between them, and then its node
  pub number_simple : di.Simple → Step
  number_simple (di.Simple' n sign b t shape row) = number_sign sign >> number_term t >> number_terms row >> node n

  -- { AddOperator Term }: the operator is a token, and no node
  pub number_terms : {n : _} → di.Row_of-AddLink n → Step
  number_terms di.end_of-AddLink = stay
  number_terms (di.more_of-AddLink (dk.AddLink' o t) rest) = token >> number_term t >> number_terms rest

  -- Term: its factors and the operators between them, and then its node
  pub number_term : dm.Term → Step
  number_term (dm.Term' n f shape row) = number_factor f >> number_factors row >> node n

  -- { MulOperator Factor }: the operator is a token, and no node
  pub number_factors : {n : _} → dm.Row_of-MulLink n → Step
  number_factors dm.end_of-MulLink = stay
  number_factors (dm.more_of-MulLink o f rest) = token >> number_factor f >> number_factors rest

  -- Factor: NOT, where it stands, and the primary, and then its node
  pub number_factor : dr.Factor → Step
  number_factor (dr.Not n p) = token >> number_primary p >> node n
  number_factor (dr.Plain n p) = number_primary p >> node n

  -- Primary: a number and a literal are leaves, words and parentheses are tokens; then its node
  pub number_primary : dp.Primary → Step
  number_primary (dp.Number n l) = leaf l.token >> node n
  number_primary (dp.Literal n l) = leaf l.token >> node n
  number_primary (dp.Desig' n m l shape row a) = (number_name l >> number_selectors row >> node m) >> number_args a >> node n
  number_primary (dp.Paren' n b m b' s shape row) = token >> (number_stmt s >> number_stmts_row row >> node m) >> token >> node n
  number_primary (dp.Known' n m l shape row) = token >> token >> (number_name l >> number_selectors row >> node m) >> token >> node n
  number_primary (dp.Ord' n b e) = token >> token >> number_expr e >> token >> node n
  number_primary (dp.Chr' n b e) = token >> token >> number_expr e >> token >> node n

  -- [ "(" [ Exprs ] ")" ]: the parentheses are tokens, and the part is no node of its own
  pub number_args : dp.Held-Primary-Desig-2 → Step
  number_args dp.Primary-Desig-2-None' = stay
  number_args (dp.Primary-Desig-2-Some' (dg.Args' dg.Args-values-None')) = token >> token
  number_args (dp.Primary-Desig-2-Some' (dg.Args' (dg.Args-values-Some' es))) = token >> number_exprs es >> token

  -- Exprs: expressions with commas between them; the list is no node of its own
  pub number_exprs : dx.Exprs → Step
  number_exprs (dx.Exprs' b e shape row) = number_expr e >> number_exprs_row row

  -- { "," Expr }: the comma is a token
  pub number_exprs_row : {n : _} → dx.Row_of-Expr n → Step
  number_exprs_row dx.end_of-Expr = stay
  number_exprs_row (dx.more_of-Expr e rest) = token >> number_expr e >> number_exprs_row rest

  -- { Selector }: one behind the other, with no token between them
  pub number_selectors : {n : _} → dd.Row_of-Selector n → Step
  number_selectors dd.end_of-Selector = stay
  number_selectors (dd.more_of-Selector s rest) = number_selector s >> number_selectors rest

  -- Selector: the dot and the name, or the brackets and what they hold, and then its node
  pub number_selector : dj.Selector → Step
  number_selector (dj.Field n l) = token >> number_name l >> node n
  number_selector (dj.Index n es) = token >> number_exprs es >> token >> node n

-- ---- the same of lists, options and structs that stand alone

-- { ";" Stmt }, as a list
abbrev pub numbers_of_stmts : List dt.Stmt → Step
numbers_of_stmts [] = stay
numbers_of_stmts (s ∷ rest) = token >> number_stmt s >> numbers_of_stmts rest

-- Stmts: its statements with semicolons between them, and then its node
abbrev pub number_stmts : ds.Stmts → Step
number_stmts s = number_stmt s.first.value >> numbers_of_stmts s.more.items >> node s.node

-- { ELSIF Expr THEN Stmts }, as a list
abbrev pub numbers_of_elsifs : List df.Elsif → Step
numbers_of_elsifs [] = stay
numbers_of_elsifs (e ∷ rest) =
    token >> number_expr (df.out-Elsif e).test >> token >> number_stmts (df.out-Elsif e).then >> numbers_of_elsifs rest

-- [ ELSE Stmts ], as an option
abbrev pub numbers_of_else : Option ds.Stmts → Step
numbers_of_else None = stay
numbers_of_else (Some s) = token >> number_stmts s

-- [ BY Expr ], as an option
abbrev pub numbers_of_by : Option de.Expr → Step
numbers_of_by None = stay
numbers_of_by (Some e) = token >> number_expr e

-- { ORELSE Stmts }, as a list
abbrev pub numbers_of_orelses : List ds.Stmts → Step
numbers_of_orelses [] = stay
numbers_of_orelses (s ∷ rest) = token >> number_stmts s >> numbers_of_orelses rest

-- [ Expr ] behind RETURN, as an option
abbrev pub numbers_of_returned : Option de.Expr → Step
numbers_of_returned None = stay
numbers_of_returned (Some e) = number_expr e

-- { "|" Arm }, as a list
abbrev pub numbers_of_arms : List da.Arm → Step
numbers_of_arms [] = stay
numbers_of_arms (a ∷ rest) = token >> number_arm a >> numbers_of_arms rest

-- [ ".." Expr ], as an option
abbrev pub numbers_of_high : Option de.Expr → Step
numbers_of_high None = stay
numbers_of_high (Some e) = token >> number_expr e

-- { "," Label }, as a list
abbrev pub numbers_of_labels : List dl.Label → Step
numbers_of_labels [] = stay
numbers_of_labels (l ∷ rest) = token >> number_label l >> numbers_of_labels rest

-- [ Relation Simple ], as an option
abbrev pub numbers_of_compared : Option (Box dc.Compared Global) → Step
numbers_of_compared None = stay
numbers_of_compared (Some c) = token >> number_simple (dc.out-Compared c.value).right

-- { AddOperator Term }, as a list
abbrev pub numbers_of_terms : List dk.AddLink → Step
numbers_of_terms [] = stay
numbers_of_terms (l ∷ rest) = token >> number_term (dk.out-AddLink l).operand >> numbers_of_terms rest

-- { MulOperator Factor }, as a list
abbrev pub numbers_of_factors : List dn.MulLink → Step
numbers_of_factors [] = stay
numbers_of_factors (l ∷ rest) = token >> number_factor l.operand >> numbers_of_factors rest

-- "(" [ Exprs ] ")": the arguments of a call that has parentheses
abbrev pub numbers_of_values : Option dx.Exprs → Step
numbers_of_values None = token >> token
numbers_of_values (Some es) = token >> number_exprs es >> token

-- [ "(" [ Exprs ] ")" ], as an option
abbrev pub numbers_of_args : Option dg.Args → Step
numbers_of_args None = stay
numbers_of_args (Some a) = numbers_of_values (dg.out-Args a).values

-- { "," Expr }, as a list
abbrev pub numbers_of_exprs : List de.Expr → Step
numbers_of_exprs [] = stay
numbers_of_exprs (e ∷ rest) = token >> number_expr e >> numbers_of_exprs rest

-- { Selector }, as a list
abbrev pub numbers_of_selectors : List dj.Selector → Step
numbers_of_selectors [] = stay
numbers_of_selectors (s ∷ rest) = number_selector s >> numbers_of_selectors rest

-- Desig: its name and its selectors, and then its node
abbrev pub number_desig : dd.Desig → Step
number_desig d = number_name d.name >> numbers_of_selectors d.more.items >> node d.node

-- { "," Desig }, as a list
abbrev pub numbers_of_desigs : List dd.Desig → Step
numbers_of_desigs [] = stay
numbers_of_desigs (d ∷ rest) = token >> number_desig d >> numbers_of_desigs rest

-- ---- names and types

-- { "," Name }, as a list
abbrev pub numbers_of_names : List Name → Step
numbers_of_names [] = stay
numbers_of_names (n ∷ rest) = token >> number_name n >> numbers_of_names rest

-- Names: its names with commas between them, and then its node
abbrev pub number_names : Names → Step
number_names n = number_name n.first >> numbers_of_names n.more.items >> node n.node

abbrev mutual
  -- TypeNode: its ARRAY parts, where it has any, and its plain type, and then its node
  pub number_type : dy.TypeNode → Step
  number_type (dy.TypeNode' n arrays p) = number_arrays arrays >> number_plain p >> node n

  -- all ARRAY parts of a type are one node, counted behind the last OF
  pub number_arrays : dy.Held-TypeNode-arrays → Step
  number_arrays dy.None' = stay
  number_arrays (dy.Some' (dz.Arrays' n p shape row shape' row')) =
      token >> number_plain p >> number_plains row >> token >> number_dimensions row' >> node n

  -- { Dimensions } behind the first; one ARRAY part is no node of its own
  pub number_dimensions : {n : _} → dz.Row_of-Dimensions n → Step
  number_dimensions dz.end_of-Dimensions = stay
  number_dimensions (dz.more_of-Dimensions p shape row rest) =
      token >> number_plain p >> number_plains row >> token >> number_dimensions rest

  -- { "," PlainType }: the comma is a token
  pub number_plains : {n : _} → dz.Row_of-PlainType n → Step
  number_plains dz.end_of-PlainType = stay
  number_plains (dz.more_of-PlainType p rest) = token >> number_plain p >> number_plains rest

  -- PlainType: its names, signs and parts as they stand in the text, and then its node
  pub number_plain : dq.PlainType → Step
  number_plain (dq.Named n l) = number_name l >> node n
  number_plain (dq.Listed n l) = token >> number_names l >> token >> node n
  number_plain (dq.Subrange n low high) = token >> number_expr low >> token >> number_expr high >> token >> node n
  number_plain (dq.Record' n b f shape row) = token >> number_field_list f >> number_field_lists row >> token >> node n

  -- FieldList: its names, the colon and its type, and then its node; an empty one is a node too
  pub number_field_list : dw.FieldList → Step
  number_field_list (dw.Empty n) = node n
  number_field_list (dw.Fields n l t) = number_names l >> token >> number_type t >> node n

  -- { ";" FieldList }: the semicolon is a token
  pub number_field_lists : {n : _} → dq.Row_of-FieldList n → Step
  number_field_lists dq.end_of-FieldList = stay
  number_field_lists (dq.more_of-FieldList f rest) = token >> number_field_list f >> number_field_lists rest

-- { "," PlainType }, as a list
abbrev pub numbers_of_plains : List dq.PlainType → Step
numbers_of_plains [] = stay
numbers_of_plains (p ∷ rest) = token >> number_plain p >> numbers_of_plains rest

-- { ";" FieldList }, as a list
abbrev pub numbers_of_field_lists : List dw.FieldList → Step
numbers_of_field_lists [] = stay
numbers_of_field_lists (f ∷ rest) = token >> number_field_list f >> numbers_of_field_lists rest

-- { Dimensions }, as a list
abbrev pub numbers_of_dimensions : List dv.Dimensions → Step
numbers_of_dimensions [] = stay
numbers_of_dimensions (d ∷ rest) =
    token >> number_plain d.first >> numbers_of_plains d.more.items >> token >> numbers_of_dimensions rest

-- all ARRAY parts of a type, as an option
abbrev pub numbers_of_arrays : Option dz.Arrays → Step
numbers_of_arrays None = stay
numbers_of_arrays (Some a) =
    token >> number_plain (dz.out-Arrays a).first.first >> numbers_of_plains (dz.out-Arrays a).first.more.items >> token
    >> numbers_of_dimensions (dz.out-Arrays a).more.items >> node (dz.out-Arrays a).node

-- ---- declarations and the module

-- { Name "=" Expr ";" }: an entry is no node of its own
abbrev pub numbers_of_consts : List ConstEntry → Step
numbers_of_consts [] = stay
numbers_of_consts (e ∷ rest) = number_name e.name >> token >> number_expr e.value >> token >> numbers_of_consts rest

-- { Name "=" TypeNode ";" }: an entry is no node of its own
abbrev pub numbers_of_types : List TypeEntry → Step
numbers_of_types [] = stay
numbers_of_types (e ∷ rest) = number_name e.name >> token >> number_type e.type_node >> token >> numbers_of_types rest

-- { Names ":" TypeNode ";" }: an entry is no node of its own
abbrev pub numbers_of_vars : List VarEntry → Step
numbers_of_vars [] = stay
numbers_of_vars (e ∷ rest) = number_names e.names >> token >> number_type e.type_node >> token >> numbers_of_vars rest

-- Formal: its mode, its names, the colon and the name of its type, and then its node
abbrev pub number_formal : Formal → Step
number_formal f = number_mode f.mode >> number_names f.names >> token >> number_name f.type_name >> node f.node

-- { ";" Formal }, as a list
abbrev pub numbers_of_formals : List Formal → Step
numbers_of_formals [] = stay
numbers_of_formals (f ∷ rest) = token >> number_formal f >> numbers_of_formals rest

-- Formals: formals with semicolons between them, and then its node
abbrev pub number_formals : Formals → Step
number_formals f = number_formal f.first >> numbers_of_formals f.more.items >> node f.node

-- "(" [ Formals ] ")": the parameters of a heading that has parentheses
abbrev pub numbers_inside_params : Option Formals → Step
numbers_inside_params None = token >> token
numbers_inside_params (Some f) = token >> number_formals f >> token

-- [ "(" [ Formals ] ")" ]: the parentheses are tokens, and the part is no node of its own
abbrev pub numbers_of_params : Option Params → Step
numbers_of_params None = stay
numbers_of_params (Some p) = numbers_inside_params p.formals

-- [ ":" Name ]: the colon is a token, and the part is no node of its own
abbrev pub numbers_of_result : Option Name → Step
numbers_of_result None = stay
numbers_of_result (Some n) = token >> number_name n

-- [ BEGIN Stmts ]: the word is a token, and the part is no node of its own
abbrev pub numbers_of_body : Option ds.Stmts → Step
numbers_of_body None = stay
numbers_of_body (Some s) = token >> number_stmts s

abbrev mutual
  -- Decl: its entries, or the heading, block and end of a procedure, and then its node
  pub number_decl : dh.Decl → Step
  number_decl (dh.Const n entries) = token >> numbers_of_consts entries.items >> node n
  number_decl (dh.Type n entries) = token >> numbers_of_types entries.items >> node n
  number_decl (dh.Var n entries) = token >> numbers_of_vars entries.items >> node n
  number_decl (dh.Procedure' n l p r m shape row b e) =
      token >> number_name l >> numbers_of_params p >> numbers_of_result r >> token
      >> (number_decls row >> numbers_of_body b >> node m) >> token >> number_name e >> token >> node n

  -- { Decl }: one behind the other, with no token between them
  pub number_decls : {n : _} → db.Row_of-Decl n → Step
  number_decls db.end_of-Decl = stay
  number_decls (db.more_of-Decl d rest) = number_decl d >> number_decls rest

-- { Decl }, as a list
abbrev pub numbers_of_decls : List dh.Decl → Step
numbers_of_decls [] = stay
numbers_of_decls (d ∷ rest) = number_decl d >> numbers_of_decls rest

-- Block: its declarations and its body, and then its node
abbrev pub number_block : db.Block → Step
number_block b = numbers_of_decls b.decls.items >> numbers_of_body b.body >> node b.node

-- Module: its heading, its block, END and its name, and then its node, the last of all
abbrev pub number_module : Module → Step
number_module m =
    token >> number_name m.name >> token >> number_block m.block >> token >> number_name m.end_name >> token >> node m.node

-- The leaves of the tree are these tokens, as many as said, and its nodes are counted from 0.
abbrev pub IsNumbered : Module → (tokens : ℕ) → Type 0
IsNumbered m tokens = (nodes : ℕ) × (number_module m (record { token = 0; node = 0 }) ≡ Some (record { token = tokens; node = nodes }))
