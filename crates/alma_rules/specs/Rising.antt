-- The numbers of the nodes rise in post-order: what the parser promises of a tree, in the form in which the walk needs it.
use Rattle.std.specs.Prelude.{ℕ, ◌<◌, ◌≤◌, List, [], ◌∷◌, Option, None, Some}
use Rattle.alma_rules.specs.Numbered as tree

-- the numbers of a phrase are at least the first number and below the second
abbrev pub Rise : Type 1
Rise = ℕ → ℕ → Type 0

-- no node
abbrev pub none : Rise
none lo hi = lo ≤ hi

-- one phrase and then another
infixr 10 ◌>>◌
abbrev pub ◌>>◌ : Rise → Rise → Rise
(f >> g) lo hi = (mid : ℕ) × f lo mid × g mid hi

-- a node behind its parts
abbrev pub node : ℕ → Rise → Rise
node n f lo hi = f lo n × (n < hi)

-- a name
abbrev pub rise_name : tree.Name → Rise
rise_name name = node name.node none

-- ---- statements and expressions

unfoldable mutual
  -- a list of statements
  pub rise_stmts : tree.Stmts → Rise
  rise_stmts (tree.stmts n x rest) = node n (rise_stmt x >> rise_stmt_tail rest)

  -- further statements
  pub rise_stmt_tail : tree.StmtTail → Rise
  rise_stmt_tail tree.no_stmt = none
  rise_stmt_tail (tree.more_stmt x rest) = rise_stmt x >> rise_stmt_tail rest

  -- a statement
  pub rise_stmt : tree.Stmt → Rise
  rise_stmt (tree.nothing n) = node n none
  rise_stmt (tree.assign n d e) = node n (rise_desig d >> rise_expr e)
  rise_stmt (tree.value n e) = node n (rise_expr e)
  rise_stmt (tree.if_stmt n e body elsifs other) = node n (rise_expr e >> rise_stmts body >> rise_elsifs elsifs >> rise_else other)
  rise_stmt (tree.while_stmt n e body) = node n (rise_expr e >> rise_stmts body)
  rise_stmt (tree.repeat_stmt n body e) = node n (rise_stmts body >> rise_expr e)
  rise_stmt (tree.for_stmt n name low high by body) =
      node n (rise_name name >> rise_expr low >> rise_expr high >> rise_by by >> rise_stmts body)
  rise_stmt (tree.some_stmt n name low high body) = node n (rise_name name >> rise_expr low >> rise_expr high >> rise_stmts body)
  rise_stmt (tree.case_stmt n e first rest other) = node n (rise_expr e >> rise_arm first >> rise_arms rest >> rise_else other)
  rise_stmt (tree.either_stmt n body rest) = node n (rise_stmts body >> rise_orelses rest)
  rise_stmt (tree.forall_stmt n choice body) = node n (rise_stmts choice >> rise_stmts body)
  rise_stmt (tree.commit_stmt n body) = node n (rise_stmts body)
  rise_stmt (tree.return_stmt n e) = node n (rise_returned e)
  rise_stmt (tree.read_stmt n d rest) = node n (rise_desig d >> rise_desigs rest)
  rise_stmt (tree.write_stmt n items) = node n (rise_exprs items)
  rise_stmt (tree.writeln_stmt n items) = node n (rise_args items)

  -- the ELSIF parts
  pub rise_elsifs : tree.ElsifTail → Rise
  rise_elsifs tree.no_elsif = none
  rise_elsifs (tree.more_elsif e body rest) = rise_expr e >> rise_stmts body >> rise_elsifs rest

  -- the ELSE part, if there is one
  pub rise_else : tree.Else → Rise
  rise_else tree.no_else = none
  rise_else (tree.else_stmts body) = rise_stmts body

  -- the BY part, if there is one
  pub rise_by : tree.By → Rise
  rise_by tree.no_by = none
  rise_by (tree.by_expr e) = rise_expr e

  -- the ORELSE parts
  pub rise_orelses : tree.OrelseTail → Rise
  rise_orelses tree.no_orelse = none
  rise_orelses (tree.more_orelse body rest) = rise_stmts body >> rise_orelses rest

  -- the value of RETURN, if there is one
  pub rise_returned : tree.Returned → Rise
  rise_returned tree.no_value = none
  rise_returned (tree.returned e) = rise_expr e

  -- further designators
  pub rise_desigs : tree.DesigTail → Rise
  rise_desigs tree.no_desig = none
  rise_desigs (tree.more_desig d rest) = rise_desig d >> rise_desigs rest

  -- an arm of CASE
  pub rise_arm : tree.Arm → Rise
  rise_arm (tree.empty_arm n) = node n none
  rise_arm (tree.arm n first rest body) = node n (rise_label first >> rise_labels rest >> rise_stmts body)

  -- further arms of CASE
  pub rise_arms : tree.ArmTail → Rise
  rise_arms tree.no_arm = none
  rise_arms (tree.more_arm x rest) = rise_arm x >> rise_arms rest

  -- a label
  pub rise_label : tree.Label → Rise
  rise_label (tree.label n low high) = node n (rise_expr low >> rise_high high)

  -- the upper end of a label, if there is one
  pub rise_high : tree.High → Rise
  rise_high tree.no_high = none
  rise_high (tree.high_expr e) = rise_expr e

  -- further labels
  pub rise_labels : tree.LabelTail → Rise
  rise_labels tree.no_label = none
  rise_labels (tree.more_label x rest) = rise_label x >> rise_labels rest

  -- an expression
  pub rise_expr : tree.Expr → Rise
  rise_expr (tree.expr n left right) = node n (rise_simple left >> rise_compared right)

  -- a relation with its right side, if there is one
  pub rise_compared : tree.Compared → Rise
  rise_compared tree.no_relation = none
  rise_compared (tree.compared relation right) = rise_simple right

  -- a Simple
  pub rise_simple : tree.Simple → Rise
  rise_simple (tree.simple n sign first rest) = node n (rise_term first >> rise_terms rest)

  -- operators, each with its Term
  pub rise_terms : tree.TermTail → Rise
  rise_terms tree.no_term = none
  rise_terms (tree.more_term o t rest) = rise_term t >> rise_terms rest

  -- a Term
  pub rise_term : tree.Term → Rise
  rise_term (tree.term n first rest) = node n (rise_factor first >> rise_factors rest)

  -- operators, each with its Factor
  pub rise_factors : tree.FactorTail → Rise
  rise_factors tree.no_factor = none
  rise_factors (tree.more_factor o f rest) = rise_factor f >> rise_factors rest

  -- a Factor
  pub rise_factor : tree.Factor → Rise
  rise_factor (tree.not_factor n p) = node n (rise_primary p)
  rise_factor (tree.factor n p) = node n (rise_primary p)

  -- a Primary
  pub rise_primary : tree.Primary → Rise
  rise_primary (tree.number n t) = node n none
  rise_primary (tree.literal n t) = node n none
  rise_primary (tree.named n d given) = node n (rise_desig d >> rise_args given)
  rise_primary (tree.paren n body) = node n (rise_stmts body)
  rise_primary (tree.known n d) = node n (rise_desig d)
  rise_primary (tree.ord n e) = node n (rise_expr e)
  rise_primary (tree.chr n e) = node n (rise_expr e)

  -- the arguments, if there are parentheses
  pub rise_args : tree.Args → Rise
  rise_args tree.no_args = none
  rise_args tree.empty_args = none
  rise_args (tree.args items) = rise_exprs items

  -- a list of expressions
  pub rise_exprs : tree.Exprs → Rise
  rise_exprs (tree.exprs e rest) = rise_expr e >> rise_expr_tail rest

  -- further expressions
  pub rise_expr_tail : tree.ExprTail → Rise
  rise_expr_tail tree.no_expr = none
  rise_expr_tail (tree.more_expr e rest) = rise_expr e >> rise_expr_tail rest

  -- a designator
  pub rise_desig : tree.Desig → Rise
  rise_desig (tree.desig n name more) = node n (rise_name name >> rise_selectors more)

  -- further selectors
  pub rise_selectors : tree.SelectorTail → Rise
  rise_selectors tree.no_selector = none
  rise_selectors (tree.more_selector x rest) = rise_selector x >> rise_selectors rest

  -- a selector
  pub rise_selector : tree.Selector → Rise
  rise_selector (tree.field n name) = node n (rise_name name)
  rise_selector (tree.index n items) = node n (rise_exprs items)

-- ---- names and types

-- further names
abbrev pub rise_more_names : List tree.Name → Rise
rise_more_names [] = none
rise_more_names (x ∷ xs) = rise_name x >> rise_more_names xs

-- a list of names
abbrev pub rise_names : tree.Names → Rise
rise_names x = node x.node (rise_name x.first >> rise_more_names x.more)

unfoldable mutual
  -- a type
  pub rise_type : tree.TypeNode → Rise
  rise_type (tree.type_node n dims p) = node n (rise_arrays dims >> rise_plain p)

  -- the ARRAY parts of a type, if there are any
  pub rise_arrays : tree.Arrays → Rise
  rise_arrays tree.no_arrays = none
  rise_arrays (tree.arrays n d rest) = node n (rise_dimensions d >> rise_dimension_tail rest)

  -- further ARRAY parts
  pub rise_dimension_tail : tree.DimensionTail → Rise
  rise_dimension_tail tree.no_dimensions = none
  rise_dimension_tail (tree.more_dimensions d rest) = rise_dimensions d >> rise_dimension_tail rest

  -- an ARRAY part
  pub rise_dimensions : tree.Dimensions → Rise
  rise_dimensions (tree.dimensions p rest) = rise_plain p >> rise_plains rest

  -- further plain types
  pub rise_plains : tree.PlainTail → Rise
  rise_plains tree.no_plain = none
  rise_plains (tree.more_plain p rest) = rise_plain p >> rise_plains rest

  -- a plain type
  pub rise_plain : tree.PlainType → Rise
  rise_plain (tree.type_name n name) = node n (rise_name name)
  rise_plain (tree.listed n names) = node n (rise_names names)
  rise_plain (tree.subrange n low high) = node n (rise_expr low >> rise_expr high)
  rise_plain (tree.record_type n first rest) = node n (rise_fields first >> rise_field_tail rest)

  -- a field list
  pub rise_fields : tree.FieldList → Rise
  rise_fields (tree.empty_fields n) = node n none
  rise_fields (tree.fields n names t) = node n (rise_names names >> rise_type t)

  -- further field lists
  pub rise_field_tail : tree.FieldListTail → Rise
  rise_field_tail tree.no_fields = none
  rise_field_tail (tree.more_fields x rest) = rise_fields x >> rise_field_tail rest

-- ---- declarations and the module

-- the entries of CONST
abbrev pub rise_consts : List tree.ConstEntry → Rise
rise_consts [] = none
rise_consts (x ∷ xs) = rise_name x.name >> rise_expr x.value >> rise_consts xs

-- the entries of TYPE
abbrev pub rise_type_entries : List tree.TypeEntry → Rise
rise_type_entries [] = none
rise_type_entries (x ∷ xs) = rise_name x.name >> rise_type x.type_node >> rise_type_entries xs

-- the entries of VAR
abbrev pub rise_vars : List tree.VarEntry → Rise
rise_vars [] = none
rise_vars (x ∷ xs) = rise_names x.names >> rise_type x.type_node >> rise_vars xs

-- a Formal
abbrev pub rise_formal : tree.Formal → Rise
rise_formal x = node x.node (rise_names x.names >> rise_name x.type_name)

-- further Formals
abbrev pub rise_more_formals : List tree.Formal → Rise
rise_more_formals [] = none
rise_more_formals (x ∷ xs) = rise_formal x >> rise_more_formals xs

-- the Formals between parentheses, if there are any
abbrev pub rise_formals : Option tree.Formals → Rise
rise_formals None = none
rise_formals (Some x) = node x.node (rise_formal x.first >> rise_more_formals x.more)

-- the parameters, if there are parentheses
abbrev pub rise_params : Option tree.Params → Rise
rise_params None = none
rise_params (Some x) = rise_formals x.formals

-- the Name of the result type, if there is one
abbrev pub rise_result : Option tree.Name → Rise
rise_result None = none
rise_result (Some name) = rise_name name

-- the body, if there is one
abbrev pub rise_body : Option tree.Stmts → Rise
rise_body None = none
rise_body (Some body) = rise_stmts body

unfoldable mutual
  -- a block
  pub rise_block : tree.Block → Rise
  rise_block (tree.block n decls body) = node n (rise_decls decls >> rise_body body)

  -- declarations
  pub rise_decls : tree.DeclTail → Rise
  rise_decls tree.no_decl = none
  rise_decls (tree.more_decl d rest) = rise_decl d >> rise_decls rest

  -- a declaration
  pub rise_decl : tree.Decl → Rise
  rise_decl (tree.const_decl n xs) = node n (rise_consts xs)
  rise_decl (tree.type_decl n xs) = node n (rise_type_entries xs)
  rise_decl (tree.var_decl n xs) = node n (rise_vars xs)
  rise_decl (tree.procedure n name params result b end_name) =
      node n (rise_name name >> rise_params params >> rise_result result >> rise_block b >> rise_name end_name)

-- the module
abbrev pub rise_module : tree.Module → Rise
rise_module m = node m.node (rise_name m.name >> rise_block m.block >> rise_name m.end_name)

-- the nodes of a tree are numbered in post-order
abbrev pub IsRising : tree.Module → Type 0
IsRising m = (nodes : ℕ) × rise_module m 0 nodes
