-- Where the nodes of a tree and the statements of the resolved program begin: the walk counts tokens as the grammar has them.
use Rattle.std.specs.Prelude.{ℕ, suc, nat_eq, if◌then◌else◌, List, [], ◌∷◌, ◌++◌, Option, None, Some}
use Rattle.alma_tree.specs.declared.leaf.Sign.{Sign}
use Rattle.alma_tree.specs.declared.leaf.Mode.{Mode}
use Rattle.alma_rules.specs.Numbered as tree

-- a node, with its first token; or a statement of the resolved program, with the first token of the one that it comes from
pub data Mark : Type 0 where
  node_at : (node token : ℕ) → Mark
  stmt_at : (token : ℕ) → Mark

-- the marks of a phrase, a statement before those inside it, and the token behind the phrase
pub record PhraseMarks : Type 0 where
  pub marks : List Mark
  pub end : ℕ

-- from the first token of a phrase
abbrev pub Step : Type 0
Step = ℕ → PhraseMarks

-- no token and no mark
abbrev pub stay : Step
stay at = record { marks = []; end = at }

-- one token, whatever it is
abbrev pub token : Step
token at = record { marks = []; end = suc at }

-- the marks of one phrase, and those of a step behind it
abbrev pub step_on : PhraseMarks → Step → PhraseMarks
step_on a f = record { marks = a.marks ++ (f a.end).marks; end = (f a.end).end }

-- one phrase and then another
infixr 10 ◌>>◌
abbrev pub ◌>>◌ : Step → Step → Step
(f >> g) at = step_on (f at) g

-- a node of these parts
abbrev pub marked_node : ℕ → ℕ → PhraseMarks → PhraseMarks
marked_node n at m = record { marks = m.marks ++ node_at n at ∷ []; end = m.end }

-- the same, of the step over the parts
abbrev pub whole : ℕ → Step → Step
whole n f at = marked_node n at (f at)

-- a statement that begins here
abbrev pub statement : Step
statement at = record { marks = stmt_at at ∷ []; end = at }

-- a statement that begins at a token
abbrev pub statement_of : ℕ → Step
statement_of t at = record { marks = stmt_at t ∷ []; end = at }

-- a phrase of one word, of which each part is a statement
abbrev pub from_here : (ℕ → Step) → Step
from_here f at = f at at

-- a name
abbrev pub mark_name : tree.Name → Step
mark_name name = whole name.node token

-- a sign, if there is one
abbrev pub mark_sign : Option Sign → Step
mark_sign None = stay
mark_sign (Some s) = token

-- a mode, if there is one
abbrev pub mark_mode : Option Mode → Step
mark_mode None = stay
mark_mode (Some m) = token

-- the first step, if there is one, and else the other
abbrev pub first_step : Option Step → Step → Step
first_step None g = g
first_step (Some f) g = f

-- the step over a list of statements that is one expression, if it is one
abbrev pub only_step : ℕ → tree.StmtTail → Option Step → Option Step
only_step m tree.no_stmt None = None
only_step m tree.no_stmt (Some f) = Some (whole m f)
only_step m (tree.more_stmt x rest) f = None

-- ---- statements and expressions

unfoldable mutual
  -- a list of statements
  pub mark_stmts : tree.Stmts → Step
  mark_stmts (tree.stmts n x rest) = whole n (mark_stmt x >> mark_stmt_tail rest)

  -- further statements
  pub mark_stmt_tail : tree.StmtTail → Step
  mark_stmt_tail tree.no_stmt = stay
  mark_stmt_tail (tree.more_stmt x rest) = token >> mark_stmt x >> mark_stmt_tail rest

  -- a statement
  pub mark_stmt : tree.Stmt → Step
  mark_stmt (tree.nothing n) = whole n stay
  mark_stmt (tree.assign n d e) = whole n (statement >> mark_desig d >> token >> mark_expr e)
  mark_stmt (tree.value n e) = whole n (statement >> mark_expr e)
  mark_stmt (tree.if_stmt n e body elsifs other) =
      whole n (statement >> token >> mark_expr e >> token >> mark_stmts body >> mark_elsifs elsifs >> mark_else other >> token)
  mark_stmt (tree.while_stmt n e body) = whole n (statement >> token >> mark_expr e >> token >> mark_stmts body >> token)
  mark_stmt (tree.repeat_stmt n body e) = whole n (statement >> token >> mark_stmts body >> token >> mark_expr e)
  mark_stmt (tree.for_stmt n name low high by body) =
      whole n (statement >> token >> mark_name name >> token >> mark_expr low >> token >> mark_expr high >> mark_by by >> token >>
      mark_stmts body >> token)
  mark_stmt (tree.some_stmt n name low high body) =
      whole n (statement >> token >> mark_name name >> token >> mark_expr low >> token >> mark_expr high >> token >> mark_stmts body >>
      token)
  mark_stmt (tree.case_stmt n e first rest other) =
      whole n (statement >> token >> mark_expr e >> token >> mark_arm first >> mark_arms rest >> mark_else other >> token)
  mark_stmt (tree.either_stmt n body rest) = whole n (statement >> token >> mark_stmts body >> mark_orelses rest >> token)
  mark_stmt (tree.forall_stmt n choice body) = whole n (statement >> token >> mark_stmts choice >> token >> mark_stmts body >> token)
  mark_stmt (tree.commit_stmt n body) = whole n (statement >> token >> mark_stmts body >> token)
  mark_stmt (tree.return_stmt n e) = whole n (statement >> token >> mark_returned e)
  mark_stmt (tree.read_stmt n d rest) =
      whole n (from_here (λ at. token >> token >> statement_of at >> mark_desig d >> mark_desigs at rest >> token))
  mark_stmt (tree.write_stmt n items) = whole n (from_here (λ at. token >> token >> mark_items at items >> token))
  mark_stmt (tree.writeln_stmt n items) = whole n (from_here (λ at. token >> mark_line_items at items >> statement_of at))

  -- the ELSIF parts
  pub mark_elsifs : tree.ElsifTail → Step
  mark_elsifs tree.no_elsif = stay
  mark_elsifs (tree.more_elsif e body rest) = token >> mark_expr e >> token >> mark_stmts body >> mark_elsifs rest

  -- the ELSE part, if there is one
  pub mark_else : tree.Else → Step
  mark_else tree.no_else = stay
  mark_else (tree.else_stmts body) = token >> mark_stmts body

  -- the BY part, if there is one
  pub mark_by : tree.By → Step
  mark_by tree.no_by = stay
  mark_by (tree.by_expr e) = token >> mark_expr e

  -- the ORELSE parts
  pub mark_orelses : tree.OrelseTail → Step
  mark_orelses tree.no_orelse = stay
  mark_orelses (tree.more_orelse body rest) = token >> mark_stmts body >> mark_orelses rest

  -- the value of RETURN, if there is one
  pub mark_returned : tree.Returned → Step
  mark_returned tree.no_value = stay
  mark_returned (tree.returned e) = mark_expr e

  -- further designators of a READ at a token
  pub mark_desigs : ℕ → tree.DesigTail → Step
  mark_desigs at tree.no_desig = stay
  mark_desigs at (tree.more_desig d rest) = token >> statement_of at >> mark_desig d >> mark_desigs at rest

  -- an arm of CASE
  pub mark_arm : tree.Arm → Step
  mark_arm (tree.empty_arm n) = whole n stay
  mark_arm (tree.arm n first rest body) = whole n (mark_label first >> mark_labels rest >> token >> mark_stmts body)

  -- further arms of CASE
  pub mark_arms : tree.ArmTail → Step
  mark_arms tree.no_arm = stay
  mark_arms (tree.more_arm x rest) = token >> mark_arm x >> mark_arms rest

  -- a label
  pub mark_label : tree.Label → Step
  mark_label (tree.label n low high) = whole n (mark_expr low >> mark_high high)

  -- the upper end of a label, if there is one
  pub mark_high : tree.High → Step
  mark_high tree.no_high = stay
  mark_high (tree.high_expr e) = token >> mark_expr e

  -- further labels
  pub mark_labels : tree.LabelTail → Step
  mark_labels tree.no_label = stay
  mark_labels (tree.more_label x rest) = token >> mark_label x >> mark_labels rest

  -- an expression
  pub mark_expr : tree.Expr → Step
  mark_expr (tree.expr n left right) = whole n (mark_simple left >> mark_compared right)

  -- a relation with its right side, if there is one
  pub mark_compared : tree.Compared → Step
  mark_compared tree.no_relation = stay
  mark_compared (tree.compared relation right) = token >> mark_simple right

  -- a Simple
  pub mark_simple : tree.Simple → Step
  mark_simple (tree.simple n sign first rest) = whole n (mark_sign sign >> mark_term first >> mark_terms rest)

  -- operators, each with its Term
  pub mark_terms : tree.TermTail → Step
  mark_terms tree.no_term = stay
  mark_terms (tree.more_term o t rest) = token >> mark_term t >> mark_terms rest

  -- a Term
  pub mark_term : tree.Term → Step
  mark_term (tree.term n first rest) = whole n (mark_factor first >> mark_factors rest)

  -- operators, each with its Factor
  pub mark_factors : tree.FactorTail → Step
  mark_factors tree.no_factor = stay
  mark_factors (tree.more_factor o f rest) = token >> mark_factor f >> mark_factors rest

  -- a Factor
  pub mark_factor : tree.Factor → Step
  mark_factor (tree.not_factor n p) = whole n (token >> mark_primary p)
  mark_factor (tree.factor n p) = whole n (mark_primary p)

  -- a Primary
  pub mark_primary : tree.Primary → Step
  mark_primary (tree.number n t) = whole n token
  mark_primary (tree.literal n t) = whole n token
  mark_primary (tree.named n d given) = whole n (mark_desig d >> mark_args given)
  mark_primary (tree.paren n body) = whole n (token >> first_step (mark_only body) (mark_stmts body) >> token)
  mark_primary (tree.known n d) = whole n (token >> token >> mark_desig d >> token)
  mark_primary (tree.ord n e) = whole n (token >> token >> mark_expr e >> token)
  mark_primary (tree.chr n e) = whole n (token >> token >> mark_expr e >> token)

  -- the one statement that is an expression, and so none of the resolved program
  pub mark_only : tree.Stmts → Option Step
  mark_only (tree.stmts n x rest) = only_step n rest (mark_value x)

  -- the step over a statement that is an expression, if it is one
  pub mark_value : tree.Stmt → Option Step
  mark_value (tree.value n e) = Some (whole n (mark_expr e))
  mark_value x = None

  -- the arguments, if there are parentheses
  pub mark_args : tree.Args → Step
  mark_args tree.no_args = stay
  mark_args tree.empty_args = token >> token
  mark_args (tree.args items) = token >> mark_exprs items >> token

  -- a list of expressions
  pub mark_exprs : tree.Exprs → Step
  mark_exprs (tree.exprs e rest) = mark_expr e >> mark_expr_tail rest

  -- further expressions
  pub mark_expr_tail : tree.ExprTail → Step
  mark_expr_tail tree.no_expr = stay
  mark_expr_tail (tree.more_expr e rest) = token >> mark_expr e >> mark_expr_tail rest

  -- the items of a WRITE or WRITELN at a token
  pub mark_items : ℕ → tree.Exprs → Step
  mark_items at (tree.exprs e rest) = statement_of at >> mark_expr e >> mark_item_tail at rest

  -- further items of a WRITE or WRITELN at a token
  pub mark_item_tail : ℕ → tree.ExprTail → Step
  mark_item_tail at tree.no_expr = stay
  mark_item_tail at (tree.more_expr e rest) = token >> statement_of at >> mark_expr e >> mark_item_tail at rest

  -- the items of a WRITELN at a token, with their parentheses, if it has these
  pub mark_line_items : ℕ → tree.Args → Step
  mark_line_items at tree.no_args = stay
  mark_line_items at tree.empty_args = token >> token
  mark_line_items at (tree.args items) = token >> mark_items at items >> token

  -- a designator
  pub mark_desig : tree.Desig → Step
  mark_desig (tree.desig n name more) = whole n (mark_name name >> mark_selectors more)

  -- further selectors
  pub mark_selectors : tree.SelectorTail → Step
  mark_selectors tree.no_selector = stay
  mark_selectors (tree.more_selector x rest) = mark_selector x >> mark_selectors rest

  -- a selector
  pub mark_selector : tree.Selector → Step
  mark_selector (tree.field n name) = whole n (token >> mark_name name)
  mark_selector (tree.index n items) = whole n (token >> mark_exprs items >> token)

-- ---- names and types

-- further names
abbrev pub mark_more_names : List tree.Name → Step
mark_more_names [] = stay
mark_more_names (x ∷ xs) = token >> mark_name x >> mark_more_names xs

-- a list of names
abbrev pub mark_names : tree.Names → Step
mark_names x = whole x.node (mark_name x.first >> mark_more_names x.more)

unfoldable mutual
  -- a type
  pub mark_type : tree.TypeNode → Step
  mark_type (tree.type_node n dims p) = whole n (mark_arrays dims >> mark_plain p)

  -- the ARRAY parts of a type, if there are any
  pub mark_arrays : tree.Arrays → Step
  mark_arrays tree.no_arrays = stay
  mark_arrays (tree.arrays n d rest) = whole n (mark_dimensions d >> mark_dimension_tail rest)

  -- further ARRAY parts
  pub mark_dimension_tail : tree.DimensionTail → Step
  mark_dimension_tail tree.no_dimensions = stay
  mark_dimension_tail (tree.more_dimensions d rest) = mark_dimensions d >> mark_dimension_tail rest

  -- an ARRAY part
  pub mark_dimensions : tree.Dimensions → Step
  mark_dimensions (tree.dimensions p rest) = token >> mark_plain p >> mark_plains rest >> token

  -- further plain types
  pub mark_plains : tree.PlainTail → Step
  mark_plains tree.no_plain = stay
  mark_plains (tree.more_plain p rest) = token >> mark_plain p >> mark_plains rest

  -- a plain type
  pub mark_plain : tree.PlainType → Step
  mark_plain (tree.type_name n name) = whole n (mark_name name)
  mark_plain (tree.listed n names) = whole n (token >> mark_names names >> token)
  mark_plain (tree.subrange n low high) = whole n (token >> mark_expr low >> token >> mark_expr high >> token)
  mark_plain (tree.record_type n first rest) = whole n (token >> mark_fields first >> mark_field_tail rest >> token)

  -- a field list
  pub mark_fields : tree.FieldList → Step
  mark_fields (tree.empty_fields n) = whole n stay
  mark_fields (tree.fields n names t) = whole n (mark_names names >> token >> mark_type t)

  -- further field lists
  pub mark_field_tail : tree.FieldListTail → Step
  mark_field_tail tree.no_fields = stay
  mark_field_tail (tree.more_fields x rest) = token >> mark_fields x >> mark_field_tail rest

-- ---- declarations and the module

-- the entries of CONST
abbrev pub mark_consts : List tree.ConstEntry → Step
mark_consts [] = stay
mark_consts (x ∷ xs) = mark_name x.name >> token >> mark_expr x.value >> token >> mark_consts xs

-- the entries of TYPE
abbrev pub mark_type_entries : List tree.TypeEntry → Step
mark_type_entries [] = stay
mark_type_entries (x ∷ xs) = mark_name x.name >> token >> mark_type x.type_node >> token >> mark_type_entries xs

-- the entries of VAR
abbrev pub mark_vars : List tree.VarEntry → Step
mark_vars [] = stay
mark_vars (x ∷ xs) = mark_names x.names >> token >> mark_type x.type_node >> token >> mark_vars xs

-- a Formal
abbrev pub mark_formal : tree.Formal → Step
mark_formal x = whole x.node (mark_mode x.mode >> mark_names x.names >> token >> mark_name x.type_name)

-- further Formals
abbrev pub mark_more_formals : List tree.Formal → Step
mark_more_formals [] = stay
mark_more_formals (x ∷ xs) = token >> mark_formal x >> mark_more_formals xs

-- the Formals between parentheses, if there are any
abbrev pub mark_formals : Option tree.Formals → Step
mark_formals None = stay
mark_formals (Some x) = whole x.node (mark_formal x.first >> mark_more_formals x.more)

-- the parameters, if there are parentheses
abbrev pub mark_params : Option tree.Params → Step
mark_params None = stay
mark_params (Some x) = token >> mark_formals x.formals >> token

-- the Name of the result type, if there is one
abbrev pub mark_result : Option tree.Name → Step
mark_result None = stay
mark_result (Some name) = token >> mark_name name

-- the body, if there is one
abbrev pub mark_body : Option tree.Stmts → Step
mark_body None = stay
mark_body (Some body) = token >> mark_stmts body

unfoldable mutual
  -- a block
  pub mark_block : tree.Block → Step
  mark_block (tree.block n decls body) = whole n (mark_decls decls >> mark_body body)

  -- declarations
  pub mark_decls : tree.DeclTail → Step
  mark_decls tree.no_decl = stay
  mark_decls (tree.more_decl d rest) = mark_decl d >> mark_decls rest

  -- a declaration
  pub mark_decl : tree.Decl → Step
  mark_decl (tree.const_decl n xs) = whole n (token >> mark_consts xs)
  mark_decl (tree.type_decl n xs) = whole n (token >> mark_type_entries xs)
  mark_decl (tree.var_decl n xs) = whole n (token >> mark_vars xs)
  mark_decl (tree.procedure n name params result b end_name) =
      whole n (token >> mark_name name >> mark_params params >> mark_result result >> token >> mark_block b >> token >> mark_name end_name
      >> token)

-- the module
abbrev pub mark_module : tree.Module → Step
mark_module m = whole m.node (token >> mark_name m.name >> token >> mark_block m.block >> token >> mark_name m.end_name >> token)

-- ---- what is asked of the marks

-- the first token of a node
abbrev pub node_token : ℕ → List Mark → ℕ
node_token n [] = 0
node_token n (node_at m t ∷ rest) = if nat_eq n m then t else node_token n rest
node_token n (stmt_at t ∷ rest) = node_token n rest

-- the first tokens of the statements
abbrev pub stmt_tokens : List Mark → List ℕ
stmt_tokens [] = []
stmt_tokens (node_at m t ∷ rest) = stmt_tokens rest
stmt_tokens (stmt_at t ∷ rest) = t ∷ stmt_tokens rest

-- the number of tokens of a phrase
abbrev pub width : Step → ℕ
width f = (f 0).end
