-- The numbered tree of a plain one: its leaves and nodes counted from a cursor on, as the parser counts them.
use Rattle.std.specs.Prelude.{ℕ, List, [], ◌∷◌, Option, None, Some}
use Rattle.alma_tree.specs.declared.leaf.Mode.{Mode}
use Rattle.alma_tree.specs.Tree as tree
use Rattle.alma_rules.specs.Numbered as numbered
use Rattle.alma_resolved.proofs.Steps.{Counts, give, skip, with_token, close, bind, map, past_sign, past_mode, count_name}

-- ---- statements and expressions

abbrev mutual
  pub count_stmts : tree.Stmts → Counts numbered.Stmts
  count_stmts (tree.stmts s more) = bind (count_stmt s)
      (λ s'. bind (count_stmt_tail more) (λ more'. close (λ n. numbered.stmts n s' more')))

  pub count_stmt_tail : tree.StmtTail → Counts numbered.StmtTail
  count_stmt_tail tree.no_stmt = give numbered.no_stmt
  count_stmt_tail (tree.more_stmt s more) = skip (bind (count_stmt s) (λ s'. map (numbered.more_stmt s') (count_stmt_tail more)))

  pub count_stmt : tree.Stmt → Counts numbered.Stmt
  count_stmt tree.nothing = close numbered.nothing
  count_stmt (tree.assign d e) = bind (count_desig d) (λ d'. skip (bind (count_expr e) (λ e'. close (λ n. numbered.assign n d' e'))))
  count_stmt (tree.value e) = bind (count_expr e) (λ e'. close (λ n. numbered.value n e'))
  count_stmt (tree.if_stmt e s more other) =
      skip (bind (count_expr e) (λ e'. skip
      (bind (count_stmts s) (λ s'. bind (count_elsifs more) (λ more'. bind (count_else other) (λ other'.
      skip (close (λ n. numbered.if_stmt n e' s' more' other'))))))))
  count_stmt (tree.while_stmt e s) =
      skip (bind (count_expr e) (λ e'. skip (bind (count_stmts s) (λ s'. skip (close (λ n. numbered.while_stmt n e' s'))))))
  count_stmt (tree.repeat_stmt s e) = skip
      (bind (count_stmts s) (λ s'. skip (bind (count_expr e) (λ e'. close (λ n. numbered.repeat_stmt n s' e')))))
  count_stmt (tree.for_stmt low high by s) =
      skip (bind count_name (λ v. skip (bind (count_expr low) (λ low'. skip (bind (count_expr high) (λ high'. bind (count_by by) (λ by'.
      skip (bind (count_stmts s) (λ s'. skip (close (λ n. numbered.for_stmt n v low' high' by' s')))))))))))
  count_stmt (tree.some_stmt low high s) =
      skip (bind count_name (λ v. skip (bind (count_expr low) (λ low'. skip (bind (count_expr high) (λ high'.
      skip (bind (count_stmts s) (λ s'. skip (close (λ n. numbered.some_stmt n v low' high' s'))))))))))
  count_stmt (tree.case_stmt e a more other) =
      skip (bind (count_expr e) (λ e'. skip (bind (count_arm a) (λ a'. bind (count_arms more) (λ more'. bind (count_else other) (λ other'.
      skip (close (λ n. numbered.case_stmt n e' a' more' other'))))))))
  count_stmt (tree.either_stmt s more) =
      skip (bind (count_stmts s) (λ s'. bind (count_orelses more) (λ more'. skip (close (λ n. numbered.either_stmt n s' more')))))
  count_stmt (tree.forall_stmt s t) =
      skip (bind (count_stmts s) (λ s'. skip (bind (count_stmts t) (λ t'. skip (close (λ n. numbered.forall_stmt n s' t'))))))
  count_stmt (tree.commit_stmt s) = skip (bind (count_stmts s) (λ s'. skip (close (λ n. numbered.commit_stmt n s'))))
  count_stmt (tree.return_stmt e) = skip (bind (count_returned e) (λ e'. close (λ n. numbered.return_stmt n e')))
  count_stmt (tree.read_stmt d more) =
      skip (skip (bind (count_desig d) (λ d'. bind (count_desigs more) (λ more'. skip (close (λ n. numbered.read_stmt n d' more'))))))
  count_stmt (tree.write_stmt es) = skip (skip (bind (count_exprs es) (λ es'. skip (close (λ n. numbered.write_stmt n es')))))
  count_stmt (tree.writeln_stmt a) = skip (bind (count_args a) (λ a'. close (λ n. numbered.writeln_stmt n a')))

  pub count_elsifs : tree.ElsifTail → Counts numbered.ElsifTail
  count_elsifs tree.no_elsif = give numbered.no_elsif
  count_elsifs (tree.more_elsif e s more) =
      skip (bind (count_expr e) (λ e'. skip (bind (count_stmts s) (λ s'. map (numbered.more_elsif e' s') (count_elsifs more)))))

  pub count_else : tree.Else → Counts numbered.Else
  count_else tree.no_else = give numbered.no_else
  count_else (tree.else_stmts s) = skip (map numbered.else_stmts (count_stmts s))

  pub count_by : tree.By → Counts numbered.By
  count_by tree.no_by = give numbered.no_by
  count_by (tree.by_expr e) = skip (map numbered.by_expr (count_expr e))

  pub count_orelses : tree.OrelseTail → Counts numbered.OrelseTail
  count_orelses tree.no_orelse = give numbered.no_orelse
  count_orelses (tree.more_orelse s more) = skip (bind (count_stmts s) (λ s'. map (numbered.more_orelse s') (count_orelses more)))

  pub count_returned : tree.Returned → Counts numbered.Returned
  count_returned tree.no_value = give numbered.no_value
  count_returned (tree.returned e) = map numbered.returned (count_expr e)

  pub count_desigs : tree.DesigTail → Counts numbered.DesigTail
  count_desigs tree.no_desig = give numbered.no_desig
  count_desigs (tree.more_desig d more) = skip (bind (count_desig d) (λ d'. map (numbered.more_desig d') (count_desigs more)))

  pub count_arm : tree.Arm → Counts numbered.Arm
  count_arm tree.empty_arm = close numbered.empty_arm
  count_arm (tree.arm l more s) =
      bind (count_label l) (λ l'. bind (count_labels more)
      (λ more'. skip (bind (count_stmts s) (λ s'. close (λ n. numbered.arm n l' more' s')))))

  pub count_arms : tree.ArmTail → Counts numbered.ArmTail
  count_arms tree.no_arm = give numbered.no_arm
  count_arms (tree.more_arm a more) = skip (bind (count_arm a) (λ a'. map (numbered.more_arm a') (count_arms more)))

  pub count_label : tree.Label → Counts numbered.Label
  count_label (tree.label e h) = bind (count_expr e) (λ e'. bind (count_high h) (λ h'. close (λ n. numbered.label n e' h')))

  pub count_high : tree.High → Counts numbered.High
  count_high tree.no_high = give numbered.no_high
  count_high (tree.high_expr e) = skip (map numbered.high_expr (count_expr e))

  pub count_labels : tree.LabelTail → Counts numbered.LabelTail
  count_labels tree.no_label = give numbered.no_label
  count_labels (tree.more_label l more) = skip (bind (count_label l) (λ l'. map (numbered.more_label l') (count_labels more)))

  pub count_expr : tree.Expr → Counts numbered.Expr
  count_expr (tree.expr s c) = bind (count_simple s) (λ s'. bind (count_compared c) (λ c'. close (λ n. numbered.expr n s' c')))

  pub count_compared : tree.Compared → Counts numbered.Compared
  count_compared tree.no_relation = give numbered.no_relation
  count_compared (tree.compared r s) = skip (map (numbered.compared r) (count_simple s))

  pub count_simple : tree.Simple → Counts numbered.Simple
  count_simple (tree.simple sign t more) =
      past_sign sign (bind (count_term t) (λ t'. bind (count_terms more) (λ more'. close (λ n. numbered.simple n sign t' more'))))

  pub count_terms : tree.TermTail → Counts numbered.TermTail
  count_terms tree.no_term = give numbered.no_term
  count_terms (tree.more_term o t more) = skip (bind (count_term t) (λ t'. map (numbered.more_term o t') (count_terms more)))

  pub count_term : tree.Term → Counts numbered.Term
  count_term (tree.term f more) = bind (count_factor f) (λ f'. bind (count_factors more) (λ more'. close (λ n. numbered.term n f' more')))

  pub count_factors : tree.FactorTail → Counts numbered.FactorTail
  count_factors tree.no_factor = give numbered.no_factor
  count_factors (tree.more_factor o f more) = skip (bind (count_factor f) (λ f'. map (numbered.more_factor o f') (count_factors more)))

  pub count_factor : tree.Factor → Counts numbered.Factor
  count_factor (tree.not_factor p) = skip (bind (count_primary p) (λ p'. close (λ n. numbered.not_factor n p')))
  count_factor (tree.factor p) = bind (count_primary p) (λ p'. close (λ n. numbered.factor n p'))

  pub count_primary : tree.Primary → Counts numbered.Primary
  count_primary tree.number = with_token (λ t. close (λ n. numbered.number n t))
  count_primary tree.literal = with_token (λ t. close (λ n. numbered.literal n t))
  count_primary (tree.named d a) = bind (count_desig d) (λ d'. bind (count_args a) (λ a'. close (λ n. numbered.named n d' a')))
  count_primary (tree.paren s) = skip (bind (count_stmts s) (λ s'. skip (close (λ n. numbered.paren n s'))))
  count_primary (tree.known d) = skip (skip (bind (count_desig d) (λ d'. skip (close (λ n. numbered.known n d')))))
  count_primary (tree.ord e) = skip (skip (bind (count_expr e) (λ e'. skip (close (λ n. numbered.ord n e')))))
  count_primary (tree.chr e) = skip (skip (bind (count_expr e) (λ e'. skip (close (λ n. numbered.chr n e')))))

  pub count_args : tree.Args → Counts numbered.Args
  count_args tree.no_args = give numbered.no_args
  count_args tree.empty_args = skip (skip (give numbered.empty_args))
  count_args (tree.args es) = skip (bind (count_exprs es) (λ es'. skip (give (numbered.args es'))))

  pub count_exprs : tree.Exprs → Counts numbered.Exprs
  count_exprs (tree.exprs e more) = bind (count_expr e) (λ e'. map (numbered.exprs e') (count_expr_tail more))

  pub count_expr_tail : tree.ExprTail → Counts numbered.ExprTail
  count_expr_tail tree.no_expr = give numbered.no_expr
  count_expr_tail (tree.more_expr e more) = skip (bind (count_expr e) (λ e'. map (numbered.more_expr e') (count_expr_tail more)))

  pub count_desig : tree.Desig → Counts numbered.Desig
  count_desig (tree.desig more) = bind count_name (λ name. bind (count_selectors more) (λ more'. close (λ n. numbered.desig n name more')))

  pub count_selectors : tree.SelectorTail → Counts numbered.SelectorTail
  count_selectors tree.no_selector = give numbered.no_selector
  count_selectors (tree.more_selector s more) = bind (count_selector s) (λ s'. map (numbered.more_selector s') (count_selectors more))

  pub count_selector : tree.Selector → Counts numbered.Selector
  count_selector tree.field = skip (bind count_name (λ name. close (λ n. numbered.field n name)))
  count_selector (tree.index es) = skip (bind (count_exprs es) (λ es'. skip (close (λ n. numbered.index n es'))))

-- ---- names and types

abbrev pub names_at : numbered.Name → List numbered.Name → ℕ → numbered.Names
names_at x xs n = record { node = n; first = x; more = xs }

abbrev pub count_name_tail : tree.NameTail → Counts (List numbered.Name)
count_name_tail tree.no_name = give []
count_name_tail (tree.more_name more) = skip (bind count_name (λ x. map (λ xs. x ∷ xs) (count_name_tail more)))

abbrev pub count_names : tree.Names → Counts numbered.Names
count_names (tree.names more) = bind count_name (λ x. bind (count_name_tail more) (λ xs. close (names_at x xs)))

abbrev mutual
  pub count_type : tree.TypeNode → Counts numbered.TypeNode
  count_type (tree.type_node dims p) = bind (count_arrays dims)
      (λ dims'. bind (count_plain p) (λ p'. close (λ n. numbered.type_node n dims' p')))

  pub count_arrays : tree.ArrayTail → Counts numbered.Arrays
  count_arrays tree.no_array = give numbered.no_arrays
  count_arrays (tree.more_array (tree.dimensions p more) rest) =
      skip (bind (count_plain p) (λ p'. bind (count_plains more) (λ more'. skip (bind (count_dimensions rest) (λ rest'.
      close (λ n. numbered.arrays n (numbered.dimensions p' more') rest'))))))

  pub count_dimensions : tree.ArrayTail → Counts numbered.DimensionTail
  count_dimensions tree.no_array = give numbered.no_dimensions
  count_dimensions (tree.more_array (tree.dimensions p more) rest) =
      skip (bind (count_plain p) (λ p'. bind (count_plains more)
      (λ more'. skip (map (numbered.more_dimensions (numbered.dimensions p' more'))
      (count_dimensions rest)))))

  pub count_plains : tree.PlainTail → Counts numbered.PlainTail
  count_plains tree.no_plain = give numbered.no_plain
  count_plains (tree.more_plain p more) = skip (bind (count_plain p) (λ p'. map (numbered.more_plain p') (count_plains more)))

  pub count_plain : tree.PlainType → Counts numbered.PlainType
  count_plain tree.type_name = bind count_name (λ name. close (λ n. numbered.type_name n name))
  count_plain (tree.listed ns) = skip (bind (count_names ns) (λ ns'. skip (close (λ n. numbered.listed n ns'))))
  count_plain (tree.subrange low high) =
      skip (bind (count_expr low) (λ low'. skip (bind (count_expr high) (λ high'. skip (close (λ n. numbered.subrange n low' high'))))))
  count_plain (tree.record_type f more) =
      skip (bind (count_fields f) (λ f'. bind (count_field_tail more) (λ more'. skip (close (λ n. numbered.record_type n f' more')))))

  pub count_fields : tree.FieldList → Counts numbered.FieldList
  count_fields tree.empty_fields = close numbered.empty_fields
  count_fields (tree.fields ns t) = bind (count_names ns)
      (λ names'. skip (bind (count_type t) (λ t'. close (λ n. numbered.fields n names' t'))))

  pub count_field_tail : tree.FieldListTail → Counts numbered.FieldListTail
  count_field_tail tree.no_fields = give numbered.no_fields
  count_field_tail (tree.more_fields f more) = skip (bind (count_fields f) (λ f'. map (numbered.more_fields f') (count_field_tail more)))

-- ---- declarations and the module

abbrev pub const_of : numbered.Name → numbered.Expr → numbered.ConstEntry
const_of name value = record { name = name; value = value }

abbrev pub type_of : numbered.Name → numbered.TypeNode → numbered.TypeEntry
type_of name t = record { name = name; type_node = t }

abbrev pub var_of : numbered.Names → numbered.TypeNode → numbered.VarEntry
var_of ns t = record { names = ns; type_node = t }

abbrev pub formal_at : Option Mode → numbered.Names → numbered.Name → ℕ → numbered.Formal
formal_at mode ns name n = record { node = n; mode = mode; names = ns; type_name = name }

abbrev pub formals_at : numbered.Formal → List numbered.Formal → ℕ → numbered.Formals
formals_at f fs n = record { node = n; first = f; more = fs }

abbrev pub params_of : Option numbered.Formals → Option numbered.Params
params_of formals = Some (record { formals = formals })

abbrev pub module_at : numbered.Name → numbered.Block → numbered.Name → ℕ → numbered.Module
module_at name b end_name n = record { node = n; name = name; block = b; end_name = end_name }

abbrev pub count_consts : tree.ConstTail → Counts (List numbered.ConstEntry)
count_consts tree.no_const = give []
count_consts (tree.more_const e more) =
    bind count_name (λ name. skip (bind (count_expr e) (λ e'. skip (map (λ xs. const_of name e' ∷ xs) (count_consts more)))))

abbrev pub count_types : tree.TypeTail → Counts (List numbered.TypeEntry)
count_types tree.no_type = give []
count_types (tree.more_type t more) =
    bind count_name (λ name. skip (bind (count_type t) (λ t'. skip (map (λ xs. type_of name t' ∷ xs) (count_types more)))))

abbrev pub count_vars : tree.VarTail → Counts (List numbered.VarEntry)
count_vars tree.no_var = give []
count_vars (tree.more_var ns t more) =
    bind (count_names ns) (λ ns'. skip (bind (count_type t) (λ t'. skip (map (λ xs. var_of ns' t' ∷ xs) (count_vars more)))))

abbrev pub count_formal : tree.Formal → Counts numbered.Formal
count_formal (tree.formal mode ns) =
    past_mode mode (bind (count_names ns) (λ ns'. skip (bind count_name (λ name. close (formal_at mode ns' name)))))

abbrev pub count_formal_tail : tree.FormalTail → Counts (List numbered.Formal)
count_formal_tail tree.no_formal = give []
count_formal_tail (tree.more_formal f more) = skip (bind (count_formal f) (λ f'. map (λ xs. f' ∷ xs) (count_formal_tail more)))

abbrev pub count_formals : tree.Formals → Counts numbered.Formals
count_formals (tree.formals f more) = bind (count_formal f) (λ f'. bind (count_formal_tail more) (λ more'. close (formals_at f' more')))

abbrev pub count_params : tree.Params → Counts (Option numbered.Params)
count_params tree.no_params = give None
count_params tree.empty_params = skip (skip (give (params_of None)))
count_params (tree.params f) = skip (bind (count_formals f) (λ f'. skip (give (params_of (Some f')))))

abbrev pub count_result : tree.ResultName → Counts (Option numbered.Name)
count_result tree.no_result = give None
count_result tree.result_name = skip (map (λ name. Some name) count_name)

abbrev pub count_body : tree.Body → Counts (Option numbered.Stmts)
count_body tree.no_body = give None
count_body (tree.body s) = skip (map (λ s'. Some s') (count_stmts s))

abbrev mutual
  pub count_block : tree.Block → Counts numbered.Block
  count_block (tree.block ds b) = bind (count_decls ds) (λ ds'. bind (count_body b) (λ b'. close (λ n. numbered.block n ds' b')))

  pub count_decls : tree.DeclTail → Counts numbered.DeclTail
  count_decls tree.no_decl = give numbered.no_decl
  count_decls (tree.more_decl d more) = bind (count_decl d) (λ d'. map (numbered.more_decl d') (count_decls more))

  pub count_decl : tree.Decl → Counts numbered.Decl
  count_decl (tree.const_decl entries) = skip (bind (count_consts entries) (λ entries'. close (λ n. numbered.const_decl n entries')))
  count_decl (tree.type_decl entries) = skip (bind (count_types entries) (λ entries'. close (λ n. numbered.type_decl n entries')))
  count_decl (tree.var_decl entries) = skip (bind (count_vars entries) (λ entries'. close (λ n. numbered.var_decl n entries')))
  count_decl (tree.procedure p r b) =
      skip (bind count_name (λ name. bind (count_params p) (λ p'. bind (count_result r) (λ r'. skip (bind (count_block b) (λ b'.
      skip (bind count_name (λ end_name. skip (close (λ n. numbered.procedure n name p' r' b' end_name))))))))))

abbrev pub count_module : tree.Module → Counts numbered.Module
count_module (tree.module_of b) =
    skip (bind count_name (λ name. skip
    (bind (count_block b) (λ b'. skip (bind count_name (λ end_name. skip (close (module_at name b' end_name))))))))
