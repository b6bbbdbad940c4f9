-- The names of a resolved program are those of Name tokens, and so are spelled as names.
use Rattle.std.proofs.Common.{◌≡◌, ℕ, zero, suc, ◌+◌, ◌-◌, ℤ, Bool, true, false, List, [], ◌∷◌, ◌++◌, length, Option, None, Some, refl, sym}
use Rattle.std.proofs.Common.{ap, ◌∙◌, subst}
use Rattle.std.specs.Prelude.{IsTrue, map, slice_get, option_map, bytes_eq, if◌then◌else◌}
use Rattle.std.specs.List.{AllByRecursion}
use Rattle.alma_base.specs.Choice.{if_true}
use Rattle.alma_base.specs.Bytes.{is_word_byte}
use Rattle.alma_base.specs.declared.fault.CheckFault.{CheckFault}
use Rattle.alma_tree.specs.declared.leaf.Mode.{Mode}
use Rattle.alma_tree.specs.declared.kind.Kind.{Kind}
use Rattle.alma_tree.specs.declared.kind.Kind.TheVariants as kinds
use Rattle.alma_scan.specs.Bytes.{AllIn}
use Rattle.alma_scan.specs.Spellings.{Spelling, symbols, reserved_words, look_up, IsWord, Spells, name, number, literal, symbol, reserved}
use Rattle.alma_scan.specs.Tokens.{Lexeme, HasTokens, Tokens}
use Rattle.alma_names.specs.declared.block.Entry.{Entry}
use Rattle.alma_names.specs.declared.block.Entry.TheVariants as entry
use Rattle.alma_names.specs.Shapes.{PlainShape, is_too_large, placed_shape, cell_counts, listed, sub, row, fields}
use Rattle.alma_names.specs.Blocks.{shape_id}
use Rattle.alma_names.specs.Scopes.{with_declared}
use Rattle.alma_ir.specs.Tree.{Program, Routine, Global}
use Rattle.alma_ir.specs.Checked.{IsName, NamesSpelled}
use Rattle.alma_ir.proofs.Each.{each_of_append, each_of_front, each_of_back}
use Rattle.alma_rules.specs.Numbered as tree
use Rattle.alma_rules.specs.Judgement.{BrokenRule, broken_at, if_unbroken}
use Rattle.alma_rules.specs.Scene.{Scene, nothing, is_first, is_structured, text_of, text_at, base, cells}
use Rattle.alma_rules.specs.Places.{width, mark_expr, mark_type}
use Rattle.alma_rules.specs.Types.{Reading, with_change, reading_both, read_constant, declare_name, redeclaration_rules, redeclared_all}
use Rattle.alma_rules.specs.Types.{read_type_name}
use Rattle.alma_rules.specs.Types.{ShapeOrLimit, formed, too_large, add_shape, row_on, rows_on, rows_of, subrange_from, subrange_of}
use Rattle.alma_rules.specs.Types.{all_first}
use Rattle.alma_rules.specs.Types.{last_token, value_entry, declare_values, listed_in, read_listed, all_names, joined_fields, record_of}
use Rattle.alma_rules.specs.Types.{field_names, reading_with, read_type, read_arrays, read_dimension_tail, read_dimensions, read_plains}
use Rattle.alma_rules.specs.Types.{read_plain, read_fields, read_field_tail}
use Rattle.alma_rules.specs.Decls.{Frame, with_faults, with_scene, within_limit, constant_entry, constant_in, read_consts, type_entry}
use Rattle.alma_rules.specs.Decls.{type_in}
use Rattle.alma_rules.specs.Decls.{read_types, variable_access, with_variable, variable_in, variables_in, variables_of, read_vars}
use Rattle.alma_rules.specs.Decls.{param_kind, with_param, param_in, params_in, formal_in, read_formals, formals_of, too_deep, heading_at}
use Rattle.alma_rules.specs.Decls.{with_depth, read_heading, read_decl, read_decls, decl_routines}
use Rattle.alma_rules.specs.Modules.{judge_body, frame_of, with_shapes, judge_block, judge_bodies, judge_decl, first_scene, module_frame}
use Rattle.alma_rules.specs.Modules.{judge_module, block_variables, program_of, broken_rules, resolution, cons_routine, joined_routines}
use Rattle.alma_rules.specs.Modules.{body_lines}
use Rattle.alma_rules.proofs.Limited.{limited_case}
use Rattle.alma_resolved.proofs.FramesKept.{parts}
use Rattle.alma_resolved.proofs.HeadsSound.{first_frame}
use Rattle.alma_resolved.proofs.HeadScenes.{Steady, block_same, head_same}
use Rattle.alma_resolved.proofs.Naming.{var_leaves, block_leaves, decls_leaves, decl_leaves, AreNames, module_leaves}

-- ---- names in a source

looked_up : (table : List Spelling) (text : List ℕ) → AllByRecursion (λ x. x.kind ≡ kinds.Name → ⊥) table
    → look_up table text ≡ Some kinds.Name → ⊥
looked_up [] text h e = absurd (cc)
looked_up (x ∷ xs) text h e = by (bytes_eq x.text text) e (looked_up xs text h.1)
  where
    by : (c : Bool) → (if c then Some x.kind else look_up xs text) ≡ Some kinds.Name → (look_up xs text ≡ Some kinds.Name → ⊥) → ⊥
    by true q f = h.0 (cc)
    by false q f = f q

word_bytes : (bytes : List ℕ) → AllIn is_word_byte bytes → AllByRecursion (λ b. IsTrue (is_word_byte b)) bytes
word_bytes [] h = tt
word_bytes (b ∷ bs) h = (h.0, word_bytes bs h.1)

word_named : (text : List ℕ) → IsWord text → IsName text
word_named [] h = h
word_named (b ∷ bs) h = (h.0, word_bytes bs h.1)

symbols_other : AllByRecursion (λ x. x.kind ≡ kinds.Name → ⊥) symbols
symbols_other = (
  λ e. absurd (cc),
  (
    λ e. absurd (cc),
    (
      λ e. absurd (cc),
      (
        λ e. absurd (cc),
        (
          λ e. absurd (cc),
          (
            λ e. absurd (cc),
            (
              λ e. absurd (cc),
              (
                λ e. absurd (cc),
                (
                  λ e. absurd (cc),
                  (
                    λ e. absurd (cc),
                    (
                      λ e. absurd (cc),
                      (
                        λ e. absurd (cc),
                        (
                          λ e. absurd (cc),
                          (
                            λ e. absurd (cc),
                            (
                              λ e. absurd (cc),
                              (
                                λ e. absurd (cc),
                                (λ e. absurd (cc), (λ e. absurd (cc), (λ e. absurd (cc), (λ e. absurd (cc), (λ e. absurd (cc), tt))))),
                              ),
                            ),
                          ),
                        ),
                      ),
                    ),
                  ),
                ),
              ),
            ),
          ),
        ),
      ),
    ),
  ),
)

reserved_other : AllByRecursion (λ x. x.kind ≡ kinds.Name → ⊥) reserved_words
reserved_other = (
  λ e. absurd (cc),
  (
    λ e. absurd (cc),
    (
      λ e. absurd (cc),
      (
        λ e. absurd (cc),
        (
          λ e. absurd (cc),
          (
            λ e. absurd (cc),
            (
              λ e. absurd (cc),
              (
                λ e. absurd (cc),
                (
                  λ e. absurd (cc),
                  (
                    λ e. absurd (cc),
                    (
                      λ e. absurd (cc),
                      (
                        λ e. absurd (cc),
                        (
                          λ e. absurd (cc),
                          (
                            λ e. absurd (cc),
                            (
                              λ e. absurd (cc),
                              (
                                λ e. absurd (cc),
                                (
                                  λ e. absurd (cc),
                                  (
                                    λ e. absurd (cc),
                                    (
                                      λ e. absurd (cc),
                                      (
                                        λ e. absurd (cc),
                                        (
                                          λ e. absurd (cc),
                                          (
                                            λ e. absurd (cc),
                                            (
                                              λ e. absurd (cc),
                                              (
                                                λ e. absurd (cc),
                                                (
                                                  λ e. absurd (cc),
                                                  (
                                                    λ e. absurd (cc),
                                                    (
                                                      λ e. absurd (cc),
                                                      (
                                                        λ e. absurd (cc),
                                                        (
                                                          λ e. absurd (cc),
                                                          (
                                                            λ e. absurd (cc),
                                                            (
                                                              λ e. absurd (cc),
                                                              (
                                                                λ e. absurd (cc),
                                                                (
                                                                  λ e. absurd (cc),
                                                                  (
                                                                    λ e. absurd (cc),
                                                                    (
                                                                      λ e. absurd (cc),
                                                                      (
                                                                        λ e. absurd (cc),
                                                                        (
                                                                          λ e. absurd (cc),
                                                                          (
                                                                            λ e. absurd (cc),
                                                                            (λ e. absurd (cc), (λ e. absurd (cc), tt)),
                                                                          ),
                                                                        ),
                                                                      ),
                                                                    ),
                                                                  ),
                                                                ),
                                                              ),
                                                            ),
                                                          ),
                                                        ),
                                                      ),
                                                    ),
                                                  ),
                                                ),
                                              ),
                                            ),
                                          ),
                                        ),
                                      ),
                                    ),
                                  ),
                                ),
                              ),
                            ),
                          ),
                        ),
                      ),
                    ),
                  ),
                ),
              ),
            ),
          ),
        ),
      ),
    ),
  ),
)

spelled_name : (kind : Kind) (text : List ℕ) → kind ≡ kinds.Name → Spells kind text → IsName text
spelled_name kind text e (name k w l) = word_named text w
spelled_name kind text e (number k d v) = absurd (let bad : kinds.Name ≡ kinds.Number = sym e ∙ k in cc)
spelled_name kind text e (literal k l) = absurd (let bad : kinds.Name ≡ kinds.Literal = sym e ∙ k in cc)
spelled_name kind text e (symbol l) = absurd (looked_up symbols text symbols_other (l ∙ ap Some e))
spelled_name kind text e (reserved l) = absurd (looked_up reserved_words text reserved_other (l ∙ ap Some e))

-- a Name among the tokens of a source has the text of one
token_named : (size : ℕ) (bytes : List ℕ) (tokens : List Lexeme) (rest : List ℕ) (n : ℕ) → HasTokens size bytes tokens rest
    → slice_get (map (λ t. t.kind) tokens) n ≡ Some kinds.Name → IsName (text_of (slice_get tokens n))
token_named size bytes [] rest n h e = absurd (cc)
token_named size bytes (t ∷ ts) rest zero h e = spelled_name t.kind t.text (cc) h.1.is_token.spelled
token_named size bytes (t ∷ ts) rest (suc n) h e = token_named size h.0 ts rest n h.2 e

-- the text at each of these names is a name
abbrev TextsNamed : List Lexeme → List tree.Name → Type 0
TextsNamed tokens xs = AllByRecursion (λ x. IsName (text_of (slice_get tokens x.token))) xs

texts_named : (source : List ℕ) (tokens : List Lexeme) (xs : List tree.Name) → Tokens source tokens → AreNames (map (λ t. t.kind) tokens) xs
    → TextsNamed tokens xs
texts_named source tokens [] h k = tt
texts_named source tokens (x ∷ xs) h k = (token_named (length source) source tokens [] x.token h k.0, texts_named source tokens xs h k.1)

-- ---- the tokens of a scene stay

-- the scene has the tokens of another
pub record Same (s t : Scene) : Type 0 where
  pub is : t.tokens ≡ s.tokens

same_self : (s : Scene) → Same s s
same_self s = record { is = refl }

same_twice : {s t u : Scene} → Same s t → Same t u → Same s u
same_twice a b = record { is = b.is ∙ a.is }

pub declared_same : (s : Scene) (x : tree.Name) (from : ℕ) (e : Entry) → Same s (declare_name s x from e)
declared_same s x from e = by (is_first s x)
  where
    by : (b : Bool) → Same s (if b then record s
        { blocks = with_declared s.blocks (record { name = text_at s x.token; from = from; entry = e }) } else s)
    by true = record { is = refl }
    by false = record { is = refl }

add_same : (s : Scene) (x : PlainShape) → Same s (add_shape s x).0
add_same s x = by (is_too_large s.shapes x)
  where
    by : (b : Bool) → Same s (if_true {A = Scene × ShapeOrLimit} b (λ u. (s, too_large))
        (λ u. (record s { shapes = s.shapes ++ placed_shape (cell_counts s.shapes) x ∷ [] }, formed (length s.shapes)))).0
    by true = record { is = refl }
    by false = record { is = refl }

row_same : (i : ℕ) (p : Scene × ShapeOrLimit) → Same p.0 (row_on i p).0
row_same i (s, formed e) = add_same s (row i e)
row_same i (s, too_large) = same_self s

rows_same : (s : Scene) (is : List ℕ) (f : ShapeOrLimit) → Same s (rows_on s is f).0
rows_same s [] f = same_self s
rows_same s (i ∷ is) f = same_twice (rows_same s is f) (row_same i (rows_on s is f))

subrange_same : (s : Scene) (b : ℕ) (low high : Option ℤ) → Same s (subrange_from s b low high).0
subrange_same s b (Some low) (Some high) = add_same s (sub b (record { low = low; high = high }))
subrange_same s b (Some low) None = same_self s
subrange_same s b None high = same_self s

change_same : {A B : Type 0} (f : Scene → A → Scene × B) (s : Scene) (r : Reading A) → Same s r.scene
    → ((x : A) → Same r.scene (f r.scene x).0) → Same s (with_change r.scene r.faults (option_map (f r.scene) r.value)).scene
change_same {A} {B} f s r h g = by r.value
  where
    by : (o : Option A) → Same s (with_change r.scene r.faults (option_map (f r.scene) o)).scene
    by None = h
    by (Some x) = record { is = (g x).is ∙ h.is }

values_same : (s : Scene) (from : ℕ) (o : Option ℕ) (i : ℕ) (xs : List tree.Name) → Same s (declare_values s from o i xs)
values_same s from o i [] = same_self s
values_same s from o i (x ∷ xs) = same_twice (declared_same s x from (value_entry o i))
    (values_same (declare_name s x from (value_entry o i)) from o (i + 1) xs)

listed_same : (faults : List BrokenRule) (from : ℕ) (names : List tree.Name) (p : Scene × ShapeOrLimit)
    → Same p.0 (listed_in faults from names p).scene
listed_same faults from names (s, formed shape) = values_same s from (Some shape) 0 names
listed_same faults from names (s, too_large) = values_same s from None 0 names

list_same : (s : Scene) (names : List tree.Name) (from : ℕ) → Same s (read_listed s names from).scene
list_same s names from = by (all_first s names)
  where
    by : (b : Bool) → Same s (if_true b (λ u. listed_in [] from names (add_shape s (listed (length names))))
        (λ u. record { faults = redeclared_all s names; scene = declare_values s from None 0 names; value = None })).scene
    by true = same_twice (add_same s (listed (length names))) (listed_same [] from names (add_shape s (listed (length names))))
    by false = values_same s from None 0 names

mutual
  unfolding read_type

  pub type_same : (s : Scene) (x : tree.TypeNode) → Same s (read_type s x).scene
  type_same s (tree.type_node n dims p) =
      change_same rows_of s (reading_both (read_arrays s dims) (read_plain (read_arrays s dims).scene p))
      (same_twice (arrays_same s dims) (plain_same (read_arrays s dims).scene p))
      (λ x. rows_same (read_plain (read_arrays s dims).scene p).scene x.0 x.1)

  arrays_same : (s : Scene) (x : tree.Arrays) → Same s (read_arrays s x).scene
  arrays_same s tree.no_arrays = same_self s
  arrays_same s (tree.arrays n d rest) = same_twice (dimensions_same s d) (dimension_tail_same (read_dimensions s d).scene rest)

  dimension_tail_same : (s : Scene) (x : tree.DimensionTail) → Same s (read_dimension_tail s x).scene
  dimension_tail_same s tree.no_dimensions = same_self s
  dimension_tail_same s (tree.more_dimensions d rest) =
      same_twice (dimensions_same s d) (dimension_tail_same (read_dimensions s d).scene rest)

  dimensions_same : (s : Scene) (x : tree.Dimensions) → Same s (read_dimensions s x).scene
  dimensions_same s (tree.dimensions p rest) = same_twice (plain_same s p) (plains_same (read_plain s p).scene rest)

  plains_same : (s : Scene) (x : tree.PlainTail) → Same s (read_plains s x).scene
  plains_same s tree.no_plain = same_self s
  plains_same s (tree.more_plain p rest) = same_twice (plain_same s p) (plains_same (read_plain s p).scene rest)

  plain_same : (s : Scene) (x : tree.PlainType) → Same s (read_plain s x).scene
  plain_same s (tree.type_name n x) = same_self s
  plain_same s (tree.listed n names) = list_same s (all_names names) (last_token names.first names.more + 2)
  plain_same s (tree.subrange n low high) =
      change_same subrange_of s _ (same_self s) (λ p. subrange_same s (base s p.0.shape) p.0.constant p.1.constant)
  plain_same s (tree.record_type n first rest) =
      change_same record_of s (reading_with joined_fields
      (reading_both (read_fields s [] first) (read_field_tail (read_fields s [] first).scene (field_names first) rest)))
      (same_twice (fields_same s [] first) (field_tail_same (read_fields s [] first).scene (field_names first) rest))
      (λ fs. add_same (read_field_tail (read_fields s [] first).scene (field_names first) rest).scene (fields fs))

  fields_same : (s : Scene) (earlier : List tree.Name) (x : tree.FieldList) → Same s (read_fields s earlier x).scene
  fields_same s earlier (tree.empty_fields n) = same_self s
  fields_same s earlier (tree.fields n names t) = type_same s t

  field_tail_same : (s : Scene) (earlier : List tree.Name) (x : tree.FieldListTail) → Same s (read_field_tail s earlier x).scene
  field_tail_same s earlier tree.no_fields = same_self s
  field_tail_same s earlier (tree.more_fields x rest) =
      same_twice (fields_same s earlier x) (field_tail_same (read_fields s earlier x).scene (earlier ++ field_names x) rest)

-- ---- frames

-- the scene has these tokens, and the variables so far have names
record NamesGood (tokens : List Lexeme) (f : Frame) : Type 0 where
  tokens_are : f.scene.tokens ≡ tokens
  names : AllByRecursion (λ g. IsName g.name) f.variables

consts_good : (tokens : List Lexeme) (f : Frame) (xs : List tree.ConstEntry) → NamesGood tokens f → NamesGood tokens (read_consts f xs)
consts_good tokens f [] h = h
consts_good tokens f (x ∷ xs) h =
    consts_good tokens (constant_in f x (read_constant f.scene x.value)) xs
    (record {
      tokens_are = (declared_same f.scene x.name (x.name.token + 3 + width (mark_expr x.value))
          (constant_entry (read_constant f.scene x.value).value)).is ∙ h.tokens_are;
      names = h.names;
    })

types_good : (tokens : List Lexeme) (f : Frame) (xs : List tree.TypeEntry) → NamesGood tokens f → NamesGood tokens (read_types f xs)
types_good tokens f [] h = h
types_good tokens f (x ∷ xs) h =
    types_good tokens (type_in f x (read_type f.scene x.type_node)) xs
    (record {
      tokens_are = (declared_same (read_type f.scene x.type_node).scene x.name (x.name.token + 3 + width (mark_type x.type_node))
          (type_entry (read_type f.scene x.type_node).value)).is ∙ ((type_same f.scene x.type_node).is ∙ h.tokens_are);
      names = h.names;
    })

variable_good : (tokens : List Lexeme) (f : Frame) (from : ℕ) (o : Option ℕ) (x : tree.Name) → IsName (text_of (slice_get tokens x.token))
    → NamesGood tokens f → NamesGood tokens (variable_in f from o x)
variable_good tokens f from None x k h = record { tokens_are = (declared_same f.scene x from entry.Bad).is ∙ h.tokens_are; names = h.names }
variable_good tokens f from (Some shape) x k h =
    by (is_first f.scene x) ((declared_same f.scene x from (entry.Variable (shape_id shape) (variable_access f.scene f.slots))).is
    ∙ h.tokens_are)
  where
    own : IsName (text_at f.scene x.token)
    own = subst (λ ts. IsName (text_of (slice_get ts x.token))) (sym h.tokens_are) k

    by : (b : Bool) → (declare_name f.scene x from (entry.Variable (shape_id shape) (variable_access f.scene f.slots))).tokens ≡ tokens
        → NamesGood tokens (if_true b (λ u. within_limit x f (with_variable f x from shape))
        (λ u. with_faults f (broken_at x.node (redeclaration_rules f.scene x))))
    by true e = limited_case (λ g. NamesGood tokens g) x f (with_variable f x from shape) (λ le. record {
      tokens_are = e;
      names = each_of_append (λ (g : Global). IsName g.name) f.variables
          (record { name = text_at f.scene x.token; slot = f.slots; cells = cells f.scene shape } ∷ []) h.names (own, tt);
    }) (record { tokens_are = e; names = h.names })
    by false e = record { tokens_are = h.tokens_are; names = h.names }

variables_good : (tokens : List Lexeme) (f : Frame) (from : ℕ) (o : Option ℕ) (xs : List tree.Name) → TextsNamed tokens xs
    → NamesGood tokens f → NamesGood tokens (variables_in f from o xs)
variables_good tokens f from o [] k h = h
variables_good tokens f from o (x ∷ xs) k h =
    variables_good tokens (variable_in f from o x) from o xs k.1 (variable_good tokens f from o x k.0 h)

vars_good : (tokens : List Lexeme) (f : Frame) (xs : List tree.VarEntry) → TextsNamed tokens (var_leaves xs) → NamesGood tokens f
    → NamesGood tokens (read_vars f xs)
vars_good tokens f [] k h = h
vars_good tokens f (x ∷ xs) k h =
    let front = each_of_front (λ (y : tree.Name). IsName (text_of (slice_get tokens y.token))) (all_names x.names) (var_leaves xs) k in
    let back = each_of_back (λ (y : tree.Name). IsName (text_of (slice_get tokens y.token))) (all_names x.names) (var_leaves xs) k in
    let one = variables_good tokens (with_scene f (read_type f.scene x.type_node).scene)
    (last_token x.names.first x.names.more + 3 + width (mark_type x.type_node)) (read_type f.scene x.type_node).value
    (all_names x.names) front
    (record { tokens_are = (type_same f.scene x.type_node).is ∙ h.tokens_are; names = h.names }) in
    vars_good tokens (variables_of f x (read_type f.scene x.type_node)) xs back (record { tokens_are = one.tokens_are; names = one.names })

decl_good : (tokens : List Lexeme) (f : Frame) (r : ℕ) (d : tree.Decl) → TextsNamed tokens (decl_leaves d) → NamesGood tokens f
    → NamesGood tokens (read_decl f r d)
unfolding block_leaves
decl_good tokens f r (tree.const_decl n xs) k h = consts_good tokens f xs h
decl_good tokens f r (tree.type_decl n xs) k h = types_good tokens f xs h
decl_good tokens f r (tree.var_decl n xs) k h = vars_good tokens f xs k h
decl_good tokens f r (tree.procedure n x params result b end_name) k h = record { tokens_are = h.tokens_are; names = h.names }

decls_good : (tokens : List Lexeme) (f : Frame) (r : ℕ) (x : tree.DeclTail) → TextsNamed tokens (decls_leaves x) → NamesGood tokens f
    → NamesGood tokens (read_decls f r x)
unfolding block_leaves
decls_good tokens f r tree.no_decl k h = h
decls_good tokens f r (tree.more_decl d rest) k h =
    decls_good tokens (read_decl f r d) (r + decl_routines d) rest
    (each_of_back (λ (y : tree.Name). IsName (text_of (slice_get tokens y.token))) (decl_leaves d) (decls_leaves rest) k)
    (decl_good tokens f r d (each_of_front (λ (y : tree.Name). IsName (text_of (slice_get tokens y.token))) (decl_leaves d)
    (decls_leaves rest) k) h)

-- ---- routines

abbrev RoutinesNamed : List Routine → Type 0
RoutinesNamed rs = AllByRecursion (λ x. IsName x.name) rs

none_named : (rs : List Routine) → [] ≡ rs → RoutinesNamed rs
none_named [] e = tt
none_named (x ∷ xs) e = absurd (cc)

pub tokens_steady : Steady (λ s. s.tokens)
tokens_steady = record { same = λ s b d r t. refl }

-- a heading declares no variables of a module
param_variables : (f : Frame) (from : ℕ) (mode : Option Mode) (o : Option ℕ) (x : tree.Name)
    → (param_in f from mode o x).variables ≡ f.variables
param_variables f from mode None x = refl
param_variables f from mode (Some shape) x = by (is_first f.scene x)
  where
    by : (b : Bool) → (if_true b (λ u. within_limit x f (with_param f x from mode shape (param_kind (is_structured f.scene shape) mode)))
        (λ u. with_faults f (broken_at x.node (redeclaration_rules f.scene x)))).variables ≡ f.variables
    by true = limited_case (λ g. g.variables ≡ f.variables) x f
        (with_param f x from mode shape (param_kind (is_structured f.scene shape) mode)) (λ le. refl) refl
    by false = refl

params_variables : (f : Frame) (from : ℕ) (mode : Option Mode) (o : Option ℕ) (xs : List tree.Name)
    → (params_in f from mode o xs).variables ≡ f.variables
params_variables f from mode o [] = refl
params_variables f from mode o (x ∷ xs) = params_variables (param_in f from mode o x) from mode o xs ∙ param_variables f from mode o x

formals_variables : (f : Frame) (xs : List tree.Formal) → (read_formals f xs).variables ≡ f.variables
formals_variables f [] = refl
formals_variables f (x ∷ xs) = formals_variables (formal_in f x (read_type_name f.scene x.type_name)) xs
    ∙ params_variables f (x.type_name.token + 1) x.mode (read_type_name f.scene x.type_name).value (all_names x.names)

head_variables : (s : Scene) (r n : ℕ) (params : Option tree.Params) (result : Option tree.Name) (b : tree.Block)
    → AllByRecursion (λ g. IsName g.name) (read_heading s r n params result b).frame.variables
head_variables s r n params result b = subst (λ gs. AllByRecursion (λ (g : Global). IsName g.name) gs)
    (sym (deep (too_deep s) ∙ (one result ∙ formals_variables (first_frame s r params b) (formals_of params)))) tt
  where
    deep : (d : List CheckFault) → (with_depth d n
        (heading_at (read_formals (first_frame s r params b) (formals_of params)) result)).frame.variables
        ≡ (heading_at (read_formals (first_frame s r params b) (formals_of params)) result).frame.variables
    deep [] = refl
    deep (x ∷ xs) = refl

    one : (o : Option tree.Name) → (heading_at (read_formals (first_frame s r params b) (formals_of params)) o).frame.variables
        ≡ (read_formals (first_frame s r params b) (formals_of params)).variables
    one None = refl
    one (Some x) = refl

block_leaves_are : (n : ℕ) (decls : tree.DeclTail) (body : Option tree.Stmts) → block_leaves (tree.block n decls body) ≡ decls_leaves decls
unfolding block_leaves
block_leaves_are n decls body = refl

mutual
  unfolding judge_block block_leaves

  block_named_in : (tokens : List Lexeme) (f : Frame) (r : ℕ) (x : tree.Name) (outer end : ℕ) (b : tree.Block) (rs : List Routine)
      → NamesGood tokens f → IsName (text_of (slice_get tokens x.token)) → TextsNamed tokens (block_leaves b)
      → (judge_block f r x outer end b).value ≡ Some rs → RoutinesNamed rs
  block_named_in tokens f r x outer end (tree.block n decls body) rs h own k value =
      let v = parts (judge_bodies (read_decls f r decls).scene r decls).value (judge_body (read_decls f r decls) body).value
      (cons_routine (read_decls f r decls) x outer (judge_body (read_decls f r decls) body).next
      (body_lines (read_decls f r decls).scene end body)) rs value in
      let g = decls_good tokens f r decls k h in
      subst RoutinesNamed v.is (
        subst (λ ts. IsName (text_of (slice_get ts x.token))) (sym g.tokens_are) own,
        bodies_named tokens (read_decls f r decls).scene r decls v.first g.tokens_are k v.has_first,
      )

  bodies_named : (tokens : List Lexeme) (s : Scene) (r : ℕ) (x : tree.DeclTail) (rs : List Routine) → s.tokens ≡ tokens
      → TextsNamed tokens (decls_leaves x) → (judge_bodies s r x).value ≡ Some rs → RoutinesNamed rs
  bodies_named tokens s r tree.no_decl rs h k value = none_named rs (cc)
  bodies_named tokens s r (tree.more_decl d rest) rs h k value =
      let v = parts (judge_decl s r d).value (judge_bodies (with_shapes s (judge_decl s r d).shapes) (r + decl_routines d) rest).value
      joined_routines rs value in
      subst RoutinesNamed v.is
      (each_of_append (λ (y : Routine). IsName y.name) v.first v.second
      (decl_named_in tokens s r d v.first h (each_of_front (λ (y : tree.Name). IsName (text_of (slice_get tokens y.token))) (decl_leaves d)
      (decls_leaves rest) k) v.has_first)
      (bodies_named tokens (with_shapes s (judge_decl s r d).shapes) (r + decl_routines d) rest v.second h
      (each_of_back (λ (y : tree.Name). IsName (text_of (slice_get tokens y.token))) (decl_leaves d) (decls_leaves rest) k)
      v.has_second))

  decl_named_in : (tokens : List Lexeme) (s : Scene) (r : ℕ) (d : tree.Decl) (rs : List Routine) → s.tokens ≡ tokens
      → TextsNamed tokens (decl_leaves d) → (judge_decl s r d).value ≡ Some rs → RoutinesNamed rs
  decl_named_in tokens s r (tree.const_decl n xs) rs h k value = none_named rs (cc)
  decl_named_in tokens s r (tree.type_decl n xs) rs h k value = none_named rs (cc)
  decl_named_in tokens s r (tree.var_decl n xs) rs h k value = none_named rs (cc)
  decl_named_in tokens s r (tree.procedure n x params result b end_name) rs h k value =
      block_named_in tokens (frame_of (read_heading s r n params result b)) (r + 1) x s.routine (end_name.token - 1) b rs
      (record {
        tokens_are = head_same (λ y. y.tokens) tokens_steady s r n params result b ∙ h;
        names =
            head_variables s r n params result b;
      }) k.0 k.1 value

-- ---- the program

made_named : (source : List ℕ) (tokens : List Lexeme) (m : tree.Module) (rs : List Routine) → TextsNamed tokens (module_leaves m)
    → (judge_module source tokens m).value ≡ Some rs → NamesSpelled (program_of source tokens m rs)
made_named source tokens m rs k value = record {
  globals = by m.block k.1;
  routines =
      block_named_in tokens (module_frame source tokens m) 1 m.name 0 (m.end_name.token - 1) m.block rs first k.0 k.1 value;
}
  where
    first : NamesGood tokens (module_frame source tokens m)
    first = record { tokens_are = block_same (λ y. y.tokens) tokens_steady (first_scene source tokens m) 0 nothing [] m.block; names = tt }

    by : (b : tree.Block) → TextsNamed tokens (block_leaves b)
        → AllByRecursion (λ g. IsName g.name) (block_variables (module_frame source tokens m) 1 b)
    by (tree.block n decls body) k = (decls_good tokens (module_frame source tokens m) 1 decls
        (subst (TextsNamed tokens) (block_leaves_are n decls body) k) first).names

-- the names of a resolved program are spelled
pub program_named : (source : List ℕ) (tokens : List Lexeme) (m : tree.Module) (p : Program) → Tokens source tokens
    → AreNames (map (λ t. t.kind) tokens) (module_leaves m) → resolution source tokens m ≡ Some p → NamesSpelled p
program_named source tokens m p scanned names e =
    by (broken_rules source tokens m) (judge_module source tokens m).value e
    (λ rs i. made_named source tokens m rs (texts_named source tokens (module_leaves m) scanned names) i)
  where
    by : (fs : List BrokenRule) (o : Option (List Routine)) → if_unbroken fs (option_map (program_of source tokens m) o) ≡ Some p
        → ((rs : List Routine) → o ≡ Some rs → NamesSpelled (program_of source tokens m rs)) → NamesSpelled p
    by [] None e f = absurd (cc)
    by [] (Some rs) e f = let same : program_of source tokens m rs ≡ p = cc in subst NamesSpelled same (f rs refl)
    by (b ∷ bs) o e f = absurd (cc)
