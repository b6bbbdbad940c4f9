-- In a numbered tree each declared name stands on a token that is a Name of the spelling.
use Rattle.std.proofs.Common.{◌≡◌, ℕ, zero, suc, List, [], ◌∷◌, ◌++◌, Bool, true, false, Option, None, Some, refl, sym, subst}
use Rattle.std.specs.Prelude.{nat_eq, drop, slice_get}
use Rattle.std.specs.List.{AllByRecursion}
use Rattle.std.proofs.lemmas.Bool.{eqb-true}
use Rattle.alma_tree.specs.declared.kind.Kind.{Kind}
use Rattle.alma_tree.specs.declared.kind.Kind.TheVariants as kinds
use Rattle.alma_tree.specs.declared.leaf.Mode.{Mode}
use Rattle.alma_tree.specs.declared.leaf.Mode.TheVariants as modes
use Rattle.alma_tree.specs.declared.leaf.Name.{Name}
use Rattle.alma_tree.specs.declared.leaf.Names.{Names}
use Rattle.alma_tree.specs.declared.phrase.Stmts as ds
use Rattle.alma_tree.specs.declared.type_node.TypeNode as dy
use Rattle.alma_tree.specs.declared.type_node.Arrays as dz
use Rattle.alma_tree.specs.declared.type_node.PlainType as dq
use Rattle.alma_tree.specs.declared.type_node.FieldList as dw
use Rattle.alma_tree.specs.declared.module.Block as db
use Rattle.alma_tree.specs.declared.module.Decl as dh
use Rattle.alma_tree.specs.declared.module.ConstEntry.{ConstEntry}
use Rattle.alma_tree.specs.declared.module.TypeEntry.{TypeEntry}
use Rattle.alma_tree.specs.declared.module.VarEntry.{VarEntry}
use Rattle.alma_tree.specs.declared.module.Params.{Params}
use Rattle.alma_tree.specs.declared.module.Formals.{Formals}
use Rattle.alma_tree.specs.declared.module.Formal.{Formal}
use Rattle.alma_tree.specs.declared.module.Module.{Module}
use Rattle.alma_tree.specs.Numbers as number
use Rattle.alma_tree.specs.Numbers.{Cursor, Step, where_so, token, node, leaf, ◌>>◌}
use Rattle.alma_tree.specs.Spelling as spell
use Rattle.alma_tree.specs.View as view
use Rattle.alma_ir.proofs.Each.{each_of_append}
use Rattle.alma_rules.specs.Numbered as tree
use Rattle.alma_rules.specs.View as numbered
use Rattle.alma_rules.specs.Types.{all_names}
use Rattle.alma_resolved.proofs.Onward.{parts}
use Rattle.alma_resolved.proofs.Spelled.{Spelled, spelled_stay, spelled_token, spelled_node, spelled_leaf, spelled_then, name_spelled}
use Rattle.alma_resolved.proofs.Spelled.{expr_spelled, stmt_spelled, list_stmts_spelled}

-- ---- the names of variables and procedures

abbrev pub var_leaves : List tree.VarEntry → List tree.Name
var_leaves [] = []
var_leaves (x ∷ xs) = all_names x.names ++ var_leaves xs

unfoldable mutual
  pub block_leaves : tree.Block → List tree.Name
  block_leaves (tree.block n decls body) = decls_leaves decls

  pub decls_leaves : tree.DeclTail → List tree.Name
  decls_leaves tree.no_decl = []
  decls_leaves (tree.more_decl d rest) = decl_leaves d ++ decls_leaves rest

  pub decl_leaves : tree.Decl → List tree.Name
  decl_leaves (tree.const_decl n xs) = []
  decl_leaves (tree.type_decl n xs) = []
  decl_leaves (tree.var_decl n xs) = var_leaves xs
  decl_leaves (tree.procedure n name params result b end_name) = name ∷ block_leaves b

-- these names stand on Names of the list
abbrev pub AreNames : List Kind → List tree.Name → Type 0
AreNames all xs = AllByRecursion (λ x. slice_get all x.token ≡ Some kinds.Name) xs

-- a step that is spelled so, and these names in it
record Naming (f : Step) (sp : List Kind → List Kind) (xs : List tree.Name) : Type 0 where
  spelled : Spelled f sp
  names : (all : List Kind) (at b : Cursor) (rest : List Kind) → f at ≡ Some b → drop at.token all ≡ sp rest → AreNames all xs

naming_none : (f : Step) (sp : List Kind → List Kind) → Spelled f sp → Naming f sp []
naming_none f sp h = record { spelled = h; names = λ all at b rest i e. tt }

after_spelled : (f : Step) (sp : List Kind → List Kind) → Spelled f sp → (all : List Kind) (at b : Cursor) (rest : List Kind)
    → f at ≡ Some b → drop at.token all ≡ sp rest → drop b.token all ≡ rest
unfolding Spelled
after_spelled f sp h = h

naming_both : (f g : Step) (p q : List Kind → List Kind) (xs ys : List tree.Name) → Naming f p xs → Naming g q ys
    → Naming (f >> g) (λ rest. p (q rest)) (xs ++ ys)
naming_both f g p q xs ys h k = record {
  spelled = spelled_then f g p q h.spelled k.spelled;
  names = λ all at b rest i e.
      let m : (mid : Cursor) × (f at ≡ Some mid) × (g mid ≡ Some b) = parts (f at) g b i in
      each_of_append (λ (x : tree.Name). slice_get all x.token ≡ Some kinds.Name) xs ys (h.names all at m.0 (q rest) m.1 e)
      (k.names all m.0 b rest m.2 (after_spelled f p h.spelled all at m.0 (q rest) m.1 e));
}

naming_after : (f g : Step) (p q : List Kind → List Kind) (ys : List tree.Name) → Spelled f p → Naming g q ys
    → Naming (f >> g) (λ rest. p (q rest)) ys
naming_after f g p q ys h k = naming_both f g p q [] ys (naming_none f p h) k

naming_before : (f g : Step) (p q : List Kind → List Kind) (xs : List tree.Name) → Naming f p xs → Spelled g q
    → Naming (f >> g) (λ rest. p (q rest)) xs
naming_before f g p q xs h k = record {
  spelled = spelled_then f g p q h.spelled k;
  names = λ all at b rest i e. let m : (mid : Cursor) × (f at ≡ Some mid)
      × (g mid ≡ Some b) = parts (f at) g b i in h.names all at m.0 (q rest) m.1 e;
}

first_kind : (all : List Kind) (n : ℕ) (k : Kind) (rest : List Kind) → drop n all ≡ k ∷ rest → slice_get all n ≡ Some k
first_kind [] n k rest h = absurd (none n h)
  where
    none : (n : ℕ) → drop n [] ≡ k ∷ rest → ⊥
    none zero h = absurd (cc)
    none (suc n) h = absurd (cc)
first_kind (x ∷ xs) zero k rest h = cc
first_kind (x ∷ xs) (suc n) k rest h = first_kind xs n k rest h

leaf_at : (n : ℕ) (at b : Cursor) → leaf n at ≡ Some b → n ≡ at.token
leaf_at n at b h = by (nat_eq n at.token) refl h
  where
    by : (t : Bool) → nat_eq n at.token ≡ t → where_so t (record { token = suc at.token; node = at.node }) ≡ Some b → n ≡ at.token
    by true e h = eqb-true n at.token e
    by false e h = absurd (cc)

name_named : (l : Name) → Naming (number.number_name l) (λ rest. kinds.Name ∷ rest) (numbered.view_name l ∷ [])
name_named l = naming_before _ _ _ _ _ (record {
  spelled = spelled_leaf l.token kinds.Name;
  names = λ all at b rest i e. (
    subst (λ n. slice_get all n ≡ Some kinds.Name) (sym (leaf_at l.token at b i))
        (first_kind all at.token kinds.Name rest e),
    tt,
  );
}) (spelled_node l.node)

more_names_named : (xs : List Name) → Naming (number.numbers_of_names xs) (spell.spell_name_tail (view.name_tail_of xs))
    (numbered.names_of xs)
more_names_named [] = naming_none _ _ spelled_stay
more_names_named (x ∷ xs) = naming_after _ _ _ _ _ (spelled_token kinds.Comma)
    (naming_both _ _ _ _ (numbered.view_name x ∷ []) _ (name_named x) (more_names_named xs))

names_named : (x : Names) → Naming (number.number_names x) (spell.spell_names (view.view_names x)) (all_names (numbered.view_names x))
names_named x = naming_both _ _ _ _ (numbered.view_name x.first ∷ []) _ (name_named x.first)
    (naming_before _ _ _ _ _ (more_names_named x.more.items) (spelled_node x.node))

-- ---- types

is_spelled : (f : Step) (sp : List Kind → List Kind) (xs : List tree.Name) → Naming f sp xs → Spelled f sp
is_spelled f sp xs h = h.spelled

mutual
  type_spelled : (x : dy.TypeNode) → Spelled (number.number_type x) (spell.spell_type_node (view.view_type_node x))
  type_spelled (dy.TypeNode' n dims p) = spelled_then _ _ _ _ (arrays_spelled dims)
      (spelled_then _ _ _ _ (plain_spelled p) (spelled_node n))

  arrays_spelled : (x : dy.Held-TypeNode-arrays) → Spelled (number.number_arrays x) (spell.spell_array_tail (view.view_arrays x))
  arrays_spelled dy.None' = spelled_stay
  arrays_spelled (dy.Some' (dz.Arrays' n p shape row shape' row')) =
      spelled_then _ _ _ _ (spelled_token kinds.Array) (spelled_then _ _ _ _ (plain_spelled p) (spelled_then _ _ _ _ (plains_spelled row)
      (spelled_then _ _ _ _ (spelled_token kinds.Of) (spelled_then _ _ _ _ (dimensions_spelled row') (spelled_node n)))))

  dimensions_spelled : {n : _} (x : dz.Row_of-Dimensions n)
      → Spelled (number.number_dimensions x) (spell.spell_array_tail (view.view_dimensions x))
  dimensions_spelled dz.end_of-Dimensions = spelled_stay
  dimensions_spelled (dz.more_of-Dimensions p shape row rest) =
      spelled_then _ _ _ _ (spelled_token kinds.Array)
      (spelled_then _ _ _ _ (plain_spelled p) (spelled_then _ _ _ _ (plains_spelled row)
      (spelled_then _ _ _ _ (spelled_token kinds.Of) (dimensions_spelled rest))))

  plains_spelled : {n : _} (x : dz.Row_of-PlainType n) → Spelled (number.number_plains x) (spell.spell_plain_tail (view.view_plains x))
  plains_spelled dz.end_of-PlainType = spelled_stay
  plains_spelled (dz.more_of-PlainType p rest) =
      spelled_then _ _ _ _ (spelled_token kinds.Comma) (spelled_then _ _ _ _ (plain_spelled p) (plains_spelled rest))

  plain_spelled : (x : dq.PlainType) → Spelled (number.number_plain x) (spell.spell_plain_type (view.view_plain_type x))
  plain_spelled (dq.Named n l) = spelled_then _ _ _ _ (name_spelled l) (spelled_node n)
  plain_spelled (dq.Listed n l) = spelled_then _ _ _ _ (spelled_token kinds.OpenParen)
      (spelled_then _ _ _ _ (is_spelled _ _ _ (names_named l)) (spelled_then _ _ _ _ (spelled_token kinds.CloseParen) (spelled_node n)))
  plain_spelled (dq.Subrange n low high) =
      spelled_then _ _ _ _ (spelled_token kinds.OpenBracket)
      (spelled_then _ _ _ _ (expr_spelled low)
      (spelled_then _ _ _ _ (spelled_token kinds.DotDot) (spelled_then _ _ _ _ (expr_spelled high)
      (spelled_then _ _ _ _ (spelled_token kinds.CloseBracket) (spelled_node n)))))
  plain_spelled (dq.Record' n b f shape row) =
      spelled_then _ _ _ _ (spelled_token kinds.Record)
      (spelled_then _ _ _ _ (field_list_spelled f)
      (spelled_then _ _ _ _ (field_lists_spelled row) (spelled_then _ _ _ _ (spelled_token kinds.End) (spelled_node n))))

  field_list_spelled : (x : dw.FieldList) → Spelled (number.number_field_list x) (spell.spell_field_list (view.view_field_list x))
  field_list_spelled (dw.Empty n) = spelled_node n
  field_list_spelled (dw.Fields n l t) = spelled_then _ _ _ _ (is_spelled _ _ _ (names_named l))
      (spelled_then _ _ _ _ (spelled_token kinds.Colon) (spelled_then _ _ _ _ (type_spelled t) (spelled_node n)))

  field_lists_spelled : {n : _} (x : dq.Row_of-FieldList n)
      → Spelled (number.number_field_lists x) (spell.spell_field_list_tail (view.view_field_lists x))
  field_lists_spelled dq.end_of-FieldList = spelled_stay
  field_lists_spelled (dq.more_of-FieldList f rest) =
      spelled_then _ _ _ _ (spelled_token kinds.Semicolon) (spelled_then _ _ _ _ (field_list_spelled f) (field_lists_spelled rest))

-- ---- declarations

consts_spelled : (xs : List ConstEntry) → Spelled (number.numbers_of_consts xs) (spell.spell_const_tail (view.consts_of xs))
consts_spelled [] = spelled_stay
consts_spelled (x ∷ xs) = spelled_then _ _ _ _ (name_spelled x.name)
    (spelled_then _ _ _ _ (spelled_token kinds.Equal)
    (spelled_then _ _ _ _ (expr_spelled x.value) (spelled_then _ _ _ _ (spelled_token kinds.Semicolon) (consts_spelled xs))))

types_spelled : (xs : List TypeEntry) → Spelled (number.numbers_of_types xs) (spell.spell_type_tail (view.types_of xs))
types_spelled [] = spelled_stay
types_spelled (x ∷ xs) = spelled_then _ _ _ _ (name_spelled x.name)
    (spelled_then _ _ _ _ (spelled_token kinds.Equal)
    (spelled_then _ _ _ _ (type_spelled x.type_node) (spelled_then _ _ _ _ (spelled_token kinds.Semicolon) (types_spelled xs))))

vars_named : (xs : List VarEntry) → Naming (number.numbers_of_vars xs) (spell.spell_var_tail (view.vars_of xs))
    (var_leaves (numbered.vars_of xs))
vars_named [] = naming_none _ _ spelled_stay
vars_named (x ∷ xs) =
    naming_both _ _ _ _ (all_names (numbered.view_names x.names)) _ (names_named x.names)
    (naming_after _ _ _ _ _ (spelled_token kinds.Colon)
    (naming_after _ _ _ _ _ (type_spelled x.type_node) (naming_after _ _ _ _ _ (spelled_token kinds.Semicolon) (vars_named xs))))

mode_spelled : (x : Option Mode) → Spelled (number.number_mode x) (spell.spell_mode x)
mode_spelled None = spelled_stay
mode_spelled (Some modes.Var) = spelled_token kinds.Var
mode_spelled (Some modes.Mix) = spelled_token kinds.Mix

formal_spelled : (x : Formal) → Spelled (number.number_formal x) (spell.spell_formal (view.view_formal x))
formal_spelled x = spelled_then _ _ _ _ (mode_spelled x.mode)
    (spelled_then _ _ _ _ (is_spelled _ _ _ (names_named x.names))
    (spelled_then _ _ _ _ (spelled_token kinds.Colon) (spelled_then _ _ _ _ (name_spelled x.type_name) (spelled_node x.node))))

more_formals_spelled : (xs : List Formal) → Spelled (number.numbers_of_formals xs) (spell.spell_formal_tail (view.formal_tail_of xs))
more_formals_spelled [] = spelled_stay
more_formals_spelled (x ∷ xs) = spelled_then _ _ _ _ (spelled_token kinds.Semicolon)
    (spelled_then _ _ _ _ (formal_spelled x) (more_formals_spelled xs))

inside_spelled : (x : Option Formals) → Spelled (number.numbers_inside_params x) (spell.spell_params (view.params_values x))
inside_spelled None = spelled_then _ _ _ _ (spelled_token kinds.OpenParen) (spelled_token kinds.CloseParen)
inside_spelled (Some f) =
    spelled_then _ _ _ _ (spelled_token kinds.OpenParen)
    (spelled_then _ _ _ _ (spelled_then _ _ _ _ (formal_spelled f.first)
    (spelled_then _ _ _ _ (more_formals_spelled f.more.items) (spelled_node f.node))) (spelled_token kinds.CloseParen))

params_spelled : (x : Option Params) → Spelled (number.numbers_of_params x) (spell.spell_params (view.params_of x))
params_spelled None = spelled_stay
params_spelled (Some p) = inside_spelled p.formals

result_spelled : (x : Option Name) → Spelled (number.numbers_of_result x) (spell.spell_result_name (view.result_of x))
result_spelled None = spelled_stay
result_spelled (Some x) = spelled_then _ _ _ _ (spelled_token kinds.Colon) (name_spelled x)

body_spelled : (x : Option ds.Stmts) → Spelled (number.numbers_of_body x) (spell.spell_body (view.body_of x))
body_spelled None = spelled_stay
body_spelled (Some x) = spelled_then _ _ _ _ (spelled_token kinds.Begin)
    (spelled_then _ _ _ _ (stmt_spelled x.first.value) (spelled_then _ _ _ _ (list_stmts_spelled x.more.items) (spelled_node x.node)))

mutual
  unfolding block_leaves

  decl_named : (x : dh.Decl) → Naming (number.number_decl x) (spell.spell_decl (view.view_decl x)) (decl_leaves (numbered.view_decl x))
  decl_named (dh.Const n entries) = naming_none _ _
      (spelled_then _ _ _ _ (spelled_token kinds.Const) (spelled_then _ _ _ _ (consts_spelled entries.items) (spelled_node n)))
  decl_named (dh.Type n entries) = naming_none _ _
      (spelled_then _ _ _ _ (spelled_token kinds.Type) (spelled_then _ _ _ _ (types_spelled entries.items) (spelled_node n)))
  decl_named (dh.Var n entries) = naming_after _ _ _ _ _ (spelled_token kinds.Var)
      (naming_before _ _ _ _ _ (vars_named entries.items) (spelled_node n))
  decl_named (dh.Procedure' n l p r m shape row b e) =
      naming_after _ _ _ _ _ (spelled_token kinds.Procedure) (naming_both _ _ _ _ (numbered.view_name l ∷ []) _ (name_named l)
      (naming_after _ _ _ _ _ (params_spelled p)
      (naming_after _ _ _ _ _ (result_spelled r) (naming_after _ _ _ _ _ (spelled_token kinds.Semicolon)
      (naming_before _ _ _ _ _ (naming_before _ _ _ _ _ (row_named row) (spelled_then _ _ _ _ (body_spelled b) (spelled_node m)))
      (spelled_then _ _ _ _ (spelled_token kinds.End)
      (spelled_then _ _ _ _ (name_spelled e) (spelled_then _ _ _ _ (spelled_token kinds.Semicolon) (spelled_node n)))))))))

  row_named : {n : _} (x : db.Row_of-Decl n)
      → Naming (number.number_decls x) (spell.spell_decl_tail (view.view_decls x)) (decls_leaves (numbered.view_decls x))
  row_named db.end_of-Decl = naming_none _ _ spelled_stay
  row_named (db.more_of-Decl d rest) = naming_both _ _ _ _ _ _ (decl_named d) (row_named rest)

list_named : (xs : List dh.Decl) → Naming (number.numbers_of_decls xs) (spell.spell_decl_tail (view.decls_of xs))
    (decls_leaves (numbered.decls_of xs))
unfolding block_leaves
list_named [] = naming_none _ _ spelled_stay
list_named (x ∷ xs) = naming_both _ _ _ _ _ _ (decl_named x) (list_named xs)

block_named : (x : db.Block) → Naming (number.number_block x) (spell.spell_block (view.view_block x)) (block_leaves (numbered.view_block x))
unfolding block_leaves
block_named x = naming_before _ _ _ _ _ (list_named x.decls.items) (spelled_then _ _ _ _ (body_spelled x.body) (spelled_node x.node))

-- the module's own name, and those declared in it
abbrev pub module_leaves : tree.Module → List tree.Name
module_leaves m = m.name ∷ block_leaves m.block

-- in a numbered tree with this spelling they are Names
pub numbered_names : (m : Module) (tokens : ℕ) (all : List Kind) → number.IsNumbered m tokens → all ≡ spell.spelling (view.view_module m)
    → AreNames all (module_leaves (numbered.view_module m))
numbered_names m tokens all h e =
    (whole.names all (record { token = 0; node = 0 }) (record { token = tokens; node = h.0 }) [] h.1 e)
  where
    whole : Naming (number.number_module m) (λ rest. kinds.Module ∷ kinds.Name ∷ kinds.Semicolon
        ∷ spell.spell_block (view.view_block m.block) (kinds.End ∷ kinds.Name ∷ kinds.Dot ∷ rest)) (module_leaves (numbered.view_module m))
    whole =
        naming_after _ _ _ _ _ (spelled_token kinds.Module) (naming_both _ _ _ _ (numbered.view_name m.name ∷ []) _ (name_named m.name)
        (naming_after _ _ _ _ _ (spelled_token kinds.Semicolon) (naming_before _ _ _ _ _ (block_named m.block)
        (spelled_then _ _ _ _ (spelled_token kinds.End)
        (spelled_then _ _ _ _ (name_spelled m.end_name) (spelled_then _ _ _ _ (spelled_token kinds.Dot) (spelled_node m.node)))))))
