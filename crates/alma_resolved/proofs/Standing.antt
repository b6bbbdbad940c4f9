-- In a tree as the parser numbers it, each heading stands before what is declared behind it.
use Rattle.std.proofs.Common.{◌≡◌, ℕ, suc, ◌<◌, ◌≤◌, List, [], ◌∷◌, ◌++◌, Bool, true, false, Option, None, Some, refl, sym, subst, arith}
use Rattle.std.proofs.Common.{append_assoc}
use Rattle.std.specs.Prelude.{nat_eq}
use Rattle.std.specs.List.{AllByRecursion}
use Rattle.std.proofs.lemmas.Bool.{eqb-true}
use Rattle.alma_tree.specs.declared.leaf.Mode.{Mode}
use Rattle.alma_tree.specs.declared.leaf.Name.{Name}
use Rattle.alma_tree.specs.declared.leaf.Names.{Names}
use Rattle.alma_tree.specs.declared.phrase.Stmts as ds
use Rattle.alma_tree.specs.declared.type_node.TypeNode as dy
use Rattle.alma_tree.specs.declared.type_node.Arrays as dz
use Rattle.alma_tree.specs.declared.type_node.PlainType as dq
use Rattle.alma_tree.specs.declared.type_node.FieldList as dw
use Rattle.alma_tree.specs.declared.module.Block as db
use Rattle.alma_tree.specs.declared.module.Decl as dh
use Rattle.alma_tree.specs.declared.module.ConstEntry.{ConstEntry}
use Rattle.alma_tree.specs.declared.module.TypeEntry.{TypeEntry}
use Rattle.alma_tree.specs.declared.module.VarEntry.{VarEntry}
use Rattle.alma_tree.specs.declared.module.Params.{Params}
use Rattle.alma_tree.specs.declared.module.Formals.{Formals}
use Rattle.alma_tree.specs.declared.module.Formal.{Formal}
use Rattle.alma_tree.specs.declared.module.Module.{Module}
use Rattle.alma_tree.specs.Numbers as number
use Rattle.alma_tree.specs.Numbers.{Cursor, Step, where_so, token, node, leaf, stay, ◌>>◌}
use Rattle.alma_ir.proofs.Each.{each_of_append, each_follows}
use Rattle.alma_rules.specs.Numbered as tree
use Rattle.alma_rules.specs.View as view
use Rattle.alma_rules.specs.Types.{type_names, arrays_names, dimension_tail_names, plains_names, plain_names, fields_names}
use Rattle.alma_rules.specs.Types.{field_tail_names, all_names}
use Rattle.alma_rules.specs.Decls.{const_names, type_entry_names, var_names, decl_names, decls_names, formals_of}
use Rattle.alma_resolved.specs.Stand.{formal_types, result_types, BlockStands, DeclsStand, DeclStands}
use Rattle.alma_resolved.proofs.Onward.{Up, same_token, parts, up_stay, up_token, up_node, up_then, name_up, expr_up, stmt_up}
use Rattle.alma_resolved.proofs.Onward.{list_stmts_up}

-- the names are those of tokens from a to below b
abbrev Between : (a b : ℕ) → List tree.Name → Type 0
Between a b xs = AllByRecursion (λ x. (a ≤ x.token) × (x.token < b)) xs

wider : (a b low high : ℕ) (xs : List tree.Name) → low ≤ a → b ≤ high → Between a b xs → Between low high xs
wider a b low high xs p q h = each_follows (λ x. (a ≤ x.token) × (x.token < b)) (λ x. (low ≤ x.token) × (x.token < high))
    (λ x g. (omega (arith, p, g.0), omega (arith, q, g.1))) xs h

-- the step leads on over these names
pub Lists : Step → List tree.Name → Type 0
Lists f xs = (at b : Cursor) → f at ≡ Some b → (at.token ≤ b.token) × Between at.token b.token xs

lists_none : (f : Step) → Up f → Lists f []
unfolding Up Lists
lists_none f u at b h = (u at b h, tt)

pub lists_up : (f : Step) (xs : List tree.Name) → Lists f xs → Up f
unfolding Up Lists
lists_up f xs l at b h = (l at b h).0

both : (f g : Step) (xs ys : List tree.Name) → Lists f xs → Lists g ys → Lists (f >> g) (xs ++ ys)
unfolding Lists
both f g xs ys p q at b h =
    let m : (mid : Cursor) × (f at ≡ Some mid) × (g mid ≡ Some b) = parts (f at) g b h in
    let l = p at m.0 m.1 in
    let r = q m.0 b m.2 in (
      omega (arith, l.0, r.0),
      each_of_append (λ (x : tree.Name). (at.token ≤ x.token) × (x.token < b.token)) xs ys
          (wider at.token m.0.token at.token b.token xs (omega arith) r.0 l.1)
          (wider m.0.token b.token at.token b.token ys l.0 (omega arith) r.1),
    )

-- names behind a phrase, and names in front of one
after : (f g : Step) (ys : List tree.Name) → Up f → Lists g ys → Lists (f >> g) ys
after f g ys u q = both f g [] ys (lists_none f u) q

before : (f g : Step) (xs : List tree.Name) → Lists f xs → Up g → Lists (f >> g) xs
unfolding Up Lists
before f g xs p u at b h =
    let m : (mid : Cursor) × (f at ≡ Some mid) × (g mid ≡ Some b) = parts (f at) g b h in
    let l = p at m.0 m.1 in
    let r = u m.0 b m.2 in
    (omega (arith, l.0, r), wider at.token m.0.token at.token b.token xs (omega arith) r l.1)

-- two parts and a third behind them
both_in_two : (f g h : Step) (xs ys zs : List tree.Name) → Lists f xs → Lists g ys → Lists h zs → Lists (f >> g >> h) ((xs ++ ys) ++ zs)
unfolding Lists
both_in_two f g h xs ys zs p q r at b e =
    let m : (mid : Cursor) × (f at ≡ Some mid) × ((g >> h) mid ≡ Some b) = parts (f at) (g >> h) b e in
    let n : (mid : Cursor) × (g m.0 ≡ Some mid) × (h mid ≡ Some b) = parts (g m.0) h b m.2 in
    let i = p at m.0 m.1 in
    let j = q m.0 n.0 n.1 in
    let k = r n.0 b n.2 in (
      omega (arith, i.0, j.0, k.0),
      each_of_append (λ (x : tree.Name). (at.token ≤ x.token) × (x.token < b.token)) (xs ++ ys) zs
          (each_of_append (λ (x : tree.Name). (at.token ≤ x.token) × (x.token < b.token)) xs ys
          (wider at.token m.0.token at.token b.token xs (omega arith) (omega (arith, j.0, k.0)) i.1)
          (wider m.0.token n.0.token at.token b.token ys i.0 k.0 j.1))
          (wider n.0.token b.token at.token b.token zs (omega (arith, i.0, j.0)) (omega arith) k.1),
    )

-- ---- names

leaf_gives : (n : ℕ) (at : Cursor) (c : Cursor) → leaf n at ≡ Some c → (n ≡ at.token) × (c.token ≡ suc at.token)
leaf_gives n at c h = by (nat_eq n at.token) refl h
  where
    by : (t : Bool) → nat_eq n at.token ≡ t → where_so t (record { token = suc at.token; node = at.node }) ≡ Some c → (n ≡ at.token)
        × (c.token ≡ suc at.token)
    by true e h = (eqb-true n at.token e, omega (arith, same_token (record { token = suc at.token; node = at.node }) c h))
    by false e h = absurd (cc)

leaf_lists : (l : Name) → Lists (leaf l.token) (view.view_name l ∷ [])
unfolding Lists
leaf_lists l at b h = let g = leaf_gives l.token at b h in (omega (arith, g.1), ((omega (arith, g.0), omega (arith, g.0, g.1)), tt))

name_lists : (l : Name) → Lists (number.number_name l) (view.view_name l ∷ [])
name_lists l = before _ _ _ (leaf_lists l) (up_node l.node)

more_names_lists : (xs : List Name) → Lists (number.numbers_of_names xs) (view.names_of xs)
more_names_lists [] = lists_none _ up_stay
more_names_lists (x ∷ xs) = after _ _ _ up_token (both _ _ _ _ (name_lists x) (more_names_lists xs))

names_lists : (x : Names) → Lists (number.number_names x) (all_names (view.view_names x))
names_lists x = both _ _ (view.view_name x.first ∷ []) _ (name_lists x.first)
    (before _ _ _ (more_names_lists x.more.items) (up_node x.node))

-- ---- types

mutual
  unfolding type_names

  pub type_lists : (x : dy.TypeNode) → Lists (number.number_type x) (type_names (view.view_type_node x))
  type_lists (dy.TypeNode' n dims p) = both _ _ _ _ (arrays_lists dims) (before _ _ _ (plain_lists p) (up_node n))

  arrays_lists : (x : dy.Held-TypeNode-arrays) → Lists (number.number_arrays x) (arrays_names (view.view_arrays x))
  arrays_lists dy.None' = lists_none _ up_stay
  arrays_lists (dy.Some' (dz.Arrays' n p shape row shape' row')) =
      after _ _ _ up_token (both_in_two _ _ _ _ _ _ (plain_lists p) (plains_lists row)
      (after _ _ _ up_token (before _ _ _ (dimensions_lists row') (up_node n))))

  dimensions_lists : {n : _} (x : dz.Row_of-Dimensions n)
      → Lists (number.number_dimensions x) (dimension_tail_names (view.view_dimensions x))
  dimensions_lists dz.end_of-Dimensions = lists_none _ up_stay
  dimensions_lists (dz.more_of-Dimensions p shape row rest) =
      after _ _ _ up_token (both_in_two _ _ _ _ _ _ (plain_lists p) (plains_lists row) (after _ _ _ up_token (dimensions_lists rest)))

  plains_lists : {n : _} (x : dz.Row_of-PlainType n) → Lists (number.number_plains x) (plains_names (view.view_plains x))
  plains_lists dz.end_of-PlainType = lists_none _ up_stay
  plains_lists (dz.more_of-PlainType p rest) = after _ _ _ up_token (both _ _ _ _ (plain_lists p) (plains_lists rest))

  plain_lists : (x : dq.PlainType) → Lists (number.number_plain x) (plain_names (view.view_plain_type x))
  plain_lists (dq.Named n l) = lists_none _ (up_then _ _ (name_up l) (up_node n))
  plain_lists (dq.Listed n l) = after _ _ _ up_token (before _ _ _ (names_lists l) (up_then _ _ up_token (up_node n)))
  plain_lists (dq.Subrange n low high) =
      lists_none _ (up_then _ _ up_token (up_then _ _ (expr_up low)
      (up_then _ _ up_token (up_then _ _ (expr_up high) (up_then _ _ up_token (up_node n))))))
  plain_lists (dq.Record' n b f shape row) =
      after _ _ _ up_token (both _ _ _ _ (field_list_lists f) (before _ _ _ (field_lists_lists row) (up_then _ _ up_token (up_node n))))

  field_list_lists : (x : dw.FieldList) → Lists (number.number_field_list x) (fields_names (view.view_field_list x))
  field_list_lists (dw.Empty n) = lists_none _ (up_node n)
  field_list_lists (dw.Fields n l t) = after _ _ _ (lists_up _ _ (names_lists l))
      (after _ _ _ up_token (before _ _ _ (type_lists t) (up_node n)))

  field_lists_lists : {n : _} (x : dq.Row_of-FieldList n) → Lists (number.number_field_lists x) (field_tail_names (view.view_field_lists x))
  field_lists_lists dq.end_of-FieldList = lists_none _ up_stay
  field_lists_lists (dq.more_of-FieldList f rest) = after _ _ _ up_token (both _ _ _ _ (field_list_lists f) (field_lists_lists rest))

-- ---- declarations

pub consts_lists : (xs : List ConstEntry) → Lists (number.numbers_of_consts xs) (const_names (view.consts_of xs))
consts_lists [] = lists_none _ up_stay
consts_lists (x ∷ xs) = both _ _ (view.view_name x.name ∷ []) _ (name_lists x.name)
    (after _ _ _ up_token (after _ _ _ (expr_up x.value) (after _ _ _ up_token (consts_lists xs))))

pub types_lists : (xs : List TypeEntry) → Lists (number.numbers_of_types xs) (type_entry_names (view.types_of xs))
types_lists [] = lists_none _ up_stay
types_lists (x ∷ xs) =
    both _ _ (view.view_name x.name ∷ []) _ (name_lists x.name)
    (after _ _ _ up_token (both _ _ _ _ (type_lists x.type_node) (after _ _ _ up_token (types_lists xs))))

vars_lists : (xs : List VarEntry) → Lists (number.numbers_of_vars xs) (var_names (view.vars_of xs))
vars_lists [] = lists_none _ up_stay
vars_lists (x ∷ xs) =
    subst (λ ys. Lists (number.numbers_of_vars (x ∷ xs)) ys)
    (sym (append_assoc (all_names (view.view_names x.names)) (type_names (view.view_type_node x.type_node))
    (var_names (view.vars_of xs))))
    (both _ _ (all_names (view.view_names x.names)) _ (names_lists x.names)
    (after _ _ _ up_token (both _ _ _ _ (type_lists x.type_node) (after _ _ _ up_token (vars_lists xs)))))

pub mode_up : (x : Option Mode) → Up (number.number_mode x)
mode_up None = up_stay
mode_up (Some m) = up_token

-- a formal, with the name of its type
formal_lists : (x : Formal) → Lists (number.number_formal x) (view.view_name x.type_name ∷ [])
formal_lists x =
    after _ _ _ (mode_up x.mode) (after _ _ _ (lists_up _ _ (names_lists x.names))
    (after _ _ _ up_token (before _ _ _ (name_lists x.type_name) (up_node x.node))))

more_formals_lists : (xs : List Formal) → Lists (number.numbers_of_formals xs) (formal_types (view.more_formals_of xs))
more_formals_lists [] = lists_none _ up_stay
more_formals_lists (x ∷ xs) = after _ _ _ up_token (both _ _ (view.view_name x.type_name ∷ []) _ (formal_lists x) (more_formals_lists xs))

params_lists : (x : Option Params) → Lists (number.numbers_of_params x) (formal_types (formals_of (view.params_of x)))
params_lists None = lists_none _ up_stay
params_lists (Some x) = by x.formals
  where
    by : (o : Option Formals) → Lists (number.numbers_inside_params o)
        (formal_types (formals_of (Some (record { formals = view.formals_in o }))))
    by None = lists_none _ (up_then _ _ up_token up_token)
    by (Some f) =
        after _ _ _ up_token (before _ _ _
        (both _ _ (view.view_name f.first.type_name ∷ []) _ (formal_lists f.first)
        (before _ _ _ (more_formals_lists f.more.items) (up_node f.node))) up_token)

result_lists : (x : Option Name) → Lists (number.numbers_of_result x) (result_types (view.result_of x))
result_lists None = lists_none _ up_stay
result_lists (Some x) = after _ _ _ up_token (name_lists x)

body_up : (x : Option ds.Stmts) → Up (number.numbers_of_body x)
body_up None = up_stay
body_up (Some x) = up_then _ _ up_token (up_then _ _ (stmt_up x.first.value) (up_then _ _ (list_stmts_up x.more.items) (up_node x.node)))

-- ---- what stands inside a phrase

-- wherever the step leads, this holds
Holds : Step → Type 0 → Type 0
Holds f P = (at b : Cursor) → f at ≡ Some b → P

holds_front : (P : Type 0) (f g : Step) → Holds f P → Holds (f >> g) P
unfolding Holds
holds_front P f g p at b h = let m : (mid : Cursor) × (f at ≡ Some mid) × (g mid ≡ Some b) = parts (f at) g b h in p at m.0 m.1

holds_back : (P : Type 0) (f g : Step) → Holds g P → Holds (f >> g) P
unfolding Holds
holds_back P f g p at b h = let m : (mid : Cursor) × (f at ≡ Some mid) × (g mid ≡ Some b) = parts (f at) g b h in p m.0 b m.2

-- a declaration lists its names, and stands before names behind it
Declares : Step → tree.Decl → Type 0
Declares f d = Lists f (decl_names d) × ((at b : Cursor) (names : List tree.Name) → f at ≡ Some b
    → AllByRecursion (λ x. b.token ≤ x.token) names → DeclStands d names)

behind : (a b : ℕ) (xs : List tree.Name) → Between a b xs → AllByRecursion (λ x. a ≤ x.token) xs
behind a b xs h = each_follows (λ (x : tree.Name). (a ≤ x.token) × (x.token < b)) (λ x. a ≤ x.token) (λ x g. g.0) xs h

ahead : (a b : ℕ) (xs : List tree.Name) → Between a b xs → AllByRecursion (λ x. x.token < b) xs
ahead a b xs h = each_follows (λ (x : tree.Name). (a ≤ x.token) × (x.token < b)) (λ x. x.token < b) (λ x g. g.1) xs h

decls_hold : (f g : Step) (d : tree.Decl) (rest : tree.DeclTail) → Declares f d → Lists g (decls_names rest) → Holds g (DeclsStand rest)
    → Holds (f >> g) (DeclsStand (tree.more_decl d rest))
unfolding Holds Declares Lists DeclsStand
decls_hold f g d rest p l q at b h =
    let m : (mid : Cursor) × (f at ≡ Some mid) × (g mid ≡ Some b) = parts (f at) g b h in
    (p.1 at m.0 (decls_names rest) m.1 (behind m.0.token b.token (decls_names rest) (l m.0 b m.2).1), q m.0 b m.2)

plain_declares : (f : Step) (d : tree.Decl) → Lists f (decl_names d) → ((names : List tree.Name) → DeclStands d names) → Declares f d
unfolding Declares
plain_declares f d l s = (l, λ at b names h e. s names)

-- the types of a heading, and the block behind it
heading_types : (name params result block rest : Step) (x : tree.Name) (ps : Option tree.Params) (o : Option tree.Name)
    → Lists name (x ∷ []) → Lists params (formal_types (formals_of ps)) → Lists result (result_types o) → Up block → Up rest
    → Lists (token >> name >> params >> result >> token >> block >> rest) (formal_types (formals_of ps) ++ result_types o)
heading_types name params result block rest x ps o l p r u v =
    after _ _ _ up_token (after _ _ _ (lists_up _ _ l) (both _ _ _ _ p (before _ _ _ r (up_then _ _ up_token (up_then _ _ u v)))))

heading_name : (name params result block rest : Step) (x : tree.Name) (ps : Option tree.Params) (o : Option tree.Name)
    → Lists name (x ∷ []) → Lists params (formal_types (formals_of ps)) → Lists result (result_types o) → Up block → Up rest
    → Lists (token >> name >> params >> result >> token >> block >> rest) (x ∷ [])
heading_name name params result block rest x ps o l p r u v =
    after _ _ _ up_token (before _ _ _ l
    (up_then _ _ (lists_up _ _ p) (up_then _ _ (lists_up _ _ r) (up_then _ _ up_token (up_then _ _ u v)))))

heading_block : (P : Type 0) (name params result block rest : Step) → Holds block P
    → Holds (token >> name >> params >> result >> token >> block >> rest) P
heading_block P name params result block rest s =
    holds_back P token (name >> params >> result >> token >> block >> rest) (holds_back P name (params >> result >> token >> block >> rest)
    (holds_back P params (result >> token >> block >> rest)
    (holds_back P result (token >> block >> rest) (holds_back P token (block >> rest) (holds_front P block rest s)))))

-- a heading, its block, and what stands behind it
heading_declares : (f : Step) (n : ℕ) (x : tree.Name) (ps : Option tree.Params) (o : Option tree.Name) (b : tree.Block) (e : tree.Name)
    → Lists f (x ∷ []) → Lists f (formal_types (formals_of ps) ++ result_types o) → Holds f (BlockStands b)
    → Declares f (tree.procedure n x ps o b e)
unfolding Declares DeclsStand Lists Holds
heading_declares f n x ps o b e l t s = (
  l,
  λ at end names h g. (
    (end.token, ahead at.token end.token (formal_types (formals_of ps) ++ result_types o) (t at end h).1, g),
    s at end h,
  ),
)

procedure_declares : (name params result block rest : Step) (n : ℕ) (x : tree.Name) (ps : Option tree.Params) (o : Option tree.Name)
    (b : tree.Block) (e : tree.Name)
    → Lists name (x ∷ []) → Lists params (formal_types (formals_of ps)) → Lists result (result_types o) → Up block
    → Holds block (BlockStands b) → Up rest
    → Declares (token >> name >> params >> result >> token >> block >> rest) (tree.procedure n x ps o b e)
procedure_declares name params result block rest n x ps o b e l p r u s v =
    heading_declares _ n x ps o b e (heading_name name params result block rest x ps o l p r u v)
    (heading_types name params result block rest x ps o l p r u v)
    (heading_block (BlockStands b) name params result block rest s)

no_decls : Holds stay (DeclsStand tree.no_decl)
unfolding Holds DeclsStand
no_decls at b h = tt

block_holds : (f g : Step) (n : ℕ) (decls : tree.DeclTail) (body : Option tree.Stmts) → Holds f (DeclsStand decls)
    → Holds (f >> g) (BlockStands (tree.block n decls body))
unfolding DeclsStand
block_holds f g n decls body h = holds_front _ _ _ h

declares_lists : (f : Step) (d : tree.Decl) → Declares f d → Lists f (decl_names d)
unfolding Declares
declares_lists f d h = h.0

mutual
  unfolding DeclsStand

  decl_declares : (x : dh.Decl) → Declares (number.number_decl x) (view.view_decl x)
  decl_declares (dh.Const n entries) = plain_declares _ _ (after _ _ _ up_token (before _ _ _ (consts_lists entries.items) (up_node n)))
      (λ names. tt)
  decl_declares (dh.Type n entries) = plain_declares _ _ (after _ _ _ up_token (before _ _ _ (types_lists entries.items) (up_node n)))
      (λ names. tt)
  decl_declares (dh.Var n entries) = plain_declares _ _ (after _ _ _ up_token (before _ _ _ (vars_lists entries.items) (up_node n)))
      (λ names. tt)
  decl_declares (dh.Procedure' n l p r m shape row b e) =
      procedure_declares _ _ _ _ _ n (view.view_name l) (view.params_of p) (view.result_of r)
      (tree.block m (view.view_decls row) (view.body_of b)) (view.view_name e)
      (name_lists l) (params_lists p) (result_lists r) (up_then _ _ (lists_up _ _ (row_lists row)) (up_then _ _ (body_up b) (up_node m)))
      (block_holds _ _ m (view.view_decls row) (view.body_of b) (row_holds row))
      (up_then _ _ up_token (up_then _ _ (name_up e) (up_then _ _ up_token (up_node n))))

  row_lists : {n : _} (x : db.Row_of-Decl n) → Lists (number.number_decls x) (decls_names (view.view_decls x))
  row_lists db.end_of-Decl = lists_none _ up_stay
  row_lists (db.more_of-Decl d rest) = both _ _ _ _ (declares_lists _ _ (decl_declares d)) (row_lists rest)

  row_holds : {n : _} (x : db.Row_of-Decl n) → Holds (number.number_decls x) (DeclsStand (view.view_decls x))
  row_holds db.end_of-Decl = no_decls
  row_holds (db.more_of-Decl d rest) = decls_hold _ _ (view.view_decl d) (view.view_decls rest) (decl_declares d) (row_lists rest)
      (row_holds rest)

list_lists : (xs : List dh.Decl) → Lists (number.numbers_of_decls xs) (decls_names (view.decls_of xs))
list_lists [] = lists_none _ up_stay
list_lists (x ∷ xs) = both _ _ _ _ (declares_lists _ _ (decl_declares x)) (list_lists xs)

list_holds : (xs : List dh.Decl) → Holds (number.numbers_of_decls xs) (DeclsStand (view.decls_of xs))
list_holds [] = no_decls
list_holds (x ∷ xs) = decls_hold _ _ (view.view_decl x) (view.decls_of xs) (decl_declares x) (list_lists xs) (list_holds xs)

-- in a numbered tree each heading stands before what is declared behind it
pub numbered_stands : (m : Module) (tokens : ℕ) → number.IsNumbered m tokens → BlockStands (view.view_module m).block
unfolding Holds
numbered_stands m tokens h =
    let block : Holds (number.number_block m.block) (BlockStands (view.view_block m.block)) =
    block_holds _ _ m.block.node (view.decls_of m.block.decls.items) (view.body_of m.block.body) (list_holds m.block.decls.items) in
    let all : Holds (number.number_module m) (BlockStands (view.view_block m.block)) =
    holds_back _ token (number.number_name m.name >> token >> number.number_block m.block >> token >> number.number_name m.end_name >> token
    >> node m.node)
    (holds_back _ (number.number_name m.name)
    (token >> number.number_block m.block >> token >> number.number_name m.end_name >> token >> node m.node)
    (holds_back _ token (number.number_block m.block >> token >> number.number_name m.end_name >> token >> node m.node)
    (holds_front _ (number.number_block m.block) (token >> number.number_name m.end_name >> token >> node m.node) block))) in
    all (record { token = 0; node = 0 }) (record { token = tokens; node = h.0 }) h.1
