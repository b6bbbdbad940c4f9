-- The names of a block, part by part.
use Rattle.std.proofs.Common.{◌≡◌, ℕ, ◌<◌, List, [], ◌∷◌, ◌++◌, Option, None, Some, length, get_or, map, refl, sym, ap, ◌∙◌, Vec, Global}
use Rattle.std.proofs.Common.{Box, Result, Ok, Err, arith}
use Rattle.std.specs.Prelude.{OnOk}
use Rattle.std.proofs.lemmas.List.{get_or_default}
use Rattle.alma_tree.specs.declared.leaf.Name.{Name}
use Rattle.alma_tree.specs.declared.leaf.Names.{Names}
use Rattle.alma_tree.specs.declared.module.Params.{Params}
use Rattle.alma_tree.specs.declared.module.Formals.{Formals}
use Rattle.alma_tree.specs.declared.type_node.TypeNode as dy
use Rattle.alma_tree.specs.declared.type_node.Arrays as dz
use Rattle.alma_tree.specs.declared.type_node.Dimensions as dv
use Rattle.alma_tree.specs.declared.type_node.PlainType as dq
use Rattle.alma_tree.specs.declared.type_node.FieldList as dw
use Rattle.alma_rules.specs.Numbered as tree
use Rattle.alma_rules.specs.View as view
use Rattle.alma_rules.specs.Scene.{Scene, text_at}
use Rattle.alma_rules.specs.Types as types
use Rattle.alma_rules.specs.Decls as rules
use Rattle.alma_rules.proofs.TypeRows.{type_is, record_is}

-- ---- a list of names, and another behind it

pub texts_joined : (s : Scene) (ds : List (List ℕ × ℕ)) (xs ys : List tree.Name)
    → rules.texts_behind s ds (xs ++ ys) ≡ rules.texts_behind s (rules.texts_behind s ds xs) ys
texts_joined s ds [] ys = refl
texts_joined s ds (x ∷ xs) ys = texts_joined s (rules.with_text ds (text_at s x.token) x.token) xs ys

-- the names of one part, and then those of the rest
pub joined_by : (s : Scene) (a b : List (List ℕ × ℕ)) (xs ys all : List tree.Name) → b ≡ rules.texts_behind s a xs → all ≡ xs ++ ys
    → rules.texts_behind s b ys ≡ rules.texts_behind s a all
joined_by s a b xs ys all h e = ap (λ d. rules.texts_behind s d ys) h ∙ sym (texts_joined s a xs ys) ∙ ap (rules.texts_behind s a) (sym e)

-- one more part of a list that is gone through
pub names_on : (s : Scene) (a b start : List (List ℕ × ℕ)) (xs ys all : List tree.Name) → b ≡ rules.texts_behind s a xs → all ≡ xs ++ ys
    → rules.texts_behind s a all ≡ start → rules.texts_behind s b ys ≡ start
names_on s a b start xs ys all h e inv = joined_by s a b xs ys all h e ∙ inv

pub names_end : (s : Scene) (a start : List (List ℕ × ℕ)) (rest : List tree.Name) → rest ≡ [] → rules.texts_behind s a rest ≡ start
    → a ≡ start
names_end s a start rest e inv = ap (rules.texts_behind s a) (sym e) ∙ inv

-- what a last call gives, said of the whole
pub ok_eq : {A E : Type 0} (r : Result (Unit {0}) E) (x a b : A) → a ≡ b → OnOk r (x ≡ a) → OnOk r (x ≡ b)
ok_eq (Ok u) x a b e h = h ∙ e
ok_eq (Err u) x a b e h = tt

pub two_parts : {E : Type 0} (r : Result (Unit {0}) E) (s : Scene) (a b c : List (List ℕ × ℕ)) (xs ys all : List tree.Name)
    → b ≡ rules.texts_behind s a xs → all ≡ xs ++ ys
    → OnOk r (c ≡ rules.texts_behind s b ys) → OnOk r (c ≡ rules.texts_behind s a all)
two_parts r s a b c xs ys all h e k = ok_eq r c (rules.texts_behind s b ys) (rules.texts_behind s a all) (joined_by s a b xs ys all h e) k

pub same_names : {E : Type 0} (r : Result (Unit {0}) E) (s : Scene) (a c : List (List ℕ × ℕ)) (xs all : List tree.Name) → xs ≡ all
    → OnOk r (c ≡ rules.texts_behind s a xs) → OnOk r (c ≡ rules.texts_behind s a all)
same_names r s a c xs all e k = ok_eq r c (rules.texts_behind s a xs) (rules.texts_behind s a all) (ap (rules.texts_behind s a) e) k

-- ---- the names of types

type_at : (n : ℕ) (dims : tree.Arrays) (p : tree.PlainType)
    → types.type_names (tree.type_node n dims p) ≡ types.arrays_names dims ++ types.plain_names p
unfolding types.type_names
type_at n dims p = refl

pub type_parts : (t : dy.TypeNode) → types.type_names (view.view_type_node t)
    ≡ types.arrays_names (view.arrays_of (dy.out-TypeNode t).arrays) ++ types.plain_names (view.view_plain_type (dy.out-TypeNode t).element)
type_parts t = ap types.type_names (type_is t)
    ∙ type_at (dy.out-TypeNode t).node (view.arrays_of (dy.out-TypeNode t).arrays) (view.view_plain_type (dy.out-TypeNode t).element)

pub no_arrays : [] ≡ types.arrays_names (view.arrays_of None)
unfolding types.type_names
no_arrays = refl

pub arrays_parts : (a : dz.Arrays) → types.arrays_names (view.arrays_of (Some a))
    ≡ types.dimensions_names (view.view_dimension (dz.out-Arrays a).first)
    ++ types.dimension_tail_names (view.dimensions_of (dz.out-Arrays a).more.items)
unfolding types.type_names
arrays_parts a = refl

pub dimension_tail_parts : (x : dv.Dimensions) (rest : List dv.Dimensions) → types.dimension_tail_names (view.dimensions_of (x ∷ rest))
    ≡ types.dimensions_names (view.view_dimension x) ++ types.dimension_tail_names (view.dimensions_of rest)
unfolding types.type_names
dimension_tail_parts x rest = refl

pub no_dimensions : types.dimension_tail_names (view.dimensions_of []) ≡ []
unfolding types.type_names
no_dimensions = refl

pub dimensions_parts : (d : dv.Dimensions) → types.dimensions_names (view.view_dimension d)
    ≡ types.plain_names (view.view_plain_type d.first) ++ types.plains_names (view.plains_of d.more.items)
unfolding types.type_names
dimensions_parts d = refl

pub plains_parts : (x : dq.PlainType) (rest : List dq.PlainType) → types.plains_names (view.plains_of (x ∷ rest))
    ≡ types.plain_names (view.view_plain_type x) ++ types.plains_names (view.plains_of rest)
unfolding types.type_names
plains_parts x rest = refl

pub no_plains : types.plains_names (view.plains_of []) ≡ []
unfolding types.type_names
no_plains = refl

pub named_plain : (n : ℕ) (l : Name) → [] ≡ types.plain_names (view.view_plain_type (dq.Named n l))
unfolding types.type_names
named_plain n l = refl

pub listed_plain : (n : ℕ) (l : Names) → types.all_names (view.view_names l) ≡ types.plain_names (view.view_plain_type (dq.Listed n l))
unfolding types.type_names
listed_plain n l = refl

subrange_at : (n : ℕ) (low high : tree.Expr) → [] ≡ types.plain_names (tree.subrange n low high)
unfolding types.type_names
subrange_at n low high = refl

pub subrange_plain : (n : ℕ) (low high : _) → [] ≡ types.plain_names (view.view_plain_type (dq.Subrange n low high))
subrange_plain n low high = subrange_at n (view.view_expr low) (view.view_expr high)

record_at : (n : ℕ) (f : tree.FieldList) (rest : tree.FieldListTail)
    → types.plain_names (tree.record_type n f rest) ≡ types.fields_names f ++ types.field_tail_names rest
unfolding types.type_names
record_at n f rest = refl

pub record_parts : (n : ℕ) (f : Box dw.FieldList Global) (more : Vec dw.FieldList Global)
    → types.plain_names (view.view_plain_type (dq.Record n f more))
    ≡ types.fields_names (view.view_field_list f.value) ++ types.field_tail_names (view.field_lists_of more.items)
record_parts n f more = ap types.plain_names (record_is n f more)
    ∙ record_at n (view.view_field_list f.value) (view.field_lists_of more.items)

pub empty_list : (n : ℕ) → [] ≡ types.fields_names (view.view_field_list (dw.Empty n))
unfolding types.type_names
empty_list n = refl

fields_at : (n : ℕ) (names : tree.Names) (t : tree.TypeNode) → types.type_names t ≡ types.fields_names (tree.fields n names t)
unfolding types.type_names
fields_at n names t = refl

pub fields_list : (n : ℕ) (l : Names) (t : dy.TypeNode)
    → types.type_names (view.view_type_node t) ≡ types.fields_names (view.view_field_list (dw.Fields n l t))
fields_list n l t = fields_at n (view.view_names l) (view.view_type_node t)

pub field_tail_parts : (x : dw.FieldList) (rest : List dw.FieldList) → types.field_tail_names (view.field_lists_of (x ∷ rest))
    ≡ types.fields_names (view.view_field_list x) ++ types.field_tail_names (view.field_lists_of rest)
unfolding types.type_names
field_tail_parts x rest = refl

pub no_field_tail : types.field_tail_names (view.field_lists_of []) ≡ []
unfolding types.type_names
no_field_tail = refl

-- ---- a list of names, which own no memory: an element at any default

abbrev pub name_at : List Name → ℕ → Name
name_at all i = get_or all i (record { node = 0; token = 0 })

pub name_is : (all : List Name) (i : ℕ) → i < length all → name_at all i ≡ get_or all i (name_at all i)
name_is all i lt = get_or_default all i (record { node = 0; token = 0 }) (name_at all i) lt

-- ---- parameters, and the whole block

pub params_parts : (ps : Option Params) (p : Params) (fs : Formals) → ps ≡ Some p → p.formals ≡ Some fs
    → rules.formal_names (rules.formals_of (view.params_of ps)) ≡ types.all_names (view.view_names fs.first.names)
    ++ rules.formal_names (view.more_formals_of fs.more.items)
params_parts ps p fs e h =
    ap (λ x. rules.formal_names (rules.formals_of (view.params_of x))) e
    ∙ ap (λ x. rules.formal_names (rules.formals_in (view.formals_in x))) h

pub params_are : (ps : Option Params) (p : Params) (fs : Formals) → ps ≡ Some p → p.formals ≡ Some fs
    → rules.formals_of (view.params_of ps) ≡ view.view_formal fs.first ∷ view.more_formals_of fs.more.items
params_are ps p fs e h = ap (λ x. rules.formals_of (view.params_of x)) e ∙ ap (λ x. rules.formals_in (view.formals_in x)) h

abbrev entry_text : Vec ℕ Global × ℕ → List ℕ × ℕ
entry_text e = (e.0.items, e.1)

pub none_named : (es : List (Vec ℕ Global × ℕ)) → length es ≡ 0 → map entry_text es ≡ []
none_named [] h = refl
none_named (e ∷ es) h = absurd (omega (arith, h))

pub whole_names : (s : Scene) (a b d : List (List ℕ × ℕ)) (xs ys : List tree.Name) → a ≡ [] → b ≡ rules.texts_behind s a xs
    → d ≡ rules.texts_behind s b ys → d ≡ rules.with_texts s (xs ++ ys)
whole_names s a b d xs ys e h k = k ∙ joined_by s a b xs ys (xs ++ ys) h refl ∙ ap (λ z. rules.texts_behind s z (xs ++ ys)) e
