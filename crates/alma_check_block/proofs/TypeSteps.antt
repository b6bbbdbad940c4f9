-- What is told of a type whose parts have been read: one equation for each clause of the rules of types.
use Rattle.std.proofs.Common.{◌≡◌, ℕ, ◌+◌, ◌<◌, ◌≤◌, List, [], ◌++◌, Option, None, Some, length, get_or, drop, refl, sym, ap, subst, ◌∙◌}
use Rattle.std.proofs.Common.{append-nil, Vec, Global, Box, Result, Ok, Err}
use Rattle.std.specs.Prelude.{IfOk}
use Rattle.alma_tree.specs.declared.type_node.PlainType as dq
use Rattle.alma_tree.specs.declared.type_node.Dimensions as dv
use Rattle.alma_tree.specs.declared.type_node.FieldList as dw
use Rattle.alma_tree.specs.declared.type_node.TypeNode as dy
use Rattle.alma_tree.specs.declared.type_node.Arrays as dz
use Rattle.alma_tree.specs.declared.leaf.Names.{Names}
use Rattle.alma_names.specs.Shapes.{PlainField}
use Rattle.alma_rules.specs.Numbered as tree
use Rattle.alma_rules.specs.View as view
use Rattle.alma_rules.specs.Judgement.{BrokenRule}
use Rattle.alma_rules.specs.Scene.{Scene}
use Rattle.alma_rules.specs.Types as types
use Rattle.std.proofs.lemmas.List.{drop_all}
use Rattle.alma_rules.proofs.Exprs.{next_of}
use Rattle.alma_check_type.specs.Told.{Told, told, told_both, told_with, told_at, told_index, told_type, onward, join, alone, a_told}
use Rattle.alma_check_type.specs.Inner.Fields.{ToldFields, Knows, nothing_told, shape_fields, join_fields, told_on, told_list, told_record}
use Rattle.alma_rules.proofs.TypeRows.{type_is, record_is}
use Rattle.alma_check_block.proofs.TypeTokens.{type_tokens}
use Rattle.alma_check_type.proofs.FieldSteps.{fields_told}
use Rattle.alma_check_type.proofs.Tells.{then_told, at_told, change_told, onward_begin, onward_both, onward_cons}

module _ (s : Scene) where
  type_eq : (n : ℕ) (dims : tree.Arrays) (p : tree.PlainType) → types.read_type s (tree.type_node n dims p)
      ≡ types.reading_with types.number_in (types.reading_at n types.size_rules
      (types.reading_change types.rows_of (types.reading_then (types.read_arrays s dims) (λ i. types.read_plain i p))))
  unfolding types.read_type
  type_eq n dims p = refl

  pub type_at : (n : ℕ) (dims : tree.Arrays) (p : tree.PlainType)
      → told (types.read_type s (tree.type_node n dims p)) ≡ told_type n
      (told_both (told (types.read_arrays s dims)) (told (types.read_plain (types.read_arrays s dims).scene p)))
  type_at n dims p =
      let r : types.Reading (List ℕ × types.ShapeOrLimit) = types.reading_then (types.read_arrays s dims) (λ i. types.read_plain i p) in
      ap told (type_eq n dims p)
      ∙ ap (told_with types.number_in) (at_told n types.size_rules (types.reading_change types.rows_of r)
      ∙ ap (told_at n types.size_rules) (change_told types.rows_of r))
      ∙ ap (told_type n) (then_told (types.read_arrays s dims) (λ i. types.read_plain i p))

  pub no_arrays_at : told (types.read_arrays s tree.no_arrays) ≡ a_told None s (Some [])
  unfolding types.read_type
  no_arrays_at = refl

  arrays_eq : (n : ℕ) (d : tree.Dimensions) (rest : tree.DimensionTail) → types.read_arrays s (tree.arrays n d rest)
      ≡ types.reading_with types.joined_indices (types.reading_then (types.read_dimensions s d) (λ i. types.read_dimension_tail i rest))
  unfolding types.read_type
  arrays_eq n d rest = refl

  -- arrays begin with no index
  pub arrays_at : (n : ℕ) (d : tree.Dimensions) (rest : tree.DimensionTail) (f : Option BrokenRule) (v : Option (List ℕ)) (i : Scene)
      → onward None (Some []) (told (types.read_dimensions s d)) ≡ a_told f i v
      → told (types.read_arrays s (tree.arrays n d rest)) ≡ onward f v (told (types.read_dimension_tail i rest))
  arrays_at n d rest f v i h =
      let a : Told (List ℕ) = told (types.read_dimensions s d) in
      let e : a ≡ a_told f i v = sym (onward_begin a) ∙ h in
      ap told (arrays_eq n d rest)
      ∙ ap (told_with join) (then_told (types.read_dimensions s d) (λ j. types.read_dimension_tail j rest))
      ∙ ap (λ (t : Told (List ℕ)). told_with join (told_both t (told (types.read_dimension_tail t.scene rest)))) e

  dimension_tail_eq : (d : tree.Dimensions) (rest : tree.DimensionTail) → types.read_dimension_tail s (tree.more_dimensions d rest)
      ≡ types.reading_with types.joined_indices (types.reading_then (types.read_dimensions s d) (λ i. types.read_dimension_tail i rest))
  unfolding types.read_type
  dimension_tail_eq d rest = refl

  no_dimensions_eq : told (types.read_dimension_tail s tree.no_dimensions) ≡ a_told None s (Some [])
  unfolding types.read_type
  no_dimensions_eq = refl

  dimension_tail_at : (f : Option BrokenRule) (v : Option (List ℕ)) (d : tree.Dimensions) (rest : tree.DimensionTail)
      (f' : Option BrokenRule)
      (v' : Option (List ℕ)) (i : Scene)
      → onward f v (told (types.read_dimensions s d)) ≡ a_told f' i v'
      → onward f v (told (types.read_dimension_tail s (tree.more_dimensions d rest))) ≡ onward f' v'
      (told (types.read_dimension_tail i rest))
  dimension_tail_at f v d rest f' v' i h =
      let a : Told (List ℕ) = told (types.read_dimensions s d) in
      ap (onward f v) (ap told (dimension_tail_eq d rest)
      ∙ ap (told_with join) (then_told (types.read_dimensions s d) (λ j. types.read_dimension_tail j rest)))
      ∙ onward_both f v a (told (types.read_dimension_tail a.scene rest))
      ∙ ap (λ (t : Told (List ℕ)). onward t.fault t.value (told (types.read_dimension_tail t.scene rest))) h

  pub dimensions_next : (f : Option BrokenRule) (v : Option (List ℕ)) (k : ℕ) (all : List dv.Dimensions) (x : dv.Dimensions)
      (f' : Option BrokenRule) (v' : Option (List ℕ)) (i : Scene)
      → k < length all → x ≡ get_or all k x → onward f v (told (types.read_dimensions s (view.view_dimension x))) ≡ a_told f' i v'
      → onward f v (told (types.read_dimension_tail s (view.dimensions_of (drop k all)))) ≡ onward f' v'
      (told (types.read_dimension_tail i (view.dimensions_of (drop (k + 1) all))))
  dimensions_next f v k all x f' v' i lt is h =
      ap (λ xs. onward f v (told (types.read_dimension_tail s (view.dimensions_of xs)))) (next_of all k x lt is)
      ∙ dimension_tail_at f v (view.view_dimension x) (view.dimensions_of (drop (k + 1) all)) f' v' i h

  onward_nothing : (f : Option BrokenRule) (v : Option (List ℕ)) → onward f v (a_told None s (Some [])) ≡ a_told f s v
  onward_nothing None None = refl
  onward_nothing None (Some xs) = ap (λ ys. a_told None s (Some ys)) (append-nil xs)
  onward_nothing (Some b) None = refl
  onward_nothing (Some b) (Some xs) = ap (λ ys. a_told (Some b) s (Some ys)) (append-nil xs)

  pub dimensions_end : (f : Option BrokenRule) (v : Option (List ℕ)) (k : ℕ) (all : List dv.Dimensions) → length all ≤ k
      → onward f v (told (types.read_dimension_tail s (view.dimensions_of (drop k all)))) ≡ a_told f s v
  dimensions_end f v k all h =
      ap (λ xs. onward f v (told (types.read_dimension_tail s (view.dimensions_of xs)))) (drop_all k all h)
      ∙ ap (onward f v) no_dimensions_eq ∙ onward_nothing f v

  -- index types
  index_told : (p : tree.PlainType) → told (types.index_type_at p (types.read_plain s p)) ≡ told_at (tree.plain_node p)
      (types.index_type_rules (types.read_plain s p).scene) (told (types.read_plain s p))
  index_told p = at_told (tree.plain_node p) (types.index_type_rules (types.read_plain s p).scene) (types.read_plain s p)

  index_on : (f : Option BrokenRule) (v : Option (List ℕ)) (p : tree.PlainType) (rest : tree.PlainTail) (f' : Option BrokenRule)
      (v' : Option (List ℕ)) (i : Scene)
      → onward f v (told_index (tree.plain_node p) (told (types.read_plain s p))) ≡ a_told f' i v'
      → onward f v (told (types.reading_with types.cons_index
      (types.reading_then (types.index_type_at p (types.read_plain s p)) (λ j. types.read_plains j rest)))) ≡ onward f' v'
      (told (types.read_plains i rest))
  index_on f v p rest f' v' i h =
      let a : Told types.ShapeOrLimit = told (types.index_type_at p (types.read_plain s p)) in
      ap (λ t. onward f v (told_with types.cons_index t))
      (then_told (types.index_type_at p (types.read_plain s p)) (λ j. types.read_plains j rest))
      ∙ onward_cons f v a (told (types.read_plains a.scene rest))
      ∙ ap (λ (t : Told (List ℕ)). onward t.fault t.value (told (types.read_plains t.scene rest)))
      (ap (λ t. onward f v (told_with alone t)) (index_told p) ∙ h)

  dimensions_eq : (p : tree.PlainType) (rest : tree.PlainTail) → types.read_dimensions s (tree.dimensions p rest)
      ≡ types.reading_with types.cons_index (types.reading_then (types.index_type_at p (types.read_plain s p))
      (λ j. types.read_plains j rest))
  unfolding types.read_type
  dimensions_eq p rest = refl

  plains_eq : (p : tree.PlainType) (rest : tree.PlainTail) → types.read_plains s (tree.more_plain p rest)
      ≡ types.reading_with types.cons_index (types.reading_then (types.index_type_at p (types.read_plain s p))
      (λ j. types.read_plains j rest))
  unfolding types.read_type
  plains_eq p rest = refl

  no_plain_eq : told (types.read_plains s tree.no_plain) ≡ a_told None s (Some [])
  unfolding types.read_type
  no_plain_eq = refl

  pub dimensions_at : (f : Option BrokenRule) (v : Option (List ℕ)) (p : tree.PlainType) (rest : tree.PlainTail) (f' : Option BrokenRule)
      (v' : Option (List ℕ)) (i : Scene)
      → onward f v (told_index (tree.plain_node p) (told (types.read_plain s p))) ≡ a_told f' i v'
      → onward f v (told (types.read_dimensions s (tree.dimensions p rest))) ≡ onward f' v' (told (types.read_plains i rest))
  dimensions_at f v p rest f' v' i h = ap (λ r. onward f v (told r)) (dimensions_eq p rest) ∙ index_on f v p rest f' v' i h

  pub plains_next : (f : Option BrokenRule) (v : Option (List ℕ)) (k : ℕ) (all : List dq.PlainType) (x : dq.PlainType)
      (f' : Option BrokenRule)
      (v' : Option (List ℕ)) (i : Scene)
      → k < length all → x ≡ get_or all k x → onward f v
      (told_index (tree.plain_node (view.view_plain_type x)) (told (types.read_plain s (view.view_plain_type x)))) ≡ a_told f' i v'
      → onward f v (told (types.read_plains s (view.plains_of (drop k all)))) ≡ onward f' v'
      (told (types.read_plains i (view.plains_of (drop (k + 1) all))))
  plains_next f v k all x f' v' i lt is h =
      ap (λ xs. onward f v (told (types.read_plains s (view.plains_of xs)))) (next_of all k x lt is)
      ∙ ap (λ r. onward f v (told r)) (plains_eq (view.view_plain_type x) (view.plains_of (drop (k + 1) all)))
      ∙ index_on f v (view.view_plain_type x) (view.plains_of (drop (k + 1) all)) f' v' i h

  pub plains_end : (f : Option BrokenRule) (v : Option (List ℕ)) (k : ℕ) (all : List dq.PlainType) → length all ≤ k
      → onward f v (told (types.read_plains s (view.plains_of (drop k all)))) ≡ a_told f s v
  plains_end f v k all h =
      ap (λ xs. onward f v (told (types.read_plains s (view.plains_of xs)))) (drop_all k all h)
      ∙ ap (onward f v) no_plain_eq ∙ onward_nothing f v

  -- types that are no arrays
  pub name_at : (n : ℕ) (name : tree.Name)
      → told (types.read_plain s (tree.type_name n name)) ≡ told (types.reading_with types.formed (types.read_type_name s name))
  unfolding types.read_type
  name_at n name = refl

  pub listed_at : (n : ℕ) (names : tree.Names)
      → told (types.read_plain s (tree.listed n names)) ≡ told
      (types.read_listed s (types.all_names names) (types.last_token names.first names.more + 2))
  unfolding types.read_type
  listed_at n names = refl

  pub subrange_eq : (n : ℕ) (low high : tree.Expr) → types.read_plain s (tree.subrange n low high)
      ≡ types.reading_change types.subrange_of
      (types.reading_at n (types.subrange_rules s) (types.reading_then (types.read_constant s low) (λ i. types.read_constant i high)))
  unfolding types.read_type
  subrange_eq n low high = refl

  record_eq : (n : ℕ) (x : tree.FieldList) (rest : tree.FieldListTail) → types.read_plain s (tree.record_type n x rest)
      ≡ types.reading_change types.record_of (types.reading_with types.joined_fields
      (types.reading_then (types.read_fields s [] x) (λ i. types.read_field_tail i (types.field_names x) rest)))
  unfolding types.read_type
  record_eq n x rest = refl

  pub record_at : (n : ℕ) (x : tree.FieldList) (rest : tree.FieldListTail) (t : ToldFields) (i : Scene)
      → onward None (Some []) (told (types.read_fields s [] x)) ≡ told_list t i
      → told (types.read_plain s (tree.record_type n x rest)) ≡ told_record
      (told_on t (told (types.read_field_tail i (types.field_names x) rest)))
  record_at n x rest t i h =
      let a : Told (List PlainField) = told (types.read_fields s [] x) in
      let e : a ≡ told_list t i = sym (onward_begin a) ∙ h in
      let r : types.Reading (List PlainField) =
      types.reading_with types.joined_fields (types.reading_then (types.read_fields s [] x)
      (λ j. types.read_field_tail j (types.field_names x) rest)) in
      ap told (record_eq n x rest)
      ∙ change_told types.record_of r
      ∙ ap (λ u. told_record (told_with join u))
      (then_told (types.read_fields s [] x) (λ j. types.read_field_tail j (types.field_names x) rest))
      ∙ ap (λ (u : Told (List PlainField)). told_record
      (told_with join (told_both u (told (types.read_field_tail u.scene (types.field_names x) rest))))) e

  -- fields
  pub empty_at : (before : List tree.Name) (n : ℕ) → told (types.read_fields s before (tree.empty_fields n)) ≡ a_told None s (Some [])
  unfolding types.read_type
  empty_at before n = refl

  pub fields_eq : (before : List tree.Name) (n : ℕ) (names : tree.Names) (t : tree.TypeNode)
      → types.read_fields s before (tree.fields n names t)
      ≡ types.fields_of_type s (types.all_names names) (types.redeclared_fields s before (types.all_names names)) (types.read_type s t)
  unfolding types.read_type
  fields_eq before n names t = refl

  no_fields_eq : (before : List tree.Name) → told (types.read_field_tail s before tree.no_fields) ≡ a_told None s (Some [])
  unfolding types.read_type
  no_fields_eq before = refl

  field_tail_eq : (before : List tree.Name) (x : tree.FieldList) (rest : tree.FieldListTail)
      → types.read_field_tail s before (tree.more_fields x rest)
      ≡ types.reading_with types.joined_fields
      (types.reading_then (types.read_fields s before x) (λ i. types.read_field_tail i (before ++ types.field_names x) rest))
  unfolding types.read_type
  field_tail_eq before x rest = refl

  list_nothing : (t : ToldFields) → told_on t (a_told None s (Some [])) ≡ told_list t s
  list_nothing t = go t.fault t.value
    where
      go : (f : Option BrokenRule) (v : Option (List PlainField)) → onward f v (a_told None s (Some [])) ≡ a_told f s v
      go None None = refl
      go None (Some xs) = ap (λ ys. a_told None s (Some ys)) (append-nil xs)
      go (Some b) None = refl
      go (Some b) (Some xs) = ap (λ ys. a_told (Some b) s (Some ys)) (append-nil xs)

  pub empty_on : (t : ToldFields) (before : List tree.Name) (n : ℕ)
      → told_on t (told (types.read_fields s before (tree.empty_fields n))) ≡ told_list t s
  empty_on t before n = ap (told_on t) (empty_at before n) ∙ list_nothing t

  pub fields_next : (t : ToldFields) (before : List tree.Name) (k : ℕ) (all : List dw.FieldList) (x : dw.FieldList) (t' : ToldFields)
      (i : Scene)
      → k < length all → x ≡ get_or all k x → told_on t (told (types.read_fields s before (view.view_field_list x))) ≡ told_list t' i
      → told_on t (told (types.read_field_tail s before (view.field_lists_of (drop k all))))
      ≡ told_on t' (told (types.read_field_tail i (before ++ types.field_names (view.view_field_list x))
      (view.field_lists_of (drop (k + 1) all))))
  fields_next t before k all x t' i lt is h =
      let y : tree.FieldList = view.view_field_list x in
      let rest : tree.FieldListTail = view.field_lists_of (drop (k + 1) all) in
      let a : Told (List PlainField) = told (types.read_fields s before y) in
      ap (λ xs. told_on t (told (types.read_field_tail s before (view.field_lists_of xs)))) (next_of all k x lt is)
      ∙ ap (λ r. told_on t (told r)) (field_tail_eq before y rest)
      ∙ ap (λ u. told_on t (told_with join u))
      (then_told (types.read_fields s before y) (λ j. types.read_field_tail j (before ++ types.field_names y) rest))
      ∙ onward_both t.fault t.value a (told (types.read_field_tail a.scene (before ++ types.field_names y) rest))
      ∙ ap (λ (u : Told (List PlainField)). onward u.fault u.value
      (told (types.read_field_tail u.scene (before ++ types.field_names y) rest))) h

  pub fields_end : (t : ToldFields) (before : List tree.Name) (k : ℕ) (all : List dw.FieldList) → length all ≤ k
      → told_on t (told (types.read_field_tail s before (view.field_lists_of (drop k all)))) ≡ told_list t s
  fields_end t before k all h =
      ap (λ xs. told_on t (told (types.read_field_tail s before (view.field_lists_of xs)))) (drop_all k all h)
      ∙ ap (told_on t) (no_fields_eq before) ∙ list_nothing t

-- ---- some field lists of a record are read, and others are left

pub record Follows (s i : Scene) (before : List tree.Name) (all rest : tree.FieldListTail) (from now : ToldFields)
    (es : List (Vec ℕ Global × ℕ)) : Type 0 where
  pub done : List tree.Name
  pub told : told_on from (told (types.read_field_tail s before all)) ≡ told_on now (told (types.read_field_tail i done rest))
  pub knows : Knows i.tokens es done

pub follows_begin : (s : Scene) (before : List tree.Name) (all : tree.FieldListTail) (t : ToldFields) (es : List (Vec ℕ Global × ℕ))
    → Knows s.tokens es before → Follows s s before all all t t es
follows_begin s before all t es k = record { done = before; told = refl; knows = k }

pub follows_more : (s i j : Scene) (before : List tree.Name) (all : tree.FieldListTail) (from now t : ToldFields)
    (es new : List (Vec ℕ Global × ℕ)) (k : ℕ) (more : List dw.FieldList) (x : dw.FieldList)
    → k < length more → x ≡ get_or more k x
    → Follows s i before all (view.field_lists_of (drop k more)) from now es
    → ((done : List tree.Name) → Knows i.tokens es done
    → (told_on now (told (types.read_fields i done (view.view_field_list x))) ≡ told_list t j)
    × Knows j.tokens new (done ++ types.field_names (view.view_field_list x)))
    → Follows s j before all (view.field_lists_of (drop (k + 1) more)) from t new
follows_more s i j before all from now t es new k more x lt is g h =
    let p : (told_on now (told (types.read_fields i g.done (view.view_field_list x))) ≡ told_list t j)
    × Knows j.tokens new (g.done ++ types.field_names (view.view_field_list x)) = h g.done g.knows in
    record {
      done = g.done ++ types.field_names (view.view_field_list x);
      told = g.told ∙ fields_next i now g.done k more x t j lt is p.0;
      knows = p.1;
    }

pub follows_end : (s i : Scene) (before : List tree.Name) (all : tree.FieldListTail) (from now : ToldFields) (es : List (Vec ℕ Global × ℕ))
    (k : ℕ) (more : List dw.FieldList) → length more ≤ k
    → Follows s i before all (view.field_lists_of (drop k more)) from now es
    → told_on from (told (types.read_field_tail s before all)) ≡ told_list now i
follows_end s i before all from now es k more le g = g.told ∙ fields_end i now g.done k more le

-- ---- a type as the code takes it apart

pub type_by : (s : Scene) (t : dy.TypeNode) (a : Told (List ℕ)) → told (types.read_arrays s (view.arrays_of (dy.out-TypeNode t).arrays)) ≡ a
    → told (types.read_type s (view.view_type_node t)) ≡ told_type (dy.out-TypeNode t).node
    (told_both a (told (types.read_plain a.scene (view.view_plain_type (dy.out-TypeNode t).element))))
type_by s t a h =
    ap (λ x. told (types.read_type s x)) (type_is t)
    ∙ type_at s (dy.out-TypeNode t).node (view.arrays_of (dy.out-TypeNode t).arrays) (view.view_plain_type (dy.out-TypeNode t).element)
    ∙ ap (λ (b : Told (List ℕ)). told_type (dy.out-TypeNode t).node
    (told_both b (told (types.read_plain b.scene (view.view_plain_type (dy.out-TypeNode t).element))))) h

pub no_arrays_by : (s : Scene) (xs : List ℕ) → xs ≡ [] → told (types.read_arrays s (view.arrays_of None)) ≡ a_told None s (Some xs)
no_arrays_by s xs e = no_arrays_at s ∙ ap (λ ys. a_told None s (Some ys)) (sym e)

pub arrays_by : (s : Scene) (a : dz.Arrays) (xs : List ℕ) (f : Option BrokenRule) (v : Option (List ℕ)) (i : Scene) → xs ≡ []
    → onward None (Some xs) (told (types.read_dimensions s (view.view_dimension (dz.out-Arrays a).first))) ≡ a_told f i v
    → told (types.read_arrays s (view.arrays_of (Some a))) ≡ onward f v
    (told (types.read_dimension_tail i (view.dimensions_of (dz.out-Arrays a).more.items)))
arrays_by s a xs f v i e h =
    arrays_at s (dz.out-Arrays a).node (view.view_dimension (dz.out-Arrays a).first) (view.dimensions_of (dz.out-Arrays a).more.items) f v i
    (ap (λ ys. onward None (Some ys) (told (types.read_dimensions s (view.view_dimension (dz.out-Arrays a).first)))) (sym e) ∙ h)

pub empty_by : (s : Scene) (l : dw.FieldList) (n : ℕ) (t : ToldFields) (before : List tree.Name) (es : List (Vec ℕ Global × ℕ))
    → l ≡ dw.Empty n → Knows s.tokens es before
    → (told_on t (told (types.read_fields s before (view.view_field_list l))) ≡ told_list t s)
    × Knows s.tokens es (before ++ types.field_names (view.view_field_list l))
empty_by s l n t before es is k = rw is (empty_on s t before n, subst (λ ns. Knows s.tokens es ns) (sym (append-nil before)) k)

pub fields_on : {X E : Type 0} (s j : Scene) (before : List tree.Name) (n : ℕ) (names : Names) (y : dy.TypeNode) (t : ToldFields)
    (look : X → ToldFields) (es : X → List (Vec ℕ Global × ℕ)) (r : Result X E)
    → IfOk r (λ x. (told_list (join_fields
    (shape_fields (told (types.read_type s (view.view_type_node y))).scene.tokens before
    (told (types.read_type s (view.view_type_node y))).value (types.all_names (view.view_names names)) t)
    (told (types.read_type s (view.view_type_node y)))) (told (types.read_type s (view.view_type_node y))).scene ≡ told_list (look x) j)
    × Knows j.tokens (es x) (before ++ types.all_names (view.view_names names)))
    → IfOk r (λ x. (told_on t (told (types.read_fields s before (view.view_field_list (dw.Fields n names y)))) ≡ told_list (look x) j)
    × Knows j.tokens (es x) (before ++ types.field_names (view.view_field_list (dw.Fields n names y))))
fields_on s j before n names y t look es (Ok x) h =
    let r : types.Reading ℕ = types.read_type s (view.view_type_node y) in (
      ap (λ z. told_on t (told z)) (fields_eq s before n (view.view_names names) (view.view_type_node y))
          ∙ fields_told s before (types.all_names (view.view_names names)) t r
          ∙ ap (λ k. told_list (join_fields (shape_fields k before r.value (types.all_names (view.view_names names)) t) (told r)) r.scene)
          (sym (type_tokens s (view.view_type_node y)))
          ∙ h.0,
      h.1,
    )
fields_on s j before n names y t look es (Err x) h = tt

pub record_by : (s : Scene) (n : ℕ) (f : Box dw.FieldList Global) (more : Vec dw.FieldList Global) (o t : ToldFields) (i : Scene)
    → o ≡ nothing_told
    → told_on o (told (types.read_fields s [] (view.view_field_list f.value))) ≡ told_list t i
    → told (types.read_plain s (view.view_plain_type (dq.Record n f more)))
    ≡ told_record (told_on t (told
    (types.read_field_tail i (types.field_names (view.view_field_list f.value)) (view.field_lists_of more.items))))
record_by s n f more o t i e h =
    ap (λ x. told (types.read_plain s x)) (record_is n f more)
    ∙ record_at s n (view.view_field_list f.value) (view.field_lists_of more.items) t i
    (ap (λ u. told_on u (told (types.read_fields s [] (view.view_field_list f.value)))) (sym e) ∙ h)

-- the name of a type, in a scene that is another's
pub name_by : {X E : Type 0} (a s : Scene) (n : ℕ) (name : tree.Name) (f : X → Scene → Told types.ShapeOrLimit) (r : Result X E) → a ≡ s
    → IfOk r (λ x. told (types.reading_with types.formed (types.read_type_name a name)) ≡ f x a)
    → IfOk r (λ x. told (types.read_plain s (tree.type_name n name)) ≡ f x s)
name_by a s n name f (Ok x) e h = name_at s n name
    ∙ subst (λ i. told (types.reading_with types.formed (types.read_type_name i name)) ≡ f x i) e h
name_by a s n name f (Err x) e h = tt
