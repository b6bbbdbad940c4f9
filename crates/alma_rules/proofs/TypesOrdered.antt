-- The rules that are broken in type expressions stand in order.
use Rattle.std.proofs.Common.{ℕ, ◌<◌, ◌≤◌, inl, inr, List, [], ◌∷◌, ◌++◌, Bool, Option, None, Some, arith}
use Rattle.std.specs.Prelude.{true, false, option_map}
use Rattle.alma_base.specs.Choice.{if_true}
use Rattle.alma_base.specs.declared.fault.CheckFault.TheVariants as fault
use Rattle.alma_rules.specs.Numbered as tree
use Rattle.alma_rules.specs.Judgement.{BrokenRule}
use Rattle.alma_rules.specs.Scene.{Scene, Found, found, in_constant}
use Rattle.alma_rules.specs.Parts.{Typing}
use Rattle.alma_rules.specs.Types.{Reading, with_change, reading_change, redeclaration_rules, redeclared_all, redeclared_fields, is_field}
use Rattle.alma_rules.specs.Types.{type_name_rules, shape_in, read_type_name, ShapeOrLimit, formed, too_large, index_type_rules}
use Rattle.alma_rules.specs.Types.{subrange_rules}
use Rattle.alma_rules.specs.Types.{size_rules, subrange_of, rows_of, record_of, listed_in, add_shape, declare_values, all_first}
use Rattle.alma_rules.specs.Types.{read_listed, all_names, read_constant, read_type, read_arrays, read_dimension_tail, read_dimensions}
use Rattle.alma_rules.specs.Types.{read_plains, read_plain, read_fields, read_field_tail, index_type_at, reading_then}
use Rattle.alma_names.specs.Shapes.{listed}
use Rattle.std.specs.Prelude.{length}
use Rattle.alma_rules.specs.Rising.{rise_expr, rise_more_names, rise_type, rise_arrays, rise_dimension_tail, rise_dimensions, rise_plains}
use Rattle.alma_rules.specs.Rising.{rise_plain, rise_fields, rise_field_tail}
use Rattle.alma_rules.proofs.Ranks.{InOrder, empty, append, one}
use Rattle.alma_rules.proofs.Within.{Within, none, ordered, up, joined, alone_at, node_end, Ends, below, own, placed}
use Rattle.alma_rules.proofs.Ordered.{expr_in}

pub redeclared_order : (s : Scene) (x : tree.Name) → InOrder 0 23 (redeclaration_rules s x)
redeclared_order s x = one 0 23 _ fault.Redeclared (omega arith) (omega arith)

type_name_order : (f : Found) (v : Option ℕ) → InOrder 0 23 (type_name_rules f v)
type_name_order f v = append 0 0 23 _ _ (one 0 0 _ fault.Undeclared (omega arith) (omega arith))
    (one 0 23 _ fault.NotType (omega arith) (omega arith))

index_type_order : (s : Scene) (v : Option ShapeOrLimit) → InOrder 0 23 (index_type_rules s v)
index_type_order s v = one 0 23 _ fault.IndexType (omega arith) (omega arith)

subrange_order : (s : Scene) (v : Option (Typing × Typing)) → InOrder 0 16 (subrange_rules s v)
subrange_order s v = append 0 8 16 _ _ (one 0 8 _ fault.TypeMismatch (omega arith) (omega arith))
    (one 8 16 _ fault.ConstRange (omega arith) (omega arith))

size_order : (v : Option ShapeOrLimit) → InOrder 0 23 (size_rules v)
size_order v = one 0 23 _ fault.TooLarge (omega arith) (omega arith)

-- ---- names

pub redeclared_in : (s : Scene) (lo hi : ℕ) (xs : List tree.Name) → rise_more_names xs lo hi → Within lo hi (redeclared_all s xs)
redeclared_in s lo hi [] h = none lo hi h
redeclared_in s lo hi (x ∷ xs) h =
    joined lo h.0 hi _ _ (alone_at lo x.node h.0 23 _ (redeclared_order s x) (omega arith) h.1.0 h.1.1) (redeclared_in s h.0 hi xs h.2)

fields_names_in : (s : Scene) (earlier : List tree.Name) (lo hi : ℕ) (xs : List tree.Name) → rise_more_names xs lo hi
    → Within lo hi (redeclared_fields s earlier xs)
fields_names_in s earlier lo hi [] h = none lo hi h
fields_names_in s earlier lo hi (x ∷ xs) h =
    joined lo h.0 hi _ _ (alone_at lo x.node h.0 23 _ (one 0 23 (is_field s x earlier) fault.Redeclared (omega arith) (omega arith))
    (omega arith) h.1.0 h.1.1)
    (fields_names_in s (earlier ++ x ∷ []) h.0 hi xs h.2)

pub type_name_in : (s : Scene) (name : tree.Name) (lo hi : ℕ) → (lo ≤ name.node) × (name.node < hi)
    → Within lo hi (read_type_name s name).faults
type_name_in s name lo hi h = alone_at lo name.node hi 23 _ (type_name_order (found s name) (shape_in (found s name))) (omega arith) h.0 h.1

-- ---- changes of the scene

in_changed : {B : Type 0} (lo hi : ℕ) (s : Scene) (faults : List BrokenRule) (v : Option (Scene × B)) → Within lo hi faults
    → Within lo hi (with_change s faults v).faults
in_changed lo hi s faults None w = w
in_changed lo hi s faults (Some p) w = w

in_change : {A B : Type 0} (lo hi : ℕ) (f : Scene → A → Scene × B) (r : Reading A) → Within lo hi r.faults
    → Within lo hi (reading_change f r).faults
in_change lo hi f r w = in_changed lo hi r.scene r.faults (option_map (f r.scene) r.value) w

ends_changed : {A B : Type 0} (m lo n hi : ℕ) (f : Scene → A → Scene × B) (s : Scene) (faults : List BrokenRule) (v : Option A)
    → Ends m lo n hi faults v
    → Ends m lo n hi (with_change s faults (option_map (f s) v)).faults (with_change s faults (option_map (f s) v)).value
ends_changed m lo n hi f s faults None h = h
ends_changed m lo n hi f s faults (Some x) (inl w, le, top) = (inl w, le, top)
ends_changed m lo n hi f s faults (Some x) (inr p, le, top) = absurd p.1

in_listed : (s : Scene) (names : List tree.Name) (from lo hi : ℕ) → rise_more_names names lo hi
    → Within lo hi (read_listed s names from).faults
in_listed s names from lo hi h = go (all_first s names)
  where
    listed_at : (p : Scene × ShapeOrLimit) → Within lo hi (listed_in [] from names p).faults
    listed_at (i, formed shape) = none lo hi (ordered lo hi _ (redeclared_in s lo hi names h))
    listed_at (i, too_large) = none lo hi (ordered lo hi _ (redeclared_in s lo hi names h))

    go : (b : Bool) → Within lo hi (if_true b (λ _. listed_in [] from names (add_shape s (listed (length names))))
        (λ _. record { faults = redeclared_all s names; scene = declare_values s from None 0 names; value = None })).faults
    go true = listed_at (add_shape s (listed (length names)))
    go false = redeclared_in s lo hi names h

pub constant_in : (s : Scene) (lo hi : ℕ) (e : tree.Expr) → rise_expr e lo hi → Within lo hi (read_constant s e).faults
constant_in s lo hi e h = below 8 lo (tree.expr_node e) hi _ _ (omega arith) (expr_in (in_constant s) 0 lo hi e h)

index_in : (p : tree.PlainType) (r : Reading ShapeOrLimit) (lo hi : ℕ) → Ends 16 lo (tree.plain_node p) hi r.faults r.value
    → Within lo hi (index_type_at p r).faults
index_in p r lo hi h = placed 16 lo (tree.plain_node p) hi r.faults r.value (index_type_rules r.scene) (omega arith)
    (empty 17 23 (omega arith)) (index_type_order r.scene) h

-- ---- the walk

mutual
  unfolding read_type rise_type

  pub type_in : (s : Scene) (lo hi : ℕ) (x : tree.TypeNode) → rise_type x lo hi → Within lo hi (read_type s x).faults
  type_in s lo hi (tree.type_node n dims p) h =
      node_end lo n hi 23 _ _ (size_order _) (omega arith)
      (in_change lo n rows_of _ (joined lo h.0.0 n _ _ (arrays_in s lo h.0.0 dims h.0.1)
      (below 16 h.0.0 (tree.plain_node p) n _ _ (omega arith) (plain_in _ h.0.0 n p h.0.2)))) h.1

  arrays_in : (s : Scene) (lo hi : ℕ) (x : tree.Arrays) → rise_arrays x lo hi → Within lo hi (read_arrays s x).faults
  arrays_in s lo hi tree.no_arrays h = none lo hi h
  arrays_in s lo hi (tree.arrays n d rest) h =
      up lo n hi _ (joined lo h.0.0 n _ _ (dimensions_in s lo h.0.0 d h.0.1) (dimension_tail_in _ h.0.0 n rest h.0.2)) h.1

  dimension_tail_in : (s : Scene) (lo hi : ℕ) (x : tree.DimensionTail) → rise_dimension_tail x lo hi
      → Within lo hi (read_dimension_tail s x).faults
  dimension_tail_in s lo hi tree.no_dimensions h = none lo hi h
  dimension_tail_in s lo hi (tree.more_dimensions d rest) h =
      joined lo h.0 hi _ _ (dimensions_in s lo h.0 d h.1) (dimension_tail_in _ h.0 hi rest h.2)

  dimensions_in : (s : Scene) (lo hi : ℕ) (x : tree.Dimensions) → rise_dimensions x lo hi → Within lo hi (read_dimensions s x).faults
  dimensions_in s lo hi (tree.dimensions p rest) h =
      joined lo h.0 hi _ _ (index_in p (read_plain s p) lo h.0 (plain_in s lo h.0 p h.1)) (plains_in _ h.0 hi rest h.2)

  plains_in : (s : Scene) (lo hi : ℕ) (x : tree.PlainTail) → rise_plains x lo hi → Within lo hi (read_plains s x).faults
  plains_in s lo hi tree.no_plain h = none lo hi h
  plains_in s lo hi (tree.more_plain p rest) h =
      joined lo h.0 hi _ _ (index_in p (read_plain s p) lo h.0 (plain_in s lo h.0 p h.1)) (plains_in _ h.0 hi rest h.2)

  plain_in : (s : Scene) (lo hi : ℕ) (x : tree.PlainType) → rise_plain x lo hi
      → Ends 16 lo (tree.plain_node x) hi (read_plain s x).faults (read_plain s x).value
  plain_in s lo hi (tree.type_name n name) h =
      let a : Within lo n (read_type_name s name).faults = type_name_in s name lo n h.0 in
      (inl a, ordered lo n _ a, h.1)
  plain_in s lo hi (tree.listed n names) h =
      let a : Within lo n (read_listed s (all_names names) _).faults =
      up lo names.node n _ (in_listed s (all_names names) _ lo names.node h.0.0) h.0.1 in
      (inl a, ordered lo n _ a, h.1)
  plain_in s lo hi (tree.subrange n low high) h =
      let r : Reading (Typing × Typing) = reading_then (read_constant s low) (λ i. read_constant i high) in
      let a : Within lo n r.faults = joined lo h.0.0 n _ _ (constant_in s lo h.0.0 low h.0.1) (constant_in s h.0.0 n high h.0.2) in
      ends_changed 16 lo n hi subrange_of r.scene _ _
      (own 16 lo n hi r.faults (subrange_rules s r.value) r.value (subrange_order s r.value) a (ordered lo n _ a) h.1)
  plain_in s lo hi (tree.record_type n first rest) h =
      let a : Within lo n (read_plain s (tree.record_type n first rest)).faults =
      in_change lo n record_of _ (joined lo h.0.0 n _ _ (fields_in s [] lo h.0.0 first h.0.1) (field_tail_in _ _ h.0.0 n rest h.0.2)) in
      (inl a, ordered lo n _ a, h.1)

  fields_in : (s : Scene) (earlier : List tree.Name) (lo hi : ℕ) (x : tree.FieldList) → rise_fields x lo hi
      → Within lo hi (read_fields s earlier x).faults
  fields_in s earlier lo hi (tree.empty_fields n) h = none lo hi (omega (arith, h.0, h.1))
  fields_in s earlier lo hi (tree.fields n names t) h =
      up lo n hi _ (joined lo h.0.0 n _ _ (up lo names.node h.0.0 _ (fields_names_in s earlier lo names.node (all_names names) h.0.1.0)
      h.0.1.1) (type_in s h.0.0 n t h.0.2)) h.1

  field_tail_in : (s : Scene) (earlier : List tree.Name) (lo hi : ℕ) (x : tree.FieldListTail) → rise_field_tail x lo hi
      → Within lo hi (read_field_tail s earlier x).faults
  field_tail_in s earlier lo hi tree.no_fields h = none lo hi h
  field_tail_in s earlier lo hi (tree.more_fields x rest) h =
      joined lo h.0 hi _ _ (fields_in s earlier lo h.0 x h.1) (field_tail_in _ _ h.0 hi rest h.2)
