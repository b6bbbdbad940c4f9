-- Types keep the table of shapes, and what the names that they declare stand for.
use Rattle.std.proofs.Common.{◌≡◌, ℕ, ◌+◌, ◌<◌, ℤ, pos, Bool, true, false, List, [], ◌∷◌, ◌++◌, length, Option, None, Some, refl, sym, ap}
use Rattle.std.proofs.Common.{◌∙◌, subst, arith, length-append}
use Rattle.std.specs.Prelude.{not, nat_eq, is_some, option_map}
use Rattle.std.specs.List.{AllByRecursion}
use Rattle.std.proofs.lemmas.Int.{ints}
use Rattle.alma_base.specs.Choice.{if_true}
use Rattle.alma_base.specs.declared.fault.CheckFault.{CheckFault}
use Rattle.alma_base.specs.declared.fault.CheckFault.TheVariants as fault
use Rattle.alma_names.specs.declared.block.Entry.{Entry}
use Rattle.alma_names.specs.declared.block.Entry.TheVariants as entry
use Rattle.alma_names.specs.Shapes.{PlainShape, PlainField, listed, sub, row, fields, is_too_large, placed_shape, cell_counts}
use Rattle.alma_names.specs.Blocks.{shape_id}
use Rattle.alma_ir.proofs.Each.{each_of_append, each_follows}
use Rattle.alma_rules.specs.Numbered as tree
use Rattle.alma_rules.specs.Judgement.{BrokenRule, when}
use Rattle.alma_rules.specs.Scene.{Scene, found, found_as, base, is_structured, in_constant}
use Rattle.alma_rules.specs.Parts.{Typing}
use Rattle.alma_rules.specs.StmtRules.{is_above}
use Rattle.alma_rules.specs.Types.{Reading, gives, reading_at, reading_both, reading_with, with_change, reading_change, read_constant}
use Rattle.alma_rules.specs.Types.{declare_name}
use Rattle.alma_rules.specs.Types.{redeclared_all, type_name_rules, shape_in, read_type_name, ShapeOrLimit, formed, too_large, bad_index}
use Rattle.alma_rules.specs.Types.{index_type_rules, other_bounds, no_subrange, subrange_rules, is_past, size_rules, add_shape, row_on}
use Rattle.alma_rules.specs.Types.{rows_on, rows_of, number_in, subrange_from, subrange_of, all_first, last_token, declare_values}
use Rattle.alma_rules.specs.Types.{listed_in, read_listed, all_names, redeclared_fields, fields_with, fields_of_type, joined_fields}
use Rattle.alma_rules.specs.Types.{record_of, field_names, joined_indices, cons_index, index_type_at, read_type, read_arrays}
use Rattle.alma_rules.specs.Types.{read_dimension_tail, read_dimensions, read_plains, read_plain, read_fields, read_field_tail}
use Rattle.alma_resolved.specs.Fits.{Place}
use Rattle.alma_resolved.specs.Scenes.{structured_in}
use Rattle.alma_resolved.proofs.Lookups.{found_each}
use Rattle.alma_resolved.proofs.Fits.{When, when_some, when_none, when_map, when_both, when_node, when_weaker}
use Rattle.alma_resolved.proofs.Scenes.{no_fault, no_fault_alone, or_right, and_false, not_false}
use Rattle.alma_resolved.proofs.Tables.{TableKeeps, FieldsThere, simple_still, row_keeps, record_keeps, sub_keeps, listed_keeps, last_range}
use Rattle.alma_resolved.proofs.Tables.{base_structured}
use Rattle.alma_resolved.proofs.Constants.{expr_plainly}
use Rattle.alma_resolved.proofs.Entries.{EntryKeeps, SceneKeeps, keeps_shapes, keeps_declared, Longer, longer_same, longer_twice}
use Rattle.alma_resolved.proofs.Entries.{longer_declared, keeps_simples}

-- ---- what is read

-- what is read leaves a scene that keeps this, with more shapes, and a value with this fact
pub record ReadKeeps {A : Type 0} (k : Place) (c : ℕ) (s : Scene) (Q : List PlainShape → A → Type 0) (r : Reading A) : Type 0 where
  pub scene : SceneKeeps k c r.scene
  pub more : Longer s r.scene
  pub value : When r.value (Q r.scene.shapes)

keep_gives : {A : Type 0} (k : Place) (c : ℕ) (s : Scene) (Q : List PlainShape → A → Type 0) (x : A) → SceneKeeps k c s → Q s.shapes x
    → ReadKeeps k c s Q (gives s x)
keep_gives k c s Q x h q = record { scene = h; more = longer_same s s refl; value = when_some x q }

keep_with : {A B : Type 0} (f : A → B) (k : Place) (c : ℕ) (s : Scene) (Q : List PlainShape → A → Type 0) (R : List PlainShape → B → Type 0)
    (r : Reading A) → ReadKeeps k c s Q r
    → ((t : List PlainShape) (x : A) → Q t x → R t (f x)) → ReadKeeps k c s R (reading_with f r)
keep_with f k c s Q R r h g = record { scene = h.scene; more = h.more; value = when_map f h.value (λ x q. g r.scene.shapes x q) }

keep_at : {A : Type 0} (k : Place) (c : ℕ) (s : Scene) (n : ℕ) (rules : Option A → List CheckFault) (Q R : List PlainShape → A → Type 0)
    (r : Reading A) → ReadKeeps k c s Q r
    → ((x : A) → Q r.scene.shapes x → rules (Some x) ≡ [] → R r.scene.shapes x) → ReadKeeps k c s R (reading_at n rules r)
keep_at k c s n rules Q R r h g = record { scene = h.scene; more = h.more; value = when_node rules r.value h.value g }

-- the second in the scene of the first
keep_both : {A B : Type 0} (k : Place) (c : ℕ) (s : Scene) (Q : List PlainShape → A → Type 0) (R : List PlainShape → B → Type 0)
    (a : Reading A) (b : Reading B)
    → ((t u : List PlainShape) (x : A) → Q t x → Q (t ++ u) x) → ReadKeeps k c s Q a → ReadKeeps k c a.scene R b
    → ReadKeeps k c s (λ t p. Q t p.0 × R t p.1) (reading_both a b)
keep_both {A} {B} k c s Q R a b still p q = record {
  scene = q.scene;
  more = longer_twice p.more q.more;
  value = when_both (when_weaker p.value (λ x g. subst (λ t. Q t x) (sym q.more.is) (still a.scene.shapes q.more.tail x g))) q.value;
}

-- a value that changes the scene
pub record Changes {B : Type 0} (k : Place) (c : ℕ) (s : Scene) (R : List PlainShape → B → Type 0) (p : Scene × B) : Type 0 where
  pub scene : SceneKeeps k c p.0
  pub more : Longer s p.0
  pub value : R p.0.shapes p.1

keep_change : {A B : Type 0} (f : Scene → A → Scene × B) (k : Place) (c : ℕ) (s : Scene) (Q : List PlainShape → A → Type 0)
    (R : List PlainShape → B → Type 0) (r : Reading A) → ReadKeeps k c s Q r
    → ((x : A) → Q r.scene.shapes x → Changes k c r.scene R (f r.scene x)) → ReadKeeps k c s R (reading_change f r)
keep_change {A} {B} f k c s Q R r h g = by r.value h.value
  where
    by : (o : Option A) → When o (Q r.scene.shapes) → ReadKeeps k c s R (with_change r.scene r.faults (option_map (f r.scene) o))
    by None w = record { scene = h.scene; more = h.more; value = when_none }
    by (Some x) w = let i = g x w.gives in record {
      scene = i.scene;
      more = longer_twice h.more i.more;
      value =
          when_some (f r.scene x).1 i.value;
    }

-- ---- facts of values

-- a shape of the table
abbrev pub IsShape : List PlainShape → ℕ → Type 0
IsShape t a = a < length t

-- one, or one that is too large
abbrev pub IsFormed : List PlainShape → ShapeOrLimit → Type 0
IsFormed t (formed a) = a < length t
IsFormed t too_large = Unit {0}

-- a shape that is there
abbrev IsSized : List PlainShape → ShapeOrLimit → Type 0
IsSized t f = number_in f < length t

-- simple shapes
abbrev IsIndex : List PlainShape → ShapeOrLimit → Type 0
IsIndex t f = structured_in t (number_in f) ≡ false

abbrev AreIndices : List PlainShape → List ℕ → Type 0
AreIndices t is = AllByRecursion (λ i. structured_in t i ≡ false) is

-- a value of a simple type
abbrev pub IsValue : List PlainShape → Typing → Type 0
IsValue t x = (v : ℤ) → x.constant ≡ Some v → structured_in t x.shape ≡ false

index_more : (t u : List PlainShape) (f : ShapeOrLimit) → IsIndex t f → IsIndex (t ++ u) f
index_more t u f h = simple_still t u (number_in f) h

indices_more : (t u : List PlainShape) (is : List ℕ) → AreIndices t is → AreIndices (t ++ u) is
indices_more t u is h = each_follows (λ i. structured_in t i ≡ false) (λ i. structured_in (t ++ u) i ≡ false) (λ i g. simple_still t u i g)
    is h

fields_more : (t u : List PlainShape) (fs : List PlainField) → FieldsThere t fs → FieldsThere (t ++ u) fs
fields_more t u fs h = each_follows (λ (f : PlainField). f.shape < length t) (λ f. f.shape < length (t ++ u))
    (λ f g. omega (arith, g, length-append t u)) fs h

value_more : (t u : List PlainShape) (x : Typing) → IsValue t x → IsValue (t ++ u) x
value_more t u x h v e = simple_still t u x.shape (h v e)

-- ---- shapes

same_changes : {B : Type 0} (k : Place) (c : ℕ) (s : Scene) (R : List PlainShape → B → Type 0) (x : B) → SceneKeeps k c s → R s.shapes x
    → Changes k c s R (s, x)
same_changes k c s R x h r = record { scene = h; more = longer_same s s refl; value = r }

add_changes : (k : Place) (c : ℕ) (s : Scene) (x : PlainShape) → SceneKeeps k c s
    → TableKeeps (s.shapes ++ placed_shape (cell_counts s.shapes) x ∷ []) → Changes k c s IsFormed (add_shape s x)
add_changes k c s x h t = by (is_too_large s.shapes x)
  where
    by : (b : Bool) → Changes k c s IsFormed
        (if_true {A = Scene × ShapeOrLimit} b (λ u. (s, too_large))
        (λ u. (record s { shapes = s.shapes ++ placed_shape (cell_counts s.shapes) x ∷ [] }, formed (length s.shapes))))
    by true = same_changes k c s IsFormed too_large h tt
    by false = record {
      scene = keeps_shapes (placed_shape (cell_counts s.shapes) x ∷ []) h t;
      more = record { tail = placed_shape (cell_counts s.shapes) x ∷ []; is = refl };
      value = omega (arith, length-append s.shapes (placed_shape (cell_counts s.shapes) x ∷ []));
    }

row_changes : (k : Place) (c : ℕ) (s : Scene) (i : ℕ) (p : Scene × ShapeOrLimit) → structured_in s.shapes i ≡ false
    → Changes k c s IsFormed p
    → Changes k c s IsFormed (row_on i p)
row_changes k c s i (t, formed e) simple h =
    let here : structured_in t.shapes i ≡ false =
    subst (λ x. structured_in x i ≡ false) (sym h.more.is) (simple_still s.shapes h.more.tail i simple) in
    let g = add_changes k c t (row i e) h.scene (row_keeps t.shapes i e h.scene.table here h.value) in
    record { scene = g.scene; more = longer_twice h.more g.more; value = g.value }
row_changes k c s i (t, too_large) simple h = h

rows_change : (k : Place) (c : ℕ) (s : Scene) (is : List ℕ) (f : ShapeOrLimit) → SceneKeeps k c s → AreIndices s.shapes is
    → IsFormed s.shapes f
    → Changes k c s IsFormed (rows_on s is f)
rows_change k c s [] f h is_simple g = same_changes k c s IsFormed f h g
rows_change k c s (i ∷ is) f h is_simple g = row_changes k c s i (rows_on s is f) is_simple.0 (rows_change k c s is f h is_simple.1 g)

sub_changes : (k : Place) (c : ℕ) (s : Scene) (a : ℕ) (low high : Option ℤ) → SceneKeeps k c s
    → ((v : ℤ) → low ≡ Some v → structured_in s.shapes a ≡ false) → is_above low high ≡ false
    → Changes k c s IsFormed (subrange_from s (base s a) low high)
sub_changes k c s a (Some low) (Some high) h simple above =
    add_changes k c s (sub (base s a) (record { low = low; high = high })) h
    (sub_keeps s.shapes (base s a) (record { low = low; high = high }) h.table (sym (base_structured s.shapes a h.table) ∙ simple low refl)
    (omega (arith, ints, above)))
sub_changes k c s a (Some low) None h simple above = same_changes k c s IsFormed too_large h tt
sub_changes k c s a None high h simple above = same_changes k c s IsFormed too_large h tt

record_changes : (k : Place) (c : ℕ) (s : Scene) (fs : List PlainField) → SceneKeeps k c s → FieldsThere s.shapes fs
    → Changes k c s IsFormed (record_of s fs)
record_changes k c s fs h there = add_changes k c s (fields fs) h (record_keeps s.shapes fs h.table there)

-- ---- names of types, and enumerations

pub name_keeps : (k : Place) (c : ℕ) (s : Scene) (name : tree.Name) → SceneKeeps k c s → ReadKeeps k c s IsShape (read_type_name s name)
name_keeps k c s name h = record {
  scene = h;
  more = longer_same s s refl;
  value = when_node (type_name_rules (found s name)) (shape_in (found s name))
      (found_each (EntryKeeps k c s.shapes) (λ f. When (shape_in f) (IsShape s.shapes)) s h.entries when_none by name) (λ x g q. g);
}
  where
    by : (n : ℕ) (e : Entry) → EntryKeeps k c s.shapes n e → When (shape_in (found_as s n e)) (IsShape s.shapes)
    by n (entry.Constant shape v) p = when_none
    by n (entry.Named shape) p = when_some shape.0 p
    by n (entry.Variable shape a) p = when_none
    by n (entry.Routine q) p = when_none
    by n entry.Bad p = when_none

-- the values of an enumeration, or Bad names
abbrev IsListed : List PlainShape → Option ℕ → Type 0
IsListed t None = Unit {0}
IsListed t (Some shape) = structured_in t shape ≡ false

record Declares (k : Place) (c : ℕ) (s t : Scene) : Type 0 where
  scene : SceneKeeps k c t
  more : Longer s t

values_keep : (k : Place) (c : ℕ) (s : Scene) (from : ℕ) (o : Option ℕ) (i : ℕ) (xs : List tree.Name) → SceneKeeps k c s
    → IsListed s.shapes o → Declares k c s (declare_values s from o i xs)
values_keep k c s from o i [] h l = record { scene = h; more = longer_same s s refl }
values_keep k c s from None i (x ∷ xs) h l =
    let one = keeps_declared x from entry.Bad h tt in
    let g = values_keep k c (declare_name s x from entry.Bad) from None (i + 1) xs one tt in
    record { scene = g.scene; more = longer_twice (longer_declared s x from entry.Bad) g.more }
values_keep k c s from (Some shape) i (x ∷ xs) h l =
    let one = keeps_declared x from (entry.Constant (shape_id shape) (pos i)) h l in
    let long = longer_declared s x from (entry.Constant (shape_id shape) (pos i)) in
    let simple : structured_in (declare_name s x from (entry.Constant (shape_id shape) (pos i))).shapes shape ≡ false =
    subst (λ t. structured_in t shape ≡ false) (sym long.is) (simple_still s.shapes long.tail shape l) in
    let g = values_keep k c (declare_name s x from (entry.Constant (shape_id shape) (pos i))) from (Some shape) (i + 1) xs one simple in
    record { scene = g.scene; more = longer_twice long g.more }

listed_keep : (k : Place) (c : ℕ) (s : Scene) (names : List tree.Name) (from : ℕ) → 0 < length names → SceneKeeps k c s
    → ReadKeeps k c s IsFormed (read_listed s names from)
listed_keep k c s names from some h = by (all_first s names)
  where
    large : ReadKeeps k c s IsFormed (listed_in [] from names (s, too_large))
    large = let g = values_keep k c s from None 0 names h tt in record { scene = g.scene; more = g.more; value = when_some too_large tt }

    made : ReadKeeps k c s IsFormed (listed_in [] from names
        (record s { shapes = s.shapes ++ listed (length names) ∷ [] }, formed (length s.shapes)))
    made =
        let t = record s { shapes = s.shapes ++ listed (length names) ∷ [] } in
        let one : SceneKeeps k c t = keeps_shapes (listed (length names) ∷ []) h (listed_keeps s.shapes (length names) h.table some) in
        let simple : structured_in t.shapes (length s.shapes) ≡ false =
        ap (λ o. not (is_some o)) (last_range s.shapes (listed (length names))) in
        let g = values_keep k c t from (Some (length s.shapes)) 0 names one simple in
        let first : Longer s t = record { tail = listed (length names) ∷ []; is = refl } in
        let there : length s.shapes < length (declare_values t from (Some (length s.shapes)) 0 names).shapes =
        omega (
          arith,
          ap (λ (x : List PlainShape). length x) g.more.is,
          length-append t.shapes g.more.tail,
          length-append s.shapes (listed (length names) ∷ []),
        ) in
        record { scene = g.scene; more = longer_twice first g.more; value = when_some (formed (length s.shapes)) there }

    add : (b : Bool) → ReadKeeps k c s IsFormed
        (listed_in [] from names (if_true {A = Scene × ShapeOrLimit} b (λ u. (s, too_large))
        (λ u. (record s { shapes = s.shapes ++ listed (length names) ∷ [] }, formed (length s.shapes)))))
    add true = large
    add false = made

    by : (b : Bool) → ReadKeeps k c s IsFormed
        (if_true b (λ u. listed_in [] from names (add_shape s (listed (length names))))
        (λ u. record { faults = redeclared_all s names; scene = declare_values s from None 0 names; value = None }))
    by true = add (is_too_large s.shapes (listed (length names)))
    by false = let g = values_keep k c s from None 0 names h tt in record { scene = g.scene; more = g.more; value = when_none }

-- ---- constants

pub constant_keeps : (k : Place) (c : ℕ) (s : Scene) (e : tree.Expr) → SceneKeeps k c s → ReadKeeps k c s IsValue (read_constant s e)
constant_keeps k c s e h = record {
  scene = h;
  more = longer_same s s refl;
  value =
      when_weaker (expr_plainly (in_constant s) (keeps_simples h) 0 e) (λ x g. g);
}

-- ---- nodes

-- an index type
index_keeps : (k : Place) (c : ℕ) (s : Scene) (p : tree.PlainType) (r : Reading ShapeOrLimit) → ReadKeeps k c s IsFormed r
    → ReadKeeps k c s IsIndex (index_type_at p r)
index_keeps k c s p r h = keep_at k c s (tree.plain_node p) (index_type_rules r.scene) IsFormed IsIndex r h
    (λ f g q. by f (no_fault_alone (bad_index r.scene f) fault.IndexType q))
  where
    by : (f : ShapeOrLimit) → bad_index r.scene f ≡ false → IsIndex r.scene.shapes f
    by (formed a) q = or_right (nat_eq a 0) (is_structured r.scene a) q
    by too_large q = absurd (let bad : true ≡ false = q in cc)

abbrev IsWhole : List PlainShape → List ℕ × ShapeOrLimit → Type 0
IsWhole t p = AreIndices t p.0 × IsFormed t p.1

whole_keeps : (k : Place) (c : ℕ) (s : Scene) (n : ℕ) (r : Reading (List ℕ × ShapeOrLimit)) → ReadKeeps k c s IsWhole r
    → ReadKeeps k c s IsShape (reading_with number_in (reading_at n size_rules (reading_change rows_of r)))
whole_keeps k c s n r h =
    keep_with number_in k c s IsSized IsShape (reading_at n size_rules (reading_change rows_of r))
    (keep_at k c s n size_rules IsFormed IsSized (reading_change rows_of r)
    (keep_change rows_of k c s IsWhole IsFormed r h (λ p g. rows_change k c r.scene p.0 p.1 h.scene g.0 g.1))
    (λ f g q. by (reading_change rows_of r).scene.shapes f g (no_fault_alone (is_past f) fault.TooLarge q))) (λ t f g. g)
  where
    by : (t : List PlainShape) (f : ShapeOrLimit) → IsFormed t f → is_past f ≡ false → IsSized t f
    by t (formed a) g q = g
    by t too_large g q = absurd (let bad : true ≡ false = q in cc)

abbrev AreBounds : List PlainShape → Typing × Typing → Type 0
AreBounds t p = IsValue t p.0 × IsValue t p.1

abbrev InBounds : List PlainShape → Typing × Typing → Type 0
InBounds t p = IsValue t p.0 × (is_above p.0.constant p.1.constant ≡ false)

subrange_keeps : (k : Place) (c : ℕ) (s : Scene) (n : ℕ) (r : Reading (Typing × Typing)) → r.scene ≡ s → ReadKeeps k c s AreBounds r
    → ReadKeeps k c s IsFormed (reading_change subrange_of (reading_at n (subrange_rules s) r))
subrange_keeps k c s n r e h =
    keep_change subrange_of k c s InBounds IsFormed (reading_at n (subrange_rules s) r)
    (keep_at k c s n (subrange_rules s) AreBounds InBounds r h (λ p g q. (g.0, by p q)))
    (λ p g. sub_changes k c r.scene p.0.shape p.0.constant p.1.constant h.scene g.0 g.1)
  where
    by : (p : Typing × Typing) → subrange_rules s (Some p) ≡ [] → is_above p.0.constant p.1.constant ≡ false
    by p q =
        let two = no_fault (other_bounds s p) fault.TypeMismatch (when (no_subrange s p) fault.ConstRange) q in
        and_false (nat_eq (base s p.0.shape) (base s p.1.shape)) (is_above p.0.constant p.1.constant)
        (no_fault_alone (no_subrange s p) fault.ConstRange two.1)
        (not_false (nat_eq (base s p.0.shape) (base s p.1.shape)) two.0)

fields_there : (t : List PlainShape) (s : Scene) (xs : List tree.Name) (shape : ℕ) → shape < length t
    → FieldsThere t (fields_with s xs shape)
fields_there t s [] shape lt = tt
fields_there t s (x ∷ xs) shape lt = (lt, fields_there t s xs shape lt)

field_list_keeps : (k : Place) (c : ℕ) (s : Scene) (names : List tree.Name) (faults : List BrokenRule) (r : Reading ℕ)
    → ReadKeeps k c s IsShape r → ReadKeeps k c s FieldsThere (fields_of_type s names faults r)
field_list_keeps k c s names [] r h = record {
  scene = h.scene;
  more = h.more;
  value =
      when_map (fields_with s names) h.value (λ shape g. fields_there r.scene.shapes s names shape g);
}
field_list_keeps k c s names (b ∷ bs) r h = record { scene = h.scene; more = h.more; value = when_none }

-- ---- the walk

mutual
  unfolding read_type

  pub type_keeps : (k : Place) (c : ℕ) (s : Scene) (x : tree.TypeNode) → SceneKeeps k c s → ReadKeeps k c s IsShape (read_type s x)
  type_keeps k c s (tree.type_node n dims p) h =
      let a = arrays_keep k c s dims h in
      whole_keeps k c s n _ (keep_both k c s AreIndices IsFormed (read_arrays s dims) (read_plain (read_arrays s dims).scene p) indices_more
      a (plain_keeps k c (read_arrays s dims).scene p a.scene))

  arrays_keep : (k : Place) (c : ℕ) (s : Scene) (x : tree.Arrays) → SceneKeeps k c s → ReadKeeps k c s AreIndices (read_arrays s x)
  arrays_keep k c s tree.no_arrays h = keep_gives k c s AreIndices [] h tt
  arrays_keep k c s (tree.arrays n d rest) h =
      let a = dimensions_keep k c s d h in
      keep_with joined_indices k c s (λ t p. AreIndices t p.0 × AreIndices t p.1) AreIndices _
      (keep_both k c s AreIndices AreIndices (read_dimensions s d) (read_dimension_tail (read_dimensions s d).scene rest) indices_more a
      (dimension_tail_keeps k c (read_dimensions s d).scene rest a.scene))
      (λ t p g. each_of_append (λ i. structured_in t i ≡ false) p.0 p.1 g.0 g.1)

  dimension_tail_keeps : (k : Place) (c : ℕ) (s : Scene) (x : tree.DimensionTail) → SceneKeeps k c s
      → ReadKeeps k c s AreIndices (read_dimension_tail s x)
  dimension_tail_keeps k c s tree.no_dimensions h = keep_gives k c s AreIndices [] h tt
  dimension_tail_keeps k c s (tree.more_dimensions d rest) h =
      let a = dimensions_keep k c s d h in
      keep_with joined_indices k c s (λ t p. AreIndices t p.0 × AreIndices t p.1) AreIndices _
      (keep_both k c s AreIndices AreIndices (read_dimensions s d) (read_dimension_tail (read_dimensions s d).scene rest) indices_more a
      (dimension_tail_keeps k c (read_dimensions s d).scene rest a.scene))
      (λ t p g. each_of_append (λ i. structured_in t i ≡ false) p.0 p.1 g.0 g.1)

  dimensions_keep : (k : Place) (c : ℕ) (s : Scene) (x : tree.Dimensions) → SceneKeeps k c s
      → ReadKeeps k c s AreIndices (read_dimensions s x)
  dimensions_keep k c s (tree.dimensions p rest) h =
      let a = index_keeps k c s p (read_plain s p) (plain_keeps k c s p h) in
      keep_with cons_index k c s (λ t p. IsIndex t p.0 × AreIndices t p.1) AreIndices _
      (keep_both k c s IsIndex AreIndices (index_type_at p (read_plain s p)) (read_plains (read_plain s p).scene rest) index_more a
      (plains_keep k c (read_plain s p).scene rest a.scene))
      (λ t p g. (g.0, g.1))

  plains_keep : (k : Place) (c : ℕ) (s : Scene) (x : tree.PlainTail) → SceneKeeps k c s → ReadKeeps k c s AreIndices (read_plains s x)
  plains_keep k c s tree.no_plain h = keep_gives k c s AreIndices [] h tt
  plains_keep k c s (tree.more_plain p rest) h =
      let a = index_keeps k c s p (read_plain s p) (plain_keeps k c s p h) in
      keep_with cons_index k c s (λ t p. IsIndex t p.0 × AreIndices t p.1) AreIndices _
      (keep_both k c s IsIndex AreIndices (index_type_at p (read_plain s p)) (read_plains (read_plain s p).scene rest) index_more a
      (plains_keep k c (read_plain s p).scene rest a.scene))
      (λ t p g. (g.0, g.1))

  plain_keeps : (k : Place) (c : ℕ) (s : Scene) (x : tree.PlainType) → SceneKeeps k c s → ReadKeeps k c s IsFormed (read_plain s x)
  plain_keeps k c s (tree.type_name n name) h =
      keep_with formed k c s IsShape IsFormed (read_type_name s name) (name_keeps k c s name h) (λ t a g. g)
  plain_keeps k c s (tree.listed n names) h = listed_keep k c s (all_names names) (last_token names.first names.more + 2) (omega arith) h
  plain_keeps k c s (tree.subrange n low high) h =
      subrange_keeps k c s n (reading_both (read_constant s low) (read_constant s high)) refl
      (keep_both k c s IsValue IsValue (read_constant s low) (read_constant s high) value_more (constant_keeps k c s low h)
      (constant_keeps k c s high h))
  plain_keeps k c s (tree.record_type n first rest) h =
      let a = fields_keep k c s [] first h in
      let r = reading_with joined_fields (reading_both (read_fields s [] first)
      (read_field_tail (read_fields s [] first).scene (field_names first) rest)) in
      let all : ReadKeeps k c s FieldsThere r = keep_with joined_fields k c s (λ t p. FieldsThere t p.0 × FieldsThere t p.1) FieldsThere _
      (keep_both k c s FieldsThere FieldsThere (read_fields s [] first)
      (read_field_tail (read_fields s [] first).scene (field_names first) rest) fields_more a
      (field_tail_keeps k c (read_fields s [] first).scene (field_names first) rest a.scene))
      (λ t p g. each_of_append (λ (f : PlainField). f.shape < length t) p.0 p.1 g.0 g.1) in
      keep_change record_of k c s FieldsThere IsFormed r all (λ fs g. record_changes k c r.scene fs all.scene g)

  fields_keep : (k : Place) (c : ℕ) (s : Scene) (earlier : List tree.Name) (x : tree.FieldList) → SceneKeeps k c s
      → ReadKeeps k c s FieldsThere (read_fields s earlier x)
  fields_keep k c s earlier (tree.empty_fields n) h = keep_gives k c s FieldsThere [] h tt
  fields_keep k c s earlier (tree.fields n names t) h =
      field_list_keeps k c s (all_names names) (redeclared_fields s earlier (all_names names)) (read_type s t) (type_keeps k c s t h)

  field_tail_keeps : (k : Place) (c : ℕ) (s : Scene) (earlier : List tree.Name) (x : tree.FieldListTail) → SceneKeeps k c s
      → ReadKeeps k c s FieldsThere (read_field_tail s earlier x)
  field_tail_keeps k c s earlier tree.no_fields h = keep_gives k c s FieldsThere [] h tt
  field_tail_keeps k c s earlier (tree.more_fields x rest) h =
      let a = fields_keep k c s earlier x h in
      keep_with joined_fields k c s (λ t p. FieldsThere t p.0 × FieldsThere t p.1) FieldsThere _
      (keep_both k c s FieldsThere FieldsThere (read_fields s earlier x)
      (read_field_tail (read_fields s earlier x).scene (earlier ++ field_names x) rest) fields_more a
      (field_tail_keeps k c (read_fields s earlier x).scene (earlier ++ field_names x) rest a.scene))
      (λ t p g. each_of_append (λ (f : PlainField). f.shape < length t) p.0 p.1 g.0 g.1)
