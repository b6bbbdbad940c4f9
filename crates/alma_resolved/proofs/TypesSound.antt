-- Types: where no name is Bad and no rule is broken, each type has a shape, and no name that it declares is Bad.
use Rattle.std.proofs.Common.{◌≡◌, ℕ, ◌+◌, ◌≤◌, ◌⊎◌, inl, inr, ℤ, pos, Bool, true, false, List, [], ◌∷◌, ◌++◌, length, Option, None, Some}
use Rattle.std.proofs.Common.{refl, sym, ap, ◌∙◌, subst, arith}
use Rattle.std.specs.Prelude.{not, ◌&&◌, option_map}
use Rattle.std.specs.List.{AllByRecursion}
use Rattle.alma_base.specs.Choice.{if_true}
use Rattle.alma_base.specs.declared.fault.CheckFault.{CheckFault}
use Rattle.alma_base.specs.declared.fault.CheckFault.TheVariants as fault
use Rattle.alma_names.specs.declared.block.Entry.{Entry}
use Rattle.alma_names.specs.declared.block.Entry.TheVariants as entry
use Rattle.alma_names.specs.Shapes.{PlainShape, listed, sub, row, fields, is_too_large, placed_shape, cell_counts}
use Rattle.alma_names.specs.Blocks.{shape_id}
use Rattle.alma_ir.proofs.Each.{each_of_front, each_of_back}
use Rattle.alma_rules.specs.Numbered as tree
use Rattle.alma_rules.specs.Judgement.{BrokenRule, broken_at, unless, both_of, when}
use Rattle.alma_rules.specs.Scene.{Scene, found_as, base, is_first, in_constant}
use Rattle.alma_rules.specs.Parts.{Typing}
use Rattle.alma_rules.specs.Walk.{judge_expr}
use Rattle.alma_rules.specs.Types.{Reading, gives, reading_at, reading_both, reading_then, reading_with, with_change, reading_change}
use Rattle.alma_rules.specs.Types.{read_constant, declare_name, redeclared_all, type_name_rules, shape_in, read_type_name, ShapeOrLimit}
use Rattle.alma_rules.specs.Types.{formed}
use Rattle.alma_rules.specs.Types.{too_large, index_type_rules, subrange_rules, size_rules, add_shape, row_on, rows_on, rows_of, number_in}
use Rattle.alma_rules.specs.Types.{subrange_from, subrange_of, all_first, last_token, declare_values, listed_in, read_listed, all_names}
use Rattle.alma_rules.specs.Types.{redeclared_fields, fields_with, fields_of_type, joined_fields, record_of, field_names, joined_indices}
use Rattle.alma_rules.specs.Types.{cons_index, index_type_at, read_type, read_arrays, read_dimension_tail, read_dimensions, read_plains}
use Rattle.alma_rules.specs.Types.{read_plain, read_fields, read_field_tail, type_names, arrays_names, dimension_tail_names}
use Rattle.alma_rules.specs.Types.{dimensions_names, plains_names, plain_names, fields_names, field_tail_names}
use Rattle.alma_rules.proofs.Sound.{IsThere, TypedExpr, IsTyped, nil_left, nil_right, quiet, both_there, map_there, unless_there}
use Rattle.alma_rules.proofs.SoundWalk.{expr_typed}
use Rattle.alma_resolved.proofs.Lookups.{Each, found_each, NotBad, sound_constant, Grown, grown_same, grown_twice, grown_each}
use Rattle.alma_resolved.proofs.Lookups.{grown_declared, grown_shape, plain_not_bad}

-- names from a token on
abbrev pub From : ℕ → List tree.Name → Type 0
From lo xs = AllByRecursion (λ x. lo ≤ x.token) xs

pub from_front : (lo : ℕ) (xs ys : List tree.Name) → From lo (xs ++ ys) → From lo xs
from_front lo xs ys h = each_of_front (λ x. lo ≤ x.token) xs ys h

pub from_back : (lo : ℕ) (xs ys : List tree.Name) → From lo (xs ++ ys) → From lo ys
from_back lo xs ys h = each_of_back (λ x. lo ≤ x.token) xs ys h

pub last_from : (lo : ℕ) (x : tree.Name) (xs : List tree.Name) → From lo (x ∷ xs) → lo ≤ last_token x xs + 2
last_from lo x [] h = omega (arith, h.0)
last_from lo x (y ∷ ys) h = last_from lo y ys h.1

-- what is read has a value, in a scene that has only grown
pub record Good {A : Type 0} (lo : ℕ) (s : Scene) (r : Reading A) : Type 0 where
  pub grown : Grown lo s r.scene
  pub there : IsThere r.value

still_sound : {lo : ℕ} {s t : Scene} → Grown lo s t → Each NotBad s → Each NotBad t
still_sound g h = grown_each NotBad plain_not_bad g h

good_gives : {A : Type 0} (lo : ℕ) (s : Scene) (x : A) → Good lo s (gives s x)
good_gives lo s x = record { grown = grown_same lo s; there = tt }

good_with : {A B : Type 0} (f : A → B) {lo : ℕ} {s : Scene} {r : Reading A} → Good lo s r → Good lo s (reading_with f r)
good_with f {lo} {s} {r} g = record { grown = g.grown; there = map_there f r.value g.there }

good_then : {A B : Type 0} (lo : ℕ) (s : Scene) (a : Reading A) (b : Reading B) → Each NotBad s → (a.faults ≡ [] → Good lo s a)
    → (Each NotBad a.scene → b.faults ≡ [] → Good lo a.scene b) → (reading_both a b).faults ≡ [] → Good lo s (reading_both a b)
good_then lo s a b h f g e =
    let p = f (nil_left a.faults b.faults e) in
    let q = g (still_sound p.grown h) (nil_right a.faults b.faults e) in
    record { grown = grown_twice p.grown q.grown; there = both_there a.value b.value p.there q.there }

good_at : {A : Type 0} (lo : ℕ) (s : Scene) (n : ℕ) (rules : Option A → List CheckFault) (r : Reading A) → (r.faults ≡ [] → Good lo s r)
    → (reading_at n rules r).faults ≡ [] → Good lo s (reading_at n rules r)
good_at lo s n rules r f e =
    let p = f (nil_left r.faults (broken_at n (rules r.value)) e) in
    record { grown = p.grown; there = unless_there (rules r.value) r.value (quiet n r.faults (rules r.value) e) p.there }

changed_faults : {B : Type 0} (s : Scene) (fs : List BrokenRule) (o : Option (Scene × B)) → (with_change s fs o).faults ≡ fs
changed_faults s fs None = refl
changed_faults s fs (Some p) = refl

-- a value that changes the scene
good_change : {A B : Type 0} (f : Scene → A → Scene × B) (lo : ℕ) (s : Scene) (r : Reading A) → ((x : A) → Grown lo r.scene (f r.scene x).0)
    → Good lo s r → Good lo s (reading_change f r)
good_change {A} {B} f lo s r h g = by r.value g.there
  where
    by : (o : Option A) → IsThere o → Good lo s (with_change r.scene r.faults (option_map (f r.scene) o))
    by None t = absurd t
    by (Some x) t = record { grown = grown_twice g.grown (h x); there = tt }

-- ---- shapes

pub add_grown : (lo : ℕ) (s : Scene) (x : PlainShape) → Grown lo s (add_shape s x).0
add_grown lo s x = by (is_too_large s.shapes x)
  where
    by : (c : Bool) → Grown lo s (if_true {A = Scene × ShapeOrLimit} c (λ u. (s, too_large))
        (λ u. (record s { shapes = s.shapes ++ placed_shape (cell_counts s.shapes) x ∷ [] }, formed (length s.shapes)))).0
    by true = grown_same lo s
    by false = grown_shape lo s (placed_shape (cell_counts s.shapes) x)

row_grown : (lo : ℕ) (i : ℕ) (p : Scene × ShapeOrLimit) → Grown lo p.0 (row_on i p).0
row_grown lo i (s, formed e) = add_grown lo s (row i e)
row_grown lo i (s, too_large) = grown_same lo s

rows_grown : (lo : ℕ) (s : Scene) (is : List ℕ) (f : ShapeOrLimit) → Grown lo s (rows_on s is f).0
rows_grown lo s [] f = grown_same lo s
rows_grown lo s (i ∷ is) f = grown_twice (rows_grown lo s is f) (row_grown lo i (rows_on s is f))

row_large : (i : ℕ) (s : Scene) (p : Scene × ShapeOrLimit) → p ≡ (s, too_large) → row_on i p ≡ (s, too_large)
row_large i s p e = ap (row_on i) e

rows_large : (s : Scene) (is : List ℕ) → rows_on s is too_large ≡ (s, too_large)
rows_large s [] = refl
rows_large s (i ∷ is) = row_large i s (rows_on s is too_large) (rows_large s is)

subrange_grown : (lo : ℕ) (s : Scene) (p : Typing × Typing) → Grown lo s (subrange_of s p).0
subrange_grown lo s p = by p.0.constant p.1.constant
  where
    by : (a b : Option ℤ) → Grown lo s (subrange_from s (base s p.0.shape) a b).0
    by (Some a) (Some b) = add_grown lo s (sub (base s p.0.shape) (record { low = a; high = b }))
    by (Some a) None = grown_same lo s
    by None b = grown_same lo s

-- ---- names of types, and enumerations

pub type_name_good : (lo : ℕ) (s : Scene) → Each NotBad s → (name : tree.Name) → (read_type_name s name).faults ≡ []
    → Good lo s (read_type_name s name)
type_name_good lo s h name e = record {
  grown = grown_same lo s;
  there =
      found_each NotBad (λ f. broken_at name.node (type_name_rules f (shape_in f)) ≡ []
      → IsThere (unless (type_name_rules f (shape_in f)) (shape_in f))) s h (λ q. absurd (cc)) by name e;
}
  where
    by : (n : ℕ) (x : Entry) → NotBad n x → broken_at name.node (type_name_rules (found_as s n x) (shape_in (found_as s n x))) ≡ []
        → IsThere (unless (type_name_rules (found_as s n x) (shape_in (found_as s n x))) (shape_in (found_as s n x)))
    by n (entry.Constant shape v) k q = absurd (cc)
    by n (entry.Named shape) k q = tt
    by n (entry.Variable shape a) k q = absurd (cc)
    by n (entry.Routine r) k q = absurd (cc)
    by n entry.Bad k q = absurd k

values_grown : (lo : ℕ) (s : Scene) (from shape i : ℕ) (xs : List tree.Name) → lo ≤ from
    → Grown lo s (declare_values s from (Some shape) i xs)
values_grown lo s from shape i [] le = grown_same lo s
values_grown lo s from shape i (x ∷ xs) le =
    grown_twice (grown_declared s x from (entry.Constant (shape_id shape) (pos i)) tt le)
    (values_grown lo (declare_name s x from (entry.Constant (shape_id shape) (pos i))) from shape (i + 1) xs le)

not_first : (s : Scene) (xs : List tree.Name) → all_first s xs ≡ false → redeclared_all s xs ≡ [] → ⊥
not_first s [] e q = absurd (let bad : true ≡ false = e in cc)
not_first s (x ∷ xs) e q = by (is_first s x) refl e q (not_first s xs)
  where
    by : (c : Bool) → is_first s x ≡ c → (c && all_first s xs) ≡ false
        → broken_at x.node (when (not c) fault.Redeclared) ++ redeclared_all s xs ≡ []
        → (all_first s xs ≡ false → redeclared_all s xs ≡ [] → ⊥) → ⊥
    by true i e q f = f e q
    by false i e q f = absurd (cc)

-- an enumeration, which may be past a limit
abbrev pub GoodOrLarge : ℕ → Scene → Reading ShapeOrLimit → Type 0
GoodOrLarge lo s r = (r.value ≡ Some too_large) ⊎ Good lo s r

listed_good : (lo : ℕ) (s : Scene) (names : List tree.Name) (from : ℕ) → lo ≤ from → (read_listed s names from).faults ≡ []
    → GoodOrLarge lo s (read_listed s names from)
listed_good lo s names from le e = by (all_first s names) refl e
  where
    made : (p : Scene × ShapeOrLimit) → Grown lo s p.0 → GoodOrLarge lo s (listed_in [] from names p)
    made (t, formed shape) g = inr (record { grown = grown_twice g (values_grown lo t from shape 0 names le); there = tt })
    made (t, too_large) g = inl refl

    by : (c : Bool) → all_first s names ≡ c
        → (if_true c (λ u. listed_in [] from names (add_shape s (listed (length names))))
        (λ u. record { faults = redeclared_all s names; scene = declare_values s from None 0 names; value = None })).faults ≡ []
        → GoodOrLarge lo s (if_true c (λ u. listed_in [] from names (add_shape s (listed (length names))))
        (λ u. record { faults = redeclared_all s names; scene = declare_values s from None 0 names; value = None }))
    by true i e = made (add_shape s (listed (length names))) (add_grown lo s (listed (length names)))
    by false i e = absurd (not_first s names i e)

-- an index type past a limit breaks a rule
index_good : (lo : ℕ) (s : Scene) (p : tree.PlainType) (r : Reading ShapeOrLimit) → (r.faults ≡ [] → GoodOrLarge lo s r)
    → (index_type_at p r).faults ≡ [] → Good lo s (index_type_at p r)
index_good lo s p r f e =
    let q : index_type_rules r.scene r.value ≡ [] = quiet (tree.plain_node p) r.faults (index_type_rules r.scene r.value) e in
    by (f (nil_left r.faults _ e)) q
  where
    by : GoodOrLarge lo s r → index_type_rules r.scene r.value ≡ [] → Good lo s (index_type_at p r)
    by (inl large) q = absurd (let bad : index_type_rules r.scene (Some too_large) ≡ [] =
        subst (λ v. index_type_rules r.scene v ≡ []) large q in cc)
    by (inr g) q = record { grown = g.grown; there = unless_there (index_type_rules r.scene r.value) r.value q g.there }

-- a whole type: the rows round a plain one
whole_good : (lo : ℕ) (s : Scene) (n : ℕ) (a : Reading (List ℕ)) (b : Reading ShapeOrLimit) → Each NotBad s → (a.faults ≡ [] → Good lo s a)
    → (Each NotBad a.scene → b.faults ≡ [] → GoodOrLarge lo a.scene b)
    → (reading_at n size_rules (reading_change rows_of (reading_both a b))).faults ≡ []
    → Good lo s (reading_with number_in (reading_at n size_rules (reading_change rows_of (reading_both a b))))
whole_good lo s n a b h f g e =
    let c : (reading_change rows_of (reading_both a b)).faults ≡ [] = nil_left (reading_change rows_of (reading_both a b)).faults _ e in
    let t : a.faults ++ b.faults ≡ [] = sym (changed_faults b.scene (a.faults ++ b.faults)
    (option_map (rows_of b.scene) (both_of a.value b.value))) ∙ c in
    let p = f (nil_left a.faults b.faults t) in
    by p (g (still_sound p.grown h) (nil_right a.faults b.faults t))
    (quiet n (reading_change rows_of (reading_both a b)).faults (size_rules (reading_change rows_of (reading_both a b)).value) e)
  where
    large : (v : Option (List ℕ)) (w : Option ShapeOrLimit) → IsThere v → w ≡ Some too_large
        → size_rules (with_change b.scene (a.faults ++ b.faults) (option_map (rows_of b.scene) (both_of v w))).value ≡ [] → ⊥
    large None w t e q = t
    large (Some is) w t e q =
        let one : size_rules (with_change b.scene (a.faults ++ b.faults)
        (option_map (rows_of b.scene) (both_of (Some is) (Some too_large)))).value ≡ [] =
        subst (λ x. size_rules (with_change b.scene (a.faults ++ b.faults) (option_map (rows_of b.scene) (both_of (Some is) x))).value ≡ [])
        e q in
        let two : size_rules (Some too_large) ≡ [] =
        subst (λ (y : Scene × ShapeOrLimit). size_rules (Some y.1) ≡ []) (rows_large b.scene is) one in
        absurd (cc)

    by : Good lo s a → GoodOrLarge lo a.scene b → size_rules (reading_change rows_of (reading_both a b)).value ≡ []
        → Good lo s (reading_with number_in (reading_at n size_rules (reading_change rows_of (reading_both a b))))
    by p (inl l) q = absurd (large a.value b.value p.there l q)
    by p (inr r) q =
        let both : Good lo s (reading_both a b) =
        record { grown = grown_twice p.grown r.grown; there = both_there a.value b.value p.there r.there } in
        let change : Good lo s (reading_change rows_of (reading_both a b)) =
        good_change rows_of lo s (reading_both a b) (λ x. rows_grown lo b.scene x.0 x.1) both in
        good_with number_in (record {
          grown = change.grown;
          there = unless_there (size_rules (reading_change rows_of (reading_both a b)).value)
              (reading_change rows_of (reading_both a b)).value q change.there;
        })

field_list_good : (lo : ℕ) (s : Scene) (names : List tree.Name) (faults : List BrokenRule) (t : Reading ℕ) → (t.faults ≡ [] → Good lo s t)
    → (fields_of_type s names faults t).faults ≡ [] → Good lo s (fields_of_type s names faults t)
field_list_good lo s names [] t f e = let g = f e in record { grown = g.grown; there = map_there (fields_with s names) t.value g.there }
field_list_good lo s names (b ∷ bs) t f e = absurd (cc)

-- ---- constants

pub typed_good : (s : Scene) → Each NotBad s → (e : tree.Expr) → (judge_expr (in_constant s) 0 e).faults ≡ []
    → IsTyped (in_constant s) (judge_expr (in_constant s) 0 e).value
unfolding TypedExpr
typed_good s h e q = expr_typed (in_constant s) (sound_constant s h) 0 e q

typed_there : (s : Scene) (v : Option Typing) → IsTyped s v → IsThere v
typed_there s None t = t
typed_there s (Some x) t = tt

pub constant_good : (lo : ℕ) (s : Scene) → Each NotBad s → (e : tree.Expr) → (read_constant s e).faults ≡ [] → Good lo s (read_constant s e)
constant_good lo s h e q = record {
  grown = grown_same lo s;
  there =
      typed_there (in_constant s) (judge_expr (in_constant s) 0 e).value (typed_good s h e q);
}

-- ---- the walk

mutual
  unfolding read_type type_names

  pub type_good : (lo : ℕ) (s : Scene) → Each NotBad s → (x : tree.TypeNode) → From lo (type_names x) → (read_type s x).faults ≡ []
      → Good lo s (read_type s x)
  type_good lo s h (tree.type_node n dims p) b e =
      whole_good lo s n (read_arrays s dims) (read_plain (read_arrays s dims).scene p) h
      (λ q. arrays_good lo s h dims (from_front lo _ _ b) q)
      (λ i q. plain_good lo (read_arrays s dims).scene i p (from_back lo (arrays_names dims) _ b) q) e

  arrays_good : (lo : ℕ) (s : Scene) → Each NotBad s → (x : tree.Arrays) → From lo (arrays_names x) → (read_arrays s x).faults ≡ []
      → Good lo s (read_arrays s x)
  arrays_good lo s h tree.no_arrays b e = good_gives lo s []
  arrays_good lo s h (tree.arrays n d rest) b e =
      good_with joined_indices (good_then lo s _ _ h (λ q. dimensions_good lo s h d (from_front lo _ _ b) q)
      (λ i q. dimension_tail_good lo _ i rest (from_back lo (dimensions_names d) _ b) q) e)

  dimension_tail_good : (lo : ℕ) (s : Scene) → Each NotBad s → (x : tree.DimensionTail) → From lo (dimension_tail_names x)
      → (read_dimension_tail s x).faults ≡ [] → Good lo s (read_dimension_tail s x)
  dimension_tail_good lo s h tree.no_dimensions b e = good_gives lo s []
  dimension_tail_good lo s h (tree.more_dimensions d rest) b e =
      good_with joined_indices (good_then lo s _ _ h (λ q. dimensions_good lo s h d (from_front lo _ _ b) q)
      (λ i q. dimension_tail_good lo _ i rest (from_back lo (dimensions_names d) _ b) q) e)

  dimensions_good : (lo : ℕ) (s : Scene) → Each NotBad s → (x : tree.Dimensions) → From lo (dimensions_names x)
      → (read_dimensions s x).faults ≡ [] → Good lo s (read_dimensions s x)
  dimensions_good lo s h (tree.dimensions p rest) b e =
      good_with cons_index (good_then lo s _ _ h
      (λ q. index_good lo s p (read_plain s p) (λ i. plain_good lo s h p (from_front lo _ _ b) i) q)
      (λ i q. plains_good lo _ i rest (from_back lo (plain_names p) _ b) q) e)

  plains_good : (lo : ℕ) (s : Scene) → Each NotBad s → (x : tree.PlainTail) → From lo (plains_names x) → (read_plains s x).faults ≡ []
      → Good lo s (read_plains s x)
  plains_good lo s h tree.no_plain b e = good_gives lo s []
  plains_good lo s h (tree.more_plain p rest) b e =
      good_with cons_index (good_then lo s _ _ h
      (λ q. index_good lo s p (read_plain s p) (λ i. plain_good lo s h p (from_front lo _ _ b) i) q)
      (λ i q. plains_good lo _ i rest (from_back lo (plain_names p) _ b) q) e)

  plain_good : (lo : ℕ) (s : Scene) → Each NotBad s → (x : tree.PlainType) → From lo (plain_names x) → (read_plain s x).faults ≡ []
      → GoodOrLarge lo s (read_plain s x)
  plain_good lo s h (tree.type_name n name) b e = inr (good_with formed (type_name_good lo s h name e))
  plain_good lo s h (tree.listed n names) b e =
      listed_good lo s (all_names names) (last_token names.first names.more + 2) (last_from lo names.first names.more b) e
  plain_good lo s h (tree.subrange n low high) b e =
      let c = sym (changed_faults s _ _) ∙ e in
      inr (good_change subrange_of lo s _ (λ x. subrange_grown lo s x)
      (good_at lo s n (subrange_rules s) (reading_then (read_constant s low) (λ i. read_constant i high))
      (λ q. good_then lo s (read_constant s low) (read_constant s high) h (λ i. constant_good lo s h low i)
      (λ j i. constant_good lo s j high i) q) c))
  plain_good lo s h (tree.record_type n first rest) b e =
      let c = sym (changed_faults _ _ _) ∙ e in
      inr (good_change record_of lo s _ (λ x. add_grown lo _ (fields x))
      (good_with joined_fields (good_then lo s (read_fields s [] first)
      (read_field_tail (read_fields s [] first).scene (field_names first) rest) h
      (λ q. fields_good lo s h [] first (from_front lo _ _ b) q)
      (λ i q. field_tail_good lo _ i (field_names first) rest (from_back lo (fields_names first) _ b) q) c)))

  fields_good : (lo : ℕ) (s : Scene) → Each NotBad s → (earlier : List tree.Name) → (x : tree.FieldList) → From lo (fields_names x)
      → (read_fields s earlier x).faults ≡ [] → Good lo s (read_fields s earlier x)
  fields_good lo s h earlier (tree.empty_fields n) b e = good_gives lo s []
  fields_good lo s h earlier (tree.fields n names t) b e =
      field_list_good lo s (all_names names) (redeclared_fields s earlier (all_names names)) (read_type s t) (λ q. type_good lo s h t b q) e

  field_tail_good : (lo : ℕ) (s : Scene) → Each NotBad s → (earlier : List tree.Name) → (x : tree.FieldListTail)
      → From lo (field_tail_names x) → (read_field_tail s earlier x).faults ≡ [] → Good lo s (read_field_tail s earlier x)
  field_tail_good lo s h earlier tree.no_fields b e = good_gives lo s []
  field_tail_good lo s h earlier (tree.more_fields x rest) b e =
      good_with joined_fields (good_then lo s _ _ h (λ q. fields_good lo s h earlier x (from_front lo _ _ b) q)
      (λ i q. field_tail_good lo _ i (earlier ++ field_names x) rest (from_back lo (fields_names x) _ b) q) e)
