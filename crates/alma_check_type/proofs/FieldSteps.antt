-- What is told of fields, name by name, is what the rules say of them.
use Rattle.std.proofs.Common.{◌≡◌, ℕ, List, [], ◌∷◌, ◌++◌, Option, None, Some, Bool, true, false, refl, sym, ap, subst, ◌∙◌, append_assoc}
use Rattle.std.proofs.Common.{append-nil, Vec, Global, Result, Ok, Err, cond, true≢false, length, get_or, drop, ◌+◌, ◌<◌, ◌≤◌}
use Rattle.std.specs.Prelude.{option_map, bytes_eq, is_some, ◌||◌, IfOk}
use Rattle.std.specs.Map.{lookup}
use Rattle.std.proofs.lemmas.List.{map-append, drop_all}
use Rattle.std.proofs.lemmas.Slice.Eq.{bytes_eq-Decides}
use Rattle.indexmap.specs.IndexMap.{insert_entry}
use Rattle.alma_base.specs.declared.fault.CheckFault.TheVariants as fault
use Rattle.alma_tree.specs.declared.leaf.Name.{Name}
use Rattle.alma_names.specs.Shapes.{PlainField, fields}
use Rattle.alma_scan.specs.Tokens.{Lexeme}
use Rattle.alma_rules.specs.Numbered as tree
use Rattle.alma_rules.specs.View.{view_name, names_of}
use Rattle.alma_rules.specs.Judgement.{BrokenRule, both_of, broken_at, if_unbroken, when}
use Rattle.alma_rules.specs.Scene.{Scene}
use Rattle.alma_rules.specs.Answers.{first}
use Rattle.alma_rules.specs.Types.{Reading, ShapeOrLimit, add_shape, is_field, redeclared_fields, fields_with, fields_of_type}
use Rattle.alma_rules.proofs.Exprs.{next_of}
use Rattle.alma_check_type.specs.Told.{Told, told, earlier, join, a_told}
use Rattle.alma_check_type.specs.Inner.Tables.{field_view, fields_view}
use Rattle.alma_check_type.specs.Inner.Fields.{text_in, among, Knows, ToldFields, unless_bad, field_at, field_as, with_field, with_fields}
use Rattle.alma_check_type.specs.Inner.Fields.{begun, shape_or_zero, shape_fields, join_fields, told_list, told_on, told_record}
use Rattle.alma_check_type.proofs.BlockSteps.{inserted}
use Rattle.alma_check_type.proofs.Tells.{first_joined, earlier_none, earlier_assoc, told_as}

-- ---- texts

same_bytes : (a b : List ℕ) → bytes_eq a b ≡ true → a ≡ b
same_bytes a b h = (bytes_eq-Decides a b).0 h

equal_bytes : (a b : List ℕ) → a ≡ b → bytes_eq b a ≡ true
equal_bytes a b h = (bytes_eq-Decides b a).1 (sym h)

-- the test does not ask which of two texts comes first
pub bytes_turn : (a b : List ℕ) → bytes_eq a b ≡ bytes_eq b a
bytes_turn a b = go (bytes_eq a b) (bytes_eq b a) refl refl
  where
    go : (x y : Bool) → bytes_eq a b ≡ x → bytes_eq b a ≡ y → x ≡ y
    go true true p q = refl
    go false false p q = refl
    go true false p q = absurd (true≢false (sym (equal_bytes a b (same_bytes a b p)) ∙ q))
    go false true p q = absurd (true≢false (sym (equal_bytes b a (same_bytes b a q)) ∙ p))

or_false : (b : Bool) → (b || false) ≡ b
or_false true = refl
or_false false = refl

or_three : (a b c : Bool) → (a || (b || c)) ≡ ((a || b) || c)
or_three true b c = refl
or_three false b c = refl

-- ---- names among others

among_more : (tokens : List Lexeme) (text : List ℕ) (ys : List tree.Name) (x : tree.Name)
    → among tokens text (ys ++ x ∷ []) ≡ (among tokens text ys || bytes_eq (text_in tokens x.token) text)
among_more tokens text [] x = or_false (bytes_eq (text_in tokens x.token) text)
among_more tokens text (y ∷ ys) x =
    ap (λ b. bytes_eq (text_in tokens y.token) text || b) (among_more tokens text ys x)
    ∙ or_three (bytes_eq (text_in tokens y.token) text) (among tokens text ys) (bytes_eq (text_in tokens x.token) text)

is_field_among : (s : Scene) (x : tree.Name) (ys : List tree.Name) → is_field s x ys ≡ among s.tokens (text_in s.tokens x.token) ys
is_field_among s x [] = refl
is_field_among s x (y ∷ ys) = ap (λ b. bytes_eq (text_in s.tokens y.token) (text_in s.tokens x.token) || b) (is_field_among s x ys)

-- ---- the map of names

pub knows_nothing : (tokens : List Lexeme) (es : List (Vec ℕ Global × ℕ)) → es ≡ [] → Knows tokens es []
unfolding Knows
knows_nothing tokens es h text = rw h refl

looked_more : (test : Vec ℕ Global → Bool) (es : List (Vec ℕ Global × ℕ)) (e : Vec ℕ Global × ℕ)
    → is_some (lookup test (es ++ e ∷ [])) ≡ (is_some (lookup test es) || test e.0)
looked_more test [] e = go (test e.0)
  where
    go : (b : Bool) → is_some (cond b (Some e.1) None) ≡ (false || b)
    go true = refl
    go false = refl
looked_more test (d ∷ ds) e = go (test d.0) (looked_more test ds e)
  where
    go : (b : Bool) → is_some (lookup test (ds ++ e ∷ [])) ≡ (is_some (lookup test ds) || test e.0)
        → is_some (cond b (Some d.1) (lookup test (ds ++ e ∷ []))) ≡ (is_some (cond b (Some d.1) (lookup test ds)) || test e.0)
    go true f = refl
    go false f = f

-- one name more
pub knows_more : (tokens : List Lexeme) (es new : List (Vec ℕ Global × ℕ)) (before : List tree.Name) (x : tree.Name) (key : Vec ℕ Global)
    (shape : ℕ) → Knows tokens es before
    → key.items ≡ text_in tokens x.token → new ≡ es ++ (key, shape) ∷ [] → Knows tokens new (before ++ x ∷ [])
unfolding Knows
knows_more tokens es new before x key shape k is n text =
    rw n (looked_more (λ i. bytes_eq text i.items) es (key, shape)
    ∙ ap (λ b. b || bytes_eq text key.items) (k text)
    ∙ ap (λ b. among tokens text before || b) (bytes_turn text key.items ∙ ap (λ i. bytes_eq i text) is)
    ∙ sym (among_more tokens text before x))

-- a name that is there already
pub knows_same : (tokens : List Lexeme) (es : List (Vec ℕ Global × ℕ)) (before : List tree.Name) (x : tree.Name) → Knows tokens es before
    → among tokens (text_in tokens x.token) before ≡ true → Knows tokens es (before ++ x ∷ [])
unfolding Knows
knows_same tokens es before x k there text = k text
    ∙ sym (among_more tokens text before x ∙ go (bytes_eq (text_in tokens x.token) text) refl)
  where
    or_true : (b : Bool) → (b || true) ≡ true
    or_true true = refl
    or_true false = refl

    go : (b : Bool) → bytes_eq (text_in tokens x.token) text ≡ b → (among tokens text before || b) ≡ among tokens text before
    go false e = or_false (among tokens text before)
    go true e = or_true (among tokens text before)
        ∙ sym (ap (λ i. among tokens i before) (sym (same_bytes (text_in tokens x.token) text e)) ∙ there)

-- ---- fields

abbrev pub a_fields : Option BrokenRule → Option (List PlainField) → ToldFields
a_fields f v = record { fault = f; value = v }

bad_more : (b : Bool) (fs : List PlainField) (x : PlainField)
    → unless_bad b (fs ++ x ∷ []) ≡ option_map (λ (l : List PlainField). l ++ x ∷ []) (unless_bad b fs)
bad_more true fs x = refl
bad_more false fs x = refl

-- ---- fields of one shape

module _ (s : Scene) (shape : ℕ) where
  field_fault : (b : Bool) (x : tree.Name) (t : ToldFields)
      → (field_as b s.tokens shape x t).fault ≡ earlier t.fault (first (broken_at x.node (when b fault.Redeclared)))
  field_fault true x t = refl
  field_fault false x t = sym (earlier_none t.fault)

  fields_fault : (before xs : List tree.Name) (t : ToldFields)
      → (with_fields s.tokens before shape xs t).fault ≡ earlier t.fault (first (redeclared_fields s before xs))
  fields_fault before [] t = sym (earlier_none t.fault)
  fields_fault before (x ∷ xs) t =
      fields_fault (before ++ x ∷ []) xs (with_field s.tokens before shape x t)
      ∙ ap (λ f. earlier f (first (redeclared_fields s (before ++ x ∷ []) xs)))
      (field_fault (among s.tokens (text_in s.tokens x.token) before) x t
      ∙ ap (λ b. earlier t.fault (first (broken_at x.node (when b fault.Redeclared)))) (sym (is_field_among s x before)))
      ∙ sym (earlier_assoc t.fault (first (broken_at x.node (when (is_field s x before) fault.Redeclared)))
      (first (redeclared_fields s (before ++ x ∷ []) xs)))
      ∙ ap (earlier t.fault) (sym
      (first_joined (broken_at x.node (when (is_field s x before) fault.Redeclared)) (redeclared_fields s (before ++ x ∷ []) xs)))

  field_lost : (b : Bool) (x : tree.Name) (t : ToldFields) → t.value ≡ None → (field_as b s.tokens shape x t).value ≡ None
  field_lost true x t h = refl
  field_lost false x t h = rw h refl

  fields_lost : (before xs : List tree.Name) (t : ToldFields) → t.value ≡ None → (with_fields s.tokens before shape xs t).value ≡ None
  fields_lost before [] t h = h
  fields_lost before (x ∷ xs) t h = fields_lost (before ++ x ∷ []) xs (with_field s.tokens before shape x t)
      (field_lost (among s.tokens (text_in s.tokens x.token) before) x t h)

  join_nothing : (v : Option (List PlainField)) → v ≡ option_map join (both_of v (Some []))
  join_nothing None = refl
  join_nothing (Some fs) = ap Some (sym (append-nil fs))

  join_none : (v : Option (List PlainField)) → option_map join (both_of v None) ≡ None
  join_none None = refl
  join_none (Some fs) = refl

  pushed_on : (v : Option (List PlainField)) (rest : List BrokenRule) (x : PlainField) (ys : List PlainField)
      → option_map join (both_of (option_map (λ (l : List PlainField). l ++ x ∷ []) v) (if_unbroken rest (Some ys))) ≡ option_map join
      (both_of v (if_unbroken rest (Some (x ∷ ys))))
  pushed_on None rest x ys = refl
  pushed_on (Some fs) [] x ys = ap Some (append_assoc fs (x ∷ []) ys)
  pushed_on (Some fs) (b ∷ bs) x ys = refl

  fields_value : (before xs : List tree.Name) (t : ToldFields)
      → (with_fields s.tokens before shape xs t).value ≡ option_map join
      (both_of t.value (if_unbroken (redeclared_fields s before xs) (Some (fields_with s xs shape))))
  fields_value before [] t = join_nothing t.value
  fields_value before (x ∷ xs) t = rw (is_field_among s x before)
      (go (among s.tokens (text_in s.tokens x.token) before) (fields_value (before ++ x ∷ []) xs))
    where
      rest : List BrokenRule
      rest = redeclared_fields s (before ++ x ∷ []) xs

      go : (b : Bool) → ((u : ToldFields) → (with_fields s.tokens (before ++ x ∷ []) shape xs u).value ≡ option_map join
          (both_of u.value (if_unbroken rest (Some (fields_with s xs shape)))))
          → (with_fields s.tokens (before ++ x ∷ []) shape xs (field_as b s.tokens shape x t)).value
          ≡ option_map join (both_of t.value
          (if_unbroken (broken_at x.node (when b fault.Redeclared) ++ rest) (Some (field_at s.tokens shape x ∷ fields_with s xs shape))))
      go true f = fields_lost (before ++ x ∷ []) xs (field_as true s.tokens shape x t) refl ∙ sym (join_none t.value)
      go false f = f (field_as false s.tokens shape x t) ∙ pushed_on t.value rest (field_at s.tokens shape x) (fields_with s xs shape)

begun_fault : (v : Option ℕ) (t : ToldFields) → (begun v t).fault ≡ t.fault
begun_fault None t = refl
begun_fault (Some shape) t = refl

unbroken_none : (bs : List BrokenRule) → if_unbroken {A = List PlainField} bs None ≡ None
unbroken_none [] = refl
unbroken_none (b ∷ bs) = refl

-- the fields of a list
pub fields_told : (s : Scene) (before names : List tree.Name) (t : ToldFields) (r : Reading ℕ)
    → told_on t (told (fields_of_type s names (redeclared_fields s before names) r)) ≡ told_list
    (join_fields (shape_fields s.tokens before r.value names t) (told r)) r.scene
fields_told s before names t r = told_as _ _ r.scene _ _ faults (go r.value)
  where
    twice : List BrokenRule
    twice = redeclared_fields s before names

    faults : earlier t.fault (first (twice ++ r.faults)) ≡ earlier
        (with_fields s.tokens before (shape_or_zero r.value) names (begun r.value t)).fault (first r.faults)
    faults =
        ap (earlier t.fault) (first_joined twice r.faults)
        ∙ earlier_assoc t.fault (first twice) (first r.faults)
        ∙ ap (λ f. earlier f (first r.faults)) (ap (λ f. earlier f (first twice)) (sym (begun_fault r.value t))
        ∙ sym (fields_fault s (shape_or_zero r.value) before names (begun r.value t)))

    go : (v : Option ℕ) → option_map join (both_of t.value (if_unbroken twice (option_map (fields_with s names) v)))
        ≡ (with_fields s.tokens before (shape_or_zero v) names (begun v t)).value
    go None = ap (λ w. option_map join (both_of t.value w)) (unbroken_none twice) ∙ join_none s 0 t.value
        ∙ sym (fields_lost s 0 before names (begun None t) refl)
    go (Some shape) = sym (fields_value s shape before names t)

-- ---- some names of a list are entered, and others are left

pub record Goes (tokens : List Lexeme) (shape : ℕ) (before all rest : List tree.Name) (from now : ToldFields)
    (es : List (Vec ℕ Global × ℕ)) : Type 0 where
  pub done : List tree.Name
  pub told : with_fields tokens before shape all from ≡ with_fields tokens done shape rest now
  pub knows : Knows tokens es done
  pub names : before ++ all ≡ done ++ rest

pub goes_begin : (tokens : List Lexeme) (shape : ℕ) (before all : List tree.Name) (t : ToldFields) (es : List (Vec ℕ Global × ℕ))
    → Knows tokens es before → Goes tokens shape before all all t t es
goes_begin tokens shape before all t es k = record { done = before; told = refl; knows = k; names = refl }

pub goes_more : (tokens : List Lexeme) (shape : ℕ) (before all : List tree.Name) (x : tree.Name) (rest : List tree.Name)
    (from now t : ToldFields) (es new : List (Vec ℕ Global × ℕ))
    → Goes tokens shape before all (x ∷ rest) from now es
    → ((done : List tree.Name) → Knows tokens es done → (t ≡ with_field tokens done shape x now) × Knows tokens new (done ++ x ∷ []))
    → Goes tokens shape before all rest from t new
goes_more tokens shape before all x rest from now t es new g h =
    let p : (t ≡ with_field tokens g.done shape x now) × Knows tokens new (g.done ++ x ∷ []) = h g.done g.knows in
    record {
      done = g.done ++ x ∷ [];
      told = g.told ∙ ap (λ u. with_fields tokens (g.done ++ x ∷ []) shape rest u) (sym p.0);
      knows = p.1;
      names = g.names ∙ sym (append_assoc g.done (x ∷ []) rest);
    }

pub goes_end : (tokens : List Lexeme) (shape : ℕ) (before all rest : List tree.Name) (from now : ToldFields) (es : List (Vec ℕ Global × ℕ))
    → rest ≡ []
    → Goes tokens shape before all rest from now es → (now ≡ with_fields tokens before shape all from) × Knows tokens es (before ++ all)
goes_end tokens shape before all [] from now es h g =
    (sym g.told, subst (λ ns. Knows tokens es ns) (sym (append-nil g.done) ∙ sym g.names) g.knows)
goes_end tokens shape before all (x ∷ rest) from now es h g = absurd (cc)

-- ---- calls

-- what a look-up of a name says
module _ (tokens : List Lexeme) (es : List (Vec ℕ Global × ℕ)) (before : List tree.Name) (token : ℕ) (text : List ℕ) where
  pub known_some : (v : ℕ) → Knows tokens es before → text ≡ text_in tokens token → Some v ≡ lookup (λ k. bytes_eq text k.items) es
      → true ≡ among tokens (text_in tokens token) before
  unfolding Knows
  known_some v k t h = ap is_some h ∙ k text ∙ ap (λ i. among tokens i before) t

  pub known_none : Knows tokens es before → text ≡ text_in tokens token → None ≡ lookup (λ k. bytes_eq text k.items) es
      → false ≡ among tokens (text_in tokens token) before
  unfolding Knows
  known_none k t h = ap is_some h ∙ k text ∙ ap (λ i. among tokens i before) t

field_is : (b : Bool) (tokens : List Lexeme) (before : List tree.Name) (shape : ℕ) (x : tree.Name) (t : ToldFields)
    → among tokens (text_in tokens x.token) before ≡ b
    → field_as b tokens shape x t ≡ with_field tokens before shape x t
field_is b tokens before shape x t h = ap (λ c. field_as c tokens shape x t) (sym h)

pub field_by_twice : (tokens : List Lexeme) (es new : List (Vec ℕ Global × ℕ)) (before : List tree.Name) (x : tree.Name) (shape : ℕ)
    (t u : ToldFields) → Knows tokens es before
    → among tokens (text_in tokens x.token) before ≡ true → u ≡ field_as true tokens shape x t → new ≡ es
    → (u ≡ with_field tokens before shape x t) × Knows tokens new (before ++ x ∷ [])
field_by_twice tokens es new before x shape t u k there h n = (
  h ∙ field_is true tokens before shape x t there,
  subst (λ ds. Knows tokens ds (before ++ x ∷ [])) (sym n) (knows_same tokens es before x k there),
)

pub field_by_once : {X E : Type 0} (view : X → ToldFields) (P : X → Type 0) (tokens : List Lexeme) (before : List tree.Name) (x : tree.Name)
    (shape : ℕ) (t : ToldFields) (r : Result X E)
    → among tokens (text_in tokens x.token) before ≡ false → IfOk r (λ y. (view y ≡ field_as false tokens shape x t) × P y)
    → IfOk r (λ y. (view y ≡ with_field tokens before shape x t) × P y)
field_by_once view P tokens before x shape t (Ok y) gone h = (h.0 ∙ field_is false tokens before shape x t gone, h.1)
field_by_once view P tokens before x shape t (Err e) gone h = tt

-- a name is entered
pub entered : (tokens : List Lexeme) (es new : List (Vec ℕ Global × ℕ)) (before : List tree.Name) (x : tree.Name) (key : Vec ℕ Global)
    (shape : ℕ) (f : Option BrokenRule) (b : Bool)
    → Knows tokens es before → among tokens (text_in tokens x.token) before ≡ false → key.items ≡ text_in tokens x.token
    → new ≡ insert_entry (λ i j. bytes_eq i.items j.items) es key shape
    → (a_fields f (unless_bad b (fields_view new)) ≡ field_as false tokens shape x (a_fields f (unless_bad b (fields_view es))))
    × Knows tokens new (before ++ x ∷ [])
unfolding Knows
entered tokens es new before x key shape f b k gone is n =
    let none : is_some (lookup (λ i. bytes_eq key.items i.items) es) ≡ false = k key.items ∙ ap (λ i. among tokens i before) is ∙ gone in
    let e : new ≡ es ++ (key, shape) ∷ [] = n ∙ inserted key shape es none in (
      rw e (ap (a_fields f) (ap (unless_bad b) (map-append field_view es ((key, shape) ∷ []))
          ∙ bad_more b (fields_view es) (field_view (key, shape))
          ∙ ap (λ i. option_map (λ (l : List PlainField). l ++ record { name = i; offset = 0; shape = shape } ∷ [])
          (unless_bad b (fields_view es))) is)),
      knows_more tokens es new before x key shape k is e,
    )

-- one name more of a list, and none
module _ (tokens : List Lexeme) (shape : ℕ) (before all : List tree.Name) (names : List Name) (k : ℕ) (from now : ToldFields)
    (es : List (Vec ℕ Global × ℕ)) where
  pub goes_next : (x : Name) (t : ToldFields) (new : List (Vec ℕ Global × ℕ)) → k < length names → x ≡ get_or names k x
      → Goes tokens shape before all (names_of (drop k names)) from now es
      → ((done : List tree.Name) → Knows tokens es done → (t ≡ with_field tokens done shape (view_name x) now)
      × Knows tokens new (done ++ view_name x ∷ []))
      → Goes tokens shape before all (names_of (drop (k + 1) names)) from t new
  goes_next x t new lt is g h =
      goes_more tokens shape before all (view_name x) (names_of (drop (k + 1) names)) from now t es new
      (subst (λ xs. Goes tokens shape before all (names_of xs) from now es) (next_of names k x lt is) g) h

  pub goes_stop : length names ≤ k → Goes tokens shape before all (names_of (drop k names)) from now es
      → (now ≡ with_fields tokens before shape all from) × Knows tokens es (before ++ all)
  goes_stop le g = goes_end tokens shape before all (names_of (drop k names)) from now es (ap names_of (drop_all k names le)) g

-- what a result holds
pub opened : {X E : Type 0} (P : X → Type 0) (r : Result X E) (x : X) → r ≡ Ok x → IfOk r P → P x
opened P r x h p = subst (λ (q : Result _ _). IfOk q P) h p

-- fields of one type behind others
pub fields_by : (i : Scene) (before : List tree.Name) (x : tree.Name) (more : List tree.Name) (v : Option ℕ) (n : ℕ)
    (o b f a r : ToldFields) (t : Told ℕ) (ea er : List (Vec ℕ Global × ℕ))
    → t.scene ≡ i → n ≡ shape_or_zero v → b ≡ begun v o → f ≡ with_field i.tokens before n x b
    → a ≡ with_fields i.tokens (before ++ x ∷ []) n more f → r ≡ join_fields a t → v ≡ t.value → er ≡ ea
    → Knows i.tokens ea ((before ++ x ∷ []) ++ more)
    → (told_list (join_fields (shape_fields t.scene.tokens before t.value (x ∷ more) o) t) t.scene ≡ told_list r i)
    × Knows i.tokens er (before ++ (x ∷ more))
fields_by i before x more v n o b f a r t ea er sc hn hb hf ha hr hv he k =
    let all : r ≡ join_fields (shape_fields i.tokens before t.value (x ∷ more) o) t =
    hr ∙ ap (λ u. join_fields u t) (
    ha ∙ ap (with_fields i.tokens (before ++ x ∷ []) n more) (hf ∙ ap (with_field i.tokens before n x) hb)
    ∙ ap (λ m. with_fields i.tokens (before ++ x ∷ []) m more (with_field i.tokens before m x (begun v o))) hn
    ∙ ap (λ w. with_fields i.tokens (before ++ x ∷ []) (shape_or_zero w) more (with_field i.tokens before (shape_or_zero w) x (begun w o)))
    hv) in (
      ap (λ (j : Scene). told_list (join_fields (shape_fields j.tokens before t.value (x ∷ more) o) t) j) sc
          ∙ ap (λ u. told_list u i) (sym all),
      subst (λ es. Knows i.tokens es (before ++ (x ∷ more))) (sym he)
          (subst (λ ns. Knows i.tokens ea ns) (append_assoc before (x ∷ []) more) k),
    )

-- a record of its fields
module _ (f : Option BrokenRule) (b : Bool) (fs : List PlainField) (s : Scene) (t : Told (List PlainField))
    (is : t ≡ told_list (a_fields f (unless_bad b fs)) s) where
  pub record_bad : b ≡ true → told_record t ≡ a_told f s None
  record_bad h = rw (is, h) refl

  pub record_fine : (p : Scene × ShapeOrLimit) → b ≡ false → p ≡ add_shape s (fields fs) → told_record t ≡ a_told f p.0 (Some p.1)
  record_fine p h e = rw (is, h, e) refl

pub knows_empty : (tokens : List Lexeme) (es : List (Vec ℕ Global × ℕ)) → length es ≡ 0 → Knows tokens es []
knows_empty tokens [] h = knows_nothing tokens [] refl
knows_empty tokens (e ∷ es) h = absurd (cc)
