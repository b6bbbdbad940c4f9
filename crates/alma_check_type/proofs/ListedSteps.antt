-- What is told of an enumeration, name by name.
use Rattle.std.proofs.Common.{◌≡◌, ℕ, suc, ◌+◌, ◌<◌, ◌≤◌, List, [], ◌∷◌, ◌++◌, Option, None, Some, Bool, true, false, length, get_or, drop}
use Rattle.std.proofs.Common.{Result, refl, sym, ap, subst, ◌∙◌, true≢false}
use Rattle.std.specs.Prelude.{not, ◌&&◌, IfOk}
use Rattle.std.proofs.lemmas.List.{drop_all}
use Rattle.alma_base.specs.Choice.{if_true}
use Rattle.alma_base.specs.declared.fault.CheckFault.TheVariants as fault
use Rattle.alma_tree.specs.declared.leaf.Name.{Name}
use Rattle.alma_names.specs.Shapes.{listed}
use Rattle.alma_rules.specs.Numbered as tree
use Rattle.alma_rules.specs.View.{view_name, names_of}
use Rattle.alma_rules.specs.Judgement.{BrokenRule, broken_at, when}
use Rattle.alma_rules.specs.Scene.{Scene, is_first}
use Rattle.alma_rules.specs.Answers.{first}
use Rattle.alma_rules.specs.Types.{redeclaration_rules, redeclared_all, all_first, last_token, declare_name, value_entry, declare_values}
use Rattle.alma_rules.specs.Types.{read_listed}
use Rattle.alma_rules.specs.Types.{listed_in, add_shape, ShapeOrLimit, formed, too_large}
use Rattle.alma_rules.proofs.Exprs.{next_of}
use Rattle.alma_check_type.specs.Told.{Told, told, a_told}
use Rattle.alma_check_type.specs.Inner.Tables.{shape_of_formed}

-- the token of the last of some names, or one before them
abbrev pub last_of : ℕ → List tree.Name → ℕ
last_of token [] = token
last_of token (x ∷ xs) = last_of x.token xs

-- ---- names that are declared earlier

pub twice_first : (s : Scene) (x : tree.Name) (xs : List tree.Name) → is_first s x ≡ false
    → first (broken_at x.node (redeclaration_rules s x)) ≡ first (redeclared_all s (x ∷ xs))
twice_first s x xs h = rw h refl

pub once_first : (s : Scene) (x : tree.Name) (xs : List tree.Name) → is_first s x ≡ true
    → first (redeclared_all s xs) ≡ first (redeclared_all s (x ∷ xs))
once_first s x xs h = rw h refl

module _ (s : Scene) (i : ℕ) (all : List Name) (x : Name) (lt : i < length all) (is : x ≡ get_or all i x) where
  pub twice_next : is_first s (view_name x) ≡ false
      → first (broken_at x.node (redeclaration_rules s (view_name x))) ≡ first (redeclared_all s (names_of (drop i all)))
  twice_next h = twice_first s (view_name x) (names_of (drop (i + 1) all)) h
      ∙ ap (λ xs. first (redeclared_all s (names_of xs))) (sym (next_of all i x lt is))

  pub once_next : is_first s (view_name x) ≡ true
      → first (redeclared_all s (names_of (drop (i + 1) all))) ≡ first (redeclared_all s (names_of (drop i all)))
  once_next h = once_first s (view_name x) (names_of (drop (i + 1) all)) h
      ∙ ap (λ xs. first (redeclared_all s (names_of xs))) (sym (next_of all i x lt is))

  pub last_next : (t : ℕ) → last_of t (names_of (drop i all)) ≡ last_of x.token (names_of (drop (i + 1) all))
  last_next t = ap (λ xs. last_of t (names_of xs)) (next_of all i x lt is)

  pub values_next : (from n m : ℕ) (shape : Option ℕ) (r : Scene) → r ≡ declare_name s (view_name x) from (value_entry shape n) → m ≡ n + 1
      → declare_values s from shape n (names_of (drop i all)) ≡ declare_values r from shape m (names_of (drop (i + 1) all))
  values_next from n m shape r h e =
      ap (λ xs. declare_values s from shape n (names_of xs)) (next_of all i x lt is)
      ∙ ap (λ j. declare_values j from shape (n + 1) (names_of (drop (i + 1) all))) (sym h)
      ∙ ap (λ k. declare_values r from shape k (names_of (drop (i + 1) all))) (sym e)

pub none_twice : (s : Scene) (i : ℕ) (all : List Name) → length all ≤ i → first (redeclared_all s (names_of (drop i all))) ≡ None
none_twice s i all h = ap (λ xs. first (redeclared_all s (names_of xs))) (drop_all i all h)

pub last_end : (i : ℕ) (all : List Name) (t : ℕ) → length all ≤ i → last_of t (names_of (drop i all)) ≡ t
last_end i all t h = ap (λ xs. last_of t (names_of xs)) (drop_all i all h)

pub last_begin : (x : tree.Name) (xs : List tree.Name) → last_token x xs ≡ last_of x.token xs
last_begin x [] = refl
last_begin x (y ∷ ys) = last_begin y ys

pub values_end : (s : Scene) (i : ℕ) (all : List Name) (from n : ℕ) (shape : Option ℕ) → length all ≤ i
    → declare_values s from shape n (names_of (drop i all)) ≡ s
values_end s i all from n shape h = ap (λ xs. declare_values s from shape n (names_of xs)) (drop_all i all h)

pub names_len : (xs : List Name) → length (names_of xs) ≡ length xs
names_len [] = refl
names_len (x ∷ xs) = ap suc (names_len xs)

-- ---- an enumeration

all_once : (s : Scene) (xs : List tree.Name) → first (redeclared_all s xs) ≡ None → all_first s xs ≡ true
all_once s [] h = refl
all_once s (x ∷ xs) h = go (is_first s x) h (all_once s xs)
  where
    go : (b : Bool) → first (broken_at x.node (when (not b) fault.Redeclared) ++ redeclared_all s xs) ≡ None
        → (first (redeclared_all s xs) ≡ None → all_first s xs ≡ true) → (b && all_first s xs) ≡ true
    go true h f = f h
    go false h f = absurd (cc)

some_twice : (s : Scene) (xs : List tree.Name) (b : BrokenRule) → first (redeclared_all s xs) ≡ Some b → all_first s xs ≡ false
some_twice s [] b h = absurd (cc)
some_twice s (x ∷ xs) b h = go (is_first s x) h (some_twice s xs b)
  where
    go : (c : Bool) → first (broken_at x.node (when (not c) fault.Redeclared) ++ redeclared_all s xs) ≡ Some b
        → (first (redeclared_all s xs) ≡ Some b → all_first s xs ≡ false) → (c && all_first s xs) ≡ false
    go true h f = f h
    go false h f = refl

module _ (s : Scene) (xs : List tree.Name) (from : ℕ) where
  pub listed_twice : (b : BrokenRule) → first (redeclared_all s xs) ≡ Some b
      → told (read_listed s xs from) ≡ a_told (Some b) (declare_values s from None 0 xs) None
  listed_twice b h = go (all_first s xs) (some_twice s xs b h)
    where
      go : (c : Bool) → c ≡ false
          → told (if_true c (λ _. listed_in [] from xs (add_shape s (listed (length xs))))
          (λ _. record { faults = redeclared_all s xs; scene = declare_values s from None 0 xs; value = None }))
          ≡ a_told (Some b) (declare_values s from None 0 xs) None
      go true e = absurd (true≢false e)
      go false e = ap (λ f. a_told f (declare_values s from None 0 xs) None) h

  listed_told : (p : Scene × ShapeOrLimit)
      → told (listed_in [] from xs p) ≡ a_told None (declare_values p.0 from (shape_of_formed p.1) 0 xs)
      (Some p.1)
  listed_told (i, formed shape) = refl
  listed_told (i, too_large) = refl

  pub listed_once : (p : Scene × ShapeOrLimit) → first (redeclared_all s xs) ≡ None → p ≡ add_shape s (listed (length xs))
      → told (read_listed s xs from) ≡ a_told None (declare_values p.0 from (shape_of_formed p.1) 0 xs) (Some p.1)
  listed_once p h e = go (all_first s xs) (all_once s xs h)
    where
      go : (c : Bool) → c ≡ true
          → told (if_true c (λ _. listed_in [] from xs (add_shape s (listed (length xs))))
          (λ _. record { faults = redeclared_all s xs; scene = declare_values s from None 0 xs; value = None }))
          ≡ a_told None (declare_values p.0 from (shape_of_formed p.1) 0 xs) (Some p.1)
      go true f = ap (λ q. told (listed_in [] from xs q)) (sym e) ∙ listed_told p
      go false f = absurd (true≢false (sym f))

-- ---- calls

pub listed_by_twice : (s j : Scene) (xs : List tree.Name) (from : ℕ) (b : BrokenRule) → Some b ≡ first (redeclared_all s xs)
    → j ≡ declare_values s from None 0 xs → told (read_listed s xs from) ≡ a_told (Some b) j None
listed_by_twice s j xs from b h e = listed_twice s xs from b (sym h) ∙ ap (λ i. a_told (Some b) i None) (sym e)

pub listed_by_once : (s i j : Scene) (xs : List tree.Name) (from n : ℕ) (f : ShapeOrLimit) (shape : Option ℕ)
    → None ≡ first (redeclared_all s xs)
    → n ≡ length xs → (i, f) ≡ add_shape s (listed n)
    → shape ≡ shape_of_formed f → j ≡ declare_values i from shape 0 xs → told (read_listed s xs from) ≡ a_told None j (Some f)
listed_by_once s i j xs from n f shape h len e is d =
    listed_once s xs from (i, f) (sym h) (e ∙ ap (λ k. add_shape s (listed k)) len)
    ∙ ap (λ k. a_told None k (Some f)) (ap (λ v. declare_values i from v 0 xs) (sym is) ∙ sym d)

pub listed_from : {X E : Type 0} (s : Scene) (xs : List tree.Name) (from k : ℕ) (f : X → Told ShapeOrLimit) (r : Result X E) → from ≡ k
    → IfOk r (λ x. told (read_listed s xs from) ≡ f x) → IfOk r (λ x. told (read_listed s xs k) ≡ f x)
listed_from s xs from k f r e h = subst (λ n. IfOk r (λ x. told (read_listed s xs n) ≡ f x)) e h

-- for tactics
pub ruleset lists = (
  once_first,
  twice_first,
  twice_next,
  once_next,
  none_twice,
  last_next,
  last_end,
  last_begin,
  values_next,
  values_end,
  names_len,
  listed_twice,
  listed_once,
)
