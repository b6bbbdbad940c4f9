-- Two scenes of which the second has more names in its blocks, all visible later: a type's name means the same type in both.
use Rattle.std.proofs.Common.{◌≡◌, ℕ, suc, ◌+◌, ◌-◌, ◌<◌, ◌≤◌, Bool, true, false, List, [], ◌∷◌, ◌++◌, length, Option, None, Some, refl}
use Rattle.std.proofs.Common.{sym, ap, ◌∙◌, subst, arith}
use Rattle.std.specs.Prelude.{cond, not, nat_eq, nat_lt, nat_le, slice_get, option_map, option_and_then, position, bytes_eq, if◌then◌else◌}
use Rattle.std.specs.List.{AllByRecursion, prefix_len}
use Rattle.std.proofs.lemmas.Bool.{ltb-true, ltb-false, leb-true}
use Rattle.alma_names.specs.declared.block.Entry.{Entry}
use Rattle.alma_names.specs.declared.block.Entry.TheVariants as entry
use Rattle.alma_names.specs.Blocks.{DeclaredName, is_visible, visible_place, seen, entry_in}
use Rattle.alma_names.specs.Scopes.{Blocks, entries_of, or_else, visible_from, visible, entry_below, entry_at, level_of, with_declared}
use Rattle.alma_rules.specs.Numbered as tree
use Rattle.alma_rules.specs.Scene.{Scene, found, found_at, found_as, text_at, text_of, is_first, first_token, Returns}
use Rattle.alma_rules.specs.Types.{shape_in, declare_name}
use Rattle.alma_rules.specs.Decls.{with_text, texts_behind, with_texts, with_routine, with_routines, with_block, decl_routines, decls_names}
use Rattle.alma_resolved.proofs.Lookups.{seen_in, from_in}

-- the entry of a name that is visible in a block
abbrev entry_seen : List ℕ → ℕ → List DeclaredName → Option Entry
entry_seen name at [] = None
entry_seen name at (d ∷ b) = if bytes_eq name d.name then (if nat_le d.from at then Some d.entry else None) else entry_seen name at b

first_of : Option Entry → Option Entry → Option Entry
first_of (Some e) other = Some e
first_of None other = other

abbrev look_below : List ℕ → ℕ → List (List DeclaredName) → Option Entry
look_below name at [] = None
look_below name at (b ∷ bs) = first_of (look_below name at bs) (entry_seen name at b)

abbrev look : List ℕ → ℕ → Blocks → Option Entry
look name at s = first_of (entry_seen name at s.top) (look_below name at s.below)

position_cons : {X : Type 0} (p : X → Bool) (x : X) (xs : List X)
    → position p (x ∷ xs) ≡ (if p x then Some 0 else option_map suc (position p xs))
position_cons {X} p x xs = by (p x)
  where
    first : (d : Bool) → nat_lt 0 (suc (length xs)) ≡ d → cond {A = Option ℕ} d (Some 0) None ≡ Some 0
    first true e = refl
    first false e = absurd (omega (arith, ltb-false 0 (suc (length xs)) e))

    next : (k : ℕ) (d e : Bool) → nat_lt (1 + k) (suc (length xs)) ≡ d → nat_lt k (length xs) ≡ e
        → cond d (Some (1 + k)) None ≡ option_map suc (cond e (Some k) None)
    next k true true q r = let same : 1 + k ≡ suc k = omega arith in ap Some same
    next k false false q r = refl
    next k true false q r = absurd (omega (arith, ltb-true (1 + k) (suc (length xs)) q, ltb-false k (length xs) r))
    next k false true q r = absurd (omega (arith, ltb-false (1 + k) (suc (length xs)) q, ltb-true k (length xs) r))

    by : (c : Bool) → cond {A = Option ℕ} (nat_lt (cond {A = ℕ} (not c) (1 + prefix_len (λ y. not (p y)) xs) 0) (suc (length xs)))
        (Some (cond {A = ℕ} (not c) (1 + prefix_len (λ y. not (p y)) xs) 0)) None ≡ (if c then Some 0 else option_map suc (position p xs))
    by true = first (nat_lt 0 (suc (length xs))) refl
    by false = next (prefix_len (λ y. not (p y)) xs) (nat_lt (1 + prefix_len (λ y. not (p y)) xs) (suc (length xs)))
        (nat_lt (prefix_len (λ y. not (p y)) xs) (length xs)) refl refl

-- the entry at the place that is seen
seen_is : (name : List ℕ) (at : ℕ) (b : List DeclaredName)
    → option_map (λ i. entry_in (slice_get b i)) (seen name at b) ≡ entry_seen name at b
seen_is name at [] = refl
seen_is name at (d ∷ b) =
    ap (λ o. option_map (λ i. entry_in (slice_get (d ∷ b) i)) (option_and_then (visible_place at (d ∷ b)) o))
    (position_cons (λ x. bytes_eq name x.name) d b)
    ∙ by (bytes_eq name d.name) (position (λ x. bytes_eq name x.name) b) (seen_is name at b)
  where
    now : (c : Bool) → option_map (λ i. entry_in (slice_get (d ∷ b) i)) (if c then Some 0 else None) ≡ (if c then Some d.entry else None)
    now true = refl
    now false = refl

    later : (i : ℕ) (c : Bool) → option_map (λ i. entry_in (slice_get (d ∷ b) i)) (if c then Some (suc i) else None) ≡ option_map
        (λ i. entry_in (slice_get b i)) (if c then Some i else None)
    later i true = refl
    later i false = refl

    by : (c : Bool) (o : Option ℕ) → option_map (λ i. entry_in (slice_get b i)) (option_and_then (visible_place at b) o) ≡ entry_seen name
        at b
        → option_map (λ i. entry_in (slice_get (d ∷ b) i))
        (option_and_then (visible_place at (d ∷ b)) (if c then Some 0 else option_map suc o))
        ≡ (if c then (if nat_le d.from at then Some d.entry else None) else entry_seen name at b)
    by true o h = now (nat_le d.from at)
    by false None h = h
    by false (Some i) h = later i (is_visible at (slice_get b i)) ∙ h

-- the entry of the number that is visible, over the blocks below
abbrev TellsBelow : List ℕ → ℕ → ℕ → List (List DeclaredName) → Option ℕ → Type 0
TellsBelow name at n bs None = look_below name at bs ≡ None
TellsBelow name at n bs (Some id) = (n ≤ id) × (look_below name at bs ≡ Some (entry_below (id - n) bs))

tells_below : (name : List ℕ) (at n : ℕ) (bs : List (List DeclaredName)) → TellsBelow name at n bs (visible_from name at n bs)
unfolding first_of
tells_below name at n [] = refl
tells_below name at n (b ∷ bs) = by (visible_from name at (n + length b) bs) (seen name at b) refl (tells_below name at (n + length b) bs)
    (seen_is name at b)
  where
    over : (id : ℕ) → n + length b ≤ id → (c : Bool) → nat_lt (id - n) (length b) ≡ c
        → entry_below (id - (n + length b)) bs ≡ (if c then entry_in (slice_get b (id - n)) else entry_below ((id - n) - length b) bs)
    over id le true e = absurd (omega (arith, le, ltb-true (id - n) (length b) e))
    over id le false e = let same : id - (n + length b) ≡ (id - n) - length b = omega (arith, le) in ap (λ i. entry_below i bs) same

    here : (i : ℕ) → i < length b → (c : Bool) → nat_lt ((n + i) - n) (length b) ≡ c
        → entry_in (slice_get b i) ≡ (if c then entry_in (slice_get b ((n + i) - n)) else entry_below (((n + i) - n) - length b) bs)
    here i lt true e = let same : i ≡ (n + i) - n = omega arith in ap (λ j. entry_in (slice_get b j)) same
    here i lt false e = absurd (omega (arith, lt, ltb-false ((n + i) - n) (length b) e))

    by : (o p : Option ℕ) → seen name at b ≡ p → TellsBelow name at (n + length b) bs o
        → option_map (λ i. entry_in (slice_get b i)) p ≡ entry_seen name at b
        → TellsBelow name at n (b ∷ bs) (or_else o (option_map (λ i. n + i) p))
    by (Some id) p q h g = (
      omega (arith, h.0),
      ap (λ o. first_of o (entry_seen name at b)) h.1
          ∙ ap Some (over id h.0 (nat_lt (id - n) (length b)) refl),
    )
    by None (Some i) q h g = (
      omega arith,
      ap (λ o. first_of o (entry_seen name at b)) h
          ∙ (sym g ∙ ap Some (here i (seen_in name at b i q) (nat_lt ((n + i) - n) (length b)) refl)),
    )
    by None None q h g = ap (λ o. first_of o (entry_seen name at b)) h ∙ sym g

abbrev Tells : List ℕ → ℕ → Blocks → Option ℕ → Type 0
Tells name at s None = look name at s ≡ None
Tells name at s (Some id) = look name at s ≡ Some (entry_at id s)

tells : (name : List ℕ) (at : ℕ) (s : Blocks) → Tells name at s (visible name at s)
unfolding first_of
tells name at s = by (seen name at s.top) (visible_from name at 0 s.below) refl refl (seen_is name at s.top) (tells_below name at 0 s.below)
  where
    top : (i : ℕ) (c : Bool) → nat_lt (entries_of s.below + i) (entries_of s.below) ≡ c
        → entry_in (slice_get s.top i) ≡ (if c then entry_below (entries_of s.below + i) s.below else entry_in
        (slice_get s.top ((entries_of s.below + i) - entries_of s.below)))
    top i true e = absurd (omega (arith, ltb-true (entries_of s.below + i) (entries_of s.below) e))
    top i false e = let same : i ≡ (entries_of s.below + i) - entries_of s.below = omega arith in
        ap (λ j. entry_in (slice_get s.top j)) same

    under : (x : ℕ) → x < entries_of s.below → (c : Bool) → nat_lt x (entries_of s.below) ≡ c
        → entry_below (x - 0) s.below ≡ (if c then entry_below x s.below else entry_in (slice_get s.top (x - entries_of s.below)))
    under x lt true e = let same : x - 0 ≡ x = omega arith in ap (λ j. entry_below j s.below) same
    under x lt false e = absurd (omega (arith, lt, ltb-false x (entries_of s.below) e))

    by : (o p : Option ℕ) → seen name at s.top ≡ o → visible_from name at 0 s.below ≡ p
        → option_map (λ i. entry_in (slice_get s.top i)) o ≡ entry_seen name at s.top → TellsBelow name at 0 s.below p
        → Tells name at s (or_else (option_map (λ i. entries_of s.below + i) o) p)
    by (Some i) p q r g h = ap (λ o. first_of o (look_below name at s.below)) (sym g)
        ∙ ap Some (top i (nat_lt (entries_of s.below + i) (entries_of s.below)) refl)
    by None (Some x) q r g h = ap (λ o. first_of o (look_below name at s.below)) (sym g)
        ∙ (h.1 ∙ ap Some (under x (omega (arith, from_in name at 0 s.below x r)) (nat_lt x (entries_of s.below)) refl))
    by None None q r g h = ap (λ o. first_of o (look_below name at s.below)) (sym g) ∙ h

-- the type that an entry is
abbrev type_of : Option Entry → Option ℕ
type_of None = None
type_of (Some (entry.Constant shape v)) = None
type_of (Some (entry.Named shape)) = Some shape.0
type_of (Some (entry.Variable shape a)) = None
type_of (Some (entry.Routine r)) = None
type_of (Some entry.Bad) = None

type_found : (s : Scene) (name : tree.Name) → shape_in (found s name) ≡ type_of (look (text_at s name.token) name.token s.blocks)
type_found s name = by (visible (text_at s name.token) name.token s.blocks) (tells (text_at s name.token) name.token s.blocks)
  where
    is_type : (n : ℕ) (e : Entry) → shape_in (found_as s n e) ≡ type_of (Some e)
    is_type n (entry.Constant shape v) = refl
    is_type n (entry.Named shape) = refl
    is_type n (entry.Variable shape a) = refl
    is_type n (entry.Routine r) = refl
    is_type n entry.Bad = refl

    by : (o : Option ℕ) → Tells (text_at s name.token) name.token s.blocks o
        → shape_in (found_at s o) ≡ type_of (look (text_at s name.token) name.token s.blocks)
    by None h = sym (ap type_of h)
    by (Some id) h = is_type (level_of id s.blocks) (entry_at id s.blocks) ∙ sym (ap type_of h)

-- ---- more names, visible later

-- the same name, visible from the same token, and the same xs a type
pub record Alike (a b : DeclaredName) : Type 0 where
  pub name : a.name ≡ b.name
  pub from : a.from ≡ b.from
  pub kind : type_of (Some a.entry) ≡ type_of (Some b.entry)

-- the second block has the names of the first, and then more that are visible from a token on
pub Extended : ℕ → List DeclaredName → List DeclaredName → Type 0
Extended lo [] ds = AllByRecursion (λ d. lo ≤ d.from) ds
Extended lo (a ∷ xs) [] = ⊥
Extended lo (a ∷ xs) (b ∷ ys) = Alike a b × Extended lo xs ys

pub AllExtended : ℕ → List (List DeclaredName) → List (List DeclaredName) → Type 0
AllExtended lo [] [] = Unit {0}
AllExtended lo [] (b ∷ ys) = ⊥
AllExtended lo (a ∷ xs) [] = ⊥
AllExtended lo (a ∷ xs) (b ∷ ys) = Extended lo a b × AllExtended lo xs ys

hidden : (lo : ℕ) (name : List ℕ) (at : ℕ) → at < lo → (ds : List DeclaredName) → AllByRecursion (λ d. lo ≤ d.from) ds
    → entry_seen name at ds ≡ None
hidden lo name at lt [] h = refl
hidden lo name at lt (d ∷ ds) h = by (bytes_eq name d.name) (nat_le d.from at) refl (hidden lo name at lt ds h.1)
  where
    by : (c v : Bool) → nat_le d.from at ≡ v → entry_seen name at ds ≡ None
        → (if c then (if v then Some d.entry else None) else entry_seen name at ds) ≡ None
    by true true e g = absurd (omega (arith, lt, h.0, leb-true d.from at e))
    by true false e g = refl
    by false v e g = g

-- nothing is seen in both, or the same type
abbrev SameSeen : Option Entry → Option Entry → Type 0
SameSeen None None = Unit {0}
SameSeen None (Some e) = ⊥
SameSeen (Some e) None = ⊥
SameSeen (Some e) (Some f) = type_of (Some e) ≡ type_of (Some f)

seen_alike : (lo : ℕ) (name : List ℕ) (at : ℕ) → at < lo → (xs ys : List DeclaredName) → Extended lo xs ys
    → SameSeen (entry_seen name at xs) (entry_seen name at ys)
unfolding Extended
seen_alike lo name at lt [] ds h = subst (λ o. SameSeen None o) (sym (hidden lo name at lt ds h)) tt
seen_alike lo name at lt (a ∷ xs) [] h = absurd h
seen_alike lo name at lt (a ∷ xs) (b ∷ ys) h =
    subst (λ n. SameSeen (entry_seen name at (a ∷ xs))
    (if bytes_eq name n then (if nat_le b.from at then Some b.entry else None) else entry_seen name at ys)) h.0.name
    (subst (λ f. SameSeen (entry_seen name at (a ∷ xs))
    (if bytes_eq name a.name then (if nat_le f at then Some b.entry else None) else entry_seen name at ys)) h.0.from
    (by (bytes_eq name a.name) (nat_le a.from at) (seen_alike lo name at lt xs ys h.1)))
  where
    by : (c v : Bool) → SameSeen (entry_seen name at xs) (entry_seen name at ys)
        → SameSeen (if c then (if v then Some a.entry else None) else entry_seen name at xs)
        (if c then (if v then Some b.entry else None) else entry_seen name at ys)
    by true true g = h.0.kind
    by true false g = tt
    by false v g = g

first_same : (a b c d : Option Entry) → SameSeen a b → SameSeen c d → SameSeen (first_of a c) (first_of b d)
unfolding first_of
first_same None None c d p q = q
first_same None (Some e) c d p q = absurd p
first_same (Some e) None c d p q = absurd p
first_same (Some e) (Some f) c d p q = p

below_same : (lo : ℕ) (name : List ℕ) (at : ℕ) → at < lo → (xs ys : List (List DeclaredName)) → AllExtended lo xs ys
    → SameSeen (look_below name at xs) (look_below name at ys)
unfolding AllExtended
below_same lo name at lt [] [] h = tt
below_same lo name at lt [] (b ∷ ys) h = absurd h
below_same lo name at lt (a ∷ xs) [] h = absurd h
below_same lo name at lt (a ∷ xs) (b ∷ ys) h =
    first_same (look_below name at xs) (look_below name at ys) (entry_seen name at a) (entry_seen name at b)
    (below_same lo name at lt xs ys h.1) (seen_alike lo name at lt a b h.0)

type_same : (a b : Option Entry) → SameSeen a b → type_of a ≡ type_of b
type_same None None h = refl
type_same None (Some e) h = absurd h
type_same (Some e) None h = absurd h
type_same (Some e) (Some f) h = h

-- the same names, and no more
pub Paired : List DeclaredName → List DeclaredName → Type 0
Paired [] [] = Unit {0}
Paired [] (b ∷ ys) = ⊥
Paired (a ∷ xs) [] = ⊥
Paired (a ∷ xs) (b ∷ ys) = Alike a b × Paired xs ys

paired_extended : (lo : ℕ) (xs ys : List DeclaredName) → Paired xs ys → Extended lo xs ys
unfolding Paired Extended
paired_extended lo [] [] h = tt
paired_extended lo [] (b ∷ ys) h = absurd h
paired_extended lo (a ∷ xs) [] h = absurd h
paired_extended lo (a ∷ xs) (b ∷ ys) h = (h.0, paired_extended lo xs ys h.1)

paired_more : (xs ys : List DeclaredName) (a b : DeclaredName) → Paired xs ys → Alike a b → Paired (xs ++ a ∷ []) (ys ++ b ∷ [])
unfolding Paired
paired_more [] [] a b h k = (k, tt)
paired_more [] (y ∷ ys) a b h k = absurd h
paired_more (x ∷ xs) [] a b h k = absurd h
paired_more (x ∷ xs) (y ∷ ys) a b h k = (h.0, paired_more xs ys a b h.1 k)

alike_self : (a : DeclaredName) → Alike a a
alike_self a = record { name = refl; from = refl; kind = refl }

-- a block and the same with more
pub extended_more : (lo : ℕ) (xs ds : List DeclaredName) → AllByRecursion (λ d. lo ≤ d.from) ds → Extended lo xs (xs ++ ds)
unfolding Extended
extended_more lo [] ds h = h
extended_more lo (x ∷ xs) ds h = (alike_self x, extended_more lo xs ds h)

pub extended_self : (lo : ℕ) (xs : List DeclaredName) → Extended lo xs xs
unfolding Extended
extended_self lo [] = tt
extended_self lo (x ∷ xs) = (alike_self x, extended_self lo xs)

pub all_extended_self : (lo : ℕ) (xs : List (List DeclaredName)) → AllExtended lo xs xs
unfolding AllExtended
all_extended_self lo [] = tt
all_extended_self lo (x ∷ xs) = (extended_self lo x, all_extended_self lo xs)

all_extended_push : (lo : ℕ) (xs ys : List (List DeclaredName)) (a b : List DeclaredName) → AllExtended lo xs ys → Extended lo a b
    → AllExtended lo (xs ++ a ∷ []) (ys ++ b ∷ [])
unfolding AllExtended
all_extended_push lo [] [] a b h k = (k, tt)
all_extended_push lo [] (y ∷ ys) a b h k = absurd h
all_extended_push lo (x ∷ xs) [] a b h k = absurd h
all_extended_push lo (x ∷ xs) (y ∷ ys) a b h k = (h.0, all_extended_push lo xs ys a b h.1 k)

-- two scenes of one source: blocks round the innermost have more names, visible from a token on, and the innermost the same
pub record Later (lo : ℕ) (s t : Scene) : Type 0 where
  pub tokens : s.tokens ≡ t.tokens
  pub declares : s.declares ≡ t.declares
  pub below : AllExtended lo s.blocks.below t.blocks.below
  pub top : Paired s.blocks.top t.blocks.top

-- the innermost has more, too
pub record Outer (lo : ℕ) (s t : Scene) : Type 0 where
  pub tokens : s.tokens ≡ t.tokens
  pub below : AllExtended lo s.blocks.below t.blocks.below
  pub top : Extended lo s.blocks.top t.blocks.top

same_text : (s t : Scene) (n : ℕ) → s.tokens ≡ t.tokens → text_at s n ≡ text_at t n
same_text s t n h = ap (λ ts. text_of (slice_get ts n)) h

-- a type's name before that token
pub later_type : (lo : ℕ) (s t : Scene) → Later lo s t → (name : tree.Name) → name.token < lo
    → shape_in (found s name) ≡ shape_in (found t name)
unfolding first_of
later_type lo s t h name lt =
    type_found s name ∙ (type_same _ _
    (first_same _ _ _ _ (seen_alike lo (text_at s name.token) name.token lt s.blocks.top t.blocks.top
    (paired_extended lo s.blocks.top t.blocks.top h.top))
    (below_same lo (text_at s name.token) name.token lt s.blocks.below t.blocks.below h.below))
    ∙ (ap (λ x. type_of (look x name.token t.blocks)) (same_text s t name.token h.tokens) ∙ sym (type_found t name)))

same_first : (s t : Scene) (name : tree.Name) → s.tokens ≡ t.tokens → s.declares ≡ t.declares → is_first s name ≡ is_first t name
same_first s t name h k =
    ap (λ x. nat_eq (first_token x s.declares name.token) name.token) (same_text s t name.token h)
    ∙ ap (λ x. nat_eq (first_token (text_at t name.token) x name.token) name.token) k

-- a name declared in both
pub later_declared : (lo : ℕ) (s t : Scene) (name : tree.Name) (from : ℕ) (a b : Entry) → type_of (Some a) ≡ type_of (Some b) → Later lo s t
    → Later lo (declare_name s name from a) (declare_name t name from b)
later_declared lo s t name from a b k h = by (is_first s name) (is_first t name) (same_first s t name h.tokens h.declares)
  where
    by : (c d : Bool) → c ≡ d → Later lo (if c then record s
        { blocks = with_declared s.blocks (record { name = text_at s name.token; from = from; entry = a }) } else s)
        (if d then record t { blocks = with_declared t.blocks (record { name = text_at t name.token; from = from; entry = b }) } else t)
    by true true e = record {
      tokens = h.tokens;
      declares = h.declares;
      below = h.below;
      top = paired_more s.blocks.top t.blocks.top (record { name = text_at s name.token; from = from; entry = a })
          (record { name = text_at t name.token; from = from; entry = b }) h.top
          (record { name = same_text s t name.token h.tokens; from = refl; kind = k });
    }
    by false false e = h
    by true false e = absurd (cc)
    by false true e = absurd (cc)

texts_same : (s t : Scene) (ds : List (List ℕ × ℕ)) (xs : List tree.Name) → s.tokens ≡ t.tokens
    → texts_behind s ds xs ≡ texts_behind t ds xs
texts_same s t ds [] h = refl
texts_same s t ds (x ∷ xs) h =
    ap (λ y. texts_behind s (with_text ds y x.token) xs) (same_text s t x.token h)
    ∙ texts_same s t (with_text ds (text_at t x.token) x.token) xs h

same_texts : (s t : Scene) (xs : List tree.Name) → s.tokens ≡ t.tokens → with_texts s xs ≡ with_texts t xs
same_texts s t xs h = texts_same s t [] xs h

routines_later : (lo : ℕ) (s t : Scene) (r : ℕ) (x : tree.DeclTail) → Later lo s t → Later lo (with_routines s r x) (with_routines t r x)
routines_later lo s t r tree.no_decl h = h
routines_later lo s t r (tree.more_decl d rest) h =
    routines_later lo (with_routine s r d) (with_routine t r d) (r + decl_routines d) rest (one d)
  where
    one : (d : tree.Decl) → Later lo (with_routine s r d) (with_routine t r d)
    one (tree.const_decl n xs) = h
    one (tree.type_decl n xs) = h
    one (tree.var_decl n xs) = h
    one (tree.procedure n name params result b end_name) = later_declared lo s t name 0 (entry.Routine r) (entry.Routine r) refl h

-- a new block in both
pub block_later : (lo : ℕ) (s t : Scene) (r : ℕ) (returns : Returns) (names : List tree.Name) (b : tree.Block) → Outer lo s t
    → Later lo (with_block s r returns names b) (with_block t r returns names b)
unfolding Paired
block_later lo s t r returns names (tree.block n decls body) h = routines_later lo _ _ (r + 1) decls (record {
  tokens = h.tokens;
  declares = same_texts s t (names ++ decls_names decls) h.tokens;
  below = all_extended_push lo s.blocks.below t.blocks.below s.blocks.top t.blocks.top h.below h.top;
  top = tt;
})

pub all_extended_length : (lo : ℕ) (xs ys : List (List DeclaredName)) → AllExtended lo xs ys → length xs ≡ length ys
unfolding AllExtended
all_extended_length lo [] [] h = refl
all_extended_length lo [] (y ∷ ys) h = absurd h
all_extended_length lo (x ∷ xs) [] h = absurd h
all_extended_length lo (x ∷ xs) (y ∷ ys) h = ap suc (all_extended_length lo xs ys h.1)
