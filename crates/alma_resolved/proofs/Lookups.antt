-- Names in a scene: what holds of each entry of its blocks holds of what a name is found to be; and scenes with more declared.
use Rattle.std.proofs.Common.{◌≡◌, ℕ, zero, suc, ◌+◌, ◌-◌, ◌<◌, ◌≤◌, Bool, true, false, List, [], ◌∷◌, ◌++◌, length, Option, None, Some}
use Rattle.std.proofs.Common.{refl, sym, ap, ◌∙◌, subst, arith, append_assoc, append-nil}
use Rattle.std.specs.Prelude.{get_or, nat_lt, slice_get, option_map, option_and_then, if◌then◌else◌}
use Rattle.std.specs.List.{AllByRecursion}
use Rattle.std.proofs.lemmas.Option.{slice_get_within}
use Rattle.std.proofs.lemmas.Bool.{ltb-true, ltb-false}
use Rattle.alma_names.specs.declared.block.Entry.{Entry}
use Rattle.alma_names.specs.declared.block.Entry.TheVariants as entry
use Rattle.alma_names.specs.Shapes.{PlainShape}
use Rattle.alma_names.specs.Blocks.{DeclaredName, place, is_visible, visible_place, seen, entry_in}
use Rattle.alma_names.specs.Scopes.{Blocks, entries_of, with_declared, or_else, visible_from, visible, entry_below, entry_at, level_from}
use Rattle.alma_names.specs.Scopes.{level_of}
use Rattle.alma_ir.proofs.Each.{each_of_append, each_follows}
use Rattle.alma_rules.specs.Numbered as tree
use Rattle.alma_rules.specs.Scene.{Scene, Heading, Found, absent, routine, found, found_at, found_as, heading_of, in_constant, level}
use Rattle.alma_rules.specs.Scene.{text_at, is_first}
use Rattle.alma_rules.specs.Types.{declare_name}
use Rattle.alma_rules.proofs.Sound.{IsKnown, NoBad}

-- a fact of each entry, with the number of its block
unfoldable pub AllFrom : (ℕ → Entry → Type 0) → ℕ → List (List DeclaredName) → List DeclaredName → Type 0
AllFrom P n [] top = AllByRecursion (λ d. P n d.entry) top
AllFrom P n (b ∷ bs) top = AllByRecursion (λ d. P n d.entry) b × AllFrom P (n + 1) bs top

-- of each entry of a scene
abbrev pub Each : (ℕ → Entry → Type 0) → Scene → Type 0
Each P s = AllFrom P 0 s.blocks.below s.blocks.top

entry_there : (P : Entry → Type 0) (b : List DeclaredName) (i : ℕ) → AllByRecursion (λ d. P d.entry) b → i < length b
    → P (entry_in (slice_get b i))
entry_there P [] i h lt = absurd (omega (arith, lt))
entry_there P (d ∷ b) zero h lt = h.0
entry_there P (d ∷ b) (suc i) h lt = entry_there P b i h.1 (omega (arith, lt))

-- the entry of a number, and its block
in_range : (P : ℕ → Entry → Type 0) (n id : ℕ) (below : List (List DeclaredName)) (top : List DeclaredName) → AllFrom P n below top
    → id < entries_of below + length top
    → P (level_from id n below) (if nat_lt id (entries_of below) then entry_below id below else entry_in
    (slice_get top (id - entries_of below)))
unfolding AllFrom
in_range P n id [] top h lt = by (nat_lt id 0) refl
  where
    by : (c : Bool) → nat_lt id 0 ≡ c → P n (if c then entry_below id [] else entry_in (slice_get top (id - 0)))
    by true e = absurd (omega (arith, ltb-true id 0 e))
    by false e = let same : id - 0 ≡ id = omega arith in
        subst (λ i. P n (entry_in (slice_get top i))) (sym same) (entry_there (P n) top id h (omega (arith, lt)))
in_range P n id (b ∷ bs) top h lt = by (nat_lt id (length b)) refl
    (λ l. in_range P (n + 1) (id - length b) bs top h.1 (omega (arith, lt, l)))
  where
    front : id < length b → (c : Bool) → nat_lt id (length b + entries_of bs) ≡ c
        → P n (if c then entry_in (slice_get b id) else entry_in (slice_get top (id - (length b + entries_of bs))))
    front l true e = entry_there (P n) b id h.0 l
    front l false e = absurd (omega (arith, l, ltb-false id (length b + entries_of bs) e))

    back : (l : length b ≤ id) (c d : Bool) → nat_lt id (length b + entries_of bs) ≡ c → nat_lt (id - length b) (entries_of bs) ≡ d
        → P (level_from (id - length b) (n + 1) bs)
        (if d then entry_below (id - length b) bs else entry_in (slice_get top ((id - length b) - entries_of bs)))
        → P (level_from (id - length b) (n + 1) bs)
        (if c then entry_below (id - length b) bs else entry_in (slice_get top (id - (length b + entries_of bs))))
    back l true true e f g = g
    back l false false e f g = let same : (id - length b) - entries_of bs ≡ id - (length b + entries_of bs) = omega (arith, l) in
        subst (λ i. P (level_from (id - length b) (n + 1) bs) (entry_in (slice_get top i))) same g
    back l true false e f g = absurd (omega
        (arith, l, ltb-true id (length b + entries_of bs) e, ltb-false (id - length b) (entries_of bs) f))
    back l false true e f g = absurd (omega
        (arith, l, ltb-false id (length b + entries_of bs) e, ltb-true (id - length b) (entries_of bs) f))

    by : (c : Bool) → nat_lt id (length b) ≡ c
        → ((l : length b ≤ id) → P (level_from (id - length b) (n + 1) bs)
        (if nat_lt (id - length b) (entries_of bs) then entry_below (id - length b) bs else entry_in
        (slice_get top ((id - length b) - entries_of bs))))
        → P (if c then n else level_from (id - length b) (n + 1) bs)
        (if nat_lt id (length b + entries_of bs) then (if c then entry_in (slice_get b id) else entry_below (id - length b) bs)
        else entry_in (slice_get top (id - (length b + entries_of bs))))
    by true e rest = front (ltb-true id (length b) e) (nat_lt id (length b + entries_of bs)) refl
    by false e rest =
        let l : length b ≤ id = ltb-false id (length b) e in
        back l (nat_lt id (length b + entries_of bs)) (nat_lt (id - length b) (entries_of bs)) refl refl (rest l)

-- a place that is seen is one of the block
pub seen_in : (name : List ℕ) (at : ℕ) (b : List DeclaredName) (i : ℕ) → seen name at b ≡ Some i → i < length b
seen_in name at b i e = by (place name b) e
  where
    visible_in : (j : ℕ) (d : Option DeclaredName) → slice_get b j ≡ d → (if is_visible at d then Some j else None) ≡ Some i → i < length b
    visible_in j None q e = absurd (cc)
    visible_in j (Some d) q e = go (is_visible at (Some d)) e
      where
        go : (c : Bool) → (if c then Some j else None) ≡ Some i → i < length b
        go true e = let same : j ≡ i = cc in subst (λ x. x < length b) same (slice_get_within b j d q)
        go false e = absurd (cc)

    by : (o : Option ℕ) → option_and_then (visible_place at b) o ≡ Some i → i < length b
    by None e = absurd (cc)
    by (Some j) e = visible_in j (slice_get b j) refl e

pub from_in : (name : List ℕ) (at n : ℕ) (bs : List (List DeclaredName)) (id : ℕ) → visible_from name at n bs ≡ Some id
    → id < n + entries_of bs
from_in name at n [] id e = absurd (cc)
from_in name at n (b ∷ bs) id e = by (visible_from name at (n + length b) bs) (seen name at b) refl refl e
    (λ x q. from_in name at (n + length b) bs x q)
  where
    by : (o : Option ℕ) (p : Option ℕ) → visible_from name at (n + length b) bs ≡ o → seen name at b ≡ p
        → or_else o (option_map (λ i. n + i) p) ≡ Some id
        → ((x : ℕ) → visible_from name at (n + length b) bs ≡ Some x → x < n + length b + entries_of bs)
        → id < n + (length b + entries_of bs)
    by (Some x) p q r e f = let same : x ≡ id = cc in omega (arith, f x q, same)
    by None (Some i) q r e f = let same : n + i ≡ id = cc in omega (arith, seen_in name at b i r, same)
    by None None q r e f = absurd (cc)

visible_in : (name : List ℕ) (at : ℕ) (s : Blocks) (id : ℕ) → visible name at s ≡ Some id → id < entries_of s.below + length s.top
visible_in name at s id e = by (seen name at s.top) (visible_from name at 0 s.below) refl refl e
  where
    by : (o p : Option ℕ) → seen name at s.top ≡ o → visible_from name at 0 s.below ≡ p
        → or_else (option_map (λ i. entries_of s.below + i) o) p ≡ Some id → id < entries_of s.below + length s.top
    by (Some i) p q r e = let same : entries_of s.below + i ≡ id = cc in omega (arith, seen_in name at s.top i q, same)
    by None (Some x) q r e = let same : x ≡ id = cc in omega (arith, from_in name at 0 s.below x r, same)
    by None None q r e = absurd (cc)

-- what is found by a name
pub found_each : (P : ℕ → Entry → Type 0) (Q : Found → Type 0) (s : Scene) → Each P s → Q absent
    → ((n : ℕ) (e : Entry) → P n e → Q (found_as s n e)) → (name : tree.Name) → Q (found s name)
found_each P Q s h none f name = by (visible (text_at s name.token) name.token s.blocks) refl
  where
    by : (o : Option ℕ) → visible (text_at s name.token) name.token s.blocks ≡ o → Q (found_at s o)
    by None e = none
    by (Some id) e = f (level_of id s.blocks) (entry_at id s.blocks)
        (in_range P 0 id s.blocks.below s.blocks.top h (visible_in (text_at s name.token) name.token s.blocks id e))

-- ---- scenes with a new block, or with more declared

pub each_follows_from : (P Q : ℕ → Entry → Type 0) → ((n : ℕ) (e : Entry) → P n e → Q n e)
    → (n : ℕ) (below : List (List DeclaredName)) (top : List DeclaredName) → AllFrom P n below top → AllFrom Q n below top
unfolding AllFrom
each_follows_from P Q f n [] top h = each_follows (λ d. P n d.entry) (λ d. Q n d.entry) (λ d g. f n d.entry g) top h
each_follows_from P Q f n (b ∷ bs) top h =
    (each_follows (λ d. P n d.entry) (λ d. Q n d.entry) (λ d g. f n d.entry g) b h.0, each_follows_from P Q f (n + 1) bs top h.1)

pub each_new_block : (P : ℕ → Entry → Type 0) (n : ℕ) (below : List (List DeclaredName)) (top : List DeclaredName) → AllFrom P n below top
    → AllFrom P n (below ++ top ∷ []) []
unfolding AllFrom
each_new_block P n [] top h = (h, tt)
each_new_block P n (b ∷ bs) top h = (h.0, each_new_block P (n + 1) bs top h.1)

-- more entries on top, of which a fact holds in each block
pub each_more : (P : ℕ → Entry → Type 0) (n : ℕ) (below : List (List DeclaredName)) (top ds : List DeclaredName) → AllFrom P n below top
    → AllByRecursion (λ d. (m : ℕ) → P m d.entry) ds → AllFrom P n below (top ++ ds)
unfolding AllFrom
each_more P n [] top ds h g = each_of_append (λ d. P n d.entry) top ds h
    (each_follows (λ d. (m : ℕ) → P m d.entry) (λ d. P n d.entry) (λ d k. k n) ds g)
each_more P n (b ∷ bs) top ds h g = (h.0, each_more P (n + 1) bs top ds h.1 g)

-- ---- no entry is Bad

abbrev pub NotBad : ℕ → Entry → Type 0
NotBad n (entry.Constant shape v) = Unit {0}
NotBad n (entry.Named shape) = Unit {0}
NotBad n (entry.Variable shape a) = Unit {0}
NotBad n (entry.Routine r) = Unit {0}
NotBad n entry.Bad = ⊥

-- in a constant place no heading is needed
pub sound_constant : (s : Scene) → Each NotBad s → NoBad (in_constant s)
sound_constant s h = found_each NotBad (IsKnown (in_constant s)) (in_constant s) h tt by
  where
    headed : (r up : ℕ) (o : Option Heading) → IsKnown (in_constant s) (routine r up o)
    headed r up None = refl
    headed r up (Some x) = tt

    by : (n : ℕ) (e : Entry) → NotBad n e → IsKnown (in_constant s) (found_as (in_constant s) n e)
    by n (entry.Constant shape v) k = tt
    by n (entry.Named shape) k = tt
    by n (entry.Variable shape a) k = tt
    by n (entry.Routine r) k = headed r (level s + 1 - n) (heading_of s r)
    by n entry.Bad k = k

abbrev pub HeadingThere : Option Heading → Type 0
HeadingThere None = ⊥
HeadingThere (Some h) = Unit {0}

-- no entry is Bad, and each routine has its heading
abbrev pub Headed : List (Option Heading) → ℕ → Entry → Type 0
Headed hs n (entry.Constant shape v) = Unit {0}
Headed hs n (entry.Named shape) = Unit {0}
Headed hs n (entry.Variable shape a) = Unit {0}
Headed hs n (entry.Routine r) = HeadingThere (get_or hs r None)
Headed hs n entry.Bad = ⊥

pub sound_body : (s : Scene) → Each (Headed s.headings) s → NoBad s
sound_body s h = found_each (Headed s.headings) (IsKnown s) s h tt by
  where
    headed : (r up : ℕ) (o : Option Heading) → HeadingThere o → IsKnown s (routine r up o)
    headed r up None k = absurd k
    headed r up (Some x) k = tt

    by : (n : ℕ) (e : Entry) → Headed s.headings n e → IsKnown s (found_as s n e)
    by n (entry.Constant shape v) k = tt
    by n (entry.Named shape) k = tt
    by n (entry.Variable shape a) k = tt
    by n (entry.Routine r) k = headed r (level s + 1 - n) (heading_of s r) k
    by n entry.Bad k = k

-- ---- scenes that grow

-- neither Bad nor a routine
abbrev pub IsPlain : Entry → Type 0
IsPlain (entry.Constant shape v) = Unit {0}
IsPlain (entry.Named shape) = Unit {0}
IsPlain (entry.Variable shape a) = Unit {0}
IsPlain (entry.Routine r) = ⊥
IsPlain entry.Bad = ⊥

abbrev pub grown : Scene → List PlainShape → List DeclaredName → Scene
grown s u ds = record s { shapes = s.shapes ++ u; blocks = record { below = s.blocks.below; top = s.blocks.top ++ ds } }

-- a scene with more shapes, and with more names on top, visible from a token on, none of them Bad or a routine
pub record Grown (lo : ℕ) (s t : Scene) : Type 0 where
  pub shapes : List PlainShape
  pub names : List DeclaredName
  pub plain : AllByRecursion (λ d. IsPlain d.entry) names
  pub behind : AllByRecursion (λ d. lo ≤ d.from) names
  pub is : t ≡ grown s shapes names

pub grown_same : (lo : ℕ) (s : Scene) → Grown lo s s
grown_same lo s = record { shapes = []; names = []; plain = tt; behind = tt; is = same }
  where
    same : s ≡ grown s [] []
    same = rw (append-nil s.shapes, append-nil s.blocks.top) refl

pub grown_twice : {lo : ℕ} {s t u : Scene} → Grown lo s t → Grown lo t u → Grown lo s u
grown_twice {lo} {s} {t} {u} a b = record {
  shapes = a.shapes ++ b.shapes;
  names = a.names ++ b.names;
  plain = each_of_append (λ d. IsPlain d.entry) a.names b.names a.plain b.plain;
  behind = each_of_append (λ d. lo ≤ d.from) a.names b.names a.behind b.behind;
  is = b.is ∙ (ap (λ x. grown x b.shapes b.names) a.is ∙ again);
}
  where
    again : grown (grown s a.shapes a.names) b.shapes b.names ≡ grown s (a.shapes ++ b.shapes) (a.names ++ b.names)
    again = rw (append_assoc s.shapes a.shapes b.shapes, append_assoc s.blocks.top a.names b.names) refl

pub grown_each : (P : ℕ → Entry → Type 0) → ((n : ℕ) (e : Entry) → IsPlain e → P n e) → {lo : ℕ} {s t : Scene} → Grown lo s t → Each P s
    → Each P t
grown_each P f {lo} {s} {t} g h = subst (λ x. Each P x) (sym g.is)
    (each_more P 0 s.blocks.below s.blocks.top g.names h
    (each_follows (λ d. IsPlain d.entry) (λ d. (m : ℕ) → P m d.entry) (λ d k m. f m d.entry k) g.names g.plain))

pub plain_not_bad : (n : ℕ) (e : Entry) → IsPlain e → NotBad n e
plain_not_bad n (entry.Constant shape v) h = tt
plain_not_bad n (entry.Named shape) h = tt
plain_not_bad n (entry.Variable shape a) h = tt
plain_not_bad n (entry.Routine r) h = tt
plain_not_bad n entry.Bad h = h

-- a name is declared, or it is not the first of its name
pub grown_declared : {lo : ℕ} (s : Scene) (name : tree.Name) (from : ℕ) (e : Entry) → IsPlain e → lo ≤ from
    → Grown lo s (declare_name s name from e)
grown_declared {lo} s name from e h le = by (is_first s name)
  where
    by : (c : Bool) → Grown lo s (if c then record s
        { blocks = with_declared s.blocks (record { name = text_at s name.token; from = from; entry = e }) } else s)
    by true = record {
      shapes = [];
      names = record { name = text_at s name.token; from = from; entry = e } ∷ [];
      plain = (h, tt);
      behind =
          (le, tt);
      is = rw (append-nil s.shapes) refl;
    }
    by false = grown_same lo s

pub grown_shape : (lo : ℕ) (s : Scene) (x : PlainShape) → Grown lo s (record s { shapes = s.shapes ++ x ∷ [] })
grown_shape lo s x = record { shapes = x ∷ []; names = []; plain = tt; behind = tt; is = rw (append-nil s.blocks.top) refl }
