-- BrokenRule rules in order, by node and then by the order of CheckFault, between two nodes.
use Rattle.std.proofs.Common.{ℕ, suc, ◌+◌, ◌*◌, ◌<◌, ◌≤◌, ◌⊎◌, inl, inr, List, [], ◌∷◌, ◌++◌, Option, None, Some, arith}
use Rattle.std.specs.Prelude.{option_map, option_and_then}
use Rattle.alma_base.specs.declared.fault.CheckFault.{CheckFault}
use Rattle.alma_rules.specs.Judgement.{BrokenRule, broken_at, rank, unless}
use Rattle.alma_rules.proofs.Ranks.{InOrder, order_le}

-- the place of a broken rule in the order
abbrev pub key : BrokenRule → ℕ
key b = b.node * 32 + rank b.fault

-- the places rise, from lo on and below hi
unfoldable pub Keys : ℕ → ℕ → List BrokenRule → Type 0
Keys lo hi [] = lo ≤ hi
Keys lo hi (x ∷ xs) = (lo ≤ key x) × (key x < hi) × Keys (key x) hi xs

-- the broken rules are in order, at nodes from lo on and below hi
abbrev pub Within : ℕ → ℕ → List BrokenRule → Type 0
Within lo hi fs = Keys (lo * 32) (hi * 32) fs

keys_ordered : (lo hi : ℕ) (a : List BrokenRule) → Keys lo hi a → lo ≤ hi
unfolding Keys
keys_ordered lo hi [] h = h
keys_ordered lo hi (x ∷ xs) h = omega (arith, h.0, h.1)

keys_higher : (lo hi top : ℕ) (a : List BrokenRule) → Keys lo hi a → hi ≤ top → Keys lo top a
unfolding Keys
keys_higher lo hi top [] h le = omega arith
keys_higher lo hi top (x ∷ xs) h le = (h.0, omega (arith, h.1), keys_higher (key x) hi top xs h.2 le)

keys_lower : (lo low hi : ℕ) (a : List BrokenRule) → low ≤ lo → Keys lo hi a → Keys low hi a
unfolding Keys
keys_lower lo low hi [] le h = omega arith
keys_lower lo low hi (x ∷ xs) le h = (omega (arith, h.0), h.1, h.2)

keys_joined : (lo mid hi : ℕ) (a b : List BrokenRule) → Keys lo mid a → Keys mid hi b → Keys lo hi (a ++ b)
unfolding Keys
keys_joined lo mid hi [] b p q = keys_lower mid lo hi b p q
keys_joined lo mid hi (x ∷ xs) b p q =
    let le : mid ≤ hi = keys_ordered mid hi b q in
    (p.0, omega (arith, p.1, le), keys_joined (key x) mid hi xs b p.2 q)

-- the rules of one node
keys_at : (n r m hi : ℕ) (fs : List CheckFault) → InOrder r m fs → n * 32 + m < hi → Keys (n * 32 + r) hi (broken_at n fs)
unfolding Keys InOrder
keys_at n r m hi [] h le = omega (arith, h, le)
keys_at n r m hi (f ∷ fs) h le =
    let top : rank f ≤ m = order_le (rank f) m fs h.1 in
    (omega (arith, h.0), omega (arith, top, le), keys_at n (rank f) m hi fs h.1 le)

pub none : (lo hi : ℕ) → lo ≤ hi → Within lo hi []
unfolding Keys
none lo hi h = omega (arith, h)

pub ordered : (lo hi : ℕ) (a : List BrokenRule) → Within lo hi a → lo ≤ hi
ordered lo hi a h = let le : lo * 32 ≤ hi * 32 = keys_ordered (lo * 32) (hi * 32) a h in omega (arith, le)

pub higher : (lo hi top : ℕ) (a : List BrokenRule) → Within lo hi a → hi ≤ top → Within lo top a
higher lo hi top a h le = keys_higher (lo * 32) (hi * 32) (top * 32) a h (omega (arith, le))

pub up : (lo k hi : ℕ) (a : List BrokenRule) → Within lo k a → k < hi → Within lo hi a
up lo k hi a w h = higher lo k hi a w (omega (arith, h))

pub joined : (lo mid hi : ℕ) (a b : List BrokenRule) → Within lo mid a → Within mid hi b → Within lo hi (a ++ b)
joined lo mid hi a b p q = keys_joined (lo * 32) (mid * 32) (hi * 32) a b p q

-- rules at one node alone
pub alone_at : (lo n hi m : ℕ) (fs : List CheckFault) → InOrder 0 m fs → m < 32 → lo ≤ n → n < hi → Within lo hi (broken_at n fs)
alone_at lo n hi m fs o small le h =
    keys_lower (n * 32 + 0) (lo * 32) (hi * 32) (broken_at n fs) (omega (arith, le))
    (keys_at n 0 m (hi * 32) fs o (omega (arith, small, h)))

-- the rules of a node behind its parts
pub node_end : (lo n hi m : ℕ) (a : List BrokenRule) (fs : List CheckFault) → InOrder 0 m fs → m < 32 → Within lo n a → n < hi
    → Within lo hi (a ++ broken_at n fs)
node_end lo n hi m a fs o small h le = joined lo n hi a (broken_at n fs) h (alone_at n n hi m fs o small (omega arith) le)

-- what is judged of a phrase whose own number is n: no rule of its own is broken, or its value is Bad and its rules have ranks up to m
abbrev pub IsBad : {A : Type 0} → Option A → Type 0
IsBad None = Unit {0}
IsBad (Some x) = ⊥

abbrev pub Ends : {A : Type 0} → ℕ → ℕ → ℕ → ℕ → List BrokenRule → Option A → Type 0
Ends m lo n hi a v = (Within lo n a ⊎ (Keys (lo * 32) (n * 32 + suc m) a × IsBad v)) × (lo ≤ n) × (n < hi)

pub below : {A : Type 0} (m lo n hi : ℕ) (a : List BrokenRule) (v : Option A) → m < 32 → Ends m lo n hi a v → Within lo hi a
below m lo n hi a v small (inl w, le, h) = higher lo n hi a w (omega (arith, h))
below m lo n hi a v small (inr p, le, h) = keys_higher (lo * 32) (n * 32 + suc m) (hi * 32) a p.0 (omega (arith, small, h))

-- its own rules behind its parts
pub own : {A : Type 0} (m lo n hi : ℕ) (a : List BrokenRule) (fs : List CheckFault) (v : Option A) → InOrder 0 m fs → Within lo n a → lo ≤ n
    → n < hi
    → Ends m lo n hi (a ++ broken_at n fs) (unless fs v)
own m lo n hi a [] v o w le h = (inl (joined lo n n a [] w (none n n (omega arith))), le, h)
own m lo n hi a (f ∷ fs) v o w le h = (
  inr (
    keys_joined (lo * 32) (n * 32) (n * 32 + suc m) a (broken_at n (f ∷ fs)) w
        (keys_lower (n * 32 + 0) (n * 32) (n * 32 + suc m) (broken_at n (f ∷ fs)) (omega arith)
        (keys_at n 0 m (n * 32 + suc m) (f ∷ fs) o (omega arith))),
    tt,
  ),
  le,
  h,
)

bad_map : {A B : Type 0} (f : A → B) (v : Option A) → IsBad v → IsBad (option_map f v)
bad_map f None h = tt
bad_map f (Some x) h = absurd h

pub ends_map : {A B : Type 0} (m lo n hi : ℕ) (a : List BrokenRule) (f : A → B) (v : Option A) → Ends m lo n hi a v
    → Ends m lo n hi a (option_map f v)
ends_map m lo n hi a f v (inl w, le, h) = (inl w, le, h)
ends_map m lo n hi a f v (inr p, le, h) = (inr (p.0, bad_map f v p.1), le, h)

bad_then : {A B : Type 0} (f : A → Option B) (v : Option A) → IsBad v → IsBad (option_and_then f v)
bad_then f None h = tt
bad_then f (Some x) h = absurd h

pub ends_then : {A B : Type 0} (m lo n hi : ℕ) (a : List BrokenRule) (f : A → Option B) (v : Option A) → Ends m lo n hi a v
    → Ends m lo n hi a (option_and_then f v)
ends_then m lo n hi a f v (inl w, le, h) = (inl w, le, h)
ends_then m lo n hi a f v (inr p, le, h) = (inr (p.0, bad_then f v p.1), le, h)

-- the rules of its place, behind its own: where its value is Bad, only those of later ranks
pub placed : {A : Type 0} (m lo n hi : ℕ) (a : List BrokenRule) (v : Option A) (rules : Option A → List CheckFault) → m < 23
    → InOrder (suc m) 23 (rules None) → ((w : Option A) → InOrder 0 23 (rules w)) → Ends m lo n hi a v
    → Within lo hi (a ++ broken_at n (rules v))
placed m lo n hi a v rules small late order (inl w, le, h) = node_end lo n hi 23 a (rules v) (order v) (omega arith) w h
placed m lo n hi a None rules small late order (inr p, le, h) =
    keys_joined (lo * 32) (n * 32 + suc m) (hi * 32) a (broken_at n (rules None)) p.0
    (keys_at n (suc m) 23 (hi * 32) (rules None) late (omega (arith, h)))
placed m lo n hi a (Some x) rules small late order (inr p, le, h) = absurd p.1
