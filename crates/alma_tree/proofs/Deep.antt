-- One more kind in the greatest depth.
use Rattle.std.proofs.Common.{◌≡◌, ◌≤◌, ◌<◌, ℕ, ◌+◌, ◌-◌, max, Bool, true, false, List, [], ◌∷◌, length, drop, refl, ap, ◌∙◌, sym, lit≤}
use Rattle.std.proofs.Common.{arith}
use Rattle.std.proofs.Math.ListN.{get_or}
use Rattle.std.proofs.lemmas.List.{at_drop_more}
use Rattle.alma_tree.specs.declared.kind.Kind.{Kind}
use Rattle.alma_tree.specs.declared.kind.Kind.TheVariants as kinds
use Rattle.alma_tree.specs.Depth.{opens, closes, one_where, depth_from, depth}
use mir.Val.{bool_byte}

-- a list is at least as deep as the depth before it
pub at_least : (o c : ℕ) (ks : List Kind) → o - c ≤ depth_from o c ks
at_least o c [] = omega arith
at_least o c (k ∷ ks) = omega arith

pub as_number : (b : Bool) → bool_byte b ≡ one_where b
as_number true = refl
as_number false = refl

at_most_one : (b : Bool) → one_where b ≤ 1
at_most_one true = lit≤ tt
at_most_one false = lit≤ tt

one_more : (g o c : ℕ) (k : Kind) (rest : List Kind) → o - c ≤ g
    → max (max g (o + one_where (opens k) - (c + one_where (closes k))))
    (depth_from (o + one_where (opens k)) (c + one_where (closes k)) rest)
    ≡ max g (depth_from o c (k ∷ rest))
one_more g o c k rest h = let x = at_least (o + one_where (opens k)) (c + one_where (closes k)) rest in omega arith

-- what the loop keeps
abbrev pub Kept : (greatest opened closed i : ℕ) → List Kind → Type 0
Kept g o c i ks = (max g (depth_from o c (drop i ks)) ≡ depth ks) × (o - c ≤ g) × (o ≤ i) × (c ≤ i)

pub kept : (g o c i : ℕ) (ks : List Kind) → i < length ks → Kept g o c i ks → (a b : Bool) → a ≡ opens (get_or ks i kinds.Name)
    → b ≡ closes (get_or
    ks i kinds.Name)
    → (s m : ℕ) → s ≡ o + bool_byte a - (c + bool_byte b) → m ≡ max g s → Kept m (o + bool_byte a) (c + bool_byte b) (i + 1) ks
kept g o c i ks l h a b e f s m p q =
    let k = get_or ks i kinds.Name in
    let x = at_most_one (opens k) in
    let y = at_most_one (closes k) in
    let u : bool_byte a ≡ one_where (opens k) = as_number a ∙ ap one_where e in
    let v : bool_byte b ≡ one_where (closes k) = as_number b ∙ ap one_where f in
    let w : depth_from o c (drop i ks) ≡ depth_from o c (k ∷ drop (i + 1) ks) = at_drop_more (depth_from o c) ks i kinds.Name l in
    let z = one_more g o c k (drop (i + 1) ks) h.1 in
    rw (q, p, u, v) (z ∙ ap (max g) (sym w) ∙ h.0, omega arith, omega arith, omega arith)
