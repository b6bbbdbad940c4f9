-- The depth passes 100 at no token before the one that is refused.
use Rattle.std.proofs.Common.{◌≡◌, ◌≤◌, ◌<◌, ℕ, zero, suc, ◌+◌, ◌-◌, Bool, true, false, ◌&&◌, nat_le, List, [], ◌∷◌, ◌++◌, take, Option}
use Rattle.std.proofs.Common.{None, Some, refl, ap, arith}
use Rattle.std.proofs.lemmas.Bool.Decides.{nat_tests}
use Rattle.alma_tree.specs.declared.kind.Kind.{Kind}
use Rattle.alma_tree.specs.declared.kind.Kind.TheVariants as kinds
use Rattle.alma_tree.specs.Depth.{opens, closes, one_where, depth_from}
use Rattle.alma_grammar.specs.Parts.{Part, next, all_skip}
use Rattle.alma_grammar.specs.Reading.{reading, End, done, unexpected, too_deep, at_end, goes_on, next_depth, level}
use Rattle.alma_grammar.specs.Filling.{WhereSome}
use Rattle.alma_grammar.proofs.Nesting.{Behind, Nested, GoesOn, goes_on_nested}

-- the same where so many brackets were opened and closed before
abbrev pub HasDepthFrom : (opened closed : ℕ) → List Kind → End → Type 0
HasDepthFrom o c ks done = depth_from o c ks ≤ 100
HasDepthFrom o c ks (unexpected rest) = (front : List Kind) × (ks ≡ front ++ rest) × (depth_from o c front ≤ 100)
HasDepthFrom o c ks (too_deep rest) =
    (front : List Kind) × (ks ≡ front ++ rest) × (depth_from o c front ≤ 100) × (100 < depth_from o c (front ++ take 1 rest))

one_way : (k : Kind) → (opens k && closes k) ≡ false
one_way kinds.Name = refl
one_way k = refl

deeper : (o c d : ℕ) → c + d ≡ o → nat_le 100 d ≡ true → 100 < o + 1 - (c + 0)
deeper o c d e h = let x : 99 < d = grind (arith, nat_tests) in omega arith

-- where a token opens a bracket too deep
too_deep_behind : (opening closing : Bool) (o c d : ℕ) → (opening && closing) ≡ false → c + d ≡ o → (opening && nat_le 100 d) ≡ true
    → 100 < o + one_where opening - (c + one_where closing)
too_deep_behind true false o c d w e h = deeper o c d e h
too_deep_behind true true o c d w e h = absurd cc
too_deep_behind false closing o c d w e h = absurd cc

-- what is known of the depth behind a token
record Moved (o c d : ℕ) (P : ℕ → Type 0) : Type 0 where
  counted : c + d ≡ o
  bounded : d ≤ 100
  nested : P d

moves : (opening closing : Bool) (o c d : ℕ) (P : ℕ → Type 0) → (opening && closing) ≡ false → c + d ≡ o → d ≤ 100
    → (opening && nat_le 100 d) ≡ false → Behind opening closing d P
    → Moved (o + one_where opening) (c + one_where closing) (next_depth opening closing d) P
moves true false o c d P w e i h n =
    record { counted = omega arith; bounded = let x : d ≤ 99 = grind (arith, nat_tests) in omega arith; nested = n }
moves true true o c d P w e i h n = absurd cc
moves false true o c zero P w e i h n = let x : zero ≡ suc n.0 = n.1 in absurd (omega arith)
moves false true o c (suc d) P w e i h n =
    let x : n.0 ≡ d = omega arith in record { counted = omega arith; bounded = omega arith; nested = rw x at n.2 }
moves false false o c d P w e i h n = record { counted = omega arith; bounded = i; nested = n }

further : (k : Kind) (ks : List Kind) (o c : ℕ) (e : End) → o - c ≤ 100
    → HasDepthFrom (o + one_where (opens k)) (c + one_where (closes k)) ks e → HasDepthFrom o c (k ∷ ks) e
further k ks o c done i h = omega arith
further k ks o c (unexpected rest) i h = let x = h.2 in (k ∷ h.0, ap (λ r. k ∷ r) h.1, omega arith)
further k ks o c (too_deep rest) i h = let x = h.2 in let y = h.3 in (k ∷ h.0, ap (λ r. k ∷ r) h.1, omega arith, omega arith)

last : (o c d : ℕ) (b : Bool) → c + d ≡ o → d ≤ 100 → HasDepthFrom o c [] (at_end b)
last o c d true e i = omega arith
last o c d false e i = ([], refl, omega arith)

on : (k : Kind) (ks : List Kind) (o c d : ℕ) (parts : List Part) (n : Option (List Part)) → WhereSome n (GoesOn parts k) → (deep : Bool)
    → (opens k && nat_le 100 d) ≡ deep → (go : List Part → End) → c + d ≡ o → d ≤ 100 → Nested d parts
    → ((later : List Part) → Moved (o + one_where (opens k)) (c + one_where (closes k)) (level d k) (λ e. Nested e later)
    → HasDepthFrom (o + one_where (opens k)) (c + one_where (closes k)) ks (go later))
    → HasDepthFrom o c (k ∷ ks) (goes_on n deep (k ∷ ks) go)
on k ks o c d parts None g deep q go e i m ih = ([], refl, omega arith)
on k ks o c d parts (Some later) g true q go e i m ih =
    let x = too_deep_behind (opens k) (closes k) o c d (one_way k) e q in ([], refl, omega arith, omega arith)
on k ks o c d parts (Some later) g false q go e i m ih =
    further k ks o c (go later) (omega arith)
    (ih later (moves (opens k) (closes k) o c d (λ x. Nested x later) (one_way k) e i q (g d m)))

pub has_depth : (ks : List Kind) (o c d : ℕ) (parts : List Part) → c + d ≡ o → d ≤ 100 → Nested d parts
    → HasDepthFrom o c ks (reading true ks d parts)
has_depth [] o c d parts e i m = last o c d (all_skip parts) e i
has_depth (k ∷ ks) o c d parts e i m =
    on k ks o c d parts (next parts k) (goes_on_nested parts k) (opens k && nat_le 100 d) refl (reading true ks (level d k)) e i m
    (λ later x. has_depth ks _ _ (level d k) later x.counted x.bounded x.nested)
