-- Each list of kinds is a program, or has one token at which it is refused.
use Rattle.std.proofs.Common.{◌≡◌, ◌≤◌, ◌<◌, ℕ, Bool, true, false, List, [], ◌∷◌, ◌++◌, take, Option, None, Some, refl, ap, sym, ◌∙◌, subst}
use Rattle.std.proofs.Common.{append-nil, append_assoc, arith}
use Rattle.std.proofs.lemmas.List.{append_cancel_right}
use Rattle.alma_tree.specs.declared.kind.Kind.{Kind}
use Rattle.alma_tree.specs.Depth.{depth}
use Rattle.alma_grammar.specs.Parts.{Part, whole, next, all_skip}
use Rattle.alma_grammar.specs.Reading.{reading, End, done, unexpected, too_deep, at_end, goes_on, level}
use Rattle.alma_grammar.specs.Filling.{open_after}
use Rattle.alma_grammar.specs.Laws.{Stops, Begins, HasDepth, IsProgram, IsUnexpected, IsTooDeep, IsExact, ExactEnds}
use Rattle.alma_grammar.proofs.Finish.{each_front_is_finished}
use Rattle.alma_grammar.proofs.Exact as exact
use Rattle.alma_grammar.proofs.Programs as programs

-- ---- one list in two pieces, two ways

data Splits (a b c d : List Kind) : Type 0 where
  same : a ≡ c → b ≡ d → Splits a b c d
  shorter : (k : Kind) (more : List Kind) → c ≡ a ++ (k ∷ more) → b ≡ k ∷ (more ++ d) → Splits a b c d
  longer : (k : Kind) (more : List Kind) → a ≡ c ++ (k ∷ more) → d ≡ k ∷ (more ++ b) → Splits a b c d

splits_more : (x y : Kind) (a b c d : List Kind) → x ≡ y → Splits a b c d → Splits (x ∷ a) b (y ∷ c) d
splits_more x y a b c d e (same p q) = let z : x ∷ a ≡ y ∷ c = cc in same z q
splits_more x y a b c d e (shorter k more p q) = let z : y ∷ c ≡ x ∷ (a ++ (k ∷ more)) = cc in shorter k more z q
splits_more x y a b c d e (longer k more p q) = let z : x ∷ a ≡ y ∷ (c ++ (k ∷ more)) = cc in longer k more z q

splits : (a b c d : List Kind) → a ++ b ≡ c ++ d → Splits a b c d
splits [] b [] d e = same refl e
splits [] b (k ∷ c) d e = shorter k c refl e
splits (k ∷ a) b [] d e = longer k a refl (sym e)
splits (x ∷ a) b (y ∷ c) d e =
    let p : x ≡ y = cc in let q : a ++ b ≡ c ++ d = cc in splits_more x y a b c d p (splits a b c d q)

-- ---- what begins a tree

begins_shorter : (a b : List Kind) → Begins (a ++ b) → Begins a
begins_shorter a b h = (h.0, b ++ h.1, h.2 ∙ append_assoc a b h.1)

-- no tree begins with what stops
not_both : (a b : List Kind) (k : Kind) (more rest : List Kind) → b ≡ k ∷ rest → Stops a b → Begins (a ++ (k ∷ more)) → ⊥
not_both a b k more rest e s h = (subst (Stops a) e s) h.0 (more ++ h.1) (h.2 ∙ append_assoc a (k ∷ more) h.1)

-- ---- the token that is too deep may stand there

record Deep (ks : List Kind) (parts : List Part) (rest : List Kind) : Type 0 where
  front : List Kind
  later : List Part
  whole_list : ks ≡ front ++ rest
  opened : open_after (front ++ take 1 rest) parts ≡ Some later

deep_next : (k : Kind) (ks : List Kind) (parts : List Part) (rest : List Kind) (deep : Bool) (go : List Part → End)
    → ((later : List Part) → go later ≡ too_deep rest → Deep ks later rest)
    → (n : Option (List Part)) → next parts k ≡ n → goes_on n deep (k ∷ ks) go ≡ too_deep rest → Deep (k ∷ ks) parts rest
deep_next k ks parts rest deep go ih None h e = absurd cc
deep_next k ks parts rest true go ih (Some later) h e =
    let x : k ∷ ks ≡ rest = cc in
    subst (λ r. Deep (k ∷ ks) parts r) x (record { front = []; later = later; whole_list = refl; opened = rw h refl })
deep_next k ks parts rest false go ih (Some later) h e =
    let f = ih later e in
    record { front = k ∷ f.front; later = f.later; whole_list = ap (λ r. k ∷ r) f.whole_list; opened = rw h f.opened }

deep_end : (rest : List Kind) (parts : List Part) (b : Bool) → at_end b ≡ too_deep rest → Deep [] parts rest
deep_end rest parts true e = absurd cc
deep_end rest parts false e = absurd cc

deep : (checked : Bool) (ks : List Kind) (d : ℕ) (parts : List Part) (rest : List Kind) → reading checked ks d parts ≡ too_deep rest
    → Deep ks parts rest
deep checked [] d parts rest e = deep_end rest parts (all_skip parts) e
deep checked (k ∷ ks) d parts rest e =
    deep_next k ks parts rest _ (reading checked ks (level d k)) (λ later. deep checked ks (level d k) later rest) (next parts k) refl e

-- ---- how reading ends is so

ends : (ks : List Kind) (e : End) → reading true ks 0 whole ≡ e → HasDepth ks e → IsExact ks e
ends ks done q h = (exact.what_is_read ks q, h)
ends ks (unexpected rest) q h =
    let p = exact.exact_place ks rest q in
    let x : h.0 ≡ p.0 = append_cancel_right h.0 p.0 rest (sym h.1 ∙ p.1) in
    (p.0, p.1, record { begins = p.3; stops = p.2; bounded = rw x at h.2 })
ends ks (too_deep rest) q h =
    let p = deep true ks 0 whole rest q in
    let x : h.0 ≡ p.front = append_cancel_right h.0 p.front rest (sym h.1 ∙ p.whole_list) in
    let b = exact.finished (p.front ++ take 1 rest) p.later (open_after (p.front ++ take 1 rest) whole) p.opened
    (each_front_is_finished (p.front ++ take 1 rest)) in
    (p.front, p.whole_list, record { begins = b; bounded = rw x at h.2; deep = rw x at h.3 })

-- ---- nothing else is so

not_a_program : (ks front rest : List Kind) → ks ≡ front ++ rest → IsProgram ks → Stops front rest → ⊥
not_a_program ks front rest e p s = programs.not_stopped p.0.0 front rest (p.0.1 ∙ e) s

not_shallow : (ks front rest : List Kind) → ks ≡ front ++ rest → depth ks ≤ 100 → 100 < depth (front ++ take 1 rest) → ⊥
not_shallow ks front rest e p s =
    let x = programs.deeper_front 0 0 front rest in
    let y : depth ks ≡ depth (front ++ rest) = ap depth e in omega arith

-- a front that is too deep, and a longer one that is not
not_longer : (a c : List Kind) (k : Kind) (more : List Kind) → c ≡ a ++ (k ∷ more) → depth c ≤ 100 → 100 < depth (a ++ (k ∷ [])) → ⊥
not_longer a c k more e p s = not_shallow c a (k ∷ more) e p s

both_unexpected : (a b c d : List Kind) → IsUnexpected a b → IsUnexpected c d → Splits a b c d → b ≡ d
both_unexpected a b c d x y (same p q) = q
both_unexpected a b c d x y (shorter k more p q) = absurd (not_both a b k more (more ++ d) q x.stops (subst Begins p y.begins))
both_unexpected a b c d x y (longer k more p q) = absurd (not_both c d k more (more ++ b) q y.stops (subst Begins p x.begins))

both_deep : (a b c d : List Kind) → IsTooDeep a b → IsTooDeep c d → Splits a b c d → b ≡ d
both_deep a b c d x y (same p q) = q
both_deep a b c d x y (shorter k more p q) = absurd (not_longer a c k more p y.bounded (rw q at x.deep))
both_deep a b c d x y (longer k more p q) = absurd (not_longer c a k more p x.bounded (rw q at y.deep))

deep_here : (a b c d : List Kind) → a ≡ c → b ≡ d → IsUnexpected a b → IsTooDeep c d → ⊥
deep_here a b c [] p q x y =
    let z : depth (c ++ []) ≡ depth c = ap depth (append-nil c) in let w = y.deep in let v = y.bounded in omega arith
deep_here a b c (k ∷ d) p q x y = not_both a b k [] d q x.stops (subst (λ f. Begins (f ++ (k ∷ []))) (sym p) y.begins)

not_unexpected_and_deep : (a b c d : List Kind) → IsUnexpected a b → IsTooDeep c d → Splits a b c d → ⊥
not_unexpected_and_deep a b c d x y (same p q) = deep_here a b c d p q x y
not_unexpected_and_deep a b c d x y (shorter k more p q) =
    not_both a b k more (more ++ d) q x.stops (subst Begins p (begins_shorter c (take 1 d) y.begins))
not_unexpected_and_deep a b c d x y (longer k more p q) = not_longer c a k more p x.bounded (rw q at y.deep)

only : (ks : List Kind) (e f : End) → IsExact ks e → IsExact ks f → e ≡ f
only ks done done x y = refl
only ks done (unexpected d) x y = absurd (not_a_program ks y.0 d y.1 x y.2.stops)
only ks done (too_deep d) x y = absurd (not_shallow ks y.0 d y.1 x.1 y.2.deep)
only ks (unexpected b) done x y = absurd (not_a_program ks x.0 b x.1 y x.2.stops)
only ks (unexpected b) (unexpected d) x y =
    ap unexpected (both_unexpected x.0 b y.0 d x.2 y.2 (splits x.0 b y.0 d (sym x.1 ∙ y.1)))
only ks (unexpected b) (too_deep d) x y = absurd (not_unexpected_and_deep x.0 b y.0 d x.2 y.2 (splits x.0 b y.0 d (sym x.1 ∙ y.1)))
only ks (too_deep b) done x y = absurd (not_shallow ks x.0 b x.1 y.1 x.2.deep)
only ks (too_deep b) (unexpected d) x y = absurd (not_unexpected_and_deep y.0 d x.0 b y.2 x.2 (splits y.0 d x.0 b (sym y.1 ∙ x.1)))
only ks (too_deep b) (too_deep d) x y = ap too_deep (both_deep x.0 b y.0 d x.2 y.2 (splits x.0 b y.0 d (sym x.1 ∙ y.1)))

ends_so : (ks : List Kind) → IsExact ks (reading true ks 0 whole)
ends_so ks = ends ks (reading true ks 0 whole) refl (programs.exact_depth ks)

pub exact_ends : ExactEnds
exact_ends = record { ends_so = ends_so; only_so = λ ks e h. only ks (reading true ks 0 whole) e (ends_so ks) h }
