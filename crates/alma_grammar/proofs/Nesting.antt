-- Open parts nest as the brackets do.
use Rattle.std.proofs.Common.{◌≡◌, ℕ, zero, suc, Bool, true, false, List, [], ◌∷◌, ◌++◌, Option, None, Some, nat_eq, refl, sym, subst}
use Rattle.std.proofs.lemmas.Bool.{eqb-true}
use Rattle.alma_tree.specs.declared.kind.Kind.{Kind}
use Rattle.alma_tree.specs.Kinds.{code}
use Rattle.alma_tree.specs.Depth.{opens, closes}
use Rattle.alma_grammar.specs.Parts.{Part, one, args_inside, params_inside, next, if_same, begins, may_skip, this_or_later}
use Rattle.alma_grammar.specs.Filling.{WhereSome, and_then}
use Rattle.alma_grammar.proofs.EveryKind.{all_kinds, each, of_every_kind, same_kind}

-- a fact of the depth behind what opens or closes a bracket, or does neither
abbrev pub Behind : (opening closing : Bool) → ℕ → (ℕ → Type 0) → Type 0
Behind true closing d P = P (suc d)
Behind false true d P = (e : ℕ) × (d ≡ suc e) × P e
Behind false false d P = P d

-- whether a part opens a bracket that a later one closes
abbrev part_opens : Part → Bool
part_opens (one k) = opens k
part_opens _ = false

-- whether a part closes one that an earlier part opened
abbrev part_closes : Part → Bool
part_closes (one k) = closes k
part_closes args_inside = true
part_closes params_inside = true
part_closes _ = false

-- at this depth each bracket that the parts close was opened
abbrev pub Nested : ℕ → List Part → Type 0
Nested d [] = Unit {0}
Nested d (p ∷ rest) = Behind (part_opens p) (part_closes p) d (λ e. Nested e rest)

-- the parts that are open behind a token nest at the depth behind it
abbrev pub GoesOn : List Part → Kind → List Part → Type 0
GoesOn parts k later = (d : ℕ) → Nested d parts → Behind (opens k) (closes k) d (λ e. Nested e later)

-- ---- the table: what a part leaves open is as deep behind the token that begins it as the part says

-- the depth behind what opens or closes a bracket; none where a bracket is closed that is not open
abbrev behind : (opening closing : Bool) → ℕ → Option ℕ
behind true closing n = Some (suc n)
behind false true zero = None
behind false true (suc n) = Some n
behind false false n = Some n

-- the depth behind all of the parts
abbrev depth_behind : List Part → ℕ → Option ℕ
depth_behind [] n = Some n
depth_behind (p ∷ parts) n = and_then (behind (part_opens p) (part_closes p) n) (depth_behind parts)

-- what is open before a part that closes a bracket, and behind one that opens one
abbrev needed : (opening closing : Bool) → ℕ
needed false true = 1
needed _ _ = 0

-- what is open behind it of what was so before it, and of what it opens
abbrev left : (opening closing : Bool) → ℕ
left true closing = 1
left false closing = 0

-- whether it is a depth, and this one
abbrev is_depth : Option ℕ → ℕ → Bool
is_depth None m = false
is_depth (Some n) m = nat_eq n m

-- whether the token and what is then open of the part open and close what the part does
abbrev balanced : Part → Kind → Option (List Part) → Bool
balanced p k None = true
balanced p k (Some parts) =
    is_depth (depth_behind (one k ∷ parts) (needed (part_opens p) (part_closes p))) (left (part_opens p) (part_closes p))

-- a row of the table is about each part that is not one token
abbrev fits : Part → Kind → Bool
fits (one a) k = true
fits p k = balanced p k (begins p k)

-- the table, by computation
table : (p : Part) → each (fits p) all_kinds ≡ true
table (one a) = refl
table p = refl

-- ---- from the table to the rule

-- so many brackets over a depth
abbrev over : ℕ → ℕ → ℕ
over zero d = d
over (suc n) d = suc (over n d)

-- what that test says
is_so : (n : Option ℕ) (m : ℕ) → is_depth n m ≡ true → n ≡ Some m
is_so None m h = absurd cc
is_so (Some n) m h = let x = eqb-true n m h in cc

-- the same of one part, where it is so of those behind it
nest_behind : (opening closing : Bool) (next : ℕ → Option ℕ) (n m d : ℕ) (P : ℕ → Type 0)
    → ((n : ℕ) → next n ≡ Some m → P (over n d)) → and_then (behind opening closing n) next ≡ Some m → Behind opening closing (over n d) P
nest_behind true closing next n m d P ih e = ih (suc n) e
nest_behind false true next zero m d P ih e = absurd cc
nest_behind false true next (suc n) m d P ih e = (over n d, refl, ih n e)
nest_behind false false next n m d P ih e = ih n e

-- where parts lead from one depth to another, they nest as what follows them does
nest : (parts rest : List Part) (n m d : ℕ) → Nested (over m d) rest → depth_behind parts n ≡ Some m → Nested (over n d) (parts ++ rest)
nest [] rest n m d h e = let x : m ≡ n = cc in subst (λ y. Nested (over y d) rest) x h
nest (p ∷ parts) rest n m d h e =
    nest_behind (part_opens p) (part_closes p) (depth_behind parts) n m d (λ e. Nested e (parts ++ rest)) (λ n. nest parts rest n m d h) e

-- the depth below the bracket that a part closes or opens
below : (opening closing : Bool) (d : ℕ) (P : ℕ → Type 0) → Behind opening closing d P
    → (e : ℕ) × (over (needed opening closing) e ≡ d) × P (over (left opening closing) e)
below true closing d P h = (d, refl, h)
below false true d P h = (h.0, sym h.1, h.2)
below false false d P h = (d, refl, h)

-- a row of the table as the rule
goes_so : (p : Part) (k : Kind) (rest : List Part) (b : Option (List Part)) → balanced p k b ≡ true
    → WhereSome b (λ parts. GoesOn (p ∷ rest) k (parts ++ rest))
goes_so p k rest None t = tt
goes_so p k rest (Some parts) t = λ d h.
    let x = below (part_opens p) (part_closes p) d (λ e. Nested e rest) h in
    let y = nest (one k ∷ parts) rest (needed (part_opens p) (part_closes p)) (left (part_opens p) (part_closes p)) x.0 x.2 (is_so _ _ t) in
    subst (λ e. Nested e (one k ∷ parts ++ rest)) x.1 y

-- a part that is one token opens and closes what the token does
goes_one : (a k : Kind) (rest : List Part) (b : Bool) → (b ≡ true → a ≡ k)
    → WhereSome (if_same b) (λ parts. GoesOn (one a ∷ rest) k (parts ++ rest))
goes_one a k rest true same = λ d h. subst (λ x. Behind (opens x) (closes x) d (λ e. Nested e rest)) (same refl) h
goes_one a k rest false same = tt

-- the rule of every part and every kind
goes : (p : Part) (k : Kind) (rest : List Part) → WhereSome (begins p k) (λ parts. GoesOn (p ∷ rest) k (parts ++ rest))
goes (one a) k rest = goes_one a k rest (nat_eq (code a) (code k)) (same_kind a k)
goes p k rest = goes_so p k rest (begins p k) (of_every_kind (fits p) (table p) k)

-- a part that may be left out opens and closes nothing
left_out : (p : Part) (rest : List Part) (d : ℕ) → may_skip p ≡ true → Nested d (p ∷ rest) → Nested d rest
left_out (one k) rest d h n = absurd cc
left_out args_inside rest d h n = absurd cc
left_out params_inside rest d h n = absurd cc
left_out p rest d h n = n

-- the same of a list of open parts, where it is so of the first part and of those behind it
goes_from : (p : Part) (rest : List Part) (k : Kind) (b : Option (List Part)) → WhereSome b (λ parts. GoesOn (p ∷ rest) k (parts ++ rest))
    → (m : Bool) → (m ≡ true → (d : ℕ) → Nested d (p ∷ rest) → Nested d rest) → (later : Option (List Part))
    → WhereSome later (GoesOn rest k)
    → WhereSome (this_or_later b m rest later) (GoesOn (p ∷ rest) k)
goes_from p rest k (Some parts) h m s later ih = h
goes_from p rest k None h true s None ih = tt
goes_from p rest k None h true s (Some later) ih = λ d n. ih d (s refl d n)
goes_from p rest k None h false s later ih = tt

-- the same of every list of open parts
pub goes_on_nested : (parts : List Part) (k : Kind) → WhereSome (next parts k) (GoesOn parts k)
goes_on_nested [] k = tt
goes_on_nested (p ∷ rest) k =
    goes_from p rest k (begins p k) (goes p k rest) (may_skip p) (λ m d n. left_out p rest d m n) (next rest k) (goes_on_nested rest k)
