-- The ends of parts that follow one another, and the items that stand in bytes.
use Rattle.std.proofs.Common.{◌≡◌, ℕ, zero, suc, ◌+◌, ◌*◌, ◌<◌, ◌≤◌, Bool, true, false, ◌&&◌, not, List, [], ◌∷◌, ◌++◌, length, get_or}
use Rattle.std.proofs.Common.{take, map, refl, sym, ap, subst, ◌∙◌, arith}
use Rattle.std.specs.Prelude.{nat_eq, nat_lt, nat_le, ◌||◌, sum_by, slice_index}
use Rattle.std.specs.List.{flat_map, range_with_len, list_all}
use Rattle.std.proofs.Math.Seq.{take-length, take-append-add}
use Rattle.std.proofs.lemmas.Bool.Decides.{nat_tests}
use Rattle.std.proofs.lemmas.List.{get_or_append_left, get_or-append-add, take-append-le, take-map, length-map}
use Rattle.std.proofs.lemmas.List.FromFn.{get_or-range_with_len, length-range_with_len}
use Rattle.std.proofs.lemmas.List.Sums.{sum_by-cons, sum_by-append, sum_by_more, sum_by-take-le, AllPass-from_list_all}
use Rattle.alma_base.specs.Reading.{is_digit}
use Rattle.alma_code.specs.Records.{is_name, is_name_start}
use Rattle.alma_object_format.specs.Object.{end_of, section}
use Rattle.alma_object_format.specs.Walk.{start_of, is_end, is_name_end, can_stand}
use Rattle.alma_object_format.proofs.Kept.{and_parts}
use Rattle.alma_object.proofs.Stands.{Stands, stands_as, stands_first, stands_second, stands_nth, le_test, lt_test, eq_test, ne_test}

pub both : (a b : Bool) → a ≡ true → b ≡ true → (a && b) ≡ true
both a b ea eb = ap (λ x. x && b) ea ∙ eb

eq_fact : (m n : ℕ) → nat_eq m n ≡ true → m ≡ n
eq_fact m n e = grind (arith, nat_tests)

-- ---- ends

-- the end of an item is that of the item before and its size
pub end_more : {A : Type 0} (size : A → ℕ) (xs : List A) (k : ℕ) (d : A) → k < length xs
    → end_of size xs k ≡ sum_by size (take k xs) + size (get_or xs k d)
end_more size xs k d lt = sum_by_more size xs k d lt

pub end_within : {A : Type 0} (size : A → ℕ) (xs : List A) (k : ℕ) → end_of size xs k ≤ sum_by size xs
end_within size xs k = sum_by-take-le size xs (k + 1)

-- the start of a part is the sum up to it
pub start_is : {A : Type 0} (size : A → ℕ) (xs : List A) (end : ℕ → ℕ) → ((k : ℕ) → k < length xs → end k ≡ end_of size xs k) → (k : ℕ)
    → k ≤ length xs → start_of end k ≡ sum_by size (take k xs)
start_is size xs end is zero le = refl
start_is size xs end is (suc k) le = let e : k + 1 ≡ suc k = omega arith in is k (omega arith) ∙ ap (λ n. sum_by size (take n xs)) e

last_good : (t : Bool) (a b e c : ℕ) → nat_eq a b ≡ t → (a ≡ b → e ≡ c) → (not t || nat_eq e c) ≡ true
last_good true a b e c test h = eq_test e c (h (eq_fact a b test))
last_good false a b e c test h = refl

last_end_of : {A : Type 0} (size : A → ℕ) (xs : List A) (k : ℕ) → k + 1 ≡ length xs → end_of size xs k ≡ sum_by size xs
last_end_of size xs k e = ap (λ n. sum_by size (take n xs)) e ∙ ap (sum_by size) (take-length xs)

pub is_end_good : (start end count a b : ℕ) → start ≤ end → end ≤ count → (a ≡ b → end ≡ count) → is_end start end count (nat_eq a b) ≡ true
is_end_good start end count a b low high last =
    both (nat_le start end) _ (le_test start end low)
    (both (nat_le end count) _ (le_test end count high) (last_good (nat_eq a b) a b end count refl last))

-- the end of an item passes the test of ends
pub end_good : {A : Type 0} (size : A → ℕ) (xs : List A) (end : ℕ → ℕ) (count n : ℕ) → ((k : ℕ) → k < length xs → end k ≡ end_of size xs k)
    → sum_by size xs ≡ count → length xs ≡ n →
    (k : ℕ) (d : A) → k < length xs → is_end (start_of end k) (end k) count (nat_eq (k + 1) n) ≡ true
end_good size xs end count n is total many k d lt =
    let s = start_is size xs end is k (omega arith) in
    let e = is k lt in
    let more = end_more size xs k d lt in
    let within = end_within size xs k in
    is_end_good _ _ _ (k + 1) n (omega arith) (omega arith) (λ last. e ∙ last_end_of size xs k (last ∙ sym many) ∙ total)

-- so does that of a name, which is not empty
pub name_end_good : (names : List (List ℕ)) (end : ℕ → ℕ) (count n : ℕ) → ((k : ℕ) → k < length names → end k ≡ end_of length names k)
    → sum_by length names ≡ count → length names ≡ n →
    (k : ℕ) → k < length names → 0 < length (get_or names k []) → is_name_end (start_of end k) (end k) count (nat_eq (k + 1) n) ≡ true
name_end_good names end count n is total many k lt some =
    let s = start_is length names end is k (omega arith) in
    let e = is k lt in
    let more = end_more length names k [] lt in
    let within = end_within length names k in
    both (nat_lt (start_of end k) (end k)) _ (lt_test _ _ (omega arith))
    (both (nat_le (end k) count) _ (le_test _ _ (omega arith))
    (last_good (nat_eq (k + 1) n) (k + 1) n (end k) count refl (λ last. e ∙ last_end_of length names k (last ∙ sym many) ∙ total)))

-- ---- two lists of names

pub sum_map : {A B : Type 0} (size : B → ℕ) (f : A → B) (xs : List A) → sum_by size (map f xs) ≡ sum_by (λ x. size (f x)) xs
sum_map size f [] = refl
sum_map size f (x ∷ xs) = sum_by-cons size (f x) (map f xs) ∙ ap (λ n. size (f x) + n) (sum_map size f xs)
    ∙ sym (sum_by-cons (λ x. size (f x)) x xs)

pub end_first : {A B : Type 0} (size : B → ℕ) (f : A → B) (xs : List A) (ys : List B) (k : ℕ) → k < length xs
    → end_of size (map f xs ++ ys) k ≡ end_of (λ x. size (f x)) xs k
end_first size f xs ys k lt =
    ap (sum_by size) (take-append-le (k + 1) (map f xs) ys (omega (arith, length-map xs f)) ∙ take-map f (k + 1) xs)
    ∙ sum_map size f (take (k + 1) xs)

pub end_second : {A B C : Type 0} (size : B → ℕ) (f : A → B) (g : C → B) (xs : List A) (ys : List C) (k : ℕ)
    → end_of size (map f xs ++ map g ys) (length xs + k) ≡ sum_by (λ x. size (f x)) xs + end_of (λ y. size (g y)) ys k
end_second size f g xs ys k =
    let n : length xs + k + 1 ≡ length (map f xs) + (k + 1) = omega (arith, length-map xs f) in
    ap (λ j. sum_by size (take j (map f xs ++ map g ys))) n
    ∙ ap (sum_by size) (take-append-add (map f xs) (map g ys) (k + 1))
    ∙ sum_by-append size (map f xs) (take (k + 1) (map g ys))
    ∙ ap (λ m. m + sum_by size (take (k + 1) (map g ys))) (sum_map size f xs)
    ∙ ap (λ zs. sum_by (λ x. size (f x)) xs + sum_by size zs) (take-map g (k + 1) ys)
    ∙ ap (λ m. sum_by (λ x. size (f x)) xs + m) (sum_map size g (take (k + 1) ys))

-- ---- items that stand

-- a record of a section
pub section_nth : (bytes : List ℕ) (at w : ℕ) (each : ℕ → List ℕ) (n : ℕ) → ((k : ℕ) → length (each k) ≡ w)
    → Stands bytes at (section each n) → (k : ℕ) → k < n → Stands bytes (at + w * k) (each k)
section_nth bytes at w each n same s k lt =
    let there : get_or (range_with_len 0 n) k 0 ≡ k = get_or-range_with_len 0 n k 0 lt ∙ omega arith in
    subst (λ j. Stands bytes (at + w * k) (each j)) there
    (stands_nth bytes at w each (range_with_len 0 n) same s k 0 (omega (arith, length-range_with_len 0 n)))

-- a part of parts that follow one another
pub stands_part : {A : Type 0} (bytes : List ℕ) (at : ℕ) (f : A → List ℕ) (xs : List A) → Stands bytes at (flat_map f xs) → (k : ℕ) (d : A)
    → k < length xs → Stands bytes (at + sum_by (λ x. length (f x)) (take k xs)) (f (get_or xs k d))
stands_part bytes at f [] s k d lt = absurd (omega arith)
stands_part bytes at f (x ∷ xs) s zero d lt =
    stands_as bytes at (at + 0) (f x) (omega arith) (stands_first bytes at (f x) (flat_map f xs) s)
stands_part bytes at f (x ∷ xs) s (suc k) d lt =
    stands_as bytes (at + length (f x) + sum_by (λ x. length (f x)) (take k xs)) (at + sum_by (λ x. length (f x)) (x ∷ take k xs))
    (f (get_or xs k d)) (omega (arith, sum_by-cons (λ x. length (f x)) x (take k xs)))
    (stands_part bytes (at + length (f x)) f xs (stands_second bytes at (at + length (f x)) (f x) (flat_map f xs) refl s) k d (omega arith))

-- an item of lists that follow one another
pub flat_at : {A B : Type 0} (f : A → List B) (xs : List A) (r k : ℕ) (d : A) (e : B) → r < length xs → k < length (f (get_or xs r d))
    → get_or (flat_map f xs) (sum_by (λ x. length (f x)) (take r xs) + k) e ≡ get_or (f (get_or xs r d)) k e
flat_at f [] r k d e lt low = absurd (omega arith)
flat_at f (x ∷ xs) zero k d e lt low = (let z : 0 + k ≡ k = omega arith in ap (λ j. get_or (f x ++ flat_map f xs) j e) z
    ∙ get_or_append_left (f x) (flat_map f xs) e k low)
flat_at f (x ∷ xs) (suc r) k d e lt low =
    let n : sum_by (λ x. length (f x)) (x ∷ take r xs) + k ≡ length (f x) + (sum_by (λ x. length (f x)) (take r xs) + k) =
    omega (arith, sum_by-cons (λ x. length (f x)) x (take r xs)) in
    ap (λ j. get_or (f x ++ flat_map f xs) j e) n ∙ get_or-append-add (f x) (flat_map f xs) (sum_by (λ x. length (f x)) (take r xs) + k) e
    ∙ flat_at f xs r k d e (omega arith) low

-- a byte of what stands
pub byte_stands : (bytes : List ℕ) (at : ℕ) (part : List ℕ) → Stands bytes at part → (j : ℕ) → j < length part
    → slice_index bytes (at + j) ≡ get_or part j 0
byte_stands bytes at part s j lt =
    ap (λ (t : List ℕ). get_or t (at + j) 0) s.spelled ∙ ap (λ n. get_or (s.front ++ (part ++ s.behind)) (n + j) 0) (sym s.front_length)
    ∙ get_or-append-add s.front (part ++ s.behind) j 0 ∙ get_or_append_left part s.behind 0 j lt

-- a test of each item of lists
pub all_flat : {A B : Type 0} (p : B → Bool) (q : A → Bool) (f : A → List B) → ((x : A) → q x ≡ true → list_all p (f x) ≡ true)
    → (xs : List A) → list_all q xs ≡ true → list_all p (flat_map f xs) ≡ true
all_flat p q f h [] e = refl
all_flat p q f h (x ∷ xs) e = (let a = and_parts (q x) (list_all q xs) e in
    all_append p (f x) (flat_map f xs) (h x a.0) (all_flat p q f h xs a.1))
  where
    all_append : {B : Type 0} (p : B → Bool) (xs ys : List B) → list_all p xs ≡ true → list_all p ys ≡ true → list_all p (xs ++ ys) ≡ true
    all_append p [] ys a b = b
    all_append p (x ∷ xs) ys a b = (let c = and_parts (p x) (list_all p xs) a in
        both (p x) (list_all p (xs ++ ys)) c.0 (all_append p xs ys c.1 b))

pub all_at : {A : Type 0} (p : A → Bool) (xs : List A) → list_all p xs ≡ true → (k : ℕ) (d : A) → k < length xs → p (get_or xs k d) ≡ true
all_at p xs e k d lt = AllPass-from_list_all p xs e k d lt

-- ---- names

first_stands : (c : ℕ) → is_name_start c ≡ true → (is_name_start c || (not true && is_digit c)) ≡ true
first_stands c e = ap (λ b. b || (not true && is_digit c)) e

-- each byte of a name can stand where it stands
pub name_stands : (name : List ℕ) (start i j : ℕ) → i ≡ start + j → is_name name ≡ true → j < length name
    → can_stand (nat_eq i start) (get_or name j 0) ≡ true
name_stands [] start i j e named lt = absurd (omega arith)
name_stands (c ∷ rest) start i zero e named lt =
    let a = and_parts (is_name_start c) _ named in
    let t : nat_eq i start ≡ true = eq_test i start (omega arith) in
    ap (λ b. can_stand b c) t ∙ first_stands c a.0
name_stands (c ∷ rest) start i (suc j) e named lt =
    let a = and_parts (is_name_start c) _ named in
    let t : nat_eq i start ≡ false = ne_test i start (λ same. (let clash : suc j ≡ 0 = omega arith in omega arith)) in
    ap (λ b. can_stand b (get_or rest j 0)) t ∙ all_at (λ d. is_name_start d || is_digit d) rest a.1 j 0 (omega arith)

pub name_some : (name : List ℕ) → is_name name ≡ true → 0 < length name
name_some [] e = absurd cc
name_some (c ∷ rest) e = omega arith
