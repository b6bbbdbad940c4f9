-- The items with the numbers below a count.
use Rattle.std.proofs.Common.{◌≡◌, ℕ, ◌+◌, ◌<◌, ◌≤◌, List, [], ◌∷◌, ◌++◌, length, take, get_or, map, Some, None, sym, ap, ◌∙◌, arith}
use Rattle.std.specs.Prelude.{slice_get}
use Rattle.std.proofs.lemmas.List.FromFn.{length-map-range_with_len, get_or-map-range_with_len}
use Rattle.std.proofs.lemmas.Option.{slice_get-get_or, slice_get_past, slice_get_within, get_or_from_slice_get}
use Rattle.std.proofs.lemmas.List.{take_more, take_all, map_push}
use Rattle.alma_object_format.specs.Reading.{items}

pub length_items : {A : Type 0} (of : ℕ → A) (n : ℕ) → length (items of n) ≡ n
length_items of n = length-map-range_with_len of 0 n

pub item_at : {A : Type 0} (of : ℕ → A) (n k : ℕ) (d : A) → k < n → get_or (items of n) k d ≡ of k
item_at of n k d lt = get_or-map-range_with_len of 0 n k k d lt (omega arith)

pub get_item : {A : Type 0} (of : ℕ → A) (n k : ℕ) → k < n → slice_get (items of n) k ≡ Some (of k)
get_item of n k lt = let within : k < length (items of n) = omega (arith, length_items of n) in
    slice_get-get_or (items of n) k (of k) within ∙ ap (λ x. Some x) (item_at of n k (of k) lt)

pub get_no_item : {A : Type 0} (of : ℕ → A) (n k : ℕ) → n ≤ k → slice_get (items of n) k ≡ None
get_no_item of n k le = slice_get_past (items of n) k (omega (arith, length_items of n))

pub ruleset item_steps = (length_items, get_item, get_no_item)

-- a list that is copied, one item more and whole
pub take_next : {A : Type 0} (xs : List A) (i : ℕ) (x : A) → slice_get xs i ≡ Some x → take (i + 1) xs ≡ take i xs ++ (x ∷ [])
take_next xs i x e = take_more xs i x (slice_get_within xs i x e) ∙ ap (λ y. take i xs ++ (y ∷ [])) (get_or_from_slice_get xs i x x e)

pub take_items : {A : Type 0} (of : ℕ → A) (n : ℕ) → take n (items of n) ≡ items of n
take_items of n = take_all n (items of n) (omega (arith, length_items of n))

pub ruleset take_steps = (length_items, take_next, take_items)

-- a list whose items stand for others, one item more
pub copied : {A B : Type 0} (f : A → B) (of : ℕ → B) (n i : ℕ) (xs new : List A) (y : A) → i < n → map f xs ≡ take i (items of n)
    → new ≡ xs ++ (y ∷ []) → f y ≡ of i → map f new ≡ take (i + 1) (items of n)
copied {A = A} {B = B} f of n i xs new y lt was is same =
    ap (map f) is ∙ map_push f xs y ∙ ap (λ (t : List B). t ++ (f y ∷ [])) was ∙ ap (λ (z : B). take i (items of n) ++ (z ∷ [])) same
    ∙ sym (take_next (items of n) i (of i) (get_item of n i lt))

pub copied_plain : {A : Type 0} (of : ℕ → A) (n i : ℕ) (xs new : List A) (y : A) → i < n → xs ≡ take i (items of n) → new ≡ xs ++ (y ∷ [])
    → y ≡ of i → new ≡ take (i + 1) (items of n)
copied_plain {A = A} of n i xs new y lt was is same =
    is ∙ ap (λ (t : List A). t ++ (y ∷ [])) was ∙ ap (λ (z : A). take i (items of n) ++ (z ∷ [])) same
    ∙ sym (take_next (items of n) i (of i) (get_item of n i lt))

pub take_past : {A : Type 0} (of : ℕ → A) (n i : ℕ) → n ≤ i → take i (items of n) ≡ items of n
take_past of n i le = take_all i (items of n) (omega (arith, length_items of n))

pub ruleset copy_steps = (take_past)
