-- Parts of bytes: parts that follow one another, and the numbers that stand in them.
use Rattle.std.specs.Prelude.{◌||◌}
use Rattle.std.proofs.Common.{◌≡◌, Bool, true, false, ◌&&◌, not, ℕ, zero, suc, ◌+◌, ◌-◌, ◌*◌, ◌<◌, ◌≤◌, List, [], ◌∷◌, ◌++◌, length, get_or}
use Rattle.std.proofs.Common.{take, drop, refl, sym, ap, ◌∙◌, arith}
use Rattle.std.specs.Prelude.{slice_index, slice_range}
use Rattle.std.specs.List.{flat_map, range_with_len, list_all}
use Rattle.alma_base.specs.Reading.{is_digit}
use Rattle.alma_code.specs.Records.{is_name, is_name_start}
use Rattle.alma_object_format.specs.Walk.{can_stand}
use Rattle.std.specs.Int.{w16, w32, from_le_bytes}
use Rattle.std.proofs.lemmas.List.{take-append-drop, take-take, drop-take, drop-drop, drop_more}
use Rattle.std.proofs.lemmas.Nat.{le_bytes_2, le_bytes_4}
use Rattle.alma_object_format.specs.Bytes.{u16_bytes, u32_bytes, words_bytes, u16_at, u32_at}

-- ---- parts that follow one another

take_two : {A : Type 0} (m n : ℕ) (xs : List A) → take m xs ++ take n (drop m xs) ≡ take (m + n) xs
take_two {A = A} m n xs =
    ap (λ (t : List A). t ++ take n (drop m xs)) (sym (take-take m (m + n) xs (omega arith)))
    ∙ ap (λ (t : List A). take m (take (m + n) xs) ++ t) (sym (drop-take m n xs)) ∙ take-append-drop m (take (m + n) xs)

pub slice_join : {A : Type 0} (xs : List A) (a b c : ℕ) → a ≤ b → b ≤ c → slice_range xs a b ++ slice_range xs b c ≡ slice_range xs a c
slice_join {A = A} xs a b c ab bc =
    let back : a + (b - a) ≡ b = omega arith in
    let sum : (b - a) + (c - b) ≡ c - a = omega arith in
    let rest : drop b xs ≡ drop (b - a) (drop a xs) = ap (λ k. drop k xs) (sym back) ∙ sym (drop-drop (b - a) a xs) in
    ap (λ (t : List A). take (b - a) (drop a xs) ++ take (c - b) t) rest ∙ take_two (b - a) (c - b) (drop a xs)
    ∙ ap (λ k. take k (drop a xs)) sum

pub slice_none : {A : Type 0} (xs : List A) (a : ℕ) → slice_range xs a a ≡ []
slice_none xs a = let z : a - a ≡ 0 = omega arith in ap (λ k. take k (drop a xs)) z

-- offsets that never fall
pub offsets_rise : (off : ℕ → ℕ) (a n : ℕ) → ((k : ℕ) → a ≤ k → k < a + n → off k ≤ off (k + 1)) → off a ≤ off (a + n)
offsets_rise off a zero rise = let z : a ≡ a + 0 = omega arith in omega (arith, ap off z)
offsets_rise off a (suc n) rise =
    let before = offsets_rise off a n (λ k le lt. rise k le (omega arith)) in
    let last = rise (a + n) (omega arith) (omega arith) in
    let e : a + n + 1 ≡ a + suc n = omega arith in
    omega (arith, before, last, ap off e)

-- parts that stand at offsets one after another are the whole
pub section_is : (bytes : List ℕ) (off : ℕ → ℕ) (each : ℕ → List ℕ) (a n : ℕ) → ((k : ℕ) → a ≤ k → k < a + n → off k ≤ off (k + 1)) →
    ((k : ℕ) → a ≤ k → k < a + n → slice_range bytes (off k) (off (k + 1)) ≡ each k)
    → flat_map each (range_with_len a n) ≡ slice_range bytes (off a) (off (a + n))
section_is bytes off each a zero rise parts =
    let z : a ≡ a + 0 = omega arith in sym (slice_none bytes (off a)) ∙ ap (λ k. slice_range bytes (off a) (off k)) z
section_is bytes off each a (suc n) rise parts =
    let e : a + 1 + n ≡ a + suc n = omega arith in
    let rest = section_is bytes off each (a + 1) n (λ k le lt. rise k (omega arith) (omega arith))
    (λ k le lt. parts k (omega arith) (omega arith)) in
    let up : off (a + 1) ≤ off (a + 1 + n) = offsets_rise off (a + 1) n (λ k le lt. rise k (omega arith) (omega arith)) in
    ap (λ (t : List ℕ). each a ++ t) rest
    ∙ ap (λ (t : List ℕ). t ++ slice_range bytes (off (a + 1)) (off (a + 1 + n))) (sym (parts a (omega arith) (omega arith)))
    ∙ slice_join bytes (off a) (off (a + 1)) (off (a + 1 + n)) (rise a (omega arith) (omega arith)) up
    ∙ ap (λ k. slice_range bytes (off a) (off k)) e

-- numbers counted from another one
pub shifted : (f g : ℕ → List ℕ) (a b n : ℕ) → ((k : ℕ) → k < n → f (a + k) ≡ g (b + k))
    → flat_map f (range_with_len a n) ≡ flat_map g (range_with_len b n)
shifted f g a b zero same = refl
shifted f g a b (suc n) same =
    let za : a + 0 ≡ a = omega arith in
    let zb : b + 0 ≡ b = omega arith in
    let here : f a ≡ g b = ap f (sym za) ∙ same 0 (omega arith) ∙ ap g zb in
    let next : (k : ℕ) → k < n → f (a + 1 + k) ≡ g (b + 1 + k) = λ k lt.
    (let ea : a + 1 + k ≡ a + suc k = omega arith in let eb : b + suc k ≡ b + 1 + k = omega arith in ap f ea ∙ same (suc k) (omega arith)
    ∙ ap g eb) in
    ap (λ (t : List ℕ). t ++ flat_map f (range_with_len (a + 1) n)) here
    ∙ ap (λ (t : List ℕ). g b ++ t) (shifted f g (a + 1) (b + 1) n next)

-- ---- numbers

abbrev pub IsBytes : List ℕ → Type 0
IsBytes bytes = (i : ℕ) → get_or bytes i 0 < 256

-- the n bytes from an offset on
pub cells : List ℕ → ℕ → ℕ → List ℕ
cells bytes at zero = []
cells bytes at (suc n) = slice_index bytes at ∷ cells bytes (at + 1) n

take_cells : (bytes : List ℕ) (at n : ℕ) → at + n ≤ length bytes → take n (drop at bytes) ≡ cells bytes at n
unfolding cells
take_cells bytes at zero le = refl
take_cells bytes at (suc n) le =
    ap (take (suc n)) (drop_more bytes at 0 (omega arith))
    ∙ ap (λ (t : List ℕ). slice_index bytes at ∷ t) (take_cells bytes (at + 1) n (omega arith))

pub slice_cells : (bytes : List ℕ) (at n : ℕ) → at + n ≤ length bytes → slice_range bytes at (at + n) ≡ cells bytes at n
slice_cells bytes at n le = let e : at + n - at ≡ n = omega arith in ap (λ k. take k (drop at bytes)) e ∙ take_cells bytes at n le

four_fit : (a b c d : ℕ) → a < 256 → b < 256 → c < 256 → d < 256 → (i : ℕ) → get_or (a ∷ b ∷ c ∷ d ∷ []) i 0 < 256
four_fit a b c d fa fb fc fd zero = fa
four_fit a b c d fa fb fc fd (suc zero) = fb
four_fit a b c d fa fb fc fd (suc (suc zero)) = fc
four_fit a b c d fa fb fc fd (suc (suc (suc zero))) = fd
four_fit a b c d fa fb fc fd (suc (suc (suc (suc n)))) = omega arith

pub u32_slice : (bytes : List ℕ) (at : ℕ) → IsBytes bytes → at + 4 ≤ length bytes
    → slice_range bytes at (at + 4) ≡ u32_bytes (u32_at bytes at)
unfolding u32_bytes u32_at cells
u32_slice bytes at fits le =
    let two : at + 1 + 1 ≡ at + 2 = omega arith in
    let three : at + 1 + 1 + 1 ≡ at + 3 = omega arith in
    let four = slice_index bytes at ∷ slice_index bytes (at + 1) ∷ slice_index bytes (at + 2) ∷ slice_index bytes (at + 3) ∷ [] in
    let is : slice_range bytes at (at + 4) ≡ four =
    slice_cells bytes at 4 le
    ∙ ap (λ k. slice_index bytes at ∷ slice_index bytes (at + 1) ∷ slice_index bytes k ∷ slice_index bytes (at + 1 + 1 + 1) ∷ []) two
    ∙ ap (λ k. slice_index bytes at ∷ slice_index bytes (at + 1) ∷ slice_index bytes (at + 2) ∷ slice_index bytes k ∷ []) three in
    let within : (i : ℕ) → get_or four i 0 < 256 = four_fit (slice_index bytes at) (slice_index bytes (at + 1)) (slice_index bytes (at + 2))
    (slice_index bytes (at + 3)) (fits at) (fits (at + 1)) (fits (at + 2)) (fits (at + 3)) in
    is ∙ sym (le_bytes_4 four (from_le_bytes w32 four) refl within refl)

-- n words from an offset on
abbrev pub words_from : List ℕ → ℕ → ℕ → List ℕ
words_from bytes at zero = []
words_from bytes at (suc n) = u32_at bytes at ∷ words_from bytes (at + 4) n

pub words_slice : (bytes : List ℕ) (at n : ℕ) → IsBytes bytes → at + 4 * n ≤ length bytes
    → slice_range bytes at (at + 4 * n) ≡ words_bytes (words_from bytes at n)
words_slice bytes at zero fits le = let z : at + 4 * 0 ≡ at = omega arith in ap (slice_range bytes at) z ∙ slice_none bytes at
words_slice bytes at (suc n) fits le =
    let e : at + 4 + 4 * n ≡ at + 4 * suc n = omega arith in
    ap (slice_range bytes at) (sym e) ∙ sym (slice_join bytes at (at + 4) (at + 4 + 4 * n) (omega arith) (omega arith))
    ∙ ap (λ (t : List ℕ). t ++ slice_range bytes (at + 4) (at + 4 + 4 * n)) (u32_slice bytes at fits (omega arith))
    ∙ ap (λ (t : List ℕ). u32_bytes (u32_at bytes at) ++ t) (words_slice bytes (at + 4) n fits (omega arith))

-- eight bytes from an offset on
abbrev pub long_at : List ℕ → (at : ℕ) → List ℕ
long_at bytes at =
    slice_index bytes at ∷ slice_index bytes (at + 1) ∷ slice_index bytes (at + 2) ∷ slice_index bytes (at + 3)
    ∷ slice_index bytes (at + 4) ∷ slice_index bytes (at + 5) ∷ slice_index bytes (at + 6) ∷ slice_index bytes (at + 7) ∷ []

pub long_slice : (bytes : List ℕ) (at : ℕ) → at + 8 ≤ length bytes → slice_range bytes at (at + 8) ≡ long_at bytes at
unfolding cells
long_slice bytes at le =
    let c2 : at + 1 + 1 ≡ at + 2 = omega arith in
    let c3 : at + 2 + 1 ≡ at + 3 = omega arith in
    let c4 : at + 3 + 1 ≡ at + 4 = omega arith in
    let c5 : at + 4 + 1 ≡ at + 5 = omega arith in
    let c6 : at + 5 + 1 ≡ at + 6 = omega arith in
    let c7 : at + 6 + 1 ≡ at + 7 = omega arith in
    slice_cells bytes at 8 le ∙ simp (c2, c3, c4, c5, c6, c7)

pub one_slice : (bytes : List ℕ) (at : ℕ) → at + 1 ≤ length bytes → slice_range bytes at (at + 1) ≡ slice_index bytes at ∷ []
unfolding cells
one_slice bytes at le = slice_cells bytes at 1 le

two_fit : (a b : ℕ) → a < 256 → b < 256 → (i : ℕ) → get_or (a ∷ b ∷ []) i 0 < 256
two_fit a b fa fb zero = fa
two_fit a b fa fb (suc zero) = fb
two_fit a b fa fb (suc (suc n)) = omega arith

pub u16_slice : (bytes : List ℕ) (at : ℕ) → IsBytes bytes → at + 2 ≤ length bytes
    → slice_range bytes at (at + 2) ≡ u16_bytes (u16_at bytes at)
unfolding u16_bytes u16_at cells
u16_slice bytes at fits le =
    let two = slice_index bytes at ∷ slice_index bytes (at + 1) ∷ [] in
    slice_cells bytes at 2 le ∙ sym (le_bytes_2 two (from_le_bytes w16 two) refl (two_fit _ _ (fits at) (fits (at + 1))) refl)

-- ---- names

rest_stands : (bytes : List ℕ) (at n : ℕ) → ((i : ℕ) → at ≤ i → i < at + n → can_stand false (slice_index bytes i) ≡ true)
    → list_all (λ d. is_name_start d || is_digit d) (cells bytes at n) ≡ true
unfolding cells
rest_stands bytes at zero h = refl
rest_stands bytes at (suc n) h =
    ap (λ b. b && list_all (λ d. is_name_start d || is_digit d) (cells bytes (at + 1) n)) (h at (omega arith) (omega arith))
    ∙ rest_stands bytes (at + 1) n (λ i low high. h i (omega arith) (omega arith))

or_false : (b : Bool) → (b || (not true && false)) ≡ true → b ≡ true
or_false true e = refl
or_false false e = absurd cc

start_stands : (c : ℕ) → can_stand true c ≡ true → is_name_start c ≡ true
start_stands c e = or_false (is_name_start c) e

-- bytes that can stand in a name are one
pub can_name : (bytes : List ℕ) (a b : ℕ) → a < b → b ≤ length bytes → can_stand true (slice_index bytes a) ≡ true
    → ((i : ℕ) → a < i → i < b → can_stand false (slice_index bytes i) ≡ true) → is_name (slice_range bytes a b) ≡ true
unfolding cells
can_name bytes a b lt le first rest =
    let n : a + suc (b - a - 1) ≡ b = omega arith in
    ap (λ k. is_name (slice_range bytes a k)) (sym n) ∙ ap is_name (slice_cells bytes a (suc (b - a - 1)) (omega arith))
    ∙ ap (λ x. x && list_all (λ d. is_name_start d || is_digit d) (cells bytes (a + 1) (b - a - 1)))
    (start_stands (slice_index bytes a) first)
    ∙ rest_stands bytes (a + 1) (b - a - 1) (λ i low high. rest i (omega arith) (omega arith))

-- a number is that of its four bytes
pub u32_cells : (bytes : List ℕ) (at : ℕ) → at + 4 ≤ length bytes → u32_at bytes at ≡ from_le_bytes w32 (slice_range bytes at (at + 4))
unfolding u32_at cells
u32_cells bytes at le =
    let c2 : at + 1 + 1 ≡ at + 2 = omega arith in
    let c3 : at + 2 + 1 ≡ at + 3 = omega arith in
    let four = slice_index bytes at ∷ slice_index bytes (at + 1) ∷ slice_index bytes (at + 2) ∷ slice_index bytes (at + 3) ∷ [] in
    let is : slice_range bytes at (at + 4) ≡ four = slice_cells bytes at 4 le ∙ simp (c2, c3) in
    ap (from_le_bytes w32) (sym is)

pub u16_cells : (bytes : List ℕ) (at : ℕ) → at + 2 ≤ length bytes → u16_at bytes at ≡ from_le_bytes w16 (slice_range bytes at (at + 2))
unfolding u16_at cells
u16_cells bytes at le = ap (from_le_bytes w16) (sym (slice_cells bytes at 2 le))
