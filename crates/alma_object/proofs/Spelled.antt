-- Bytes without fault are spelled by the code that stands in them: the records.
use Rattle.std.proofs.Common.{◌≡◌, ℕ, zero, suc, ◌+◌, ◌-◌, ◌*◌, ◌^◌, ◌<◌, ◌≤◌, Bool, true, false, None, List, [], ◌∷◌, ◌++◌, length, get_or}
use Rattle.std.proofs.Common.{drop, refl, sym, ap, ◌∙◌, arith}
use Rattle.std.specs.Prelude.{slice_range, sum_by, nat_eq, nat_le, ◌||◌, if◌then◌else◌}
use Rattle.std.specs.Int.{w64, from_le_bytes, to_le_bytes}
use Rattle.std.proofs.lemmas.List.{length-take, length-drop}
use Rattle.std.proofs.lemmas.Nat.{le_bytes_8}
use Rattle.std.proofs.lemmas.Int.{of_z-to_z}
use Rattle.std.proofs.lemmas.Bool.Decides.{nat_tests}
use Rattle.alma_object_format.specs.declared.header.Header.{Header}
use Rattle.alma_object_format.specs.Bytes.{i64_bytes, words_bytes, u32_at, i64_at}
use Rattle.alma_object_format.specs.Header.{params_at, runs_at}
use Rattle.alma_object_format.specs.Walk.{start_of, has_length, param_fault, run_fault}
use Rattle.std.proofs.lemmas.List.FromFn.{sum_by-map-range_with_len_more, take-map-range_with_len}
use Rattle.alma_object_format.specs.Object.{end_of, param_number, slot_number, slot_size, param_bytes, run_bytes, range_bytes, line_bytes}
use Rattle.alma_object_format.specs.Reading.{items, param_kind, slot_kind, param_in, run_in, range_in, line_in}
use Rattle.alma_base.proofs.FirstFault.{unless_none}
use Rattle.alma_object_format.proofs.Kept.{whole_none, le_fact}
use Rattle.alma_object.proofs.Slices.{IsBytes, words_slice, slice_join, long_at, long_slice}

-- ---- kinds

kind_again : (n : ℕ) → n ≤ 4 → param_number (param_kind n) ≡ n
kind_again zero le = refl
kind_again (suc zero) le = refl
kind_again (suc (suc zero)) le = refl
kind_again (suc (suc (suc zero))) le = refl
kind_again (suc (suc (suc (suc zero)))) le = refl
kind_again (suc (suc (suc (suc (suc n))))) le = absurd (omega arith)

slot_again : (n size : ℕ) → n ≤ 3 → slot_number (slot_kind n size) ≡ n
slot_again zero size le = refl
slot_again (suc zero) size le = refl
slot_again (suc (suc zero)) size le = refl
slot_again (suc (suc (suc zero))) size le = refl
slot_again (suc (suc (suc (suc n)))) size le = absurd (omega arith)

eq_fact : (m n : ℕ) → nat_eq m n ≡ true → m ≡ n
eq_fact m n e = grind (arith, nat_tests)

size_again : (n size : ℕ) → n ≤ 3 → (has_length n || nat_eq size 0) ≡ true → slot_size (slot_kind n size) ≡ size
size_again zero zero le e = refl
size_again zero (suc size) le e = let f = eq_fact (suc size) 0 e in absurd (omega arith)
size_again (suc zero) size le e = refl
size_again (suc (suc zero)) zero le e = refl
size_again (suc (suc zero)) (suc size) le e = let f = eq_fact (suc size) 0 e in absurd (omega arith)
size_again (suc (suc (suc zero))) size le e = refl
size_again (suc (suc (suc (suc n)))) size le e = absurd (omega arith)

last_kind : (two : Bool) (n a b : ℕ) → a ≤ b → nat_le n (if two then b else a) ≡ true → n ≤ b
last_kind true n a b le e = le_fact n b e
last_kind false n a b le e = let f = le_fact n a e in omega arith

-- ---- records of two words, of three, and of two numbers of INTEGER

two_words : (bytes : List ℕ) (at : ℕ) → IsBytes bytes → at + 8 ≤ length bytes
    → slice_range bytes at (at + 8) ≡ words_bytes (u32_at bytes at ∷ u32_at bytes (at + 4) ∷ [])
two_words bytes at fits le = words_slice bytes at 2 fits le

pub three_words : (bytes : List ℕ) (at : ℕ) → IsBytes bytes → at + 12 ≤ length bytes
    → slice_range bytes at (at + 12) ≡ words_bytes (u32_at bytes at ∷ u32_at bytes (at + 4) ∷ u32_at bytes (at + 8) ∷ [])
three_words bytes at fits le =
    let e : at + 4 + 4 ≡ at + 8 = omega arith in
    words_slice bytes at 3 fits le ∙ ap (λ k. words_bytes (u32_at bytes at ∷ u32_at bytes (at + 4) ∷ u32_at bytes k ∷ [])) e

-- ---- params and runs

pub param_spelled : (bytes : List ℕ) (h : Header) (p : ℕ) → IsBytes bytes → param_fault bytes h p ≡ None
    → slice_range bytes (params_at h + 8 * p) (params_at h + 8 * p + 8) ≡ param_bytes (param_in bytes (params_at h + 8 * p))
unfolding param_fault param_bytes param_in
param_spelled bytes h p fits e =
    let at = params_at h + 8 * p in
    let a = whole_none bytes (at + 8) _ e in
    let b = unless_none _ _ _ a.1 in
    let kind : u32_at bytes at ≤ 4 = last_kind (nat_eq h.version 2) (u32_at bytes at) 3 4 (omega arith) b.0 in
    two_words bytes at fits a.0 ∙ ap (λ k. words_bytes (k ∷ u32_at bytes (at + 4) ∷ [])) (sym (kind_again (u32_at bytes at) kind))

pub run_spelled : (bytes : List ℕ) (h : Header) (first : Bool) (r : ℕ) → IsBytes bytes → run_fault bytes h first r ≡ None
    → slice_range bytes (runs_at h + 12 * r) (runs_at h + 12 * r + 12) ≡ run_bytes (run_in bytes (runs_at h + 12 * r))
unfolding run_fault run_bytes run_in
run_spelled bytes h first r fits e =
    let at = runs_at h + 12 * r in
    let a = whole_none bytes (at + 12) _ e in
    let b = unless_none _ _ _ a.1 in
    let c = unless_none _ _ _ b.1 in
    let kind : u32_at bytes (runs_at h + 12 * r) ≤ 3 = last_kind (nat_eq h.version 2) (u32_at bytes at) 2 3 (omega arith) b.0 in
    three_words bytes at fits a.0
    ∙ ap (λ k. words_bytes (k ∷ u32_at bytes (at + 4) ∷ u32_at bytes (at + 8) ∷ []))
    (sym (slot_again (u32_at bytes at) (u32_at bytes (at + 4)) kind))
    ∙ ap (λ k. words_bytes (slot_number (slot_kind (u32_at bytes at) (u32_at bytes (at + 4))) ∷ k ∷ u32_at bytes (at + 8) ∷ []))
    (sym (size_again (u32_at bytes at) (u32_at bytes (at + 4)) kind c.0))

pub line_spelled : (bytes : List ℕ) (at : ℕ) → IsBytes bytes → at + 8 ≤ length bytes
    → slice_range bytes at (at + 8) ≡ line_bytes (line_in bytes at)
unfolding line_bytes line_in
line_spelled bytes at fits le = two_words bytes at fits le

-- ---- numbers of INTEGER, and ranges

eight_fit : (a b c d e f g i : ℕ) → a < 256 → b < 256 → c < 256 → d < 256 → e < 256 → f < 256 → g < 256 → i < 256 → (k : ℕ)
    → get_or (a ∷ b ∷ c ∷ d ∷ e ∷ f ∷ g ∷ i ∷ []) k 0 < 256
eight_fit a b c d e f g i fa fb fc fd fe ff fg fi zero = fa
eight_fit a b c d e f g i fa fb fc fd fe ff fg fi (suc zero) = fb
eight_fit a b c d e f g i fa fb fc fd fe ff fg fi (suc (suc zero)) = fc
eight_fit a b c d e f g i fa fb fc fd fe ff fg fi (suc (suc (suc zero))) = fd
eight_fit a b c d e f g i fa fb fc fd fe ff fg fi (suc (suc (suc (suc zero)))) = fe
eight_fit a b c d e f g i fa fb fc fd fe ff fg fi (suc (suc (suc (suc (suc zero))))) = ff
eight_fit a b c d e f g i fa fb fc fd fe ff fg fi (suc (suc (suc (suc (suc (suc zero)))))) = fg
eight_fit a b c d e f g i fa fb fc fd fe ff fg fi (suc (suc (suc (suc (suc (suc (suc zero))))))) = fi
eight_fit a b c d e f g i fa fb fc fd fe ff fg fi (suc (suc (suc (suc (suc (suc (suc (suc k)))))))) = omega arith

pub i64_slice : (bytes : List ℕ) (at : ℕ) → IsBytes bytes → at + 8 ≤ length bytes
    → slice_range bytes at (at + 8) ≡ i64_bytes (i64_at bytes at)
unfolding i64_bytes i64_at
i64_slice bytes at fits le =
    let eight = long_at bytes at in
    let small = eight_fit _ _ _ _ _ _ _ _ (fits at) (fits (at + 1)) (fits (at + 2)) (fits (at + 3)) (fits (at + 4)) (fits (at + 5))
    (fits (at + 6)) (fits (at + 7)) in
    let below : from_le_bytes w64 eight < 2 ^ 64 =
    omega (arith, fits at, fits (at + 1), fits (at + 2), fits (at + 3), fits (at + 4), fits (at + 5), fits (at + 6), fits (at + 7)) in
    long_slice bytes at le ∙ sym (le_bytes_8 eight (from_le_bytes w64 eight) refl small refl)
    ∙ ap (to_le_bytes w64) (sym (of_z-to_z w64 (from_le_bytes w64 eight) below))

pub range_spelled : (bytes : List ℕ) (at : ℕ) → IsBytes bytes → at + 16 ≤ length bytes
    → slice_range bytes at (at + 16) ≡ range_bytes (range_in bytes at)
unfolding range_bytes range_in
range_spelled bytes at fits le =
    let e : at + 8 + 8 ≡ at + 16 = omega arith in
    sym (slice_join bytes at (at + 8) (at + 16) (omega arith) (omega arith))
    ∙ ap (λ (t : List ℕ). t ++ slice_range bytes (at + 8) (at + 16)) (i64_slice bytes at fits (omega arith))
    ∙ ap (λ (t : List ℕ). i64_bytes (i64_at bytes at) ++ t)
    (ap (slice_range bytes (at + 8)) (sym e) ∙ i64_slice bytes (at + 8) fits (omega arith))

-- ---- parts that follow one another

pub length_slice : (bytes : List ℕ) (a b : ℕ) → b ≤ length bytes → length (slice_range bytes a b) ≡ b - a
length_slice bytes a b le = omega (arith, length-take (b - a) (drop a bytes), length-drop a bytes)

-- the end of the part of an item, in the sum of the sizes
pub sum_ends : {A : Type 0} (size : A → ℕ) (of : ℕ → A) (end : ℕ → ℕ) (n : ℕ) → ((k : ℕ) → k < n → start_of end k ≤ end k)
    → ((k : ℕ) → k < n → size (of k) ≡ end k - start_of end k) →
    sum_by size (items of n) ≡ start_of end n
sum_ends size of end zero rise sizes = refl
sum_ends size of end (suc n) rise sizes =
    let e : suc n ≡ n + 1 = omega arith in
    let before = sum_ends size of end n (λ k lt. rise k (omega arith)) (λ k lt. sizes k (omega arith)) in
    let low = rise n (omega arith) in
    let same = sizes n (omega arith) in
    let more : sum_by size (items of (n + 1)) ≡ sum_by size (items of n) + size (of n) =
    sum_by-map-range_with_len_more size of 0 n n (omega arith) in
    let last : start_of end (suc n) ≡ end n = refl in
    ap (λ k. sum_by size (items of k)) e ∙ more ∙ omega (arith, before, low, same)

-- the sum up to an item is its end
pub end_is : {A : Type 0} (size : A → ℕ) (of : ℕ → A) (end : ℕ → ℕ) (n k : ℕ) → k < n → ((k : ℕ) → k < n → start_of end k ≤ end k)
    → ((k : ℕ) → k < n → size (of k) ≡ end k - start_of end k) →
    end_of size (items of n) k ≡ end k
end_is size of end n k lt rise sizes =
    let e : k + 1 ≡ suc k = omega arith in
    ap (sum_by size) (take-map-range_with_len of 0 n (k + 1) (omega arith))
    ∙ sum_ends size of end (k + 1) (λ j l. rise j (omega arith)) (λ j l. sizes j (omega arith)) ∙ ap (start_of end) e

-- the offsets of parts at ends
pub starts_rise : (end : ℕ → ℕ) (n : ℕ) → ((k : ℕ) → k < n → start_of end k ≤ end k) → (k : ℕ) → k < n
    → start_of end k ≤ start_of end (k + 1)
starts_rise end n rise k lt = let e : k + 1 ≡ suc k = omega arith in omega (arith, rise k lt, ap (start_of end) e)
