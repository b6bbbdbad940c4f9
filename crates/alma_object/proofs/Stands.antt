-- What stands in the bytes of an object at an offset.
use Rattle.std.proofs.Common.{◌≡◌, ℕ, zero, suc, ◌+◌, ◌-◌, ◌*◌, ◌^◌, ◌<◌, ◌≤◌, ℤ, SFits, true, false, List, [], ◌∷◌, ◌++◌, length}
use Rattle.std.proofs.Common.{get_or, take, drop, refl, sym, ap, subst, ◌∙◌, append_assoc, arith}
use Rattle.std.specs.Prelude.{slice_range}
use Rattle.std.specs.List.{flat_map}
use Rattle.std.specs.Int.{w16, w32, w64, from_le_bytes, to_le_bytes, cast_signed, cast_unsigned}
use Rattle.std.proofs.lemmas.List.{append-nil, length-append, take_at, drop_at}
use Rattle.std.proofs.lemmas.Nat.{from_le_bytes-to_le_bytes_2, from_le_bytes-to_le_bytes_4, from_le_bytes-to_le_bytes_8}
use Rattle.std.proofs.lemmas.Int.{to_z-of_z}
use Rattle.std.proofs.Math.Nat.{mul-suc, mul-zero}
use Rattle.std.proofs.Math.Facts.{Fits-of_z}
use Rattle.std.proofs.lemmas.Bool.Decides.{nat_tests}
use Rattle.std.specs.Prelude.{nat_eq, nat_lt, nat_le}
use Rattle.std.proofs.Common.{Option, None}
use Rattle.alma_object_format.specs.declared.fault.ObjectFault.{ObjectFault}
use Rattle.alma_object_format.specs.declared.fault.ObjectFault.TheVariants as fault
use Rattle.alma_base.proofs.FirstFault.{unless_clean}
use Rattle.alma_base.specs.FirstFault.{or_else}
use Rattle.alma_object_format.specs.Fault.{whole, first_fault}
use Rattle.alma_object_format.specs.Bytes.{u16_bytes, u32_bytes, i64_bytes, words_bytes, u16_at, u32_at, i64_at}
use Rattle.alma_object.proofs.Slices.{words_from, long_slice, u32_cells, u16_cells}

-- the bytes have these at an offset, and more or nothing behind them
pub record Stands (bytes : List ℕ) (at : ℕ) (part : List ℕ) : Type 0 where
  pub front : List ℕ
  pub behind : List ℕ
  pub front_length : length front ≡ at
  pub spelled : bytes ≡ front ++ (part ++ behind)

pub stands_all : (bytes : List ℕ) → Stands bytes 0 bytes
stands_all bytes = record { front = []; behind = []; front_length = refl; spelled = sym (append-nil bytes) }

pub stands_first : (bytes : List ℕ) (at : ℕ) (xs ys : List ℕ) → Stands bytes at (xs ++ ys) → Stands bytes at xs
stands_first bytes at xs ys s = record {
  front = s.front;
  behind = ys ++ s.behind;
  front_length = s.front_length;
  spelled = s.spelled
      ∙ ap (λ (t : List ℕ). s.front ++ t) (append_assoc xs ys s.behind);
}

pub stands_second : (bytes : List ℕ) (at next : ℕ) (xs ys : List ℕ) → at + length xs ≡ next → Stands bytes at (xs ++ ys)
    → Stands bytes next ys
stands_second bytes at next xs ys e s = record {
  front = s.front ++ xs;
  behind = s.behind;
  front_length = length-append s.front xs ∙ omega (arith, s.front_length);
  spelled = s.spelled ∙ ap (λ (t : List ℕ). s.front ++ t) (append_assoc xs ys s.behind) ∙ sym (append_assoc s.front xs (ys ++ s.behind));
}

pub stands_within : (bytes : List ℕ) (at : ℕ) (part : List ℕ) → Stands bytes at part → at + length part ≤ length bytes
stands_within bytes at part s = omega (
  arith,
  s.front_length,
  ap length s.spelled,
  length-append s.front (part ++ s.behind),
  length-append part s.behind,
)

pub stands_slice : (bytes : List ℕ) (at end : ℕ) (part : List ℕ) → at + length part ≡ end → Stands bytes at part
    → slice_range bytes at end ≡ part
stands_slice bytes at end part e s =
    let n : end - at ≡ length part = omega arith in
    ap (λ k. take k (drop at bytes)) n
    ∙ ap (take (length part)) (ap (drop at) s.spelled ∙ drop_at s.front (part ++ s.behind) at s.front_length)
    ∙ take_at part s.behind (length part) refl

-- the same part at another offset, or in other words
pub stands_as : (bytes : List ℕ) (at other : ℕ) (part : List ℕ) → at ≡ other → Stands bytes at part → Stands bytes other part
stands_as bytes at other part e s = subst (λ k. Stands bytes k part) e s

-- ---- numbers

pub u32_length : (n : ℕ) → length (u32_bytes n) ≡ 4
unfolding u32_bytes
u32_length n = refl

pub u32_stands : (bytes : List ℕ) (at n : ℕ) → n < 2 ^ 32 → Stands bytes at (u32_bytes n) → u32_at bytes at ≡ n
unfolding u32_bytes
u32_stands bytes at n lt s =
    let within = stands_within bytes at (u32_bytes n) s in
    let is = stands_slice bytes at (at + 4) (u32_bytes n) refl s in
    u32_cells bytes at within ∙ ap (from_le_bytes w32) is ∙ from_le_bytes-to_le_bytes_4 n lt

-- words below 2 ^ 32
pub AreWords : List ℕ → Type 0
AreWords ns = (k : ℕ) → get_or ns k 0 < 2 ^ 32

pub words_length : (ns : List ℕ) → length (words_bytes ns) ≡ 4 * length ns
words_length [] = refl
words_length (n ∷ ns) = length-append (u32_bytes n) (words_bytes ns) ∙ omega (arith, u32_length n, words_length ns)

pub words_stand : (bytes : List ℕ) (at : ℕ) (ns : List ℕ) → AreWords ns → Stands bytes at (words_bytes ns)
    → words_from bytes at (length ns) ≡ ns
unfolding AreWords
words_stand bytes at [] fit s = refl
words_stand bytes at (n ∷ ns) fit s =
    let first = u32_stands bytes at n (fit 0) (stands_first bytes at (u32_bytes n) (words_bytes ns) s) in
    let rest = words_stand bytes (at + 4) ns (λ k. fit (suc k))
    (stands_second bytes at (at + 4) (u32_bytes n) (words_bytes ns) (omega (arith, u32_length n)) s) in
    ap (λ m. m ∷ words_from bytes (at + 4) (length ns)) first ∙ ap (λ (t : List ℕ). n ∷ t) rest

-- ---- sections of records of one size

pub each_length : {A : Type 0} (f : A → List ℕ) (w : ℕ) (xs : List A) → ((x : A) → length (f x) ≡ w)
    → length (flat_map f xs) ≡ w * length xs
each_length f w [] same = sym (mul-zero w)
each_length f w (x ∷ xs) same = length-append (f x) (flat_map f xs) ∙ omega (arith, same x, each_length f w xs same, mul-suc w (length xs))

pub stands_nth : {A : Type 0} (bytes : List ℕ) (at w : ℕ) (f : A → List ℕ) (xs : List A) → ((x : A) → length (f x) ≡ w)
    → Stands bytes at (flat_map f xs) → (k : ℕ) (d : A) → k < length xs → Stands bytes (at + w * k) (f (get_or xs k d))
stands_nth bytes at w f [] same s k d lt = absurd (omega arith)
stands_nth bytes at w f (x ∷ xs) same s zero d lt =
    stands_as bytes at (at + w * 0) (f x) (omega (arith, mul-zero w)) (stands_first bytes at (f x) (flat_map f xs) s)
stands_nth bytes at w f (x ∷ xs) same s (suc k) d lt =
    stands_as bytes (at + w + w * k) (at + w * suc k) (f (get_or xs k d)) (omega (arith, mul-suc w k))
    (stands_nth bytes (at + w) w f xs same (stands_second bytes at (at + w) (f x) (flat_map f xs) (omega (arith, same x)) s) k d
    (omega arith))

-- no fault of items that have none
pub first_clean : (of : ℕ → Option ObjectFault) (i n : ℕ) → ((k : ℕ) → i ≤ k → k < i + n → of k ≡ None) → first_fault of i n ≡ None
unfolding first_fault
first_clean of i zero clean = refl
first_clean of i (suc n) clean = ap (λ x. or_else x (first_fault of (suc i) n)) (clean i (omega arith) (omega arith))
    ∙ first_clean of (suc i) n (λ k low high. clean k (omega arith) (omega arith))

pub le_test : (m n : ℕ) → m ≤ n → nat_le m n ≡ true
le_test m n le = grind (arith, nat_tests)

pub lt_test : (m n : ℕ) → m < n → nat_lt m n ≡ true
lt_test m n lt = grind (arith, nat_tests)

pub eq_test : (m n : ℕ) → m ≡ n → nat_eq m n ≡ true
eq_test m n e = grind (arith, nat_tests)

pub ne_test : (m n : ℕ) → (m ≡ n → ⊥) → nat_eq m n ≡ false
ne_test m n e = grind (arith, nat_tests)

pub whole_true : (bytes : List ℕ) (end : ℕ) (rest : Option ObjectFault) → end ≤ length bytes → rest ≡ None → whole bytes end rest ≡ None
whole_true bytes end rest le r = unless_clean (nat_le end (length bytes)) (fault.Cut (length bytes)) rest (le_test _ _ le) r

-- ---- numbers of INTEGER

pub i64_length : (n : ℤ) → length (i64_bytes n) ≡ 8
unfolding i64_bytes
i64_length n = refl

pub i64_stands : (bytes : List ℕ) (at : ℕ) (n : ℤ) → SFits w64 n → Stands bytes at (i64_bytes n) → i64_at bytes at ≡ n
unfolding i64_bytes i64_at
i64_stands bytes at n fit s =
    let within = stands_within bytes at (to_le_bytes w64 (cast_unsigned w64 n)) s in
    let is = sym (long_slice bytes at within) ∙ stands_slice bytes at (at + 8) (to_le_bytes w64 (cast_unsigned w64 n)) refl s in
    ap (λ (t : List ℕ). cast_signed w64 (from_le_bytes w64 t)) is
    ∙ ap (cast_signed w64) (from_le_bytes-to_le_bytes_8 (cast_unsigned w64 n) (omega (arith, Fits-of_z fit))) ∙ to_z-of_z w64 n fit

pub u16_length : (n : ℕ) → length (u16_bytes n) ≡ 2
unfolding u16_bytes
u16_length n = refl

pub u16_stands : (bytes : List ℕ) (at n : ℕ) → n < 2 ^ 16 → Stands bytes at (u16_bytes n) → u16_at bytes at ≡ n
unfolding u16_bytes
u16_stands bytes at n lt s =
    let within = stands_within bytes at (u16_bytes n) s in
    let is = stands_slice bytes at (at + 2) (u16_bytes n) refl s in
    u16_cells bytes at within ∙ ap (from_le_bytes w16) is ∙ from_le_bytes-to_le_bytes_2 n lt

pub no_words : AreWords []
unfolding AreWords
no_words k = omega arith

pub more_words : (n : ℕ) (ns : List ℕ) → n < 2 ^ 32 → AreWords ns → AreWords (n ∷ ns)
unfolding AreWords
more_words n ns lt rest zero = lt
more_words n ns lt rest (suc k) = rest k

pub each_word : (ns : List ℕ) → ((k : ℕ) → get_or ns k 0 < 2 ^ 32) → AreWords ns
unfolding AreWords
each_word ns h = h
