-- The record of an instruction is spelled by the instruction that stands in it.
use Rattle.std.proofs.Common.{◌≡◌, ℕ, zero, suc, ◌+◌, ◌-◌, ◌*◌, ◌≤◌, ℤ, Bool, true, false, ◌&&◌, List, [], ◌∷◌, ◌++◌, length, get_or, drop}
use Rattle.std.proofs.Common.{refl, sym, ap, ◌∙◌, arith}
use Rattle.std.specs.Prelude.{slice_index, slice_range, nat_eq, nat_le, if◌then◌else◌}
use Rattle.std.specs.List.{list_all}
use Rattle.std.proofs.lemmas.Bool.Decides.{nat_tests}
use Rattle.alma_code.specs.declared.instr.Instr.TheVariants as I
use Rattle.alma_object_format.specs.Bytes.{i64_bytes, words_bytes, u32_at, i64_at}
use Rattle.alma_object_format.specs.Instrs.{record_bytes, instr_bytes, instrs_with, used_words, last_opcode, words_at, is_instr, instr_at}
use Rattle.alma_object_format.proofs.Kept.{and_parts, le_fact}
use Rattle.alma_object.proofs.Slices.{IsBytes, words_slice, slice_join, one_slice}
use Rattle.alma_object.proofs.Spelled.{i64_slice}

eq_fact : (m n : ℕ) → nat_eq m n ≡ true → m ≡ n
eq_fact m n e = grind (arith, nat_tests)

-- the words that a form does not use are 0
abbrev zeros : List ℕ → Bool
zeros words = list_all (λ word. nat_eq word 0) words

z1 : (f : ℕ → List ℕ) (d : ℕ) → zeros (d ∷ []) ≡ true → f 0 ≡ f d
z1 f d e = let p = and_parts (nat_eq d 0) true e in ap f (sym (eq_fact d 0 p.0))

z2 : (f : ℕ → ℕ → List ℕ) (c d : ℕ) → zeros (c ∷ d ∷ []) ≡ true → f 0 0 ≡ f c d
z2 f c d e = let p = and_parts (nat_eq c 0) (zeros (d ∷ [])) e in ap (λ k. f k 0) (sym (eq_fact c 0 p.0)) ∙ z1 (f c) d p.1

z3 : (f : ℕ → ℕ → ℕ → List ℕ) (b c d : ℕ) → zeros (b ∷ c ∷ d ∷ []) ≡ true → f 0 0 0 ≡ f b c d
z3 f b c d e = let p = and_parts (nat_eq b 0) (zeros (c ∷ d ∷ [])) e in ap (λ k. f k 0 0) (sym (eq_fact b 0 p.0)) ∙ z2 (f b) c d p.1

z4 : (f : ℕ → ℕ → ℕ → ℕ → List ℕ) (a b c d : ℕ) → zeros (a ∷ b ∷ c ∷ d ∷ []) ≡ true → f 0 0 0 0 ≡ f a b c d
z4 f a b c d e = let p = and_parts (nat_eq a 0) (zeros (b ∷ c ∷ d ∷ [])) e in ap (λ k. f k 0 0 0) (sym (eq_fact a 0 p.0))
    ∙ z3 (f a) b c d p.1

-- opcode n + 2
form_again : (n a b c d : ℕ) (v : ℤ) → n ≤ 50 → zeros (drop (get_or used_words (suc (suc n) - 1) 0) (a ∷ b ∷ c ∷ d ∷ [])) ≡ true →
    instr_bytes (get_or (I.Fail ∷ instrs_with a b c d v) (suc (suc n)) I.Fail) ≡ record_bytes (suc (suc n)) a b c d
unfolding instr_bytes
form_again zero a b c d v le e = z2 (λ y z. record_bytes 2 a b y z) c d e
form_again (suc zero) a b c d v le e = z1 (λ z. record_bytes 3 a b c z) d e
form_again (suc (suc zero)) a b c d v le e = z1 (λ z. record_bytes 4 a b c z) d e
form_again (suc (suc (suc zero))) a b c d v le e = z1 (λ z. record_bytes 5 a b c z) d e
form_again (suc (suc (suc (suc zero)))) a b c d v le e = z1 (λ z. record_bytes 6 a b c z) d e
form_again (suc (suc (suc (suc (suc zero))))) a b c d v le e = z1 (λ z. record_bytes 7 a b c z) d e
form_again (suc (suc (suc (suc (suc (suc zero)))))) a b c d v le e = z2 (λ y z. record_bytes 8 a b y z) c d e
form_again (suc (suc (suc (suc (suc (suc (suc zero))))))) a b c d v le e = z1 (λ z. record_bytes 9 a b c z) d e
form_again (suc (suc (suc (suc (suc (suc (suc (suc zero)))))))) a b c d v le e = z1 (λ z. record_bytes 10 a b c z) d e
form_again (suc (suc (suc (suc (suc (suc (suc (suc (suc zero))))))))) a b c d v le e = z1 (λ z. record_bytes 11 a b c z) d e
form_again (suc (suc (suc (suc (suc (suc (suc (suc (suc (suc zero)))))))))) a b c d v le e = z2 (λ y z. record_bytes 12 a b y z) c d e
form_again (suc (suc (suc (suc (suc (suc (suc (suc (suc (suc (suc zero))))))))))) a b c d v le e = z2 (λ y z. record_bytes 13 a b y z) c d e
form_again (suc (suc (suc (suc (suc (suc (suc (suc (suc (suc (suc (suc zero)))))))))))) a b c d v le e =
    z2 (λ y z. record_bytes 14 a b y z) c d e
form_again (suc (suc (suc (suc (suc (suc (suc (suc (suc (suc (suc (suc (suc zero))))))))))))) a b c d v le e =
    z2 (λ y z. record_bytes 15 a b y z) c d e
form_again (suc (suc (suc (suc (suc (suc (suc (suc (suc (suc (suc (suc (suc (suc zero)))))))))))))) a b c d v le e =
    z2 (λ y z. record_bytes 16 a b y z) c d e
form_again (suc (suc (suc (suc (suc (suc (suc (suc (suc (suc (suc (suc (suc (suc (suc zero))))))))))))))) a b c d v le e =
    z1 (λ z. record_bytes 17 a b c z) d e
form_again (suc (suc (suc (suc (suc (suc (suc (suc (suc (suc (suc (suc (suc (suc (suc (suc zero)))))))))))))))) a b c d v le e = refl
form_again (suc (suc (suc (suc (suc (suc (suc (suc (suc (suc (suc (suc (suc (suc (suc (suc (suc zero))))))))))))))))) a b c d v le e =
    z2 (λ y z. record_bytes 19 a b y z) c d e
form_again (suc (suc (suc (suc (suc (suc (suc (suc (suc (suc (suc (suc (suc (suc (suc (suc (suc (suc zero)))))))))))))))))) a b c d v le e =
    z2 (λ y z. record_bytes 20 a b y z) c d e
form_again (suc (suc (suc (suc (suc (suc (suc (suc (suc (suc (suc (suc (suc (suc (suc (suc (suc (suc (suc zero))))))))))))))))))) a b c d v
    le e = z2 (λ y z. record_bytes 21 a b y z) c d e
form_again (suc (suc (suc (suc (suc (suc (suc (suc (suc (suc (suc (suc (suc (suc (suc (suc (suc (suc (suc (suc zero)))))))))))))))))))) a b
    c d v le e = z1 (λ z. record_bytes 22 a b c z) d e
form_again (suc (suc (suc
    (suc (suc (suc (suc (suc (suc (suc (suc (suc (suc (suc (suc (suc (suc (suc (suc (suc (suc zero))))))))))))))))))))) a b c d v le e =
    refl
form_again (suc (suc (suc
    (suc (suc (suc (suc (suc (suc (suc (suc (suc (suc (suc (suc (suc (suc (suc (suc (suc (suc (suc zero)))))))))))))))))))))) a b c d v le
    e = z2 (λ y z. record_bytes 24 a b y z) c d e
form_again (suc (suc (suc
    (suc (suc (suc (suc (suc (suc (suc (suc (suc (suc (suc (suc (suc (suc (suc (suc (suc (suc (suc (suc zero))))))))))))))))))))))) a b c d
    v le e = z2 (λ y z. record_bytes 25 a b y z) c d e
form_again (suc (suc (suc
    (suc (suc (suc (suc (suc (suc (suc (suc (suc (suc (suc (suc (suc (suc (suc (suc (suc (suc (suc (suc (suc zero)))))))))))))))))))))))) a
    b c d v le e = z3 (λ x y z. record_bytes 26 a x y z) b c d e
form_again (suc (suc (suc
    (suc (suc (suc (suc (suc
    (suc (suc (suc (suc (suc (suc (suc (suc (suc (suc (suc (suc (suc (suc (suc (suc (suc zero))))))))))))))))))))))))) a b c d v le e =
    z2 (λ y z. record_bytes 27 a b y z) c d e
form_again (suc (suc (suc
    (suc (suc (suc (suc (suc
    (suc (suc (suc (suc (suc (suc (suc (suc (suc (suc (suc (suc (suc (suc (suc (suc (suc (suc zero)))))))))))))))))))))))))) a b c d v le
    e = z3 (λ x y z. record_bytes 28 a x y z) b c d e
form_again (suc (suc (suc
    (suc (suc (suc (suc (suc
    (suc (suc (suc (suc (suc (suc (suc (suc (suc (suc (suc (suc (suc (suc (suc (suc (suc (suc (suc zero))))))))))))))))))))))))))) a b c d v
    le e = z4 (λ w x y z. record_bytes 29 w x y z) a b c d e
form_again (suc (suc (suc
    (suc (suc (suc (suc (suc
    (suc (suc (suc (suc (suc (suc (suc (suc (suc (suc (suc (suc (suc (suc (suc (suc (suc (suc (suc (suc zero)))))))))))))))))))))))))))) a b
    c d v le e = z3 (λ x y z. record_bytes 30 a x y z) b c d e
form_again (suc (suc (suc
    (suc (suc (suc (suc (suc
    (suc (suc (suc (suc (suc
    (suc (suc (suc (suc (suc (suc (suc (suc (suc (suc (suc (suc (suc (suc (suc (suc zero))))))))))))))))))))))))))))) a b c d v le e =
    z3 (λ x y z. record_bytes 31 a x y z) b c d e
form_again (suc (suc (suc
    (suc (suc (suc (suc (suc
    (suc (suc (suc (suc (suc
    (suc (suc (suc (suc (suc (suc (suc (suc (suc (suc (suc (suc (suc (suc (suc (suc (suc zero)))))))))))))))))))))))))))))) a b c d v le e =
    z3 (λ x y z. record_bytes 32 a x y z) b c d e
form_again (suc (suc (suc
    (suc (suc (suc (suc (suc
    (suc (suc (suc (suc (suc
    (suc (suc (suc (suc (suc (suc (suc (suc (suc (suc (suc (suc (suc (suc (suc (suc (suc (suc zero))))))))))))))))))))))))))))))) a b c d v
    le e = z2 (λ y z. record_bytes 33 a b y z) c d e
form_again (suc (suc (suc
    (suc (suc (suc (suc (suc
    (suc (suc (suc (suc (suc
    (suc (suc (suc (suc (suc (suc (suc (suc (suc (suc (suc (suc (suc (suc (suc (suc (suc (suc (suc zero)))))))))))))))))))))))))))))))) a b
    c d v le e = z2 (λ y z. record_bytes 34 a b y z) c d e
form_again (suc (suc (suc
    (suc (suc (suc (suc (suc
    (suc (suc (suc (suc (suc
    (suc (suc (suc (suc (suc
    (suc (suc (suc (suc (suc (suc (suc (suc (suc (suc (suc (suc (suc (suc (suc zero))))))))))))))))))))))))))))))))) a b c d v le e =
    z3 (λ x y z. record_bytes 35 a x y z) b c d e
form_again (suc (suc (suc
    (suc (suc (suc (suc (suc
    (suc (suc (suc (suc (suc
    (suc (suc (suc (suc (suc
    (suc (suc (suc (suc (suc (suc (suc (suc (suc (suc (suc (suc (suc (suc (suc (suc zero)))))))))))))))))))))))))))))))))) a b c d v le e =
    z4 (λ w x y z. record_bytes 36 w x y z) a b c d e
form_again (suc (suc (suc
    (suc (suc (suc (suc (suc
    (suc (suc (suc (suc (suc
    (suc (suc (suc (suc (suc
    (suc (suc (suc (suc (suc (suc (suc (suc (suc (suc (suc (suc (suc (suc (suc (suc (suc zero))))))))))))))))))))))))))))))))))) a b c d v
    le e = z1 (λ z. record_bytes 37 a b c z) d e
form_again (suc (suc (suc
    (suc (suc (suc (suc (suc
    (suc (suc (suc (suc (suc
    (suc (suc (suc (suc (suc
    (suc (suc (suc (suc (suc (suc (suc (suc (suc (suc (suc (suc (suc (suc (suc (suc (suc (suc zero)))))))))))))))))))))))))))))))))))) a b c
    d v le e = z4 (λ w x y z. record_bytes 38 w x y z) a b c d e
form_again (suc (suc (suc
    (suc (suc (suc (suc (suc
    (suc (suc (suc (suc (suc
    (suc (suc (suc (suc (suc
    (suc (suc (suc (suc (suc (suc (suc (suc (suc (suc (suc (suc (suc (suc (suc (suc (suc (suc (suc zero)))))))))))))))))))))))))))))))))))))
    a b c d v le e = z3 (λ x y z. record_bytes 39 a x y z) b c d e
form_again (suc (suc (suc
    (suc (suc (suc (suc (suc
    (suc (suc (suc (suc (suc
    (suc (suc (suc (suc (suc
    (suc (suc (suc (suc (suc
    (suc (suc (suc (suc (suc (suc (suc (suc (suc (suc (suc (suc (suc (suc (suc zero)))))))))))))))))))))))))))))))))))))) a b c d v le e =
    z2 (λ y z. record_bytes 40 a b y z) c d e
form_again (suc (suc (suc
    (suc (suc (suc (suc (suc
    (suc (suc (suc (suc (suc
    (suc (suc (suc (suc (suc
    (suc (suc (suc (suc (suc
    (suc (suc (suc (suc (suc (suc (suc (suc (suc (suc (suc (suc (suc (suc (suc (suc zero))))))))))))))))))))))))))))))))))))))) a b c d v le
    e = z2 (λ y z. record_bytes 41 a b y z) c d e
form_again (suc (suc (suc
    (suc (suc (suc (suc (suc
    (suc (suc (suc (suc (suc
    (suc (suc (suc (suc (suc
    (suc (suc (suc (suc (suc
    (suc (suc (suc (suc (suc (suc (suc (suc (suc (suc (suc (suc (suc (suc (suc (suc (suc zero)))))))))))))))))))))))))))))))))))))))) a b c
    d v le e = z3 (λ x y z. record_bytes 42 a x y z) b c d e
form_again (suc (suc (suc
    (suc (suc (suc (suc (suc
    (suc (suc (suc (suc (suc
    (suc (suc (suc (suc (suc
    (suc (suc (suc (suc (suc
    (suc (suc (suc (suc (suc (suc (suc (suc (suc (suc (suc (suc (suc (suc (suc (suc (suc (suc zero)))))))))))))))))))))))))))))))))))))))))
    a b c d v le e = z3 (λ x y z. record_bytes 43 a x y z) b c d e
form_again (suc (suc (suc
    (suc (suc (suc (suc (suc
    (suc (suc (suc (suc (suc
    (suc (suc (suc (suc (suc
    (suc (suc (suc (suc (suc
    (suc (suc (suc (suc (suc
    (suc (suc (suc (suc (suc (suc (suc (suc (suc (suc (suc (suc (suc (suc zero)))))))))))))))))))))))))))))))))))))))))) a b c d v le e =
    z3 (λ x y z. record_bytes 44 a x y z) b c d e
form_again (suc (suc (suc
    (suc (suc (suc (suc (suc
    (suc (suc (suc (suc (suc
    (suc (suc (suc (suc (suc
    (suc (suc (suc (suc (suc
    (suc (suc (suc (suc (suc
    (suc (suc (suc (suc (suc (suc (suc (suc (suc (suc (suc (suc (suc (suc (suc zero))))))))))))))))))))))))))))))))))))))))))) a b c d v le
    e = z3 (λ x y z. record_bytes 45 a x y z) b c d e
form_again (suc (suc (suc
    (suc (suc (suc (suc (suc
    (suc (suc (suc (suc (suc
    (suc (suc (suc (suc (suc
    (suc (suc (suc (suc (suc
    (suc (suc (suc (suc (suc
    (suc (suc (suc (suc (suc (suc (suc (suc (suc (suc (suc (suc (suc (suc (suc (suc zero)))))))))))))))))))))))))))))))))))))))))))) a b c d
    v le e = z4 (λ w x y z. record_bytes 46 w x y z) a b c d e
form_again (suc (suc (suc
    (suc (suc (suc (suc (suc
    (suc (suc (suc (suc (suc
    (suc (suc (suc (suc (suc
    (suc (suc (suc (suc (suc
    (suc (suc (suc (suc (suc
    (suc (suc (suc (suc (suc (suc (suc (suc (suc (suc (suc (suc (suc (suc (suc (suc (suc zero))))))))))))))))))))))))))))))))))))))))))))) a
    b c d v le e = z3 (λ x y z. record_bytes 47 a x y z) b c d e
form_again (suc (suc (suc
    (suc (suc (suc (suc (suc
    (suc (suc (suc (suc (suc
    (suc (suc (suc (suc (suc
    (suc (suc (suc (suc (suc
    (suc (suc (suc (suc (suc
    (suc (suc (suc (suc (suc
    (suc (suc (suc (suc (suc (suc (suc (suc (suc (suc (suc (suc (suc zero)))))))))))))))))))))))))))))))))))))))))))))) a b c d v le e =
    refl
form_again (suc (suc (suc
    (suc (suc (suc (suc (suc
    (suc (suc (suc (suc (suc
    (suc (suc (suc (suc (suc
    (suc (suc (suc (suc (suc
    (suc (suc (suc (suc (suc
    (suc (suc (suc (suc (suc
    (suc (suc (suc (suc (suc (suc (suc (suc (suc (suc (suc (suc (suc (suc zero))))))))))))))))))))))))))))))))))))))))))))))) a b c d v le
    e = z3 (λ x y z. record_bytes 49 a x y z) b c d e
form_again (suc (suc (suc
    (suc (suc (suc (suc (suc
    (suc (suc (suc (suc (suc
    (suc (suc (suc (suc (suc
    (suc (suc (suc (suc (suc
    (suc (suc (suc (suc (suc
    (suc (suc (suc (suc (suc
    (suc (suc (suc (suc (suc (suc (suc (suc (suc (suc (suc (suc (suc (suc (suc zero)))))))))))))))))))))))))))))))))))))))))))))))) a b c d
    v le e = z1 (λ z. record_bytes 50 a b c z) d e
form_again (suc (suc (suc
    (suc (suc (suc (suc (suc
    (suc (suc (suc (suc (suc
    (suc (suc (suc (suc (suc
    (suc (suc (suc (suc (suc
    (suc (suc (suc (suc (suc
    (suc (suc (suc (suc (suc
    (suc (suc (suc (suc (suc (suc (suc (suc (suc (suc (suc (suc (suc (suc (suc (suc zero))))))))))))))))))))))))))))))))))))))))))))))))) a
    b c d v le e = z1 (λ z. record_bytes 51 a b c z) d e
form_again (suc (suc (suc
    (suc (suc (suc (suc (suc
    (suc (suc (suc (suc (suc
    (suc (suc (suc (suc (suc
    (suc (suc (suc (suc (suc
    (suc (suc (suc (suc (suc
    (suc (suc (suc (suc (suc
    (suc (suc (suc (suc (suc
    (suc (suc (suc (suc (suc (suc (suc (suc (suc (suc (suc (suc zero)))))))))))))))))))))))))))))))))))))))))))))))))) a b c d v le e =
    z1 (λ z. record_bytes 52 a b c z) d e
form_again (suc (suc (suc
    (suc (suc (suc (suc (suc
    (suc (suc (suc (suc (suc
    (suc (suc (suc (suc (suc
    (suc (suc (suc (suc (suc
    (suc (suc (suc (suc (suc
    (suc (suc (suc (suc (suc
    (suc (suc (suc (suc (suc
    (suc (suc (suc (suc (suc (suc (suc (suc (suc (suc (suc (suc (suc n))))))))))))))))))))))))))))))))))))))))))))))))))) a b c d v le e =
    absurd (omega arith)

last_code : (two : Bool) (n : ℕ) → nat_le n (if two then 52 else 48) ≡ true → n ≤ 52
last_code true n e = le_fact n 52 e
last_code false n e = let f = le_fact n 48 e in omega arith

four_words : (bytes : List ℕ) (at : ℕ) → IsBytes bytes → at + 17 ≤ length bytes
    → slice_range bytes (at + 1) (at + 17) ≡ words_bytes
    (u32_at bytes (at + 1) ∷ u32_at bytes (at + 5) ∷ u32_at bytes (at + 9) ∷ u32_at bytes (at + 13) ∷ [])
four_words bytes at fits le =
    let c1 : at + 1 + 4 ≡ at + 5 = omega arith in
    let c2 : at + 5 + 4 ≡ at + 9 = omega arith in
    let c3 : at + 9 + 4 ≡ at + 13 = omega arith in
    let e : at + 1 + 4 * 4 ≡ at + 17 = omega arith in
    ap (slice_range bytes (at + 1)) (sym e) ∙ words_slice bytes (at + 1) 4 fits (omega arith) ∙ simp (c1, c2, c3)

-- a Const
const_again : (bytes : List ℕ) (at : ℕ) → IsBytes bytes → at + 17 ≤ length bytes → u32_at bytes (at + 13) ≡ 0 →
    slice_range bytes (at + 1) (at + 17) ≡ words_bytes (u32_at bytes (at + 1) ∷ [])
    ++ (i64_bytes (i64_at bytes (at + 5)) ++ words_bytes (0 ∷ []))
const_again bytes at fits le last =
    let a : at + 1 + 4 * 1 ≡ at + 5 = omega arith in
    let b : at + 5 + 8 ≡ at + 13 = omega arith in
    let c : at + 13 + 4 * 1 ≡ at + 17 = omega arith in
    let first : slice_range bytes (at + 1) (at + 5) ≡ words_bytes (u32_at bytes (at + 1) ∷ []) = ap (slice_range bytes (at + 1)) (sym a)
    ∙ words_slice bytes (at + 1) 1 fits (omega arith) in
    let middle : slice_range bytes (at + 5) (at + 13) ≡ i64_bytes (i64_at bytes (at + 5)) = ap (slice_range bytes (at + 5)) (sym b)
    ∙ i64_slice bytes (at + 5) fits (omega arith) in
    let end : slice_range bytes (at + 13) (at + 17) ≡ words_bytes (0 ∷ []) =
    ap (slice_range bytes (at + 13)) (sym c) ∙ words_slice bytes (at + 13) 1 fits (omega arith) ∙ ap (λ k. words_bytes (k ∷ [])) last in
    sym (slice_join bytes (at + 1) (at + 5) (at + 17) (omega arith) (omega arith))
    ∙ ap (λ (t : List ℕ). t ++ slice_range bytes (at + 5) (at + 17)) first
    ∙ ap (λ (t : List ℕ). words_bytes (u32_at bytes (at + 1) ∷ []) ++ t)
    (sym (slice_join bytes (at + 5) (at + 13) (at + 17) (omega arith) (omega arith))
    ∙ ap (λ (t : List ℕ). t ++ slice_range bytes (at + 13) (at + 17)) middle
    ∙ ap (λ (t : List ℕ). i64_bytes (i64_at bytes (at + 5)) ++ t) end)

by_opcode : (bytes : List ℕ) (at n : ℕ) → IsBytes bytes → at + 17 ≤ length bytes → 1 ≤ n → n ≤ 52 →
    zeros (drop (get_or used_words (n - 1) 0)
    (u32_at bytes (at + 1) ∷ u32_at bytes (at + 5) ∷ u32_at bytes (at + 9) ∷ u32_at bytes (at + 13) ∷ [])) ≡ true →
    n ∷ slice_range bytes (at + 1) (at + 17) ≡ instr_bytes
    (get_or (I.Fail ∷ instrs_with (u32_at bytes (at + 1)) (u32_at bytes (at + 5)) (u32_at bytes (at + 9)) (u32_at bytes (at + 13))
    (i64_at bytes (at + 5))) n I.Fail)
unfolding instr_bytes
by_opcode bytes at zero fits le low high e = absurd (omega arith)
by_opcode bytes at (suc zero) fits le low high e =
    let p = and_parts (nat_eq (u32_at bytes (at + 13)) 0) true e in
    ap (λ (t : List ℕ). 1 ∷ t) (const_again bytes at fits le (eq_fact (u32_at bytes (at + 13)) 0 p.0))
by_opcode bytes at (suc (suc n)) fits le low high e =
    ap (λ (t : List ℕ). suc (suc n) ∷ t) (four_words bytes at fits le)
    ∙ sym (form_again n (u32_at bytes (at + 1)) (u32_at bytes (at + 5)) (u32_at bytes (at + 9)) (u32_at bytes (at + 13))
    (i64_at bytes (at + 5)) (omega arith) e)

pub instr_spelled : (version : ℕ) (bytes : List ℕ) (at : ℕ) → IsBytes bytes → at + 17 ≤ length bytes → is_instr version bytes at ≡ true
    → slice_range bytes at (at + 17) ≡ instr_bytes (instr_at bytes at)
unfolding is_instr instr_at
instr_spelled version bytes at fits le e =
    let opcode = slice_index bytes at in
    let a = and_parts (nat_le 1 opcode && nat_le opcode (last_opcode version)) _ e in
    let b = and_parts (nat_le 1 opcode) (nat_le opcode (last_opcode version)) a.0 in
    let low = le_fact 1 opcode b.0 in
    let high = last_code (nat_eq version 2) opcode b.1 in
    let c1 : at + 1 + 4 ≡ at + 5 = omega arith in
    let c2 : at + 1 + 8 ≡ at + 9 = omega arith in
    let c3 : at + 1 + 12 ≡ at + 13 = omega arith in
    let words : words_at bytes (at + 1) ≡ u32_at bytes (at + 1) ∷ u32_at bytes (at + 5) ∷ u32_at bytes (at + 9) ∷ u32_at bytes (at + 13)
    ∷ [] = simp (c1, c2, c3) in
    sym (slice_join bytes at (at + 1) (at + 17) (omega arith) (omega arith))
    ∙ ap (λ (t : List ℕ). t ++ slice_range bytes (at + 1) (at + 17)) (one_slice bytes at (omega arith))
    ∙ by_opcode bytes at opcode fits le low high (ap (λ (t : List ℕ). zeros (drop (get_or used_words (opcode - 1) 0) t)) (sym words) ∙ a.1)
