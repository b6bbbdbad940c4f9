-- An object is accepted: its header.
use Rattle.std.proofs.Common.{◌≡◌, ◌⊎◌, ℕ, zero, suc, ◌+◌, ◌*◌, ◌^◌, ◌<◌, ◌≤◌, Bool, true, false, None, List, [], ◌∷◌, ◌++◌, length}
use Rattle.std.proofs.Common.{get_or, take, drop, refl, sym, ap, subst, ◌∙◌, arith, inl, inr}
use Rattle.std.specs.Prelude.{nat_eq, nat_le, ◌||◌, if◌then◌else◌, sum_by}
use Rattle.std.specs.List.{starts_with}
use Rattle.alma_code.specs.Plain.{PlainCode}
use Rattle.alma_code.specs.Records.{param_count, run_count, name_byte_count, text_byte_count}
use Rattle.alma_object_format.specs.declared.header.Header.{Header}
use Rattle.alma_object_format.specs.Bytes.{u16_bytes, words_bytes, u16_at, u32_at}
use Rattle.std.specs.Cmp.Lexicographic.{pointwise}
use Rattle.alma_object_format.specs.declared.fault.ObjectFault.TheVariants as fault
use Rattle.alma_base.proofs.FirstFault.{unless_clean, or_clean}
use Rattle.alma_object_format.specs.Header.{magic, header_of, count_fault, counts_fault, header_fault}
use Rattle.alma_object_format.specs.Object.{IsObject, counts_of, header_bytes, object_bytes}
use Rattle.alma_object.proofs.Slices.{words_from}
use Rattle.alma_object.proofs.Stands.{Stands, AreWords, no_words, more_words, stands_all, stands_first, stands_second, stands_slice}
use Rattle.alma_object.proofs.Stands.{stands_within, words_length, whole_true, le_test, words_stand, u16_stands, u16_length}

-- the header that the object of a code has
abbrev pub header_for : PlainCode → Header
header_for code = record {
  version = code.version;
  routines = length code.routines;
  globals = length code.globals;
  params = param_count code;
  runs = run_count code;
  ranges = length code.ranges;
  texts = length code.texts;
  name_bytes = name_byte_count code;
  text_bytes = text_byte_count code;
  instrs = length code.instrs;
  lines = length code.lines;
}

small_version : (v : ℕ) → (v ≡ 1) ⊎ (v ≡ 2) → v < 2 ^ 16
small_version v (inl e) = omega arith
small_version v (inr e) = omega arith

first_version : (v : ℕ) → (v ≡ 1) ⊎ (v ≡ 2) → nat_eq v 2 ≡ false → v ≡ 1
first_version v (inl e) f = e
first_version v (inr e) f = (let two : nat_eq v 2 ≡ true = ap (λ k. nat_eq k 2) e in absurd cc)

known_version : (v : ℕ) → (v ≡ 1) ⊎ (v ≡ 2) → (nat_eq v 1 || nat_eq v 2) ≡ true
known_version v (inl e) = ap (λ k. nat_eq k 1 || nat_eq k 2) e
known_version v (inr e) = ap (λ k. nat_eq k 1 || nat_eq k 2) e

or_right : (a b : Bool) → b ≡ true → (a || b) ≡ true
or_right true b e = refl
or_right false b e = e

some_text : (texts : List (List ℕ)) → (nat_eq (sum_by length texts) 0 || nat_le 1 (length texts)) ≡ true
some_text [] = refl
some_text (t ∷ ts) = or_right (nat_eq (sum_by length (t ∷ ts)) 0) (nat_le 1 (length (t ∷ ts))) (le_test 1 (length (t ∷ ts)) (omega arith))

pub word_at : (bytes : List ℕ) (at : ℕ) (ns : List ℕ) → words_from bytes at (length ns) ≡ ns → (k : ℕ) → k < length ns
    → u32_at bytes (at + 4 * k) ≡ get_or ns k 0
word_at bytes at [] e k lt = absurd (omega arith)
word_at bytes at (n ∷ ns) e zero lt = (let z : at + 4 * 0 ≡ at = omega arith in ap (u32_at bytes) z ∙ ap (λ (t : List ℕ). get_or t 0 0) e)
word_at bytes at (n ∷ ns) e (suc k) lt =
    let o : at + 4 * suc k ≡ at + 4 + 4 * k = omega arith in
    ap (u32_at bytes) o ∙ word_at bytes (at + 4) ns (ap (drop 1) e) k (omega arith)

last_fits : (two : Bool) (n : ℕ) → n < 2 ^ 32 → AreWords (if two then n ∷ [] else [])
last_fits true n lt = more_words n [] lt no_words
last_fits false n lt = no_words

module _ (code : PlainCode) (bytes : List ℕ) (object : IsObject code bytes) where
  header_stands : Stands bytes 0 (header_bytes code)
  unfolding object_bytes
  header_stands =
      let P : List ℕ → Type 0 = λ t. Stands t 0 (object_bytes code) in
      stands_first bytes 0 (header_bytes code) _ (subst P object.spelled (stands_all (object_bytes code)))

  pub version_is : u16_at bytes 8 ≡ code.version
  unfolding header_bytes
  version_is =
      let rest = stands_second bytes 0 8 magic (u16_bytes code.version ++ words_bytes (counts_of code)) refl header_stands in
      let small : code.version < 2 ^ 16 = small_version code.version object.version.version in
      u16_stands bytes 8 code.version small (stands_first bytes 8 (u16_bytes code.version) (words_bytes (counts_of code)) rest)

  counts_fit : AreWords (counts_of code)
  counts_fit =
      let c = object.counts in
      more_words _ _ (omega (arith, c.routines))
      (more_words _ _ (omega (arith, c.globals)) (more_words _ _ (omega (arith, c.params)) (more_words _ _ (omega (arith, c.runs))
      (more_words _ _ (omega (arith, c.ranges))
      (more_words _ _ (omega (arith, c.texts)) (more_words _ _ (omega (arith, c.names)) (more_words _ _ (omega (arith, c.text_bytes))
      (more_words _ _ (omega (arith, c.instrs)) (last_fits (nat_eq code.version 2) (length code.lines) (omega (arith, c.lines)))))))))))

  pub counts_are : words_from bytes 10 (length (counts_of code)) ≡ counts_of code
  unfolding header_bytes
  counts_are =
      let rest = stands_second bytes 0 8 magic (u16_bytes code.version ++ words_bytes (counts_of code)) refl header_stands in
      let counts = stands_second bytes 8 10 (u16_bytes code.version) (words_bytes (counts_of code)) (omega (arith, u16_length code.version))
      rest in
      words_stand bytes 10 (counts_of code) counts_fit counts

  count_at : (k n : ℕ) → 10 + 4 * k ≡ n → k < length (counts_of code) → u32_at bytes n ≡ get_or (counts_of code) k 0
  count_at k n e lt = ap (u32_at bytes) (sym e) ∙ word_at bytes 10 (counts_of code) counts_are k lt

  lines_by : (two : Bool) → nat_eq code.version 2 ≡ two → (if nat_eq (u16_at bytes 8) 2 then u32_at bytes 46 else 0) ≡ length code.lines
  lines_by true e =
      let there : nat_eq (u16_at bytes 8) 2 ≡ true = ap (λ v. nat_eq v 2) version_is ∙ e in
      let last : (if nat_eq code.version 2 then length code.lines ∷ [] else []) ≡ length code.lines ∷ [] =
      ap (λ b. if b then length code.lines ∷ [] else []) e in
      ap (λ b. if b then u32_at bytes 46 else 0) there ∙ count_at 9 46 refl (omega (arith, ap length last))
      ∙ ap (λ (t : List ℕ). get_or t 0 0) last
  lines_by false e =
      let there : nat_eq (u16_at bytes 8) 2 ≡ false = ap (λ v. nat_eq v 2) version_is ∙ e in
      ap (λ b. if b then u32_at bytes 46 else 0) there
      ∙ sym (ap length (object.version.first (first_version code.version object.version.version e)).lines)

  pub header_is : header_of bytes ≡ header_for code
  header_is =
      let v = version_is in
      let c0 = count_at 0 10 refl (omega arith) in
      let c1 = count_at 1 14 refl (omega arith) in
      let c2 = count_at 2 18 refl (omega arith) in
      let c3 = count_at 3 22 refl (omega arith) in
      let c4 = count_at 4 26 refl (omega arith) in
      let c5 = count_at 5 30 refl (omega arith) in
      let c6 = count_at 6 34 refl (omega arith) in
      let c7 = count_at 7 38 refl (omega arith) in
      let c8 = count_at 8 42 refl (omega arith) in
      let c9 = lines_by (nat_eq code.version 2) refl in
      cc

  header_whole : 10 + 4 * length (counts_of code) ≤ length bytes
  unfolding header_bytes
  header_whole =
      let rest = stands_second bytes 0 8 magic (u16_bytes code.version ++ words_bytes (counts_of code)) refl header_stands in
      let counts = stands_second bytes 8 10 (u16_bytes code.version) (words_bytes (counts_of code)) (omega (arith, u16_length code.version))
      rest in
      omega (arith, stands_within bytes 10 (words_bytes (counts_of code)) counts, words_length (counts_of code))

  count_clean : (at greatest n : ℕ) → at + 4 ≤ length bytes → u32_at bytes at ≡ n → n ≤ greatest → count_fault bytes at greatest ≡ None
  unfolding count_fault
  count_clean at greatest n le e low =
      whole_true bytes (at + 4) _ le (unless_clean (nat_le (u32_at bytes at) greatest) (fault.BadCount at) None
      (ap (λ k. nat_le k greatest) e ∙ le_test n greatest low) refl)

  lines_clean : (two : Bool) → nat_eq code.version 2 ≡ two
      → (if nat_eq (u16_at bytes 8) 2 then count_fault bytes 46 1048576 else None) ≡ None
  lines_clean true e =
      let there : nat_eq (u16_at bytes 8) 2 ≡ true = ap (λ v. nat_eq v 2) version_is ∙ e in
      let last : (if nat_eq code.version 2 then length code.lines ∷ [] else []) ≡ length code.lines ∷ [] =
      ap (λ b. if b then length code.lines ∷ [] else []) e in
      ap (λ b. if b then count_fault bytes 46 1048576 else None) there
      ∙ count_clean 46 1048576 (length code.lines) (omega (arith, header_whole, ap length last))
      (count_at 9 46 refl (omega (arith, ap length last)) ∙ ap (λ (t : List ℕ). get_or t 0 0) last) object.counts.lines
  lines_clean false e =
      let there : nat_eq (u16_at bytes 8) 2 ≡ false = ap (λ v. nat_eq v 2) version_is ∙ e in
      ap (λ b. if b then count_fault bytes 46 1048576 else None) there

  counts_clean : counts_fault bytes ≡ None
  unfolding counts_fault
  counts_clean =
      let c0 = count_at 0 10 refl (omega arith) in
      let c5 = count_at 5 30 refl (omega arith) in
      let c7 = count_at 7 38 refl (omega arith) in
      let c = object.counts in
      or_clean (count_clean 10 262144 (length code.routines) (omega (arith, header_whole)) c0 c.routines)
      (unless_clean (nat_le 1 (u32_at bytes 10)) (fault.BadCount 10) _
      (ap (nat_le 1) c0 ∙ le_test 1 (length code.routines) object.table.some)
      (or_clean (count_clean 14 1048576 (length code.globals) (omega (arith, header_whole)) (count_at 1 14 refl (omega arith)) c.globals)
      (or_clean (count_clean 18 1048576 (param_count code) (omega (arith, header_whole)) (count_at 2 18 refl (omega arith)) c.params)
      (or_clean (count_clean 22 8388608 (run_count code) (omega (arith, header_whole)) (count_at 3 22 refl (omega arith)) c.runs)
      (or_clean (count_clean 26 1048576 (length code.ranges) (omega (arith, header_whole)) (count_at 4 26 refl (omega arith)) c.ranges)
      (or_clean (count_clean 30 1048576 (length code.texts) (omega (arith, header_whole)) c5 c.texts)
      (or_clean (count_clean 34 16777216 (name_byte_count code) (omega (arith, header_whole)) (count_at 6 34 refl (omega arith)) c.names)
      (or_clean (count_clean 38 16777216 (text_byte_count code) (omega (arith, header_whole)) c7 c.text_bytes)
      (unless_clean (nat_eq (u32_at bytes 38) 0 || nat_le 1 (u32_at bytes 30)) (fault.BadCount 38) _
      (ap (λ k. nat_eq k 0 || nat_le 1 (u32_at bytes 30)) c7 ∙ ap (λ k. nat_eq (text_byte_count code) 0 || nat_le 1 k) c5
      ∙ some_text code.texts)
      (or_clean (count_clean 42 4194304 (length code.instrs) (omega (arith, header_whole)) (count_at 8 42 refl (omega arith)) c.instrs)
      (lines_clean (nat_eq code.version 2) refl)))))))))))

  -- the header of an object has no fault
  pub header_clean : header_fault bytes ≡ None
  unfolding header_fault header_bytes
  header_clean =
      let first = stands_first bytes 0 magic (u16_bytes code.version ++ words_bytes (counts_of code)) header_stands in
      let is : take 8 bytes ≡ magic = stands_slice bytes 0 8 magic refl first in
      or_clean (whole_true bytes 8 _ (omega (arith, header_whole))
      (unless_clean (starts_with nat_eq bytes magic) fault.Magic None (ap (pointwise nat_eq magic) is) refl))
      (or_clean (whole_true bytes 10 _ (omega (arith, header_whole))
      (unless_clean (nat_eq (u16_at bytes 8) 1 || nat_eq (u16_at bytes 8) 2) (fault.Version (u16_at bytes 8)) None
      (ap (λ v. nat_eq v 1 || nat_eq v 2) version_is ∙ known_version code.version object.version.version) refl))
      counts_clean)
