-- The record of an instruction that stands in bytes is read as that instruction.
use Rattle.std.proofs.Common.{◌≡◌, ℕ, ◌+◌, ◌-◌, ◌*◌, ◌^◌, ◌<◌, ◌≤◌, ℤ, Bool, true, false, ◌&&◌, List, [], ◌∷◌, ◌++◌, length, get_or, drop}
use Rattle.std.proofs.Common.{refl, sym, ap, subst, ◌∙◌, arith, inl, inr}
use Rattle.std.specs.Prelude.{nat_eq, nat_le, if◌then◌else◌, slice_index, All, FitsSigned}
use Rattle.std.specs.List.{list_all}
use Rattle.std.specs.Int.{w64}
use Rattle.std.proofs.lemmas.Bool.{cases_lt}
use Rattle.std.proofs.lemmas.List.{get_or_past}
use Rattle.alma_code.specs.declared.instr.Instr.{Instr}
use Rattle.alma_code.specs.declared.instr.Instr.TheVariants as I
use Rattle.alma_code.specs.Records.{is_first_form}
use Rattle.alma_object_format.specs.Bytes.{words_bytes, i64_bytes, u32_at, i64_at}
use Rattle.alma_object.specs.Fields.{FitsInstr, fields}
use Rattle.alma_object_format.specs.Instrs.{record_bytes, instr_bytes, instrs_with, used_words, last_opcode, words_at, is_instr, instr_at}
use Rattle.alma_object.proofs.Accepted.{word_at}
use Rattle.alma_object.proofs.Slices.{one_slice}
use Rattle.alma_object.proofs.Stands.{Stands, AreWords, no_words, more_words, each_word, stands_first, stands_second, stands_slice}
use Rattle.alma_object.proofs.Stands.{stands_within, words_length, words_stand, i64_length, i64_stands, le_test}

-- what is read of an instruction's record
pub record IsRead (bytes : List ℕ) (at : ℕ) (instr : Instr) : Type 0 where
  pub again : instr_at bytes at ≡ instr
  pub good : (version : ℕ) → (nat_eq version 2 ≡ false → is_first_form instr ≡ true) → is_instr version bytes at ≡ true

-- a word among words that stand
pub field : (bytes : List ℕ) (at k : ℕ) (ns : List ℕ) → AreWords ns → Stands bytes at (words_bytes ns) → k < length ns
    → u32_at bytes (at + 4 * k) ≡ get_or ns k 0
field bytes at k ns fit s lt = word_at bytes at ns (words_stand bytes at ns fit s) k lt

first_field : (bytes : List ℕ) (at n : ℕ) (ns : List ℕ) → AreWords (n ∷ ns) → Stands bytes at (words_bytes (n ∷ ns)) → u32_at bytes at ≡ n
first_field bytes at n ns fit s = let z : at + 0 ≡ at = omega arith in ap (u32_at bytes) (sym z)
    ∙ field bytes at 0 (n ∷ ns) fit s (omega arith)

-- the first byte of what stands
pub first_byte : (bytes : List ℕ) (at b : ℕ) (rest : List ℕ) → Stands bytes at (b ∷ rest) → slice_index bytes at ≡ b
first_byte bytes at b rest s =
    let one = stands_first bytes at (b ∷ []) rest s in
    ap (λ (t : List ℕ). get_or t 0 0) (sym (one_slice bytes at (stands_within bytes at (b ∷ []) one))
    ∙ stands_slice bytes at (at + 1) (b ∷ []) refl one)

zeros : List ℕ → Bool
zeros ns = list_all (λ word. nat_eq word 0) ns

both : (a b : Bool) → a ≡ true → b ≡ true → (a && b) ≡ true
both a b ea eb = ap (λ x. x && b) ea ∙ eb

in_version : (two : Bool) (op : ℕ) → op ≤ 52 → (two ≡ false → op ≤ 48) → nat_le op (if two then 52 else 48) ≡ true
in_version true op high low = le_test op 52 high
in_version false op high low = le_test op 48 (low refl)

-- a record with an opcode and four words is read again
read_with : (bytes : List ℕ) (at : ℕ) (i : Instr) (op a b c d : ℕ) → (v : ℤ) → slice_index bytes at ≡ op → u32_at bytes (at + 1) ≡ a
    → u32_at bytes (at + 5) ≡ b → u32_at bytes (at + 9) ≡ c → u32_at bytes (at + 13) ≡ d →
    i64_at bytes (at + 5) ≡ v → get_or (I.Fail ∷ instrs_with a b c d v) op I.Fail ≡ i → instr_at bytes at ≡ i
unfolding instr_at
read_with bytes at i op a b c d v eo ea eb ec ed ev e =
    let o : get_or (I.Fail ∷ instrs_with (u32_at bytes (at + 1)) (u32_at bytes (at + 5)) (u32_at bytes (at + 9)) (u32_at bytes (at + 13))
    (i64_at bytes (at + 5))) (slice_index bytes at) I.Fail
    ≡ get_or (I.Fail ∷ instrs_with a b c d v) op I.Fail = rw (eo, ea, eb, ec, ed, ev) refl in
    o ∙ e

good_with : (version : ℕ) (bytes : List ℕ) (at : ℕ) (op a b c d : ℕ) → slice_index bytes at ≡ op → u32_at bytes (at + 1) ≡ a
    → u32_at bytes (at + 5) ≡ b → u32_at bytes (at + 9) ≡ c → u32_at bytes (at + 13) ≡ d →
    1 ≤ op → op ≤ 52 → (nat_eq version 2 ≡ false → op ≤ 48) → zeros (drop (get_or used_words (op - 1) 0) (a ∷ b ∷ c ∷ d ∷ [])) ≡ true
    → is_instr version bytes at ≡ true
unfolding is_instr zeros
good_with version bytes at op a b c d eo ea eb ec ed low high first unused =
    let c1 : at + 1 + 4 ≡ at + 5 = omega arith in
    let c2 : at + 1 + 8 ≡ at + 9 = omega arith in
    let c3 : at + 1 + 12 ≡ at + 13 = omega arith in
    let f1 : u32_at bytes (at + 1 + 4) ≡ b = ap (u32_at bytes) c1 ∙ eb in
    let f2 : u32_at bytes (at + 1 + 8) ≡ c = ap (u32_at bytes) c2 ∙ ec in
    let f3 : u32_at bytes (at + 1 + 12) ≡ d = ap (u32_at bytes) c3 ∙ ed in
    let words : words_at bytes (at + 1) ≡ a ∷ b ∷ c ∷ d ∷ [] = cc in
    both _ _ (both (nat_le 1 (slice_index bytes at)) _ (ap (nat_le 1) eo ∙ le_test 1 op low)
    (ap (λ o. nat_le o (last_opcode version)) eo ∙ in_version (nat_eq version 2) op high first))
    (ap (λ o. zeros (drop (get_or used_words (o - 1) 0) (words_at bytes (at + 1)))) eo
    ∙ ap (λ ws. zeros (drop (get_or used_words (op - 1) 0) ws)) words ∙ unused)

-- an instruction with words alone
form_read : (bytes : List ℕ) (at : ℕ) (i : Instr) (op a b c d : ℕ) → instr_bytes i ≡ record_bytes op a b c d
    → ((v : ℤ) → get_or (I.Fail ∷ instrs_with a b c d v) op I.Fail ≡ i) →
    1 ≤ op → op ≤ 52 → (is_first_form i ≡ true → op ≤ 48) → zeros (drop (get_or used_words (op - 1) 0) (a ∷ b ∷ c ∷ d ∷ [])) ≡ true
    → AreWords (a ∷ b ∷ c ∷ d ∷ []) →
    Stands bytes at (instr_bytes i) → IsRead bytes at i
form_read bytes at i op a b c d is again low high first unused fit s =
    let s' : Stands bytes at (record_bytes op a b c d) = subst (Stands bytes at) is s in
    let ns = a ∷ b ∷ c ∷ d ∷ [] in
    let words = stands_second bytes at (at + 1) (op ∷ []) (words_bytes ns) refl s' in
    let c1 : at + 1 + 4 ≡ at + 5 = omega arith in
    let c2 : at + 1 + 8 ≡ at + 9 = omega arith in
    let c3 : at + 1 + 12 ≡ at + 13 = omega arith in
    let eo = first_byte bytes at op (words_bytes ns) s' in
    let ea : u32_at bytes (at + 1) ≡ a = first_field bytes (at + 1) a (b ∷ c ∷ d ∷ []) fit words in
    let eb : u32_at bytes (at + 5) ≡ b = ap (u32_at bytes) (sym c1) ∙ field bytes (at + 1) 1 ns fit words (omega arith) in
    let ec : u32_at bytes (at + 9) ≡ c = ap (u32_at bytes) (sym c2) ∙ field bytes (at + 1) 2 ns fit words (omega arith) in
    let ed : u32_at bytes (at + 13) ≡ d = ap (u32_at bytes) (sym c3) ∙ field bytes (at + 1) 3 ns fit words (omega arith) in
    record {
      again = read_with bytes at i op a b c d (i64_at bytes (at + 5)) eo ea eb ec ed refl (again (i64_at bytes (at + 5)));
      good = λ version two. good_with version bytes at op a b c d eo ea eb ec ed low high (λ one. first (two one)) unused;
    }

-- a Const
const_read : (bytes : List ℕ) (at a : ℕ) (v : ℤ) → a < 2 ^ 32 → FitsSigned w64 v → Stands bytes at (instr_bytes (I.Const a v))
    → IsRead bytes at (I.Const a v)
unfolding instr_bytes zeros
const_read bytes at a v lt fit s =
    let tail = words_bytes (a ∷ []) ++ (i64_bytes v ++ words_bytes (0 ∷ [])) in
    let rest = stands_second bytes at (at + 1) (1 ∷ []) tail refl s in
    let first = stands_first bytes (at + 1) (words_bytes (a ∷ [])) (i64_bytes v ++ words_bytes (0 ∷ [])) rest in
    let after = stands_second bytes (at + 1) (at + 5) (words_bytes (a ∷ [])) (i64_bytes v ++ words_bytes (0 ∷ []))
    (omega (arith, words_length (a ∷ []))) rest in
    let value = stands_first bytes (at + 5) (i64_bytes v) (words_bytes (0 ∷ [])) after in
    let last = stands_second bytes (at + 5) (at + 13) (i64_bytes v) (words_bytes (0 ∷ [])) (omega (arith, i64_length v)) after in
    let eo = first_byte bytes at 1 tail s in
    let ea : u32_at bytes (at + 1) ≡ a = first_field bytes (at + 1) a [] (more_words a [] lt no_words) first in
    let ed : u32_at bytes (at + 13) ≡ 0 = first_field bytes (at + 13) 0 [] (more_words 0 [] (omega arith) no_words) last in
    let ev = i64_stands bytes (at + 5) v fit value in
    let b = u32_at bytes (at + 5) in
    let c = u32_at bytes (at + 9) in
    record {
      again = read_with bytes at (I.Const a v) 1 a b c 0 v eo ea refl refl ed ev refl;
      good = λ version two. good_with version bytes at 1 a b c 0 eo ea refl refl ed (omega arith) (omega arith) (λ one. omega arith) refl;
    }

-- words that fit, and 0 for those that are not used
all_words : (ns : List ℕ) → All (λ word. word < 2 ^ 32) ns → AreWords ns
all_words ns h = each_word ns (λ k. elim (cases_lt k (length ns)) [
  | inl below ↦ h k 0 below
  | inr above ↦ (let z : get_or ns k 0 ≡ 0 = get_or_past ns k 0 above in omega arith)
])

pad_4 : (a b c d : ℕ) → All (λ word. word < 2 ^ 32) (a ∷ b ∷ c ∷ d ∷ []) → AreWords (a ∷ b ∷ c ∷ d ∷ [])
pad_4 a b c d h = all_words _ h

pad_3 : (a b c : ℕ) → All (λ word. word < 2 ^ 32) (a ∷ b ∷ c ∷ []) → AreWords (a ∷ b ∷ c ∷ 0 ∷ [])
pad_3 a b c h = more_words a _ (h 0 0 (omega arith))
    (more_words b _ (h 1 0 (omega arith)) (more_words c _ (h 2 0 (omega arith)) (more_words 0 [] (omega arith) no_words)))

pad_2 : (a b : ℕ) → All (λ word. word < 2 ^ 32) (a ∷ b ∷ []) → AreWords (a ∷ b ∷ 0 ∷ 0 ∷ [])
pad_2 a b h = more_words a _ (h 0 0 (omega arith))
    (more_words b _ (h 1 0 (omega arith)) (more_words 0 _ (omega arith) (more_words 0 [] (omega arith) no_words)))

pad_1 : (a : ℕ) → All (λ word. word < 2 ^ 32) (a ∷ []) → AreWords (a ∷ 0 ∷ 0 ∷ 0 ∷ [])
pad_1 a h = more_words a _ (h 0 0 (omega arith))
    (more_words 0 _ (omega arith) (more_words 0 _ (omega arith) (more_words 0 [] (omega arith) no_words)))

pad_0 : All (λ word. word < 2 ^ 32) [] → AreWords (0 ∷ 0 ∷ 0 ∷ 0 ∷ [])
pad_0 h = more_words 0 _ (omega arith) (more_words 0 _ (omega arith)
    (more_words 0 _ (omega arith) (more_words 0 [] (omega arith) no_words)))

pub instr_read : (bytes : List ℕ) (at : ℕ) (i : Instr) → FitsInstr i → Stands bytes at (instr_bytes i) → IsRead bytes at i
unfolding instr_bytes fields zeros
instr_read bytes at (I.Const a v) fits s = const_read bytes at a v (fits.words 0 0 (omega arith)) fits.value s
instr_read bytes at (I.Move a b) fits s =
    form_read bytes at (I.Move a b) 2 a b 0 0 refl (λ v. refl) (omega arith) (omega arith) (λ e. omega arith) refl (pad_2 a b fits.words) s
instr_read bytes at (I.Add a b c) fits s =
    form_read bytes at (I.Add a b c) 3 a b c 0 refl (λ v. refl) (omega arith) (omega arith) (λ e. omega arith) refl (pad_3 a b c fits.words)
    s
instr_read bytes at (I.Sub a b c) fits s =
    form_read bytes at (I.Sub a b c) 4 a b c 0 refl (λ v. refl) (omega arith) (omega arith) (λ e. omega arith) refl (pad_3 a b c fits.words)
    s
instr_read bytes at (I.Mul a b c) fits s =
    form_read bytes at (I.Mul a b c) 5 a b c 0 refl (λ v. refl) (omega arith) (omega arith) (λ e. omega arith) refl (pad_3 a b c fits.words)
    s
instr_read bytes at (I.Div a b c) fits s =
    form_read bytes at (I.Div a b c) 6 a b c 0 refl (λ v. refl) (omega arith) (omega arith) (λ e. omega arith) refl (pad_3 a b c fits.words)
    s
instr_read bytes at (I.Mod a b c) fits s =
    form_read bytes at (I.Mod a b c) 7 a b c 0 refl (λ v. refl) (omega arith) (omega arith) (λ e. omega arith) refl (pad_3 a b c fits.words)
    s
instr_read bytes at (I.Neg a b) fits s =
    form_read bytes at (I.Neg a b) 8 a b 0 0 refl (λ v. refl) (omega arith) (omega arith) (λ e. omega arith) refl (pad_2 a b fits.words) s
instr_read bytes at (I.Equal a b c) fits s =
    form_read bytes at (I.Equal a b c) 9 a b c 0 refl (λ v. refl) (omega arith) (omega arith) (λ e. omega arith) refl
    (pad_3 a b c fits.words) s
instr_read bytes at (I.Less a b c) fits s =
    form_read bytes at (I.Less a b c) 10 a b c 0 refl (λ v. refl) (omega arith) (omega arith) (λ e. omega arith) refl
    (pad_3 a b c fits.words) s
instr_read bytes at (I.LessEq a b c) fits s =
    form_read bytes at (I.LessEq a b c) 11 a b c 0 refl (λ v. refl) (omega arith) (omega arith) (λ e. omega arith) refl
    (pad_3 a b c fits.words) s
instr_read bytes at (I.Flip a b) fits s =
    form_read bytes at (I.Flip a b) 12 a b 0 0 refl (λ v. refl) (omega arith) (omega arith) (λ e. omega arith) refl (pad_2 a b fits.words) s
instr_read bytes at (I.InRange a b) fits s =
    form_read bytes at (I.InRange a b) 13 a b 0 0 refl (λ v. refl) (omega arith) (omega arith) (λ e. omega arith) refl
    (pad_2 a b fits.words) s
instr_read bytes at (I.Local a b) fits s =
    form_read bytes at (I.Local a b) 14 a b 0 0 refl (λ v. refl) (omega arith) (omega arith) (λ e. omega arith) refl (pad_2 a b fits.words)
    s
instr_read bytes at (I.Global a b) fits s =
    form_read bytes at (I.Global a b) 15 a b 0 0 refl (λ v. refl) (omega arith) (omega arith) (λ e. omega arith) refl (pad_2 a b fits.words)
    s
instr_read bytes at (I.Same a b) fits s =
    form_read bytes at (I.Same a b) 16 a b 0 0 refl (λ v. refl) (omega arith) (omega arith) (λ e. omega arith) refl (pad_2 a b fits.words) s
instr_read bytes at (I.Field a b c) fits s =
    form_read bytes at (I.Field a b c) 17 a b c 0 refl (λ v. refl) (omega arith) (omega arith) (λ e. omega arith) refl
    (pad_3 a b c fits.words) s
instr_read bytes at (I.Index a b c d) fits s =
    form_read bytes at (I.Index a b c d) 18 a b c d refl (λ v. refl) (omega arith) (omega arith) (λ e. omega arith) refl
    (pad_4 a b c d fits.words) s
instr_read bytes at (I.Load a b) fits s =
    form_read bytes at (I.Load a b) 19 a b 0 0 refl (λ v. refl) (omega arith) (omega arith) (λ e. omega arith) refl (pad_2 a b fits.words) s
instr_read bytes at (I.Store a b) fits s =
    form_read bytes at (I.Store a b) 20 a b 0 0 refl (λ v. refl) (omega arith) (omega arith) (λ e. omega arith) refl (pad_2 a b fits.words)
    s
instr_read bytes at (I.Known a b) fits s =
    form_read bytes at (I.Known a b) 21 a b 0 0 refl (λ v. refl) (omega arith) (omega arith) (λ e. omega arith) refl (pad_2 a b fits.words)
    s
instr_read bytes at (I.Bind a b c) fits s =
    form_read bytes at (I.Bind a b c) 22 a b c 0 refl (λ v. refl) (omega arith) (omega arith) (λ e. omega arith) refl
    (pad_3 a b c fits.words) s
instr_read bytes at (I.Unify a b c d) fits s =
    form_read bytes at (I.Unify a b c d) 23 a b c d refl (λ v. refl) (omega arith) (omega arith) (λ e. omega arith) refl
    (pad_4 a b c d fits.words) s
instr_read bytes at (I.CopyCells a b) fits s =
    form_read bytes at (I.CopyCells a b) 24 a b 0 0 refl (λ v. refl) (omega arith) (omega arith) (λ e. omega arith) refl
    (pad_2 a b fits.words) s
instr_read bytes at (I.SameCells a b) fits s =
    form_read bytes at (I.SameCells a b) 25 a b 0 0 refl (λ v. refl) (omega arith) (omega arith) (λ e. omega arith) refl
    (pad_2 a b fits.words) s
instr_read bytes at (I.Jump a) fits s = form_read bytes at (I.Jump a) 26 a 0 0 0 refl (λ v. refl) (omega arith) (omega arith)
    (λ e. omega arith) refl (pad_1 a fits.words) s
instr_read bytes at (I.JumpZero a b) fits s =
    form_read bytes at (I.JumpZero a b) 27 a b 0 0 refl (λ v. refl) (omega arith) (omega arith) (λ e. omega arith) refl
    (pad_2 a b fits.words) s
instr_read bytes at (I.Check a) fits s =
    form_read bytes at (I.Check a) 28 a 0 0 0 refl (λ v. refl) (omega arith) (omega arith) (λ e. omega arith) refl (pad_1 a fits.words) s
instr_read bytes at I.Fail fits s = form_read bytes at I.Fail 29 0 0 0 0 refl (λ v. refl) (omega arith) (omega arith) (λ e. omega arith)
    refl (pad_0 fits.words) s
instr_read bytes at (I.Mark a) fits s = form_read bytes at (I.Mark a) 30 a 0 0 0 refl (λ v. refl) (omega arith) (omega arith)
    (λ e. omega arith) refl (pad_1 a fits.words) s
instr_read bytes at (I.Cut a) fits s = form_read bytes at (I.Cut a) 31 a 0 0 0 refl (λ v. refl) (omega arith) (omega arith)
    (λ e. omega arith) refl (pad_1 a fits.words) s
instr_read bytes at (I.Choose a) fits s =
    form_read bytes at (I.Choose a) 32 a 0 0 0 refl (λ v. refl) (omega arith) (omega arith) (λ e. omega arith) refl (pad_1 a fits.words) s
instr_read bytes at (I.Forall a b) fits s =
    form_read bytes at (I.Forall a b) 33 a b 0 0 refl (λ v. refl) (omega arith) (omega arith) (λ e. omega arith) refl (pad_2 a b fits.words)
    s
instr_read bytes at (I.Overlay a b) fits s =
    form_read bytes at (I.Overlay a b) 34 a b 0 0 refl (λ v. refl) (omega arith) (omega arith) (λ e. omega arith) refl
    (pad_2 a b fits.words) s
instr_read bytes at (I.Keep a) fits s = form_read bytes at (I.Keep a) 35 a 0 0 0 refl (λ v. refl) (omega arith) (omega arith)
    (λ e. omega arith) refl (pad_1 a fits.words) s
instr_read bytes at I.Finish fits s = form_read bytes at I.Finish 36 0 0 0 0 refl (λ v. refl) (omega arith) (omega arith) (λ e. omega arith)
    refl (pad_0 fits.words) s
instr_read bytes at (I.Call a b c) fits s =
    form_read bytes at (I.Call a b c) 37 a b c 0 refl (λ v. refl) (omega arith) (omega arith) (λ e. omega arith) refl
    (pad_3 a b c fits.words) s
instr_read bytes at I.Return fits s = form_read bytes at I.Return 38 0 0 0 0 refl (λ v. refl) (omega arith) (omega arith) (λ e. omega arith)
    refl (pad_0 fits.words) s
instr_read bytes at (I.ReturnValue a) fits s =
    form_read bytes at (I.ReturnValue a) 39 a 0 0 0 refl (λ v. refl) (omega arith) (omega arith) (λ e. omega arith) refl
    (pad_1 a fits.words) s
instr_read bytes at (I.ReadInt a b) fits s =
    form_read bytes at (I.ReadInt a b) 40 a b 0 0 refl (λ v. refl) (omega arith) (omega arith) (λ e. omega arith) refl
    (pad_2 a b fits.words) s
instr_read bytes at (I.ReadChar a b) fits s =
    form_read bytes at (I.ReadChar a b) 41 a b 0 0 refl (λ v. refl) (omega arith) (omega arith) (λ e. omega arith) refl
    (pad_2 a b fits.words) s
instr_read bytes at (I.WriteInt a) fits s =
    form_read bytes at (I.WriteInt a) 42 a 0 0 0 refl (λ v. refl) (omega arith) (omega arith) (λ e. omega arith) refl (pad_1 a fits.words) s
instr_read bytes at (I.WriteChar a) fits s =
    form_read bytes at (I.WriteChar a) 43 a 0 0 0 refl (λ v. refl) (omega arith) (omega arith) (λ e. omega arith) refl (pad_1 a fits.words)
    s
instr_read bytes at (I.WriteBool a) fits s =
    form_read bytes at (I.WriteBool a) 44 a 0 0 0 refl (λ v. refl) (omega arith) (omega arith) (λ e. omega arith) refl (pad_1 a fits.words)
    s
instr_read bytes at (I.WriteText a) fits s =
    form_read bytes at (I.WriteText a) 45 a 0 0 0 refl (λ v. refl) (omega arith) (omega arith) (λ e. omega arith) refl (pad_1 a fits.words)
    s
instr_read bytes at I.WriteLine fits s =
    form_read bytes at I.WriteLine 46 0 0 0 0 refl (λ v. refl) (omega arith) (omega arith) (λ e. omega arith) refl (pad_0 fits.words) s
instr_read bytes at (I.Fault a) fits s =
    form_read bytes at (I.Fault a) 47 a 0 0 0 refl (λ v. refl) (omega arith) (omega arith) (λ e. omega arith) refl (pad_1 a fits.words) s
instr_read bytes at (I.Step a b c d) fits s =
    form_read bytes at (I.Step a b c d) 48 a b c d refl (λ v. refl) (omega arith) (omega arith) (λ e. omega arith) refl
    (pad_4 a b c d fits.words) s
instr_read bytes at (I.Own a) fits s = form_read bytes at (I.Own a) 49 a 0 0 0 refl (λ v. refl) (omega arith) (omega arith)
    (λ (e : false ≡ true). absurd cc) refl (pad_1 a fits.words) s
instr_read bytes at (I.Chain a b c) fits s =
    form_read bytes at (I.Chain a b c) 50 a b c 0 refl (λ v. refl) (omega arith) (omega arith) (λ (e : false ≡ true). absurd cc) refl
    (pad_3 a b c fits.words) s
instr_read bytes at (I.Outer a b c) fits s =
    form_read bytes at (I.Outer a b c) 51 a b c 0 refl (λ v. refl) (omega arith) (omega arith) (λ (e : false ≡ true). absurd cc) refl
    (pad_3 a b c fits.words) s
instr_read bytes at (I.OuterSame a b c) fits s =
    form_read bytes at (I.OuterSame a b c) 52 a b c 0 refl (λ v. refl) (omega arith) (omega arith) (λ (e : false ≡ true). absurd cc) refl
    (pad_3 a b c fits.words) s
