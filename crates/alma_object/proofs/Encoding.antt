-- One record more of a code that is written.
use Rattle.std.proofs.Common.{◌≡◌, ℕ, zero, suc, ◌+◌, ◌<◌, ◌≤◌, List, [], ◌∷◌, ◌++◌, length, get_or, take, map, refl, sym, ap, subst, ◌∙◌}
use Rattle.std.proofs.Common.{append_assoc, arith}
use Rattle.std.specs.Prelude.{sum_by, if◌then◌else◌}
use Rattle.std.specs.List.{flat_map, range_with_len}
use Rattle.std.proofs.lemmas.List.{get_or-map, length-map, append-nil}
use Rattle.std.proofs.lemmas.List.Sums.{sum_by_more, sum_by-take-le}
use Rattle.std.proofs.lemmas.List.Concat.{flat_map-append}
use Rattle.alma_code.specs.declared.code.Code.{Code}
use Rattle.alma_code.specs.declared.code.CodeGlobal.{CodeGlobal}
use Rattle.alma_code.specs.declared.code.RoutineHead.{RoutineHead}
use Rattle.alma_code.specs.Plain.{PlainCode, PlainRoutine, PlainGlobal, code_of, routine_of, global_of, no_routine}
use Rattle.alma_code.specs.Records.{param_count, run_count, name_byte_count, text_byte_count}
use Rattle.alma_object_format.specs.Bytes.{words_bytes}
use Rattle.alma_object_format.specs.Object.{section, end_of, routine_bytes, global_bytes, text_end_bytes, no_global}

-- the items of one section, one more
pub range_more : (a n : ℕ) → range_with_len a (n + 1) ≡ range_with_len a n ++ ((a + n) ∷ [])
range_more a zero = let z : a ≡ a + 0 = omega arith in ap (λ k. k ∷ []) z
range_more a (suc n) =
    let one : suc n + 1 ≡ suc (n + 1) = omega arith in
    let sum : a + 1 + n ≡ a + suc n = omega arith in
    ap (range_with_len a) one ∙ ap (λ (t : List ℕ). a ∷ t) (range_more (a + 1) n ∙ ap (λ k. range_with_len (a + 1) n ++ (k ∷ [])) sum)

pub section_more : (each : ℕ → List ℕ) (n : ℕ) → section each (n + 1) ≡ section each n ++ each n
section_more each n =
    let zero_sum : 0 + n ≡ n = omega arith in
    ap (flat_map each) (range_more 0 n ∙ ap (λ k. range_with_len 0 n ++ (k ∷ [])) zero_sum)
    ∙ flat_map-append each (range_with_len 0 n) (n ∷ []) ∙ ap (λ (t : List ℕ). section each n ++ t) (append-nil (each n))

-- the next record is written
pub section_next : (each : ℕ → List ℕ) (n : ℕ) (first was now part : List ℕ) → was ≡ first ++ section each n → now ≡ was ++ part
    → each n ≡ part → now ≡ first ++ section each (n + 1)
section_next each n first was now part p q r =
    q ∙ ap (λ (t : List ℕ). t ++ part) p ∙ append_assoc first (section each n) part
    ∙ ap (λ (t : List ℕ). first ++ t) (sym (section_more each n ∙ ap (λ (t : List ℕ). section each n ++ t) r))

-- the ends of one routine further
pub record RoutineStep (code : PlainCode) (i : ℕ) (x : RoutineHead) : Type 0 where
  pub names : sum_by (λ y. length y.name) (take i code.routines)
      + length x.name.items ≡ sum_by (λ y. length y.name) (take (i + 1) code.routines)
  pub params : sum_by (λ y. length y.head.params) (take i code.routines)
      + length x.params.items ≡ sum_by (λ y. length y.head.params) (take (i + 1) code.routines)
  pub runs : sum_by (λ y. length y.head.runs) (take i code.routines)
      + length x.kinds.items ≡ sum_by (λ y. length y.head.runs) (take (i + 1) code.routines)
  pub names_within : sum_by (λ y. length y.name) (take (i + 1) code.routines) ≤ name_byte_count code
  pub params_within : sum_by (λ y. length y.head.params) (take (i + 1) code.routines) ≤ param_count code
  pub runs_within : sum_by (λ y. length y.head.runs) (take (i + 1) code.routines) ≤ run_count code
  pub bytes : routine_bytes code i ≡ words_bytes (
      sum_by (λ y. length y.name) (take (i + 1) code.routines) ∷ sum_by (λ y. length y.head.params) (take (i + 1) code.routines)
      ∷ sum_by (λ y. length y.head.runs) (take (i + 1) code.routines) ∷ x.code_end ∷ x.slots ∷ x.declared ∷ (if x.result then 1 else 0)
      ∷ [])

pub routine_step : (code : Code) (ys : List RoutineHead) (i : ℕ) (x : RoutineHead) → ys ≡ code.routines.items → i < length ys
    → x ≡ get_or ys i x → RoutineStep (code_of code) i x
unfolding routine_bytes
routine_step code ys i x same lt is =
    let rs = code.routines.items in
    let plain = map routine_of rs in
    let lt' : i < length rs = subst (λ (t : List RoutineHead). i < length t) same lt in
    let is' : x ≡ get_or rs i x = subst (λ (t : List RoutineHead). x ≡ get_or t i x) same is in
    let there : get_or plain i no_routine ≡ routine_of x = get_or-map routine_of rs i x no_routine lt' ∙ ap routine_of (sym is') in
    let within : i < length plain = omega (arith, length-map rs routine_of) in
    let more = λ (f : PlainRoutine → ℕ). sym (sum_by_more f plain i no_routine within ∙ ap (λ y. sum_by f (take i plain) + f y) there) in
    record {
      names = more (λ y. length y.name);
      params = more (λ y. length y.head.params);
      runs = more (λ y. length y.head.runs);
      names_within = omega (arith, sum_by-take-le (λ (y : PlainRoutine). length y.name) plain (i + 1));
      params_within = sum_by-take-le (λ (y : PlainRoutine). length y.head.params) plain (i + 1);
      runs_within = sum_by-take-le (λ (y : PlainRoutine). length y.head.runs) plain (i + 1);
      bytes = ap (λ (y : PlainRoutine). words_bytes (
          end_of (λ z. length z.name) plain i ∷ end_of (λ z. length z.head.params) plain i ∷ end_of (λ z. length z.head.runs) plain i
          ∷ y.code_end ∷ y.head.slots ∷ y.head.declared ∷ (if y.head.has_result then 1 else 0) ∷ [])) there;
    }

-- the next ends, and the record with them
pub record RoutineWritten (code : PlainCode) (i : ℕ) (x : RoutineHead) (names params runs : ℕ) : Type 0 where
  pub names_are : names ≡ sum_by (λ y. length y.name) (take (i + 1) code.routines)
  pub params_are : params ≡ sum_by (λ y. length y.head.params) (take (i + 1) code.routines)
  pub runs_are : runs ≡ sum_by (λ y. length y.head.runs) (take (i + 1) code.routines)
  pub bytes : routine_bytes code i ≡ words_bytes
      (names ∷ params ∷ runs ∷ x.code_end ∷ x.slots ∷ x.declared ∷ (if x.result then 1 else 0) ∷ [])

pub routine_written : (code : PlainCode) (i : ℕ) (x : RoutineHead) → RoutineStep code i x → (a b d p q r : ℕ) →
    a ≡ sum_by (λ y. length y.name) (take i code.routines) → b ≡ sum_by (λ y. length y.head.params) (take i code.routines)
    → d ≡ sum_by (λ y. length y.head.runs) (take i code.routines) →
    p ≡ length x.name.items → q ≡ length x.params.items → r ≡ length x.kinds.items → RoutineWritten code i x (a + p) (b + q) (d + r)
routine_written code i x step a b d p q r ea eb ed ep eq er =
    let names : a + p ≡ sum_by (λ y. length y.name) (take (i + 1) code.routines) = ap (λ k. k + p) ea
    ∙ ap (λ k. sum_by (λ y. length y.name) (take i code.routines) + k) ep ∙ step.names in
    let params : b + q ≡ sum_by (λ y. length y.head.params) (take (i + 1) code.routines) = ap (λ k. k + q) eb
    ∙ ap (λ k. sum_by (λ y. length y.head.params) (take i code.routines) + k) eq ∙ step.params in
    let runs : d + r ≡ sum_by (λ y. length y.head.runs) (take (i + 1) code.routines) = ap (λ k. k + r) ed
    ∙ ap (λ k. sum_by (λ y. length y.head.runs) (take i code.routines) + k) er ∙ step.runs in
    let rest = x.code_end ∷ x.slots ∷ x.declared ∷ (if x.result then 1 else 0) ∷ [] in
    record {
      names_are = names;
      params_are = params;
      runs_are = runs;
      bytes = step.bytes
          ∙ ap (λ k. words_bytes (k ∷ sum_by (λ y. length y.head.params) (take (i + 1) code.routines)
          ∷ sum_by (λ y. length y.head.runs) (take (i + 1) code.routines) ∷ rest)) (sym names)
          ∙ ap (λ k. words_bytes ((a + p) ∷ k ∷ sum_by (λ y. length y.head.runs) (take (i + 1) code.routines) ∷ rest)) (sym params)
          ∙ ap (λ k. words_bytes ((a + p) ∷ (b + q) ∷ k ∷ rest)) (sym runs);
    }

-- ---- lists of a code in memory

pub flat_map-map : {A B C : Type 0} (f : B → List C) (g : A → B) (xs : List A) → flat_map f (map g xs) ≡ flat_map (λ x. f (g x)) xs
flat_map-map f g [] = refl
flat_map-map {C = C} f g (x ∷ xs) = ap (λ (t : List C). f (g x) ++ t) (flat_map-map f g xs)

-- one global further, whose name ends where the names of the routines end and len more
pub record GlobalWritten (code : PlainCode) (i : ℕ) (x : CodeGlobal) (end : ℕ) : Type 0 where
  pub names : end ≡ sum_by (λ y. length y.name) code.routines + sum_by (λ y. length y.name) (take (i + 1) code.globals)
  pub within : end ≤ name_byte_count code
  pub bytes : global_bytes code i ≡ words_bytes (end ∷ x.slot ∷ x.cells ∷ [])

pub global_written : (code : Code) (ys : List CodeGlobal) (i : ℕ) (x : CodeGlobal) (a p : ℕ) → ys ≡ code.globals.items → i < length ys
    → x ≡ get_or ys i x →
    a ≡ sum_by (λ y. length y.name) (code_of code).routines + sum_by (λ y. length y.name) (take i (code_of code).globals)
    → p ≡ length x.name.items → GlobalWritten (code_of code) i x (a + p)
unfolding global_bytes
global_written code ys i x a p same lt is ea ep =
    let gs = code.globals.items in
    let plain = map global_of gs in
    let routines = (code_of code).routines in
    let lt' : i < length gs = subst (λ (t : List CodeGlobal). i < length t) same lt in
    let is' : x ≡ get_or gs i x = subst (λ (t : List CodeGlobal). x ≡ get_or t i x) same is in
    let there : get_or plain i no_global ≡ global_of x = get_or-map global_of gs i x no_global lt' ∙ ap global_of (sym is') in
    let within : i < length plain = omega (arith, length-map gs global_of) in
    let more : sum_by (λ (y : PlainGlobal). length y.name) (take (i + 1) plain) ≡ sum_by (λ (y : PlainGlobal). length y.name) (take i plain)
    + length x.name.items =
    sum_by_more (λ (y : PlainGlobal). length y.name) plain i no_global within
    ∙ ap (λ (y : PlainGlobal). sum_by (λ (z : PlainGlobal). length z.name) (take i plain) + length y.name) there in
    let sum : a + p ≡ sum_by (λ (y : PlainRoutine). length y.name) routines
    + sum_by (λ (y : PlainGlobal). length y.name) (take (i + 1) plain) = omega arith in
    record {
      names = sum;
      within = omega (arith, sum_by-take-le (λ (y : PlainGlobal). length y.name) plain (i + 1));
      bytes = ap (λ (y : PlainGlobal). words_bytes
          ((sum_by (λ (z : PlainRoutine). length z.name) routines + end_of (λ (z : PlainGlobal). length z.name) plain i) ∷ y.slot ∷ y.cells
          ∷ [])) there
          ∙ ap (λ k. words_bytes (k ∷ x.slot ∷ x.cells ∷ [])) (sym sum);
    }

-- one text further
pub record TextWritten (code : PlainCode) (i : ℕ) (end : ℕ) : Type 0 where
  pub ends : end ≡ sum_by length (take (i + 1) code.texts)
  pub within : end ≤ text_byte_count code
  pub bytes : text_end_bytes code i ≡ words_bytes (end ∷ [])

pub text_written : {V : Type 0} (code : PlainCode) (bytes_of : V → List ℕ) (rows ys : List V) (i : ℕ) (x : V) (a p : ℕ)
    → code.texts ≡ map bytes_of rows → ys ≡ rows → i < length ys → x ≡ get_or ys i x →
    a ≡ sum_by length (take i code.texts) → p ≡ length (bytes_of x) → TextWritten code i (a + p)
unfolding text_end_bytes
text_written {V = V} code bytes_of rows ys i x a p texts same lt is ea ep =
    let lt' : i < length rows = subst (λ (t : List V). i < length t) same lt in
    let is' : x ≡ get_or rows i x = subst (λ (t : List V). x ≡ get_or t i x) same is in
    let there : get_or code.texts i [] ≡ bytes_of x = ap (λ (t : List (List ℕ)). get_or t i []) texts ∙ get_or-map bytes_of rows i x [] lt'
    ∙ ap bytes_of (sym is') in
    let within : i < length code.texts = omega (arith, length-map rows bytes_of, ap length texts) in
    let more : sum_by length (take (i + 1) code.texts) ≡ sum_by length (take i code.texts) + length (bytes_of x) =
    sum_by_more length code.texts i [] within ∙ ap (λ (y : List ℕ). sum_by length (take i code.texts) + length y) there in
    let sum : a + p ≡ sum_by length (take (i + 1) code.texts) = omega arith in
    record {
      ends = sum;
      within = omega (arith, sum_by-take-le length code.texts (i + 1));
      bytes = ap (λ k. words_bytes (k ∷ [])) (sym sum);
    }

-- three parts, each appended to what was there
pub three_parts : (o n1 n2 n3 a b d x y z : List ℕ) → n1 ≡ o ++ a → n2 ≡ n1 ++ b → n3 ≡ n2 ++ d → a ≡ x → b ≡ y → d ≡ z
    → n3 ≡ o ++ (x ++ (y ++ z))
three_parts o n1 n2 n3 a b d x y z p q r ea eb ed =
    r ∙ ap (λ (t : List ℕ). t ++ d) (q ∙ ap (λ (t : List ℕ). t ++ b) p)
    ∙ append_assoc (o ++ a) b d ∙ append_assoc o a (b ++ d)
    ∙ ap (λ (t : List ℕ). o ++ (t ++ (b ++ d))) ea ∙ ap (λ (t : List ℕ). o ++ (x ++ (t ++ d))) eb
    ∙ ap (λ (t : List ℕ). o ++ (x ++ (y ++ t))) ed

-- ten parts, each appended to what was there
pub ten_parts : (n0 n1 n2 n3 n4 n5 n6 n7 n8 n9 n10 h a b c d e f p i l : List ℕ) → n0 ≡ [] → n1 ≡ n0 ++ h → n2 ≡ n1 ++ a → n3 ≡ n2 ++ b
    → n4 ≡ n3 ++ c → n5 ≡ n4 ++ d → n6 ≡ n5 ++ e → n7 ≡ n6 ++ f →
    n8 ≡ n7 ++ p → n9 ≡ n8 ++ i → n10 ≡ n9 ++ l → n10 ≡ h ++ ((a ++ (b ++ (c ++ (d ++ (e ++ f))))) ++ (p ++ (i ++ l)))
ten_parts n0 n1 n2 n3 n4 n5 n6 n7 n8 n9 n10 h a b c d e f p i l e0 e1 e2 e3 e4 e5 e6 e7 e8 e9 e10 =
    let s1 : n1 ≡ h = e1 ∙ ap (λ (t : List ℕ). t ++ h) e0 in
    let s2 : n2 ≡ h ++ a = e2 ∙ ap (λ (t : List ℕ). t ++ a) s1 in
    let s3 : n3 ≡ (h ++ a) ++ b = e3 ∙ ap (λ (t : List ℕ). t ++ b) s2 in
    let s4 : n4 ≡ ((h ++ a) ++ b) ++ c = e4 ∙ ap (λ (t : List ℕ). t ++ c) s3 in
    let s5 : n5 ≡ (((h ++ a) ++ b) ++ c) ++ d = e5 ∙ ap (λ (t : List ℕ). t ++ d) s4 in
    let s6 : n6 ≡ ((((h ++ a) ++ b) ++ c) ++ d) ++ e = e6 ∙ ap (λ (t : List ℕ). t ++ e) s5 in
    let s7 : n7 ≡ (((((h ++ a) ++ b) ++ c) ++ d) ++ e) ++ f = e7 ∙ ap (λ (t : List ℕ). t ++ f) s6 in
    let s8 : n8 ≡ ((((((h ++ a) ++ b) ++ c) ++ d) ++ e) ++ f) ++ p = e8 ∙ ap (λ (t : List ℕ). t ++ p) s7 in
    let s9 : n9 ≡ (((((((h ++ a) ++ b) ++ c) ++ d) ++ e) ++ f) ++ p) ++ i = e9 ∙ ap (λ (t : List ℕ). t ++ i) s8 in
    e10 ∙ ap (λ (t : List ℕ). t ++ l) s9 ∙ simp append_assoc
