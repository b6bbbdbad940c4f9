-- Bytes without fault are spelled by the code that stands in them: the sections.
use Rattle.std.proofs.Common.{◌≡◌, ℕ, zero, suc, ◌+◌, ◌-◌, ◌*◌, ◌<◌, ◌≤◌, true, false, None, List, [], ◌∷◌, ◌++◌, length, get_or, refl, sym}
use Rattle.std.proofs.Common.{ap, subst, ◌∙◌, arith, inl, inr}
use Rattle.std.specs.Prelude.{slice_range, sum_by, nat_eq, nat_lt, if◌then◌else◌}
use Rattle.std.specs.List.{flat_map, range_with_len}
use Rattle.std.proofs.lemmas.List.{append-nil}
use Rattle.std.proofs.lemmas.Bool.{cases_lt}
use Rattle.std.proofs.lemmas.Bool.Decides.{nat_tests}
use Rattle.std.proofs.lemmas.List.Concat.{flat_map-append}
use Rattle.alma_code.specs.Plain.{PlainRoutine, PlainGlobal, routine_at, no_routine}
use Rattle.alma_object_format.specs.declared.header.Header.{Header}
use Rattle.alma_object_format.specs.Bytes.{u32_bytes, words_bytes, u32_at}
use Rattle.alma_object_format.specs.Header.{IsWithin, routines_at, globals_at, params_at, runs_at, ranges_at, texts_at, name_pool_at}
use Rattle.alma_object_format.specs.Header.{text_pool_at, instrs_at, lines_at, end_at}
use Rattle.alma_object_format.specs.Walk.{start_of, params_end, runs_end, code_end, name_end, text_end, sections_fault, param_fault}
use Rattle.alma_object_format.specs.Walk.{routine_runs_fault, run_fault, range_fault, line_fault, global_fault, instr_fault}
use Rattle.alma_object_format.specs.Object.{section, end_of, param_bytes, run_bytes, range_bytes, line_bytes, routine_bytes, global_bytes}
use Rattle.alma_object_format.specs.Object.{text_end_bytes, no_global}
use Rattle.alma_object_format.specs.Reading.{items, param_in, run_in, range_in, line_in, routine_in, global_in, name_in, text_in, code_in}
use Rattle.alma_object_format.specs.Instrs.{instr_bytes, instr_at}
use Rattle.alma_object.proofs.Encoding.{flat_map-map}
use Rattle.alma_object.proofs.Forms.{instr_spelled}
use Rattle.alma_object.proofs.Items.{length_items, item_at}
use Rattle.alma_object_format.proofs.Kept.{first_none, routine_seen, name_seen, text_seen, sections_kept, last_params, last_runs}
use Rattle.alma_base.proofs.FirstFault.{unless_none}
use Rattle.alma_object_format.proofs.Kept.{whole_none, start_last, global_kept}
use Rattle.alma_object.proofs.Slices.{IsBytes, words_slice, slice_join, section_is, offsets_rise, shifted, u32_slice}
use Rattle.alma_object.proofs.Spelled.{param_spelled, run_spelled, line_spelled, range_spelled, length_slice, three_words, starts_rise}
use Rattle.alma_object.proofs.Spelled.{end_is, sum_ends}

-- lists of lists
pub flat_map-flat_map : {A B : Type 0} (g : B → List ℕ) (f : A → List B) (xs : List A)
    → flat_map g (flat_map f xs) ≡ flat_map (λ x. flat_map g (f x)) xs
flat_map-flat_map g f [] = refl
flat_map-flat_map g f (x ∷ xs) = flat_map-append g (f x) (flat_map f xs)
    ∙ ap (λ (t : List ℕ). flat_map g (f x) ++ t) (flat_map-flat_map g f xs)

-- records that belong to items, in the order of the items
nested_is : (bytes : List ℕ) (off : ℕ → ℕ) (each body : ℕ → List ℕ) (end : ℕ → ℕ) (n : ℕ) → ((k : ℕ) → k < n → start_of end k ≤ end k)
    → ((k : ℕ) → off k ≤ off (k + 1)) →
    ((r : ℕ) → r < n → (k : ℕ) → start_of end r ≤ k → k < end r → slice_range bytes (off k) (off (k + 1)) ≡ each k) →
    ((r : ℕ) → r < n → body r ≡ flat_map each (range_with_len (start_of end r) (end r - start_of end r))) →
    flat_map body (range_with_len 0 n) ≡ slice_range bytes (off 0) (off (start_of end n))
nested_is bytes off each body end n rise up parts bodies =
    let outer : ℕ → ℕ = λ r. off (start_of end r) in
    let climbs : (r : ℕ) → r < n → off (start_of end r) ≤ off (start_of end (r + 1)) = λ r lt.
    (let low = rise r lt in
    let next : start_of end (r + 1) ≡ end r = (let e : r + 1 ≡ suc r = omega arith in ap (start_of end) e) in
    let to : start_of end r + (end r - start_of end r) ≡ start_of end (r + 1) = omega arith in
    subst (λ k. off (start_of end r) ≤ off k) to (offsets_rise off (start_of end r) (end r - start_of end r) (λ k a b. up k))) in
    let stand : (r : ℕ) → r < n → slice_range bytes (off (start_of end r)) (off (start_of end (r + 1))) ≡ body r = λ r lt.
    (let low = rise r lt in
    let next : start_of end (r + 1) ≡ end r = (let e : r + 1 ≡ suc r = omega arith in ap (start_of end) e) in
    let to : start_of end r + (end r - start_of end r) ≡ start_of end (r + 1) = omega arith in
    ap (λ k. slice_range bytes (off (start_of end r)) (off k)) (sym to)
    ∙ sym (section_is bytes off each (start_of end r) (end r - start_of end r) (λ k a b. up k) (λ k a b. parts r lt k a (omega arith)))
    ∙ sym (bodies r lt)) in
    section_is bytes outer body 0 n (λ k a b. climbs k (omega arith)) (λ k a b. stand k (omega arith))
    ∙ (let z : 0 + n ≡ n = omega arith in ap (λ k. slice_range bytes (off 0) (off (start_of end k))) z)

-- words that are the same
seven_same : (a b c d e f g a2 b2 c2 d2 e2 f2 g2 : ℕ) → a ≡ a2 → b ≡ b2 → c ≡ c2 → d ≡ d2 → e ≡ e2 → f ≡ f2 → g ≡ g2 →
    words_bytes (a ∷ b ∷ c ∷ d ∷ e ∷ f ∷ g ∷ []) ≡ words_bytes (a2 ∷ b2 ∷ c2 ∷ d2 ∷ e2 ∷ f2 ∷ g2 ∷ [])
seven_same a b c d e f g a2 b2 c2 d2 e2 f2 g2 ea eb ec ed ee ef eg =
    let same : a ∷ b ∷ c ∷ d ∷ e ∷ f ∷ g ∷ [] ≡ a2 ∷ b2 ∷ c2 ∷ d2 ∷ e2 ∷ f2 ∷ g2 ∷ [] = cc in ap words_bytes same

three_same : (a b c a2 b2 c2 : ℕ) → a ≡ a2 → b ≡ b2 → c ≡ c2 → words_bytes (a ∷ b ∷ c ∷ []) ≡ words_bytes (a2 ∷ b2 ∷ c2 ∷ [])
three_same a b c a2 b2 c2 ea eb ec =
    let same : a ∷ b ∷ c ∷ [] ≡ a2 ∷ b2 ∷ c2 ∷ [] = cc in ap words_bytes same

lt_test : (m n : ℕ) → m < n → nat_lt m n ≡ true
lt_test m n lt = grind (arith, nat_tests)

ge_test : (m n : ℕ) → n ≤ m → nat_lt m n ≡ false
ge_test m n le = grind (arith, nat_tests)

-- where a name ends
pub name_end_routine : (bytes : List ℕ) (h : Header) (r : ℕ) → r < h.routines → name_end bytes h r ≡ u32_at bytes (routines_at h + 28 * r)
unfolding name_end
name_end_routine bytes h r lt = ap (λ b. if b then u32_at bytes (routines_at h + 28 * r) else u32_at bytes
    (globals_at h + 12 * (r - h.routines))) (lt_test r h.routines lt)

pub name_end_global : (bytes : List ℕ) (h : Header) (g : ℕ) → name_end bytes h (h.routines + g) ≡ u32_at bytes (globals_at h + 12 * g)
unfolding name_end
name_end_global bytes h g =
    let e : h.routines + g - h.routines ≡ g = omega arith in
    ap (λ b. if b then u32_at bytes (routines_at h + 28 * (h.routines + g)) else u32_at bytes
    (globals_at h + 12 * (h.routines + g - h.routines))) (ge_test (h.routines + g) h.routines (omega arith))
    ∙ ap (λ k. u32_at bytes (globals_at h + 12 * k)) e

module _ (bytes : List ℕ) (h : Header) (fits : IsBytes bytes) (within : IsWithin h) (none : sections_fault bytes h ≡ None) where
  pub param_none : (p : ℕ) → p < h.params → param_fault bytes h p ≡ None
  param_none p lt = first_none (param_fault bytes h) 0 h.params p (sections_kept bytes h none).params (omega arith) (omega arith)

  params_body : (r : ℕ) → r < h.routines → flat_map param_bytes (routine_in bytes h r).head.params ≡ flat_map
      (λ p. param_bytes (param_in bytes (params_at h + 8 * p)))
      (range_with_len (start_of (params_end bytes h) r) (params_end bytes h r - start_of (params_end bytes h) r))
  unfolding routine_in
  params_body r lt =
      let start = start_of (params_end bytes h) r in
      let n = params_end bytes h r - start in
      flat_map-map param_bytes (λ k. param_in bytes (params_at h + 8 * start + 8 * k)) (range_with_len 0 n)
      ∙ shifted (λ k. param_bytes (param_in bytes (params_at h + 8 * start + 8 * k)))
      (λ p. param_bytes (param_in bytes (params_at h + 8 * p))) 0 start n
      (λ k lt. (let e : params_at h + 8 * start + 8 * (0 + k) ≡ params_at h + 8 * (start + k) = omega arith in
      ap (λ o. param_bytes (param_in bytes o)) e))

  pub params_stand : flat_map param_bytes (flat_map (λ r. r.head.params) (items (routine_in bytes h) h.routines)) ≡ slice_range bytes
      (params_at h) (runs_at h)
  params_stand =
      flat_map-flat_map param_bytes (λ (r : PlainRoutine). r.head.params) (items (routine_in bytes h) h.routines)
      ∙ flat_map-map (λ (r : PlainRoutine). flat_map param_bytes r.head.params) (routine_in bytes h) (range_with_len 0 h.routines)
      ∙ nested_is bytes (λ p. params_at h + 8 * p) (λ p. param_bytes (param_in bytes (params_at h + 8 * p)))
      (λ r. flat_map param_bytes (routine_in bytes h r).head.params) (params_end bytes h) h.routines
      (λ r lt. (routine_seen bytes h none r lt).params.low) (λ k. omega arith)
      (λ r lt p low high. (let seen = routine_seen bytes h none r lt in
      let e : params_at h + 8 * p + 8 ≡ params_at h + 8 * (p + 1) = omega arith in
      ap (slice_range bytes (params_at h + 8 * p)) (sym e) ∙ param_spelled bytes h p fits (param_none p (omega (arith, seen.params.high)))))
      params_body
      ∙ (let z : params_at h + 8 * 0 ≡ params_at h = omega arith in
      let last : params_at h + 8 * start_of (params_end bytes h) h.routines ≡ runs_at h =
      omega (arith, last_params bytes h within.some (sections_kept bytes h none).routines) in
      ap (λ k. slice_range bytes k (params_at h + 8 * start_of (params_end bytes h) h.routines)) z
      ∙ ap (slice_range bytes (params_at h)) last)

  pub run_none : (r : ℕ) → r < h.routines → (k : ℕ) → start_of (runs_end bytes h) r ≤ k → k < runs_end bytes h r
      → run_fault bytes h (nat_eq k (start_of (runs_end bytes h) r)) k ≡ None
  unfolding routine_runs_fault
  run_none r lt k low high =
      let whole = first_none (routine_runs_fault bytes h) 0 h.routines r (sections_kept bytes h none).runs (omega arith) (omega arith) in
      first_none (λ run. run_fault bytes h (nat_eq run (start_of (runs_end bytes h) r)) run) (start_of (runs_end bytes h) r)
      (runs_end bytes h r - start_of (runs_end bytes h) r) k whole low (omega arith)

  runs_body : (r : ℕ) → r < h.routines → flat_map run_bytes (routine_in bytes h r).head.runs ≡ flat_map
      (λ p. run_bytes (run_in bytes (runs_at h + 12 * p)))
      (range_with_len (start_of (runs_end bytes h) r) (runs_end bytes h r - start_of (runs_end bytes h) r))
  unfolding routine_in
  runs_body r lt =
      let start = start_of (runs_end bytes h) r in
      let n = runs_end bytes h r - start in
      flat_map-map run_bytes (λ k. run_in bytes (runs_at h + 12 * start + 12 * k)) (range_with_len 0 n)
      ∙ shifted (λ k. run_bytes (run_in bytes (runs_at h + 12 * start + 12 * k))) (λ p. run_bytes (run_in bytes (runs_at h + 12 * p))) 0
      start n
      (λ k lt. (let e : runs_at h + 12 * start + 12 * (0 + k) ≡ runs_at h + 12 * (start + k) = omega arith in
      ap (λ o. run_bytes (run_in bytes o)) e))

  pub runs_stand : flat_map run_bytes (flat_map (λ r. r.head.runs) (items (routine_in bytes h) h.routines)) ≡ slice_range bytes (runs_at h)
      (ranges_at h)
  runs_stand =
      flat_map-flat_map run_bytes (λ (r : PlainRoutine). r.head.runs) (items (routine_in bytes h) h.routines)
      ∙ flat_map-map (λ (r : PlainRoutine). flat_map run_bytes r.head.runs) (routine_in bytes h) (range_with_len 0 h.routines)
      ∙ nested_is bytes (λ p. runs_at h + 12 * p) (λ p. run_bytes (run_in bytes (runs_at h + 12 * p)))
      (λ r. flat_map run_bytes (routine_in bytes h r).head.runs) (runs_end bytes h) h.routines
      (λ r lt. (routine_seen bytes h none r lt).runs.low) (λ k. omega arith)
      (λ r lt p low high. (let e : runs_at h + 12 * p + 12 ≡ runs_at h + 12 * (p + 1) = omega arith in
      ap (slice_range bytes (runs_at h + 12 * p)) (sym e)
      ∙ run_spelled bytes h (nat_eq p (start_of (runs_end bytes h) r)) p fits (run_none r lt p low high)))
      runs_body
      ∙ (let z : runs_at h + 12 * 0 ≡ runs_at h = omega arith in
      let last : runs_at h + 12 * start_of (runs_end bytes h) h.routines ≡ ranges_at h =
      omega (arith, last_runs bytes h within.some (sections_kept bytes h none).routines) in
      ap (λ k. slice_range bytes k (runs_at h + 12 * start_of (runs_end bytes h) h.routines)) z ∙ ap (slice_range bytes (runs_at h)) last)

  -- ---- ranges, texts' ends, lines

  pub ranges_stand : flat_map range_bytes (items (λ k. range_in bytes (ranges_at h + 16 * k)) h.ranges) ≡ slice_range bytes (ranges_at h)
      (texts_at h)
  unfolding range_fault
  ranges_stand =
      flat_map-map range_bytes (λ k. range_in bytes (ranges_at h + 16 * k)) (range_with_len 0 h.ranges)
      ∙ section_is bytes (λ k. ranges_at h + 16 * k) (λ k. range_bytes (range_in bytes (ranges_at h + 16 * k))) 0 h.ranges
      (λ k a b. omega arith)
      (λ k a b. (let e : ranges_at h + 16 * (k + 1) ≡ ranges_at h + 16 * k + 16 = omega arith in
      let whole = (whole_none bytes (ranges_at h + 16 * k + 16) _
      (first_none (range_fault bytes h) 0 h.ranges k (sections_kept bytes h none).ranges (omega arith) (omega arith))).0 in
      ap (slice_range bytes (ranges_at h + 16 * k)) e ∙ range_spelled bytes (ranges_at h + 16 * k) fits whole))
      ∙ (let z : ranges_at h + 16 * 0 ≡ ranges_at h = omega arith in
      let last : ranges_at h + 16 * (0 + h.ranges) ≡ texts_at h = omega arith in
      ap (λ k. slice_range bytes k (ranges_at h + 16 * (0 + h.ranges))) z ∙ ap (slice_range bytes (ranges_at h)) last)

  pub lines_stand : flat_map line_bytes (items (λ k. line_in bytes (lines_at h + 8 * k)) h.lines) ≡ slice_range bytes (lines_at h)
      (end_at h)
  unfolding line_fault
  lines_stand =
      flat_map-map line_bytes (λ k. line_in bytes (lines_at h + 8 * k)) (range_with_len 0 h.lines)
      ∙ section_is bytes (λ k. lines_at h + 8 * k) (λ k. line_bytes (line_in bytes (lines_at h + 8 * k))) 0 h.lines (λ k a b. omega arith)
      (λ k a b. (let e : lines_at h + 8 * (k + 1) ≡ lines_at h + 8 * k + 8 = omega arith in
      let whole = (whole_none bytes (lines_at h + 8 * k + 8) _
      (first_none (line_fault bytes h) 0 h.lines k (sections_kept bytes h none).lines (omega arith) (omega arith))).0 in
      ap (slice_range bytes (lines_at h + 8 * k)) e ∙ line_spelled bytes (lines_at h + 8 * k) fits whole))
      ∙ (let z : lines_at h + 8 * 0 ≡ lines_at h = omega arith in
      let last : lines_at h + 8 * (0 + h.lines) ≡ end_at h = omega arith in
      ap (λ k. slice_range bytes k (lines_at h + 8 * (0 + h.lines))) z ∙ ap (slice_range bytes (lines_at h)) last)

  -- ---- the pools

  name_length : (n : ℕ) → n < h.routines + h.globals → name_pool_at h + h.name_bytes ≤ length bytes
      → length (name_in bytes h n) ≡ name_end bytes h n - start_of (name_end bytes h) n
  unfolding name_in
  name_length n lt pool =
      let seen = name_seen bytes h none n lt in
      length_slice bytes (name_pool_at h + start_of (name_end bytes h) n) (name_pool_at h + name_end bytes h n)
      (omega (arith, seen.name.high)) ∙ omega arith

  names_part : (a n : ℕ) → a + n ≤ h.routines + h.globals
      → flat_map (name_in bytes h) (range_with_len a n) ≡ slice_range bytes (name_pool_at h + start_of (name_end bytes h) a)
      (name_pool_at h + start_of (name_end bytes h) (a + n))
  unfolding name_in
  names_part a n le =
      section_is bytes (λ k. name_pool_at h + start_of (name_end bytes h) k) (name_in bytes h) a n
      (λ k low high. (let up = starts_rise (name_end bytes h) (h.routines + h.globals) (λ j lt. (name_seen bytes h none j lt).name.low) k
      (omega arith) in omega arith))
      (λ k low high. (let e : k + 1 ≡ suc k = omega arith in
      ap (λ j. slice_range bytes (name_pool_at h + start_of (name_end bytes h) k) (name_pool_at h + start_of (name_end bytes h) j)) e))

  last_name : start_of (name_end bytes h) (h.routines + h.globals) ≡ h.name_bytes
  last_name = start_last (name_end bytes h) (h.routines + h.globals) h.name_bytes (omega (arith, within.some))
      ((name_seen bytes h none (h.routines + h.globals - 1) (omega (arith, within.some))).name.last_is)

  -- all names
  pub names_stand : flat_map (λ r. r.name) (items (routine_in bytes h) h.routines)
      ++ flat_map (λ g. g.name) (items (global_in bytes h) h.globals) ≡ slice_range bytes (name_pool_at h) (text_pool_at h)
  unfolding routine_in global_in
  names_stand =
      let first = flat_map-map (λ (r : PlainRoutine). r.name) (routine_in bytes h) (range_with_len 0 h.routines)
      ∙ names_part 0 h.routines (omega arith) in
      let second = flat_map-map (λ (g : PlainGlobal). g.name) (global_in bytes h) (range_with_len 0 h.globals)
      ∙ shifted (λ g. name_in bytes h (h.routines + g)) (name_in bytes h) 0 h.routines h.globals
      (λ k lt. (let z : 0 + k ≡ k = omega arith in ap (λ j. name_in bytes h (h.routines + j)) z))
      ∙ names_part h.routines h.globals (omega arith) in
      let z : 0 + h.routines ≡ h.routines = omega arith in
      let start : name_pool_at h + 0 ≡ name_pool_at h = omega arith in
      let low : start_of (name_end bytes h) h.routines ≤ start_of (name_end bytes h) (h.routines + h.globals) =
      offsets_rise (start_of (name_end bytes h)) h.routines h.globals
      (λ k a b. starts_rise (name_end bytes h) (h.routines + h.globals) (λ j lt. (name_seen bytes h none j lt).name.low) k
      (omega arith)) in
      ap (λ (t : List ℕ). t ++ flat_map (λ g. g.name) (items (global_in bytes h) h.globals))
      (first ∙ ap (λ k. slice_range bytes (name_pool_at h + 0) (name_pool_at h + start_of (name_end bytes h) k)) z)
      ∙ ap (λ (t : List ℕ). slice_range bytes (name_pool_at h + 0) (name_pool_at h + start_of (name_end bytes h) h.routines) ++ t) second
      ∙ slice_join bytes (name_pool_at h + 0) (name_pool_at h + start_of (name_end bytes h) h.routines)
      (name_pool_at h + start_of (name_end bytes h) (h.routines + h.globals)) (omega arith) (omega arith)
      ∙ ap (λ k. slice_range bytes k (name_pool_at h + start_of (name_end bytes h) (h.routines + h.globals))) start
      ∙ ap (λ k. slice_range bytes (name_pool_at h) (name_pool_at h + k)) last_name

  last_text : start_of (text_end bytes h) h.texts ≡ h.text_bytes
  last_text = elim (cases_lt 0 h.texts) [
    | inl some ↦ start_last (text_end bytes h) h.texts h.text_bytes some ((text_seen bytes h none (h.texts - 1) (omega arith)).last_is)
    | inr no_text ↦ (let z : h.texts ≡ 0 = omega arith in ap (start_of (text_end bytes h)) z ∙ sym (within.no_text_bytes z))
  ]

  pub texts_stand : flat_map (λ t. t) (items (text_in bytes h) h.texts) ≡ slice_range bytes (text_pool_at h) (instrs_at h)
  unfolding text_in
  texts_stand =
      flat_map-map (λ t. t) (text_in bytes h) (range_with_len 0 h.texts)
      ∙ section_is bytes (λ k. text_pool_at h + start_of (text_end bytes h) k) (text_in bytes h) 0 h.texts
      (λ k low high. (let up = starts_rise (text_end bytes h) h.texts (λ j lt. (text_seen bytes h none j lt).low) k (omega arith) in
      omega arith))
      (λ k low high. (let e : k + 1 ≡ suc k = omega arith in
      ap (λ j. slice_range bytes (text_pool_at h + start_of (text_end bytes h) k) (text_pool_at h + start_of (text_end bytes h) j)) e))
      ∙ (let z : text_pool_at h + 0 ≡ text_pool_at h = omega arith in
      let n : 0 + h.texts ≡ h.texts = omega arith in
      ap (λ k. slice_range bytes k (text_pool_at h + start_of (text_end bytes h) (0 + h.texts))) z
      ∙ ap (λ k. slice_range bytes (text_pool_at h) (text_pool_at h + start_of (text_end bytes h) k)) n
      ∙ ap (λ k. slice_range bytes (text_pool_at h) (text_pool_at h + k)) last_text)

  -- ---- the records of routines, globals and texts

  module _ (whole : length bytes ≡ end_at h) where
    routine_name_length : (r : ℕ) → r < h.routines → length (routine_in bytes h r).name ≡ name_end bytes h r - start_of (name_end bytes h) r
    unfolding routine_in
    routine_name_length r lt = name_length r (omega arith) (omega arith)

    routine_params_length : (r : ℕ) → length (routine_in bytes h r).head.params ≡ params_end bytes h r - start_of (params_end bytes h) r
    unfolding routine_in
    routine_params_length r = length_items _ _

    routine_runs_length : (r : ℕ) → length (routine_in bytes h r).head.runs ≡ runs_end bytes h r - start_of (runs_end bytes h) r
    unfolding routine_in
    routine_runs_length r = length_items _ _

    flag_again : (n : ℕ) → n ≤ 1 → (if nat_eq n 1 then 1 else 0) ≡ n
    flag_again zero le = refl
    flag_again (suc zero) le = refl
    flag_again (suc (suc n)) le = absurd (omega arith)

    seven_words : (at : ℕ) → at + 28 ≤ length bytes
        → slice_range bytes at (at + 28) ≡ words_bytes
        (u32_at bytes at ∷ u32_at bytes (at + 4) ∷ u32_at bytes (at + 8) ∷ u32_at bytes (at + 12) ∷ u32_at bytes (at + 16)
        ∷ u32_at bytes (at + 20) ∷ u32_at bytes (at + 24) ∷ [])
    seven_words at le =
        let c2 : at + 4 + 4 ≡ at + 8 = omega arith in
        let c3 : at + 8 + 4 ≡ at + 12 = omega arith in
        let c4 : at + 12 + 4 ≡ at + 16 = omega arith in
        let c5 : at + 16 + 4 ≡ at + 20 = omega arith in
        let c6 : at + 20 + 4 ≡ at + 24 = omega arith in
        words_slice bytes at 7 fits le ∙ simp (c2, c3, c4, c5, c6)

    pub routine_spelled : (r : ℕ) → r < h.routines
        → slice_range bytes (routines_at h + 28 * r) (routines_at h + 28 * r + 28) ≡ routine_bytes (code_in bytes h) r
    unfolding routine_bytes routine_in params_end runs_end code_end
    routine_spelled r lt =
        let at = routines_at h + 28 * r in
        let seen = routine_seen bytes h none r lt in
        let there : routine_at (code_in bytes h) r ≡ routine_in bytes h r = item_at (routine_in bytes h) h.routines r no_routine lt in
        let names : end_of (λ (x : PlainRoutine). length x.name) (items (routine_in bytes h) h.routines) r ≡ name_end bytes h r =
        end_is (λ (x : PlainRoutine). length x.name) (routine_in bytes h) (name_end bytes h) h.routines r lt
        (λ k l. (routine_seen bytes h none k l).name.low) routine_name_length in
        let params : end_of (λ (x : PlainRoutine). length x.head.params) (items (routine_in bytes h) h.routines) r ≡ params_end bytes h r =
        end_is (λ (x : PlainRoutine). length x.head.params) (routine_in bytes h) (params_end bytes h) h.routines r lt
        (λ k l. (routine_seen bytes h none k l).params.low) (λ k l. routine_params_length k) in
        let runs : end_of (λ (x : PlainRoutine). length x.head.runs) (items (routine_in bytes h) h.routines) r ≡ runs_end bytes h r =
        end_is (λ (x : PlainRoutine). length x.head.runs) (routine_in bytes h) (runs_end bytes h) h.routines r lt
        (λ k l. (routine_seen bytes h none k l).runs.low) (λ k l. routine_runs_length k) in
        seven_words at seen.is_whole
        ∙ sym (seven_same _ _ _ _ _ _ _ (u32_at bytes at) (u32_at bytes (at + 4)) (u32_at bytes (at + 8)) (u32_at bytes (at + 12))
        (u32_at bytes (at + 16)) (u32_at bytes (at + 20)) (u32_at bytes (at + 24))
        (names ∙ name_end_routine bytes h r lt) params runs (ap (λ (x : PlainRoutine). x.code_end) there)
        (ap (λ (x : PlainRoutine). x.head.slots) there) (ap (λ (x : PlainRoutine). x.head.declared) there)
        (ap (λ (x : PlainRoutine). if x.head.has_result then 1 else 0) there ∙ flag_again (u32_at bytes (at + 24)) seen.result))

    pub routines_stand : section (routine_bytes (code_in bytes h)) h.routines ≡ slice_range bytes (routines_at h) (globals_at h)
    routines_stand =
        section_is bytes (λ k. routines_at h + 28 * k) (routine_bytes (code_in bytes h)) 0 h.routines (λ k a b. omega arith)
        (λ k a b. (let e : routines_at h + 28 * (k + 1) ≡ routines_at h + 28 * k + 28 = omega arith in
        ap (slice_range bytes (routines_at h + 28 * k)) e ∙ routine_spelled k (omega arith)))
        ∙ (let z : routines_at h + 28 * 0 ≡ routines_at h = omega arith in
        let last : routines_at h + 28 * (0 + h.routines) ≡ globals_at h = omega arith in
        ap (λ k. slice_range bytes k (routines_at h + 28 * (0 + h.routines))) z ∙ ap (slice_range bytes (routines_at h)) last)

    global_whole : (g : ℕ) → g < h.globals → globals_at h + 12 * g + 12 ≤ length bytes
    global_whole g lt = (global_kept bytes h g
        (first_none (global_fault bytes h) 0 h.globals g (sections_kept bytes h none).globals (omega arith) (omega arith))).is_whole

    -- the ends of the names of the globals, counted from the first
    global_end : ℕ → ℕ
    global_end g = name_end bytes h (h.routines + g) - start_of (name_end bytes h) h.routines

    base_low : (g : ℕ) → g ≤ h.globals → start_of (name_end bytes h) h.routines ≤ start_of (name_end bytes h) (h.routines + g)
    base_low g le = offsets_rise (start_of (name_end bytes h)) h.routines g
        (λ k a b. starts_rise (name_end bytes h) (h.routines + h.globals) (λ j lt. (name_seen bytes h none j lt).name.low) k (omega arith))

    global_start : (g : ℕ) → g ≤ h.globals → start_of global_end g + start_of (name_end bytes h) h.routines ≡ start_of (name_end bytes h)
        (h.routines + g)
    unfolding global_end
    global_start zero le = let z : h.routines + 0 ≡ h.routines = omega arith in omega (arith, ap (start_of (name_end bytes h)) z)
    global_start (suc g) le =
        let e : h.routines + suc g ≡ suc (h.routines + g) = omega arith in
        let low = base_low (suc g) le in
        omega (arith, ap (start_of (name_end bytes h)) e, low)

    global_low : (g : ℕ) → g < h.globals → start_of global_end g ≤ global_end g
    unfolding global_end
    global_low g lt =
        let start = global_start g (omega arith) in
        let seen = name_seen bytes h none (h.routines + g) (omega arith) in
        omega (arith, start, seen.name.low)

    global_length : (g : ℕ) → g < h.globals → length (global_in bytes h g).name ≡ global_end g - start_of global_end g
    unfolding global_in global_end
    global_length g lt =
        let start = global_start g (omega arith) in
        let base = base_low g (omega arith) in
        omega (arith, start, base, name_length (h.routines + g) (omega arith) (omega arith))

    pub global_spelled : (g : ℕ) → g < h.globals
        → slice_range bytes (globals_at h + 12 * g) (globals_at h + 12 * g + 12) ≡ global_bytes (code_in bytes h) g
    unfolding global_bytes global_in global_end
    global_spelled g lt =
        let at = globals_at h + 12 * g in
        let there : get_or (code_in bytes h).globals g no_global ≡ global_in bytes h g =
        item_at (global_in bytes h) h.globals g no_global lt in
        let routines : sum_by (λ (x : PlainRoutine). length x.name) (items (routine_in bytes h) h.routines) ≡ start_of (name_end bytes h)
        h.routines =
        sum_ends (λ (x : PlainRoutine). length x.name) (routine_in bytes h) (name_end bytes h) h.routines
        (λ k l. (routine_seen bytes h none k l).name.low) routine_name_length in
        let globals : end_of (λ (x : PlainGlobal). length x.name) (items (global_in bytes h) h.globals) g ≡ global_end g =
        end_is (λ (x : PlainGlobal). length x.name) (global_in bytes h) global_end h.globals g lt global_low global_length in
        let seen = name_seen bytes h none (h.routines + g) (omega arith) in
        let base = base_low g (omega arith) in
        let name : sum_by (λ (x : PlainRoutine). length x.name) (items (routine_in bytes h) h.routines)
        + end_of (λ (x : PlainGlobal). length x.name) (items (global_in bytes h) h.globals) g ≡ name_end bytes h (h.routines + g) =
        omega (arith, routines, globals, seen.name.low, base) in
        three_words bytes at fits (global_whole g lt)
        ∙ sym (three_same _ _ _ (u32_at bytes at) (u32_at bytes (at + 4)) (u32_at bytes (at + 8)) (name ∙ name_end_global bytes h g)
        (ap (λ (x : PlainGlobal). x.slot) there) (ap (λ (x : PlainGlobal). x.cells) there))

    pub globals_stand : section (global_bytes (code_in bytes h)) h.globals ≡ slice_range bytes (globals_at h) (params_at h)
    globals_stand =
        section_is bytes (λ k. globals_at h + 12 * k) (global_bytes (code_in bytes h)) 0 h.globals (λ k a b. omega arith)
        (λ k a b. (let e : globals_at h + 12 * (k + 1) ≡ globals_at h + 12 * k + 12 = omega arith in
        ap (slice_range bytes (globals_at h + 12 * k)) e ∙ global_spelled k (omega arith)))
        ∙ (let z : globals_at h + 12 * 0 ≡ globals_at h = omega arith in
        let last : globals_at h + 12 * (0 + h.globals) ≡ params_at h = omega arith in
        ap (λ k. slice_range bytes k (globals_at h + 12 * (0 + h.globals))) z ∙ ap (slice_range bytes (globals_at h)) last)

    text_length : (t : ℕ) → t < h.texts → length (text_in bytes h t) ≡ text_end bytes h t - start_of (text_end bytes h) t
    unfolding text_in
    text_length t lt =
        let seen = text_seen bytes h none t lt in
        length_slice bytes (text_pool_at h + start_of (text_end bytes h) t) (text_pool_at h + text_end bytes h t) (omega (arith, seen.high))
        ∙ omega arith

    text_end_spelled : (t : ℕ) → t < h.texts
        → slice_range bytes (texts_at h + 4 * t) (texts_at h + 4 * t + 4) ≡ text_end_bytes (code_in bytes h) t
    unfolding text_end_bytes text_end
    text_end_spelled t lt =
        let at = texts_at h + 4 * t in
        let end : end_of length (items (text_in bytes h) h.texts) t ≡ text_end bytes h t =
        end_is length (text_in bytes h) (text_end bytes h) h.texts t lt (λ k l. (text_seen bytes h none k l).low) text_length in
        u32_slice bytes at fits (omega arith) ∙ ap u32_bytes (sym end)
        ∙ sym (append-nil (u32_bytes (end_of length (items (text_in bytes h) h.texts) t)))

    pub text_ends_stand : section (text_end_bytes (code_in bytes h)) h.texts ≡ slice_range bytes (texts_at h) (name_pool_at h)
    text_ends_stand =
        section_is bytes (λ k. texts_at h + 4 * k) (text_end_bytes (code_in bytes h)) 0 h.texts (λ k a b. omega arith)
        (λ k a b. (let e : texts_at h + 4 * (k + 1) ≡ texts_at h + 4 * k + 4 = omega arith in ap (slice_range bytes (texts_at h + 4 * k)) e
        ∙ text_end_spelled k (omega arith)))
        ∙ (let z : texts_at h + 4 * 0 ≡ texts_at h = omega arith in
        let last : texts_at h + 4 * (0 + h.texts) ≡ name_pool_at h = omega arith in
        ap (λ k. slice_range bytes k (texts_at h + 4 * (0 + h.texts))) z ∙ ap (slice_range bytes (texts_at h)) last)

    pub instrs_stand : flat_map instr_bytes (items (λ k. instr_at bytes (instrs_at h + 17 * k)) h.instrs) ≡ slice_range bytes (instrs_at h)
        (lines_at h)
    unfolding instr_fault
    instrs_stand =
        flat_map-map instr_bytes (λ k. instr_at bytes (instrs_at h + 17 * k)) (range_with_len 0 h.instrs)
        ∙ section_is bytes (λ k. instrs_at h + 17 * k) (λ k. instr_bytes (instr_at bytes (instrs_at h + 17 * k))) 0 h.instrs
        (λ k a b. omega arith)
        (λ k a b. (let e : instrs_at h + 17 * (k + 1) ≡ instrs_at h + 17 * k + 17 = omega arith in
        let seen = whole_none bytes (instrs_at h + 17 * k + 17) _
        (first_none (instr_fault bytes h) 0 h.instrs k (sections_kept bytes h none).instrs (omega arith) (omega arith)) in
        let form = unless_none _ _ _ seen.1 in
        ap (slice_range bytes (instrs_at h + 17 * k)) e ∙ instr_spelled h.version bytes (instrs_at h + 17 * k) fits seen.0 form.0))
        ∙ (let z : instrs_at h + 17 * 0 ≡ instrs_at h = omega arith in
        let last : instrs_at h + 17 * (0 + h.instrs) ≡ lines_at h = omega arith in
        ap (λ k. slice_range bytes k (instrs_at h + 17 * (0 + h.instrs))) z ∙ ap (slice_range bytes (instrs_at h)) last)

    -- ---- totals

    pub params_total : sum_by (λ (x : PlainRoutine). length x.head.params) (items (routine_in bytes h) h.routines) ≡ h.params
    params_total =
        sum_ends (λ (x : PlainRoutine). length x.head.params) (routine_in bytes h) (params_end bytes h) h.routines
        (λ k l. (routine_seen bytes h none k l).params.low) (λ k l. routine_params_length k)
        ∙ last_params bytes h within.some (sections_kept bytes h none).routines

    pub runs_total : sum_by (λ (x : PlainRoutine). length x.head.runs) (items (routine_in bytes h) h.routines) ≡ h.runs
    runs_total =
        sum_ends (λ (x : PlainRoutine). length x.head.runs) (routine_in bytes h) (runs_end bytes h) h.routines
        (λ k l. (routine_seen bytes h none k l).runs.low) (λ k l. routine_runs_length k)
        ∙ last_runs bytes h within.some (sections_kept bytes h none).routines

    pub names_total : sum_by (λ (x : PlainRoutine). length x.name) (items (routine_in bytes h) h.routines)
        + sum_by (λ (x : PlainGlobal). length x.name) (items (global_in bytes h) h.globals) ≡ h.name_bytes
    names_total =
        let routines : sum_by (λ (x : PlainRoutine). length x.name) (items (routine_in bytes h) h.routines) ≡ start_of (name_end bytes h)
        h.routines =
        sum_ends (λ (x : PlainRoutine). length x.name) (routine_in bytes h) (name_end bytes h) h.routines
        (λ k l. (routine_seen bytes h none k l).name.low) routine_name_length in
        let globals : sum_by (λ (x : PlainGlobal). length x.name) (items (global_in bytes h) h.globals) ≡ start_of global_end h.globals =
        sum_ends (λ (x : PlainGlobal). length x.name) (global_in bytes h) global_end h.globals global_low global_length in
        omega (arith, routines, globals, global_start h.globals (omega arith), last_name)

    pub texts_total : sum_by length (items (text_in bytes h) h.texts) ≡ h.text_bytes
    texts_total = sum_ends length (text_in bytes h) (text_end bytes h) h.texts (λ k l. (text_seen bytes h none k l).low) text_length
        ∙ last_text
