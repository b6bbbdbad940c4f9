-- The tables of the code that stands in bytes without fault are in order, and no count is too large.
use Rattle.std.proofs.Common.{◌≡◌, ℕ, zero, suc, ◌+◌, ◌-◌, ◌*◌, ◌<◌, ◌≤◌, Bool, true, false, ◌&&◌, not, None, List, length, map, refl, sym}
use Rattle.std.proofs.Common.{ap, subst, ◌∙◌, arith}
use Rattle.std.specs.Prelude.{nat_eq, nat_lt, nat_le, ◌||◌, if◌then◌else◌}
use Rattle.std.specs.List.{range_with_len}
use Rattle.std.proofs.lemmas.Bool.Decides.{nat_tests}
use Rattle.alma_code.specs.declared.head.Run.{Run}
use Rattle.alma_code.specs.Layout.{RunsRise}
use Rattle.alma_code.specs.Plain.{PlainRoutine, start_at, no_routine}
use Rattle.alma_code.specs.Records.{KeepsCounts}
use Rattle.alma_code.specs.Rules.{IsTable, last_end}
use Rattle.alma_object_format.specs.declared.header.Header.{Header}
use Rattle.alma_object_format.specs.Bytes.{u32_at}
use Rattle.alma_object_format.specs.Header.{IsWithin, runs_at, end_at}
use Rattle.alma_object_format.specs.Walk.{start_of, has_length, runs_end, run_fault, sections_fault}
use Rattle.alma_object_format.specs.Reading.{routine_in, global_in, text_in, run_in, code_in}
use Rattle.alma_object.proofs.Items.{length_items, item_at}
use Rattle.alma_base.proofs.FirstFault.{unless_none}
use Rattle.alma_object_format.proofs.Kept.{whole_none, lt_fact, routine_seen, sections_kept, last_code}
use Rattle.alma_object.proofs.Sections.{run_none, params_total, runs_total, names_total, texts_total}
use Rattle.alma_object.proofs.Slices.{IsBytes}
use Rattle.alma_object.proofs.Views.{code_start_is}

-- ends of runs that rise one after another
rise_from : (of : ℕ → Run) (a n low : ℕ) → (0 < n → low < (of a).end) → ((k : ℕ) → a ≤ k → k + 1 < a + n → (of k).end < (of (k + 1)).end) →
    RunsRise low (map of (range_with_len a n)) (last_end low (map of (range_with_len a n)))
rise_from of a zero low first next = refl
rise_from of a (suc n) low first next = (
  first (omega arith),
  rise_from of (a + 1) n (of a).end (λ lt. next a (omega arith) (omega arith))
      (λ k le lt. next k (omega arith) (omega arith)),
)

eq_test : (m n : ℕ) → m ≡ n → nat_eq m n ≡ true
eq_test m n e = grind (arith, nat_tests)

ne_test : (m n : ℕ) → n < m → nat_eq m n ≡ false
ne_test m n lt = grind (arith, nat_tests)

-- a run without fault
pub record RunKept (bytes : List ℕ) (h : Header) (first : Bool) (at : ℕ) : Type 0 where
  pub kind : nat_le (u32_at bytes at) (if nat_eq h.version 2 then 3 else 2) ≡ true
  pub size : (has_length (u32_at bytes at) || nat_eq (u32_at bytes (at + 4)) 0) ≡ true
  pub differs : (first || not (nat_eq (u32_at bytes (at - 12)) (u32_at bytes at) && nat_eq (u32_at bytes (at - 8)) (u32_at bytes (at + 4))))
      ≡ true
  pub above : nat_lt (if first then 0 else u32_at bytes (at - 4)) (u32_at bytes (at + 8)) ≡ true

pub run_kept : (bytes : List ℕ) (h : Header) (first : Bool) (r : ℕ) → run_fault bytes h first r ≡ None
    → RunKept bytes h first (runs_at h + 12 * r)
unfolding run_fault
run_kept bytes h first r e =
    let at = runs_at h + 12 * r in
    let a = whole_none bytes (at + 12) _ e in
    let b = unless_none (nat_le (u32_at bytes at) (if nat_eq h.version 2 then 3 else 2)) _ _ a.1 in
    let c = unless_none (has_length (u32_at bytes at) || nat_eq (u32_at bytes (at + 4)) 0) _ _ b.1 in
    let d = unless_none (first || not
    (nat_eq (u32_at bytes (at - 12)) (u32_at bytes at) && nat_eq (u32_at bytes (at - 8)) (u32_at bytes (at + 4)))) _ _ c.1 in
    let f = unless_none (nat_lt (if first then 0 else u32_at bytes (at - 4)) (u32_at bytes (at + 8))) _ _ d.1 in
    record { kind = b.0; size = c.0; differs = d.0; above = f.0 }

run_end_above : (bytes : List ℕ) (h : Header) (first : Bool) (r : ℕ) → run_fault bytes h first r ≡ None
    → (if first then 0 else u32_at bytes (runs_at h + 12 * r - 4)) < u32_at bytes (runs_at h + 12 * r + 8)
run_end_above bytes h first r e = lt_fact _ _ (run_kept bytes h first r e).above

module _ (bytes : List ℕ) (h : Header) (fits : IsBytes bytes) (within : IsWithin h) (none : sections_fault bytes h ≡ None)
    (whole : length bytes ≡ end_at h) where
  runs_rise : (r : ℕ) → r < h.routines → RunsRise 0 (routine_in bytes h r).head.runs (last_end 0 (routine_in bytes h r).head.runs)
  unfolding routine_in run_in
  runs_rise r lt =
      let start = start_of (runs_end bytes h) r in
      let n = runs_end bytes h r - start in
      let seen = routine_seen bytes h none r lt in
      let of = λ (k : ℕ). run_in bytes (runs_at h + 12 * start + 12 * k) in
      rise_from of 0 n 0
      (λ some. (let kept = run_end_above bytes h (nat_eq start start) start
      (run_none bytes h fits within none r lt start (omega arith) (omega (arith, seen.runs.low))) in
      let first : nat_eq start start ≡ true = eq_test start start refl in
      let e : runs_at h + 12 * start + 8 ≡ runs_at h + 12 * start + 12 * 0 + 8 = omega arith in
      omega (arith, kept, ap (λ b. if b then 0 else u32_at bytes (runs_at h + 12 * start - 4)) first, ap (u32_at bytes) e)))
      (λ k low high. (let kept = run_end_above bytes h (nat_eq (start + (k + 1)) start) (start + (k + 1))
      (run_none bytes h fits within none r lt (start + (k + 1)) (omega arith) (omega (arith, seen.runs.low))) in
      let later : nat_eq (start + (k + 1)) start ≡ false = ne_test (start + (k + 1)) start (omega arith) in
      let e : runs_at h + 12 * (start + (k + 1)) - 4 ≡ runs_at h + 12 * start + 12 * k + 8 = omega arith in
      let f : runs_at h + 12 * (start + (k + 1)) + 8 ≡ runs_at h + 12 * start + 12 * (k + 1) + 8 = omega arith in
      omega (
        arith,
        kept,
        ap (λ b. if b then 0 else u32_at bytes (runs_at h + 12 * (start + (k + 1)) - 4)) later,
        ap (u32_at bytes) e,
        ap (u32_at bytes) f,
      )))

  pub is_table : IsTable (code_in bytes h)
  unfolding routine_in
  is_table =
      let count = length_items (routine_in bytes h) h.routines in
      let there = λ (r : ℕ) (lt : r < h.routines). item_at (routine_in bytes h) h.routines r no_routine lt in
      record {
        some = omega (arith, count, within.some);
        rise = λ r lt. (let lt' : r < h.routines = omega (arith, count) in
            let start = code_start_is bytes h r (omega arith) in
            let end = ap (λ (x : PlainRoutine). x.code_end) (there r lt') in
            omega (arith, (routine_seen bytes h none r lt').code.low, start, end));
        last = ap (start_at (code_in bytes h)) count ∙ sym (code_start_is bytes h h.routines (omega arith))
            ∙ last_code bytes h within.some (sections_kept bytes h none).routines ∙ sym (length_items _ _);
        runs = λ r lt. (let lt' : r < h.routines = omega (arith, count) in
            let P : PlainRoutine → Type 0 = λ x. RunsRise 0 x.head.runs (last_end 0 x.head.runs) in
            subst P (sym (there r lt')) (runs_rise r lt'));
      }

  pub keeps_counts : KeepsCounts (code_in bytes h)
  keeps_counts = record {
    routines = omega (arith, length_items (routine_in bytes h) h.routines, within.routines);
    globals = omega (arith, length_items (global_in bytes h) h.globals, within.globals);
    params = omega (arith, params_total bytes h fits within none whole, within.params);
    runs = omega (arith, runs_total bytes h fits within none whole, within.runs);
    ranges = (let n : length (code_in bytes h).ranges ≡ h.ranges = length_items _ _ in omega (arith, within.ranges));
    texts = omega (arith, length_items (text_in bytes h) h.texts, within.texts);
    names = omega (arith, names_total bytes h fits within none whole, within.name_bytes);
    text_bytes = omega (arith, texts_total bytes h fits within none whole, within.text_bytes);
    instrs = (let n : length (code_in bytes h).instrs ≡ h.instrs = length_items _ _ in omega (arith, within.instrs));
    lines = (let n : length (code_in bytes h).lines ≡ h.lines = length_items _ _ in omega (arith, within.lines));
  }
