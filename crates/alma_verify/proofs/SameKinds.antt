-- Slots of two routines that have the same kinds.
use Rattle.std.proofs.Common.{◌≡◌, ℕ, ◌+◌, ◌-◌, ◌<◌, ◌≤◌, suc, List, [], ◌∷◌, length, refl, sym, ap, subst, ◌∙◌, arith, ◌⊎◌, inl, inr}
use Rattle.std.proofs.lemmas.Bool.{cases_lt}
use Rattle.std.proofs.lemmas.Bool.Decides.{nat_tests}
use Rattle.std.specs.Prelude.{true, ◌&&◌, nat_lt}
use Rattle.alma_code.specs.declared.head.CodeParam.{CodeParam}
use Rattle.alma_code.specs.Plain.{PlainCode, head_at}
use Rattle.alma_code.specs.Rules.{kind_in, is_free, fits_argument, fit_arguments}
use Rattle.alma_verify.specs.Runs.{takes}
use Rattle.alma_verify.specs.declared.seen.SeenCall.{SeenCall}
use Rattle.alma_verify.specs.Seen.{AreAlike, Fits, IsFit}
use Rattle.alma_verify.proofs.Calls.{both_left, both_right}
use Rattle.alma_verify.proofs.SlotStarts.{takes_is}

pub alike_none : (code : PlainCode) (r i q j : ℕ) → AreAlike code r i q j 0
alike_none code r i q j = record { same = λ k lt. absurd (omega (arith, lt)) }

alike_at : (code : PlainCode) (r i q j n m k : ℕ) → AreAlike code r (i + n) q (j + n) m → n ≤ k → k < n + m
    → kind_in code r (i + k) ≡ kind_in code q (j + k)
alike_at code r i q j n m k a le lt =
    let b : i + k ≡ i + n + (k - n) = omega (arith, le) in
    let d : j + k ≡ j + n + (k - n) = omega (arith, le) in
    ap (kind_in code r) b ∙ a.same (k - n) (omega (arith, le, lt)) ∙ sym (ap (kind_in code q) d)

-- n slots and m more behind them
pub alike_joined : (code : PlainCode) (r i q j n m : ℕ) → AreAlike code r i q j n → AreAlike code r (i + n) q (j + n) m
    → AreAlike code r i q j (n + m)
alike_joined code r i q j n m a b = record { same = λ k lt. pick k lt (cases_lt k n) }
  where
    pick : (k : ℕ) → k < n + m → (k < n) ⊎ (n ≤ k) → kind_in code r (i + k) ≡ kind_in code q (j + k)
    pick k lt (inl below) = a.same k below
    pick k lt (inr le) = alike_at code r i q j n m k b le lt

pub alike_fewer : (code : PlainCode) (r i q j n m : ℕ) → m ≤ n → AreAlike code r i q j n → AreAlike code r i q j m
alike_fewer code r i q j n m le a = record { same = λ k lt. a.same k (omega (arith, lt, le)) }

pub ruleset joins = (alike_none, alike_joined, alike_fewer)

-- the slots behind the first
alike_rest : (code : PlainCode) (r i q j n : ℕ) → AreAlike code r i q j (suc n) → AreAlike code r (suc i) q (suc j) n
alike_rest code r i q j n a = record {
  same =
      λ k lt. let b : suc i + k ≡ i + suc k = omega arith in
      let d : suc j + k ≡ j + suc k = omega arith in
      ap (kind_in code r) b ∙ a.same (suc k) (omega (arith, lt)) ∙ sym (ap (kind_in code q) d);
}

free_later : (code : PlainCode) (q j : ℕ) → is_free code q (suc j) ≡ true
free_later code q j = grind (arith, nat_tests)

-- what fits the slots of a call fits those of one that is alike
pub alike_fit : (code : PlainCode) (ps : List CodeParam) (r i q j : ℕ) → AreAlike code r i q j (length ps) → is_free code q j ≡ true
    → fit_arguments code r ps i ≡ true → fit_arguments code q ps j ≡ true
alike_fit code [] r i q j a free e = refl
alike_fit code (p ∷ ps) r i q j a free e =
    let one : (is_free code r i && fits_argument code r p.kind p.cells i) ≡ true =
    both_left (is_free code r i && fits_argument code r p.kind p.cells i) (fit_arguments code r ps (suc i)) e in
    let here : fits_argument code r p.kind p.cells i ≡ true = both_right (is_free code r i) (fits_argument code r p.kind p.cells i) one in
    let rest : fit_arguments code r ps (suc i) ≡ true =
    both_right (is_free code r i && fits_argument code r p.kind p.cells i) (fit_arguments code r ps (suc i)) e in
    let x : i + 0 ≡ i = omega arith in
    let y : j + 0 ≡ j = omega arith in
    let first : kind_in code q j ≡ kind_in code r i =
    sym (ap (kind_in code q) y) ∙ (sym (a.same 0 (omega arith)) ∙ ap (kind_in code r) x) in
    let there : fits_argument code q p.kind p.cells j ≡ true =
    takes_is code q p.kind p.cells j ∙ (ap (takes p.kind p.cells) first ∙ (sym (takes_is code r p.kind p.cells i) ∙ here)) in
    ap (λ b. (b && fits_argument code q p.kind p.cells j) && fit_arguments code q ps (suc j)) free
    ∙ (ap (λ b. b && fit_arguments code q ps (suc j)) there
    ∙ alike_fit code ps r (suc i) q (suc j) (alike_rest code r i q j (length ps) a) (free_later code q j) rest)

-- what fits a call that was seen fits another one of the callee that is alike
pub fit_like : (code : PlainCode) (s t : SeenCall) (n : ℕ) → AreAlike code s.caller s.first t.caller t.first n → IsFit code s
    → s.callee ≡ t.callee → n ≡ length (head_at code t.callee).params → t.caller < length code.routines
    → nat_lt 0 (t.caller + (t.first + 0)) ≡ true → IsFit code t
fit_like code s t n alike fit e count within free some =
    let known : Fits code s = fit (omega (arith, some, e)) in
    let z : t.first + 0 ≡ t.first = omega arith in
    let ps : List CodeParam = (head_at code t.callee).params in
    let fits : fit_arguments code s.caller ps s.first ≡ true =
    subst (λ k. fit_arguments code s.caller (head_at code k).params s.first ≡ true) e known.arguments in
    record {
      caller = within;
      arguments = alike_fit code ps s.caller s.first t.caller t.first
          (subst (AreAlike code s.caller s.first t.caller t.first) count alike)
          (subst (λ k. nat_lt 0 (t.caller + k) ≡ true) z free) fits;
    }
