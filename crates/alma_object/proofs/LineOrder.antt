-- The line of an address among lines whose addresses rise.
use Rattle.std.proofs.Common.{◌≡◌, ℕ, zero, suc, ◌-◌, ◌<◌, ◌≤◌, true, false, ◌&&◌, List, [], ◌∷◌, length, get_or, refl, ap, ◌∙◌, arith}
use Rattle.std.specs.Prelude.{nat_lt, nat_le}
use Rattle.std.proofs.lemmas.Bool.Decides.{nat_tests}
use Rattle.alma_base.specs.Choice.{if_true}
use Rattle.alma_code.specs.declared.code.Line.{Line}
use Rattle.alma_code.specs.Lines.{last_line, lines_rise}
use Rattle.alma_object.specs.View.{no_line, IsSplit}
use Rattle.alma_object_format.proofs.Kept.{and_parts, le_fact, lt_fact}
use Rattle.alma_object.proofs.Stands.{le_test}

-- the addresses of lines from low on, below the count
pub below_from : (low count : ℕ) (lines : List Line) → lines_rise low count lines ≡ true → (k : ℕ) → k < length lines
    → (low ≤ (get_or lines k no_line).at) × ((get_or lines k no_line).at < count)
below_from low count [] e k lt = absurd (omega arith)
below_from low count (x ∷ rest) e zero lt =
    (let a = and_parts (nat_le low x.at && nat_lt x.at count) (lines_rise (suc x.at) count rest) e in let b =
    and_parts (nat_le low x.at) (nat_lt x.at count) a.0 in (le_fact _ _ b.0, lt_fact _ _ b.1))
below_from low count (x ∷ rest) e (suc k) lt =
    let a = and_parts (nat_le low x.at && nat_lt x.at count) (lines_rise (suc x.at) count rest) e in
    let b = and_parts (nat_le low x.at) (nat_lt x.at count) a.0 in
    let r = below_from (suc x.at) count rest a.1 k (omega arith) in
    let l = le_fact _ _ b.0 in
    (omega (arith, r.0), r.1)

pub next_line : (low count : ℕ) (lines : List Line) → lines_rise low count lines ≡ true → (k : ℕ) → suc k < length lines
    → (get_or lines k no_line).at < (get_or lines (suc k) no_line).at
next_line low count [] e k lt = absurd (omega arith)
next_line low count (x ∷ rest) e zero lt =
    (let a = and_parts (nat_le low x.at && nat_lt x.at count) (lines_rise (suc x.at) count rest) e in
    (below_from (suc x.at) count rest a.1 0 (omega arith)).0)
next_line low count (x ∷ rest) e (suc k) lt =
    (let a = and_parts (nat_le low x.at && nat_lt x.at count) (lines_rise (suc x.at) count rest) e in
    next_line (suc x.at) count rest a.1 k (omega arith))

gt_test : (m n : ℕ) → n < m → nat_le m n ≡ false
gt_test m n lt = grind (arith, nat_tests)

-- the line of an address is that of the last line that begins at or before it
pub line_split : (at other low count : ℕ) (lines : List Line) (k : ℕ) → lines_rise low count lines ≡ true → IsSplit at lines k
    → last_line at other lines ≡ (get_or (record { at = 0; line = other } ∷ lines) k no_line).line
line_split at other low count [] zero rise split = refl
line_split at other low count [] (suc k) rise split = absurd (omega (arith, split.top))
line_split at other low count (x ∷ rest) zero rise split =
    let a = and_parts (nat_le low x.at && nat_lt x.at count) (lines_rise (suc x.at) count rest) rise in
    let past = split.behind (omega arith) in
    ap (λ b. last_line at (if_true b (λ _. x.line) (λ _. other)) rest) (gt_test x.at at past)
    ∙ line_split at other (suc x.at) count rest zero a.1
    (record {
      top = omega arith;
      before = λ lt. absurd (omega arith);
      behind =
          λ lt. omega (arith, past, (below_from (suc x.at) count rest a.1 0 lt).0);
    })
line_split at other low count (x ∷ rest) (suc k) rise split =
    let a = and_parts (nat_le low x.at && nat_lt x.at count) (lines_rise (suc x.at) count rest) rise in
    let n : suc k - 1 ≡ k = omega arith in
    let last : (get_or (x ∷ rest) k no_line).at ≤ at =
    omega (arith, split.before (omega arith), ap (λ j. (get_or (x ∷ rest) j no_line).at) n) in
    ap (λ b. last_line at (if_true b (λ _. x.line) (λ _. other)) rest)
    (le_test x.at at (first_before k last (omega (arith, split.top)) a.1))
    ∙ line_split at x.line (suc x.at) count rest k a.1
    (record { top = omega (arith, split.top); before = rest_before k last; behind = λ lt. split.behind (omega arith) })
    ∙ same k
  where
    first_before : (k : ℕ) → (get_or (x ∷ rest) k no_line).at ≤ at → k ≤ length rest → lines_rise (suc x.at) count rest ≡ true → x.at ≤ at
    first_before zero last le r = last
    first_before (suc j) last le r = omega (arith, last, (below_from (suc x.at) count rest r j (omega arith)).0)

    rest_before : (k : ℕ) → (get_or (x ∷ rest) k no_line).at ≤ at → 0 < k → (get_or rest (k - 1) no_line).at ≤ at
    rest_before zero last lt = absurd (omega arith)
    rest_before (suc j) last lt = (let n : suc j - 1 ≡ j = omega arith in omega (arith, last, ap (λ i. (get_or rest i no_line).at) n))

    same : (k : ℕ) → (get_or (record { at = 0; line = x.line } ∷ rest) k no_line).line ≡ (get_or (x ∷ rest) k no_line).line
    same zero = refl
    same (suc j) = refl
