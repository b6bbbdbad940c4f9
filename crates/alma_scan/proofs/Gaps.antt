-- How gaps go on: each has one end, where a token or a fault stands.
use Rattle.std.proofs.Common.{◌≡◌, ◌≤◌, ◌<◌, ℕ, true, List, [], ◌∷◌, ◌++◌, length, refl, ap, sym, ◌∙◌, subst, arith}
use Rattle.alma_base.specs.Reading.{is_blank}
use Rattle.alma_scan.specs.Bytes.{AllIn, Stops}
use Rattle.alma_scan.specs.Comments.{Closes, here, byte, nested, Gap, none, blank, comment}
use Rattle.alma_scan.specs.Inner.Fronts.{IsGapEnd}
use Rattle.alma_scan.proofs.Basics.{true_false, both, heads, tails}
use Rattle.alma_scan.proofs.Comments.{closes_once}

-- a gap and a gap are a gap
pub gap_then : {bytes middle rest : List ℕ} → Gap bytes middle → Gap middle rest → Gap bytes rest
gap_then (none middle) k = k
gap_then {rest = rest} (blank b bytes middle t h) k = blank b bytes rest t (gap_then h k)
gap_then {rest = rest} (comment bytes after middle c h) k = comment bytes after rest c (gap_then h k)

-- blanks are a gap
blanks_gap : (run rest : List ℕ) → AllIn is_blank run → Gap (run ++ rest) rest
blanks_gap [] rest h = none rest
blanks_gap (b ∷ run) rest h = blank b (run ++ rest) rest h.0 (blanks_gap run rest h.1)

-- a gap goes on with blanks
pub gap_blanks : (bytes middle run rest : List ℕ) → Gap bytes middle → middle ≡ run ++ rest → AllIn is_blank run → Gap bytes rest
gap_blanks bytes middle run rest g e h = gap_then g (subst (λ (z : List ℕ). Gap z rest) (sym e) (blanks_gap run rest h))

-- a gap goes on with a comment
pub gap_comment : (bytes middle inner rest : List ℕ) → Gap bytes middle → middle ≡ 40 ∷ 42 ∷ inner → Closes inner rest → Gap bytes rest
gap_comment bytes middle inner rest g e c =
    gap_then g (subst (λ (z : List ℕ). Gap z rest) (sym e) (comment inner rest rest c (none rest)))

-- the rest behind a comment is shorter
pub closes_shorter : {bytes rest : List ℕ} → Closes bytes rest → length rest < length bytes
closes_shorter (here rest) = omega arith
closes_shorter (byte b bytes rest o c h) = let k = closes_shorter h in omega (arith, k)
closes_shorter (nested bytes inner rest h i) = let k = closes_shorter h in let l = closes_shorter i in omega (arith, k, l)

-- the rest behind a gap is no longer
pub gap_shorter : {bytes rest : List ℕ} → Gap bytes rest → length rest ≤ length bytes
gap_shorter (none rest) = omega arith
gap_shorter (blank b bytes rest t h) = let k = gap_shorter h in omega (arith, k)
gap_shorter (comment bytes after rest c h) = let k = gap_shorter h in let l = closes_shorter c in omega (arith, k, l)

-- the ways in which a gap goes on, with equations in the place of patterns
data GapBy (bytes rest : List ℕ) : Type 0 where
  by_none : bytes ≡ rest → GapBy bytes rest
  by_blank : (b : ℕ) (more : List ℕ) → bytes ≡ b ∷ more → is_blank b ≡ true → Gap more rest → GapBy bytes rest
  by_comment : (more after : List ℕ) → bytes ≡ 40 ∷ 42 ∷ more → Closes more after → Gap after rest → GapBy bytes rest

-- each gap goes on in one of these ways
gap_by : {bytes rest : List ℕ} → Gap bytes rest → GapBy bytes rest
gap_by (none rest) = by_none refl
gap_by (blank b bytes rest t h) = by_blank b bytes refl t h
gap_by (comment bytes after rest c h) = by_comment bytes after refl c h

-- no gap goes on where one ends
pub gap_end : (bytes rest : List ℕ) → IsGapEnd bytes → Gap bytes rest → bytes ≡ rest
gap_end bytes rest n h = elim (gap_by h) [
  | by_none e ↦ e
  | by_blank b more e t k ↦ absurd (both (is_blank b) t (let s : Stops is_blank (b ∷ more) = subst (Stops is_blank) e n.no_blank in s))
  | by_comment more after e c k ↦ absurd (n.no_comment more after e c)
]

-- a gap that begins with a blank goes on behind it
blank_back : (b : ℕ) (bytes rest : List ℕ) → is_blank b ≡ true → IsGapEnd rest → Gap (b ∷ bytes) rest → Gap bytes rest
blank_back b bytes rest t n h = elim (gap_by h) [
  | by_none e ↦ absurd (both (is_blank b) t (let s : Stops is_blank (b ∷ bytes) = subst (Stops is_blank) (sym e) n.no_blank in s))
  | by_blank b' more e t' k ↦ subst (λ (z : List ℕ). Gap z rest) (sym (tails e)) k
  | by_comment more after e c k ↦ absurd (true_false (sym t ∙ ap is_blank (heads e)))
]

-- a gap that begins with a whole comment goes on behind it
comment_back : (bytes after rest : List ℕ) → Closes bytes after → IsGapEnd rest → Gap (40 ∷ 42 ∷ bytes) rest → Gap after rest
comment_back bytes after rest c n h = elim (gap_by h) [
  | by_none e ↦ absurd (n.no_comment bytes after (sym e) c)
  | by_blank b more e t k ↦ absurd (true_false (sym t ∙ ap is_blank (sym (heads e))))
  | by_comment more other e c' k ↦
      let d : Closes bytes other = subst (λ (z : List ℕ). Closes z other) (sym (tails (tails e))) c' in
      subst (λ (z : List ℕ). Gap z rest) (sym (closes_once c other d)) k
]

-- a gap has one end at which no more of it comes
pub gap_once : {bytes rest : List ℕ} → Gap bytes rest → (other : List ℕ) → IsGapEnd rest → IsGapEnd other → Gap bytes other → rest ≡ other
gap_once (none rest) other n m k = gap_end rest other n k
gap_once (blank b bytes rest t h) other n m k = gap_once h other n m (blank_back b bytes other t m k)
gap_once (comment bytes after rest c h) other n m k = gap_once h other n m (comment_back bytes after other c m k)
