-- Code that stands at an address, each instruction with its line.
use Rattle.std.proofs.Common.{◌≡◌, ℕ, suc, ◌+◌, ◌≤◌, ◌<◌, List, [], ◌∷◌, ◌++◌, length, refl, sym, ap, ◌∙◌, subst, arith}
use Rattle.std.specs.Prelude.{slice_get, nat_eq, Bool, true, false}
use Rattle.std.proofs.lemmas.Bool.{eqb-true, le-leb, lt-leb}
use Rattle.alma_base.specs.Choice.{if_true}
use Rattle.alma_code.specs.declared.code.Line.{Line}
use Rattle.alma_code.specs.Lines.{last_line, line_at}
use Rattle.alma_code.specs.Plain.{PlainCode}
use Rattle.alma_lower_templates.specs.LineInstr.{LineInstr, instrs_of, line_from, lines_from}
use Rattle.alma_lower_templates.specs.Stands.{Stands, HoldsAll}

-- ---- parts

pub stands_front : (code : PlainCode) (at : ℕ) (a b : List LineInstr) → Stands code at (a ++ b) → Stands code at a
stands_front code at [] b h = tt
stands_front code at (x ∷ a) b h = (h.0, h.1, stands_front code (at + 1) a b h.2)

pub stands_back : (code : PlainCode) (at : ℕ) (a b : List LineInstr) → Stands code at (a ++ b) → Stands code (at + length a) b
stands_back code at [] b h = let e : at ≡ at + 0 = omega arith in subst (λ n. Stands code n b) e h
stands_back code at (x ∷ a) b h =
    let e : at + 1 + length a ≡ at + suc (length a) = omega arith in
    subst (λ n. Stands code n b) e (stands_back code (at + 1) a b h.2)

-- ---- the table of lines

-- a record counts from its address on
record_reached : (at k line other : ℕ) (rest : List Line) → k ≤ at
    → last_line at other (record { at = k; line = line } ∷ rest) ≡ last_line at line rest
record_reached at k line other rest le = ap (λ b. last_line at (if_true b (λ _. line) (λ _. other)) rest) (le-leb k at le)

record_ahead : (at k line other : ℕ) (rest : List Line) → at < k
    → last_line at other (record { at = k; line = line } ∷ rest) ≡ last_line at other rest
record_ahead at k line other rest lt = ap (λ b. last_line at (if_true b (λ _. line) (λ _. other)) rest) (lt-leb k at lt)

-- before the first record nothing is said
ahead : (at k before other : ℕ) (xs : List LineInstr) → at < k → last_line at other (lines_from k before xs) ≡ other
ahead at k before other [] lt = refl
ahead at k before other (x ∷ xs) lt = by (nat_eq x.line before) (ahead at (suc k) x.line other xs (omega (arith, lt)))
  where
    by : (b : Bool) → last_line at other (lines_from (suc k) x.line xs) ≡ other
        → last_line at other (line_from b k x.line (lines_from (suc k) x.line xs)) ≡ other
    by true later = later
    by false later = record_ahead at k x.line other (lines_from (suc k) x.line xs) lt ∙ later

-- from the address of an instruction on its line counts
reached : (at k before : ℕ) (x : LineInstr) (xs : List LineInstr) → k ≤ at
    → last_line at before (lines_from k before (x ∷ xs)) ≡ last_line at x.line (lines_from (suc k) x.line xs)
reached at k before x xs le = by (nat_eq x.line before) refl
  where
    by : (b : Bool) → nat_eq x.line before ≡ b
        → last_line at before (line_from b k x.line (lines_from (suc k) x.line xs)) ≡ last_line at x.line (lines_from (suc k) x.line xs)
    by true e = ap (λ n. last_line at n (lines_from (suc k) x.line xs)) (sym (eqb-true x.line before e))
    by false e = record_reached at k x.line before (lines_from (suc k) x.line xs) le

stands_from : (code : PlainCode) (k before : ℕ) (xs : List LineInstr)
    → ((at : ℕ) → k ≤ at → line_at code at ≡ last_line at before (lines_from k before xs))
    → ((i : ℕ) → slice_get code.instrs (k + i) ≡ slice_get (instrs_of xs) i) → Stands code k xs
stands_from code k before [] lines instrs = tt
stands_from code k before (x ∷ xs) lines instrs =
    let first : k + 0 ≡ k = omega arith in (
      ap (slice_get code.instrs) (sym first) ∙ instrs 0,
      lines k (omega arith) ∙ reached k k before x xs (omega arith) ∙ ahead k (suc k) x.line x.line xs (omega arith),
      let after : suc k ≡ k + 1 = omega arith in
          subst (λ n. Stands code n xs) after (stands_from code (suc k) x.line xs
          (λ at le. lines at (omega (arith, le)) ∙ reached at k before x xs (omega (arith, le)))
          (λ i. let next : suc k + i ≡ k + suc i = omega arith in ap (slice_get code.instrs) next ∙ instrs (suc i))),
    )

-- a whole code stands at its start
pub stands_whole : HoldsAll
stands_whole code xs instrs lines =
    stands_from code 0 0 xs (λ at le. ap (last_line at 0) lines)
    (λ i. let e : 0 + i ≡ i = omega arith in ap (slice_get code.instrs) e ∙ ap (λ is. slice_get is i) instrs)
