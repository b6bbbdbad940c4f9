-- The tables of instructions with lines, said of pairs in memory.
use Rattle.std.proofs.Common.{◌≡◌, ℕ, suc, ◌+◌, Bool, true, false, List, [], ◌∷◌, ◌++◌, length, map, take, drop, refl, sym, ap, ◌∙◌}
use Rattle.std.proofs.Common.{append_assoc, add-one, get_or, ◌<◌, ◌≤◌}
use Rattle.std.proofs.Math.ListN.{drop_of_length-le}
use Rattle.std.proofs.Math.Seq.{take-suc}
use Rattle.alma_code.specs.declared.cell.SlotKind.{SlotKind}
use Rattle.std.specs.Prelude.{nat_eq}
use Rattle.std.proofs.lemmas.Bool.{eqb-true, eq-eqb}
use Rattle.std.proofs.lemmas.List.{append-nil}
use Rattle.alma_choice.specs.Emitted.{line_instr}
use Rattle.alma_code.specs.declared.code.Line.{Line}
use Rattle.alma_code.specs.declared.instr.Instr.{Instr}
use Rattle.alma_ir.specs.declared.program.Param.{Param}
use Rattle.alma_lower_templates.specs.LineInstr.{line_from, lines_from, instrs_of}
use Rattle.alma_lower_templates.specs.Slots.{params_kinds, param_kinds}

pub instrs_pairs : (xs : List (Instr × ℕ)) → map (λ x. x.0) xs ≡ instrs_of (map line_instr xs)
instrs_pairs [] = refl
instrs_pairs (x ∷ xs) = ap (λ l. x.0 ∷ l) (instrs_pairs xs)

-- ---- the table of lines, made record by record

-- with these records for the instructions before i, and the line of the last of them
pub record Told (lines : List Line) (before i at : ℕ) (placed : List (Instr × ℕ)) : Type 0 where
  pub all : lines ++ lines_from i before (map line_instr (drop i placed)) ≡ lines_from 0 0 (map line_instr placed)
  pub here : at ≡ i

from_same : (i before : ℕ) (x : Instr × ℕ) (rest : List (Instr × ℕ)) → x.1 ≡ before
    → lines_from i before (map line_instr (x ∷ rest)) ≡ lines_from (i + 1) before (map line_instr rest)
from_same i before x rest e =
    ap (λ b. line_from b i x.1 (lines_from (suc i) x.1 (map line_instr rest))) (eq-eqb x.1 before e)
    ∙ ap (λ n. lines_from n x.1 (map line_instr rest)) (sym (add-one i))
    ∙ ap (λ n. lines_from (i + 1) n (map line_instr rest)) e

from_other : (i before : ℕ) (x : Instr × ℕ) (rest : List (Instr × ℕ)) → (x.1 ≡ before → ⊥)
    → lines_from i before (map line_instr (x ∷ rest)) ≡ record { at = i; line = x.1 } ∷ lines_from (i + 1) x.1 (map line_instr rest)
from_other i before x rest e = by (nat_eq x.1 before) refl
    ∙ ap (λ n. record { at = i; line = x.1 } ∷ lines_from n x.1 (map line_instr rest)) (sym (add-one i))
  where
    by : (b : Bool) → nat_eq x.1 before ≡ b → line_from b i x.1 (lines_from (suc i) x.1 (map line_instr rest))
        ≡ record { at = i; line = x.1 } ∷ lines_from (suc i) x.1 (map line_instr rest)
    by true same = absurd (e (eqb-true x.1 before same))
    by false other = refl

pub told_same : (lines : List Line) (before i at : ℕ) (placed : List (Instr × ℕ)) (x : Instr × ℕ) → drop i placed ≡ x ∷ drop (i + 1) placed
    → x.1 ≡ before → Told lines before i at placed → Told lines before (i + 1) (at + 1) placed
told_same lines before i at placed x one e h = record {
  all = ap (λ s. lines ++ s) (sym (ap (λ l. lines_from i before (map line_instr l)) one ∙ from_same i before x (drop (i + 1) placed) e))
      ∙ h.all;
  here = ap (λ n. n + 1) h.here;
}

pub told_other : (lines : List Line) (before i at : ℕ) (placed : List (Instr × ℕ)) (x : Instr × ℕ) → drop i placed ≡ x ∷ drop (i + 1) placed
    → (x.1 ≡ before → ⊥) → Told lines before i at placed
    → Told (lines ++ record { at = at; line = x.1 } ∷ []) x.1 (i + 1) (at + 1) placed
told_other lines before i at placed x one e h = record {
  all = append_assoc lines (record { at = at; line = x.1 } ∷ []) (lines_from (i + 1) x.1 (map line_instr (drop (i + 1) placed)))
      ∙ ap (λ n. lines ++ record { at = n; line = x.1 } ∷ lines_from (i + 1) x.1 (map line_instr (drop (i + 1) placed))) h.here
      ∙ ap (λ s. lines ++ s) (sym (ap (λ l. lines_from i before (map line_instr l)) one ∙ from_other i before x (drop (i + 1) placed) e))
      ∙ h.all;
  here = ap (λ n. n + 1) h.here;
}

pub told_all : (lines : List Line) (before i at : ℕ) (placed : List (Instr × ℕ)) → length placed ≤ i → Told lines before i at placed
    → lines ≡ lines_from 0 0 (map line_instr placed)
told_all lines before i at placed le h =
    sym (append-nil lines) ∙ ap (λ s. lines ++ lines_from i before (map line_instr s)) (sym (drop_of_length-le placed le)) ∙ h.all

-- ---- kinds

pub params_last : (xs : List Param) (x : Param) → params_kinds (xs ++ x ∷ []) ≡ params_kinds xs ++ param_kinds x.kind x.cells
params_last [] x = append-nil (param_kinds x.kind x.cells)
params_last (y ∷ xs) x = ap (λ l. param_kinds y.kind y.cells ++ l) (params_last xs x)
    ∙ sym (append_assoc (param_kinds y.kind y.cells) (params_kinds xs) (param_kinds x.kind x.cells))

-- one parameter more
pub params_more : (xs : List Param) (i : ℕ) (d : Param) (before kinds grown : List SlotKind) → i < length xs
    → kinds ≡ before ++ params_kinds (take i xs)
    → grown ≡ kinds ++ param_kinds (get_or xs i d).kind (get_or xs i d).cells → grown ≡ before ++ params_kinds (take (i + 1) xs)
params_more xs i d before kinds grown lt is more =
    let x = get_or xs i d in
    more ∙ ap (λ y. y ++ param_kinds x.kind x.cells) is
    ∙ append_assoc before (params_kinds (take i xs)) (param_kinds x.kind x.cells)
    ∙ ap (λ y. before ++ y) (sym (params_last (take i xs) x) ∙ ap params_kinds (sym (ap (λ k. take k xs) (add-one i) ∙ take-suc xs i d lt)))
