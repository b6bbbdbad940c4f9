-- One step of each loop over the slots of a routine.
use Rattle.std.proofs.Common.{◌≡◌, ℕ, zero, suc, ◌+◌, ◌-◌, ◌<◌, ◌≤◌, List, [], ◌∷◌, length, refl, sym, arith, ap, ◌∙◌}
use Rattle.std.specs.Prelude.{slice_get, ◌&&◌, nat_eq, None}
use Rattle.alma_code.specs.declared.cell.SlotKind.{SlotKind}
use Rattle.alma_code.specs.Kinds.{numbers_from, is_number}
use Rattle.alma_code.specs.Layout.{kinds_of}
use Rattle.alma_code.specs.declared.head.CodeParam.{CodeParam}
use Rattle.alma_code.specs.declared.head.ParamKind.{ParamKind}
use Rattle.alma_code.specs.declared.head.ParamKind.TheVariants as param
use Rattle.alma_verify.specs.Runs.{takes, fit_slots}
use Rattle.alma_code.specs.Rules.{kind_in, cells_in, is_free, fit_arguments, fits_argument}
use Rattle.std.proofs.Math.Dec.{eqb-suc-zero}
use Rattle.std.proofs.lemmas.List.{get_or_past}
use Rattle.alma_code.specs.Plain.{PlainCode, no_routine, start_at, end_at, kinds_at}

pub start_later : (code : PlainCode) (r : ℕ) → 0 < r → end_at code (r - 1) ≡ start_at code r
start_later code zero lt = absurd (omega arith)
start_later code (suc r) lt = let z : suc r - 1 ≡ r = omega arith in ap (end_at code) z

pub ruleset starts = (start_later)

pub numbers_more : (n : ℕ) (kinds : List SlotKind) (i : ℕ) → 0 < n
    → numbers_from n kinds i ≡ (is_number (slice_get kinds i) && numbers_from (n - 1) kinds (i + 1))
numbers_more zero kinds i lt = absurd (omega arith)
numbers_more (suc n) kinds i lt =
    let a : n ≡ suc n - 1 = omega arith in
    let b : suc i ≡ i + 1 = omega arith in
    ap (λ k. is_number (slice_get kinds i) && numbers_from k kinds (suc i)) a
    ∙ ap (λ k. is_number (slice_get kinds i) && numbers_from (suc n - 1) kinds k) b

pub cells_more : (code : PlainCode) (r i n : ℕ) → 0 < n → cells_in code r i n ≡ (is_free code r i && numbers_from n (kinds_at code r) i)
cells_more code r i zero lt = absurd (omega arith)
cells_more code r i (suc n) lt = refl

pub ruleset numbers = (numbers_more, cells_more)

-- a routine that is not there has no slot
pub no_kind : (code : PlainCode) (r n : ℕ) → length code.routines ≤ r → kind_in code r n ≡ None
no_kind code r n le = ap (λ q. slice_get (kinds_of 0 q.head.runs) n) (get_or_past code.routines r no_routine le)

pub no_numbers : (code : PlainCode) (r n i : ℕ) → length code.routines ≤ r → numbers_from n (kinds_at code r) i ≡ nat_eq n 0
no_numbers code r zero i le = refl
no_numbers code r (suc n) i le = ap (λ o. is_number o && numbers_from n (kinds_at code r) (suc i)) (no_kind code r i le)
    ∙ sym (eqb-suc-zero n)

-- the arguments of a call, by the kinds of the caller's slots
pub takes_is : (code : PlainCode) (r : ℕ) (k : ParamKind) (n i : ℕ) → fits_argument code r k n i ≡ takes k n (kind_in code r i)
takes_is code r param.Value n i = refl
takes_is code r param.Place n i = refl
takes_is code r param.Mix n i = refl
takes_is code r param.Cells n i = refl
takes_is code r param.Link n i = refl

pub arguments_are : (code : PlainCode) (r : ℕ) (ps : List CodeParam) (i : ℕ)
    → fit_slots r (kinds_at code r) ps i ≡ fit_arguments code r ps i
arguments_are code r [] i = refl
arguments_are code r (p ∷ ps) i =
    sym (ap (λ b. (is_free code r i && b) && fit_arguments code r ps (suc i)) (takes_is code r p.kind p.cells i)
    ∙ ap (λ b. (is_free code r i && takes p.kind p.cells (kind_in code r i)) && b) (sym (arguments_are code r ps (suc i))))
