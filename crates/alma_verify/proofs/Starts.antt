-- One step of each loop of the verifier, and of the rules of heads.
use Rattle.std.proofs.Common.{◌≡◌, ℕ, zero, suc, ◌+◌, ◌-◌, ◌<◌, ◌≤◌, List, [], ◌∷◌, length, get_or, take, drop, refl, sym, arith, ap, ◌∙◌}
use Rattle.std.specs.Prelude.{◌&&◌, Bool, true, false, nat_eq, not, None}
use Rattle.std.specs.List.{list_all}
use Rattle.alma_code.specs.declared.head.Run.{Run}
use Rattle.alma_code.specs.declared.instr.Instr.TheVariants as I
use Rattle.std.proofs.Math.Seq.{drop-cons}
use Rattle.alma_code.specs.declared.cell.SlotKind.{SlotKind}
use Rattle.alma_code.specs.declared.head.CodeParam.{CodeParam}
use Rattle.alma_code.specs.Kinds.{is_number}
use Rattle.alma_code.specs.Layout.{hold_params, holds_param, param_slots}
use Rattle.alma_base.specs.FirstFault.{or_else}
use Rattle.alma_code.specs.Rules.{instr_fault, instrs_fault, routine_fault, routines_fault, last_end, is_main, is_global}
use Rattle.alma_code.specs.Rules.{has_position, kind_in}
use Rattle.std.proofs.lemmas.List.{take_all}
use Rattle.std.proofs.lemmas.List.Folds.{list_all_more, list_all_at}
use Rattle.alma_code.specs.Plain.{PlainCode, head_at}

pub main_later : (code : PlainCode) (r : ℕ) → 0 < r → is_main code r ≡ true
main_later code zero lt = absurd (omega arith)
main_later code (suc r) lt = refl

pub main_first : (code : PlainCode) (r : ℕ) → r ≤ 0
    → is_main code r ≡ (nat_eq (length (head_at code 0).params) 0
    && (not (head_at code 0).has_result && list_all (is_global code) code.globals))
main_first code zero le = refl
main_first code (suc r) le = absurd (omega arith)

pub position_later : (code : PlainCode) (r : ℕ) → 0 < r → has_position code r ≡ true
position_later code zero lt = absurd (omega arith)
position_later code (suc r) lt = refl

pub position_first : (code : PlainCode) (r : ℕ) → r ≤ 0 → has_position code r ≡ is_number (kind_in code 0 0)
position_first code zero le = refl
position_first code (suc r) le = absurd (omega arith)

pub ruleset mains = (main_later, main_first, position_later, position_first)

pub last_none : (low : ℕ) (rs : List Run) → length rs ≤ 0 → last_end low rs ≡ low
last_none low [] le = refl
last_none low (r ∷ rs) le = absurd (omega arith)

last_at : (low : ℕ) (rs : List Run) (d : Run) → 0 < length rs → last_end low rs ≡ (get_or rs (length rs - 1) d).end
last_at low [] d lt = absurd (omega arith)
last_at low (r ∷ []) d lt = refl
last_at low (r ∷ (q ∷ rs)) d lt =
    let rest = last_at r.end (q ∷ rs) d (omega arith) in
    let n : suc (length (q ∷ rs) - 1) ≡ length (r ∷ (q ∷ rs)) - 1 = omega arith in
    rest ∙ ap (λ (k : ℕ). (get_or (r ∷ (q ∷ rs)) k d).end) n

pub last_some : (low : ℕ) (rs : List Run) (n : ℕ) (x : Run) → 0 < length rs → n ≡ length rs → x ≡ get_or rs (n - 1) x
    → x.end ≡ last_end low rs
last_some low rs n x lt e h = ap (λ (q : Run). q.end) (h ∙ ap (λ m. get_or rs (m - 1) x) e) ∙ sym (last_at low rs x lt)

pub ruleset lasts = (last_none, last_some)

pub next_slot : (code : PlainCode) (r i : ℕ) → kind_in code r (suc i) ≡ kind_in code r (i + 1)
next_slot code r i = let a : suc i ≡ i + 1 = omega arith in ap (kind_in code r) a

pub ruleset nexts = (next_slot)

pub params_more : (kinds : List SlotKind) (ps : List CodeParam) (k i : ℕ) (p : CodeParam) → k < length ps → p ≡ get_or ps k p →
    hold_params kinds (drop k ps) i ≡ (holds_param kinds p.kind p.cells i
    && hold_params kinds (drop (k + 1) ps) (i + param_slots p.kind p.cells))
params_more kinds ps k i p lt e =
    let a : suc k ≡ k + 1 = omega arith in
    let split : drop k ps ≡ p ∷ drop (suc k) ps = drop-cons ps k p lt ∙ ap (λ q. q ∷ drop (suc k) ps) (sym e) in
    ap (λ qs. hold_params kinds qs i) split ∙ ap
    (λ q. holds_param kinds p.kind p.cells i && hold_params kinds (drop q ps) (i + param_slots p.kind p.cells)) a

pub params_none : (kinds : List SlotKind) (ps : List CodeParam) (k i : ℕ) → length ps ≤ k → hold_params kinds (drop k ps) i ≡ true
params_none kinds [] zero i le = refl
params_none kinds [] (suc k) i le = refl
params_none kinds (p ∷ ps) zero i le = absurd (omega arith)
params_none kinds (p ∷ ps) (suc k) i le = params_none kinds ps k i (omega arith)

pub ruleset param_steps = (params_more, params_none)

pub instrs_more : (code : PlainCode) (r at n : ℕ) → 0 < n
    → instrs_fault code r at n ≡ or_else (instr_fault code r at (get_or code.instrs at I.Fail)) (instrs_fault code r (at + 1) (n - 1))
unfolding instrs_fault
instrs_more code r at zero lt = absurd (omega arith)
instrs_more code r at (suc n) lt =
    let a : n ≡ suc n - 1 = omega arith in
    let b : suc at ≡ at + 1 = omega arith in
    ap (λ k. or_else (instr_fault code r at (get_or code.instrs at I.Fail)) (instrs_fault code r (suc at) k)) a
    ∙ ap (λ k. or_else (instr_fault code r at (get_or code.instrs at I.Fail)) (instrs_fault code r k (suc n - 1))) b

pub instrs_none : (code : PlainCode) (r at : ℕ) → instrs_fault code r at 0 ≡ None
unfolding instrs_fault
instrs_none code r at = refl

pub routines_more : (code : PlainCode) (r n : ℕ) → 0 < n
    → routines_fault code r n ≡ or_else (routine_fault code r) (routines_fault code (r + 1) (n - 1))
unfolding routines_fault
routines_more code r zero lt = absurd (omega arith)
routines_more code r (suc n) lt =
    let a : n ≡ suc n - 1 = omega arith in
    let b : suc r ≡ r + 1 = omega arith in
    ap (λ k. or_else (routine_fault code r) (routines_fault code (suc r) k)) a
    ∙ ap (λ k. or_else (routine_fault code r) (routines_fault code k (suc n - 1))) b

pub routines_none : (code : PlainCode) (r : ℕ) → routines_fault code r 0 ≡ None
unfolding routines_fault
routines_none code r = refl

pub ruleset fault_steps = (instrs_more, instrs_none, routines_more, routines_none)

-- the test of all runs: one run more, a run that fails, and all of them
pub runs_more : (p : Run → Bool) (runs : List Run) (k : ℕ) (run : Run) → k < length runs → run ≡ get_or runs k run
    → list_all p (take k runs) ≡ true → p run ≡ true → list_all p (take (k + 1) runs) ≡ true
runs_more p runs k run lt e before here =
    list_all_more p runs k run lt ∙ ap (λ b. b && p (get_or runs k run)) before ∙ (sym (ap p e) ∙ here)

pub runs_fail : (p : Run → Bool) (runs : List Run) (k : ℕ) (run : Run) → k < length runs → run ≡ get_or runs k run → p run ≡ false
    → list_all p runs ≡ false
runs_fail p runs k run lt e here = list_all_at p runs k run lt (sym (ap p e) ∙ here)

pub runs_all : (p : Run → Bool) (runs : List Run) (k : ℕ) → length runs ≤ k → list_all p (take k runs) ≡ true → list_all p runs ≡ true
runs_all p runs k le all = sym (ap (list_all p) (take_all k runs le)) ∙ all
