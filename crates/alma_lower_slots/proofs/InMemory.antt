-- Routines in memory, and what they stand for.
use Rattle.std.proofs.Common.{◌≡◌, ℕ, zero, suc, ◌<◌, ◌≤◌, List, [], ◌∷◌, length, map, get_or, refl, sym, ap, ◌∙◌, arith}
use Rattle.std.specs.Prelude.{Vec}
use Rattle.std.specs.declared.alloc.Global.{Global}
use Rattle.std.proofs.lemmas.List.{get_or-map, length-map}
use Rattle.alma_code.specs.declared.cell.SlotKind.{SlotKind}
use Rattle.alma_code.specs.declared.code.Code.{Code}
use Rattle.alma_code.specs.declared.code.RoutineHead.{RoutineHead}
use Rattle.alma_code.specs.Layout.{kinds_of}
use Rattle.alma_code.specs.Plain.{code_of, routine_of, no_routine, routine_at, kinds_at, start_at, end_at}
use Rattle.alma_code.specs.Rules.{IsSound}
use Rattle.alma_lower_slots.specs.Inner.Shared.{head_kinds, kinds_of_all}
use Rattle.alma_lower_slots.proofs.SoFar.{ends_within}

-- a routine that is read
pub routine_read : (code : Code) (r : ℕ) (one : RoutineHead) → r < length (code_of code).routines → one ≡ get_or code.routines.items r one
    → routine_of one ≡ routine_at (code_of code) r
routine_read code r one lt is =
    let there : r < length code.routines.items = omega (arith, lt, length-map code.routines.items routine_of) in
    sym (get_or-map routine_of code.routines.items r one no_routine there ∙ ap routine_of (sym is))

-- where it ends
pub routine_end : (code : Code) (r : ℕ) (one : RoutineHead) → r < length (code_of code).routines → one ≡ get_or code.routines.items r one
    → one.code_end ≡ end_at (code_of code) r
routine_end code r one lt is = ap (λ x. x.code_end) (routine_read code r one lt is)

-- it begins before its end, which is within the code
pub routine_span : (code : Code) (r : ℕ) (one : RoutineHead) → IsSound (code_of code) → r < length (code_of code).routines
    → one ≡ get_or code.routines.items r one
    → (start_at (code_of code) r ≤ one.code_end) × (one.code_end ≤ length code.code.items)
routine_span code r one sound lt is =
    let end = routine_end code r one lt is in
    (omega (arith, end, sound.table.rise r lt), omega (arith, end, ends_within (code_of code) sound.table r lt))

-- the kinds of a routine, among those of all
kinds_among : (heads : List RoutineHead) (r : ℕ)
    → get_or (map head_kinds heads) r [] ≡ kinds_of 0 (get_or (map routine_of heads) r no_routine).head.runs
kinds_among [] r = refl
kinds_among (head ∷ heads) zero = refl
kinds_among (head ∷ heads) (suc r) = kinds_among heads r

-- the kinds that are read are those of the routine
pub kinds_read : (code : Code) (all : List (Vec SlotKind Global)) (r : ℕ) (one : Vec SlotKind Global)
    → kinds_of_all all ≡ map head_kinds code.routines.items → r < length (code_of code).routines → one ≡ get_or all r one
    → one.items ≡ kinds_at (code_of code) r
kinds_read code all r one same lt is =
    let many : length all ≡ length code.routines.items =
    sym (length-map all (λ v. v.items)) ∙ ap length same ∙ length-map code.routines.items head_kinds in
    let there : r < length all = omega (arith, many, lt, length-map code.routines.items routine_of) in
    ap (λ v. v.items) is
    ∙ sym (get_or-map (λ v. v.items) all r one [] there)
    ∙ ap (λ l. get_or l r []) same
    ∙ kinds_among code.routines.items r
