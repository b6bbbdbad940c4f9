-- The routines of a code, shared one after another.
use Rattle.std.proofs.Common.{◌≡◌, ◌⊎◌, inl, inr, ℕ, zero, suc, ◌+◌, ◌-◌, ◌<◌, ◌≤◌, List, [], ◌∷◌, ◌++◌, length, map, drop, get_or}
use Rattle.std.proofs.Common.{refl, sym, ap}
use Rattle.std.proofs.Common.{◌∙◌, subst, arith, add-one}
use Rattle.std.proofs.lemmas.Bool.{cases_eq}
use Rattle.std.proofs.lemmas.List.{length-map, length-append, length-drop, length-take-le, get_or_append_left, get_or-append_right}
use Rattle.std.proofs.lemmas.List.{get_or-map, get_or-take, get_or-drop, get_or_push}
use Rattle.alma_code.specs.declared.instr.Instr.{Instr}
use Rattle.alma_code.specs.declared.instr.Instr.TheVariants as I
use Rattle.alma_code.specs.Plain.{PlainCode, PlainRoutine, no_routine, start_at, end_at}
use Rattle.alma_code.specs.Rules.{IsTable}
use Rattle.alma_lower_slots.specs.Inner.Shared.{RoutineOver, Adds, SharesSoFar, instrs_in, slot_in}
use Rattle.alma_lower_slots.specs.Slots.{rename_slots}

-- ---- where routines begin

-- k routines on, none begins earlier
starts_rise : (code : PlainCode) → IsTable code → (k m n : ℕ) → m + k ≡ n → n ≤ length code.routines → start_at code m ≤ start_at code n
starts_rise code t zero m n e in_code = let same : m ≡ n = omega (arith, e) in rw same (omega arith)
starts_rise code t (suc k) m n e in_code =
    let more : suc m + k ≡ n = omega (arith, e) in
    let here : start_at code m ≤ end_at code m = t.rise m (omega (arith, e, in_code)) in
    let there : start_at code (suc m) ≤ start_at code n = starts_rise code t k (suc m) n more in_code in
    omega (arith, here, there)

-- a routine ends before a later one begins
pub ends_before : (code : PlainCode) → IsTable code → (m n : ℕ) → m < n → n ≤ length code.routines → end_at code m ≤ start_at code n
ends_before code t m n lt in_code = starts_rise code t (n - suc m) (suc m) n (omega (arith, lt)) in_code

-- it ends within the code
pub ends_within : (code : PlainCode) → IsTable code → (r : ℕ) → r < length code.routines → end_at code r ≤ length code.instrs
ends_within code t r lt = omega (arith, ends_before code t r (length code.routines) lt (omega arith), t.last)

-- ---- none, and one more

-- before the first routine
pub so_far_none : (code : PlainCode) (own : List ℕ) → SharesSoFar code own 0 [] []
so_far_none code own = record {
  all = [];
  many = refl;
  count = refl;
  size = refl;
  routines = λ r lt. absurd (omega (arith, lt));
  renames = λ r at lt low high. absurd (omega (arith, lt));
}

-- how many instructions a routine has
count_in : (code : PlainCode) → IsTable code → (r : ℕ) → r < length code.routines
    → length (instrs_in code r) ≡ end_at code r - start_at code r
count_in code t r lt = length-take-le (end_at code r - start_at code r) (drop (start_at code r) code.instrs)
    (omega (arith, length-drop (start_at code r) code.instrs, ends_within code t r lt, t.rise r lt))

-- the instruction at an address, among those of its routine
instr_in : (code : PlainCode) (r at : ℕ) → start_at code r ≤ at → at < end_at code r
    → get_or (instrs_in code r) (at - start_at code r) I.Fail ≡ get_or code.instrs at I.Fail
instr_in code r at low high =
    let there : start_at code r + (at - start_at code r) ≡ at = omega (arith, low) in
    get_or-take (end_at code r - start_at code r) (drop (start_at code r) code.instrs) (at - start_at code r) I.Fail
    (omega (arith, low, high))
    ∙ get_or-drop (start_at code r) code.instrs (at - start_at code r) I.Fail
    ∙ ap (λ n. get_or code.instrs n I.Fail) there

-- one more routine
pub so_far_more : (code : PlainCode) (own : List ℕ) (n : ℕ) (heads heads' : List PlainRoutine) (instrs instrs' : List Instr)
    → IsTable code → n < length code.routines → SharesSoFar code own n heads instrs → Adds code own n heads instrs heads' instrs'
    → SharesSoFar code own (n + 1) heads' instrs'
so_far_more code own n heads heads' instrs instrs' t lt h a =
    let next : n + 1 ≡ suc n = add-one n in
    let more = map (rename_slots (slot_in a.stretches)) (instrs_in code n) in
    let many_more : length more ≡ end_at code n - start_at code n =
    length-map (instrs_in code n) (rename_slots (slot_in a.stretches)) ∙ count_in code t n lt in
    record {
      all = h.all ++ a.stretches ∷ [];
      many = omega (arith, h.many, length-append h.all (a.stretches ∷ []));
      count = omega (arith, h.count, ap length a.more_heads, length-append heads (a.new ∷ []));
      size = omega (arith, h.size, ap length a.more_instrs, length-append instrs more, many_more, t.rise n lt)
          ∙ ap (start_at code) (sym next);
      routines = λ r below. routine r (cases_eq r n) below;
      renames = λ r at below low high. instr r at (cases_eq r n) below low high;
    }
  where
    early : (r : ℕ) → r < n → get_or (h.all ++ a.stretches ∷ []) r [] ≡ get_or h.all r []
    early r below = get_or_append_left h.all (a.stretches ∷ []) [] r (omega (arith, h.many, below))

    last : get_or (h.all ++ a.stretches ∷ []) n [] ≡ a.stretches
    last = get_or_push h.all a.stretches [] n h.many

    early_head : (r : ℕ) → r < n → get_or heads' r no_routine ≡ get_or heads r no_routine
    early_head r below = ap (λ l. get_or l r no_routine) a.more_heads
        ∙ get_or_append_left heads (a.new ∷ []) no_routine r (omega (arith, h.count, below))

    last_head : get_or heads' n no_routine ≡ a.new
    last_head = ap (λ l. get_or l n no_routine) a.more_heads ∙ get_or_push heads a.new no_routine n h.count

    routine : (r : ℕ) → (r ≡ n) ⊎ (r ≡ n → ⊥) → r < n + 1
        → RoutineOver code own (get_or (h.all ++ a.stretches ∷ []) r []) r (get_or heads' r no_routine)
    routine r (inl e) below = subst (λ k. RoutineOver code own (get_or (h.all ++ a.stretches ∷ []) k []) k (get_or heads' k no_routine))
        (sym e)
        (subst (λ s. RoutineOver code own s n (get_or heads' n no_routine)) (sym last)
        (subst (RoutineOver code own a.stretches n) (sym last_head) a.routine))
    routine r (inr ne) below =
        let before : r < n = omega (arith, ne, below) in
        subst (λ s. RoutineOver code own s r (get_or heads' r no_routine)) (sym (early r before))
        (subst (RoutineOver code own (get_or h.all r []) r) (sym (early_head r before)) (h.routines r before))

    instr : (r at : ℕ) → (r ≡ n) ⊎ (r ≡ n → ⊥) → r < n + 1 → start_at code r ≤ at → at < end_at code r
        → get_or instrs' at I.Fail ≡ rename_slots (slot_in (get_or (h.all ++ a.stretches ∷ []) r [])) (get_or code.instrs at I.Fail)
    instr r at (inl e) below low high =
        let low2 : start_at code n ≤ at = subst (λ k. start_at code k ≤ at) e low in
        let high2 : at < end_at code n = subst (λ k. at < end_at code k) e high in
        let within : at - start_at code n < length (instrs_in code n) = omega (arith, count_in code t n lt, low2, high2) in
        ap (λ l. get_or l at I.Fail) a.more_instrs
        ∙ get_or-append_right instrs (map (rename_slots (slot_in a.stretches)) (instrs_in code n)) (start_at code n) at I.Fail h.size low2
        ∙ get_or-map (rename_slots (slot_in a.stretches)) (instrs_in code n) (at - start_at code n) I.Fail I.Fail within
        ∙ ap (rename_slots (slot_in a.stretches)) (instr_in code n at low2 high2)
        ∙ ap (λ s. rename_slots (slot_in s) (get_or code.instrs at I.Fail))
        (sym last ∙ ap (λ k. get_or (h.all ++ a.stretches ∷ []) k []) (sym e))
    instr r at (inr ne) below low high =
        let before : r < n = omega (arith, ne, below) in
        let there : at < length instrs = omega (arith, h.size, high, ends_before code t r n before (omega (arith, lt))) in
        ap (λ l. get_or l at I.Fail) a.more_instrs
        ∙ get_or_append_left instrs (map (rename_slots (slot_in a.stretches)) (instrs_in code n)) I.Fail at there
        ∙ h.renames r at before low high
        ∙ ap (λ s. rename_slots (slot_in s) (get_or code.instrs at I.Fail)) (sym (early r before))
