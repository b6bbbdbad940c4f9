-- One step of each loop of the checker, and what its functions find.
use Rattle.std.proofs.Common.{◌≡◌, ℕ, zero, suc, ◌+◌, ◌-◌, ◌<◌, ◌≤◌, List, length, get_or, refl, sym, arith, ap, subst, ◌∙◌}
use Rattle.std.specs.Prelude.{Bool, true, ◌&&◌, Option, Some}
use Rattle.std.specs.List.{list_all}
use Rattle.std.proofs.lemmas.Bool.{cases_eq, cases_order, both_ways}
use mathlib.Core.Logic.{inl, inr}
use Rattle.alma_code.specs.declared.cell.SlotKind.{SlotKind}
use Rattle.alma_code.specs.declared.instr.Instr.{Instr}
use Rattle.alma_code.specs.declared.instr.Instr.TheVariants as I
use Rattle.alma_code.specs.Kinds.{is_number}
use Rattle.alma_code.specs.Plain.{PlainCode, start_at, end_at}
use Rattle.alma_lower_slots.specs.declared.stretch.Stretch.{Stretch}
use Rattle.alma_lower_slots.specs.declared.sources.Sources.{Sources}
use Rattle.alma_lower_slots.specs.Slots.{slots_from, reads, target_slot, away, body_of}
use Rattle.alma_lower_slots.specs.Sharing.{names_own, begins_own}
use Rattle.alma_lower_slots.specs.Stretches.{own_count, stretch_at}
use Rattle.alma_lower_slots.specs.Inner.Checks.{matters_at, mark_of, IsAmong, no_sources, AreSources, Encloses}
use Rattle.alma_lower_slots.specs.Inner.Checks.{NotesJump, begin_of, AreApart, WritesIn, IsCalm, FitsSlot}
use Rattle.alma_lower_slots.specs.Inner.Checks.{StayTogether, FitsFlow, FitsInstr}
use Rattle.alma_lower_slots.specs.Inner.Checks.{NotesMark, AreMarks, IsClear, ClearBodies, Takes, Rise}

-- the first of some slots, and the others
pub slots_more : (p : ℕ → Bool) (n i : ℕ) → 0 < n
    → list_all p (slots_from n i) ≡ (p i && list_all p (slots_from (n - 1) (i + 1)))
slots_more p zero i lt = absurd (omega arith)
slots_more p (suc n) i lt =
    let a : n ≡ suc n - 1 = omega arith in
    let b : suc i ≡ i + 1 = omega arith in
    ap (λ k. p i && list_all p (slots_from k (suc i))) a ∙ ap (λ k. p i && list_all p (slots_from (suc n - 1) k)) b

-- none is left
pub slots_none : (p : ℕ → Bool) (n i : ℕ) → n ≤ 0 → list_all p (slots_from n i) ≡ true
slots_none p zero i le = refl
slots_none p (suc n) i le = absurd (omega arith)

-- what holds of each address from one on below another, and of that, holds of each below the next
pub from_more : (P : ℕ → Type 0) (start n : ℕ) → ((at : ℕ) → start ≤ at → at < n → P at) → P n
    → (at : ℕ) → start ≤ at → at < n + 1 → P at
from_more P start n before here at low high = elim (cases_eq at n) [
  | inl e ↦ subst P (sym e) here
  | inr ne ↦ before at low (omega (arith, ne))
]

-- what holds of each number below another, and of that, holds of each below the next
pub below_more : (P : ℕ → Type 0) (n : ℕ) → ((k : ℕ) → k < n → P k) → P n → (k : ℕ) → k < n + 1 → P k
below_more P n before here k below = from_more P 0 n (λ j low high. before j high) here k (omega arith) below

-- an address more is noted
pub sources_more : (instrs : List Instr) (start stop n : ℕ) (old new : List Sources) → length old ≡ stop - start
    → ((at t : ℕ) → start ≤ at → at < n → away (get_or instrs at I.Fail) ≡ Some t → start ≤ t → t < stop
    → IsAmong (get_or old (t - start) no_sources) at)
    → NotesJump old new start n (away (get_or instrs n I.Fail))
    → (at t : ℕ) → start ≤ at → at < n + 1 → away (get_or instrs at I.Fail) ≡ Some t → start ≤ t → t < stop
    → IsAmong (get_or new (t - start) no_sources) at
sources_more instrs start stop n old new count before notes at t low high leads from to = elim (cases_eq at n) [
  | inl e ↦ subst (λ k. IsAmong (get_or new (t - start) no_sources) k) (sym e)
      (notes.noted t (subst (λ k. away (get_or instrs k I.Fail) ≡ Some t) e leads) from (omega (arith, count)))
  | inr ne ↦ notes.wider (t - start) at (before at t low (omega (arith, ne)) leads from to)
]

-- the stretch of a slot is closed
pub slot_fits : (code : PlainCode) (r : ℕ) (sources : List Sources) (kind : Option SlotKind) (n : ℕ) (x : Stretch) (start stop : ℕ)
    → AreSources code r sources → start ≡ start_at code r → stop ≡ end_at code r → start ≤ x.low → x.high < stop
    → target_slot code (get_or code.instrs x.low I.Fail) ≡ Some n
    → ((t : ℕ) → x.low < t → t ≤ x.high → Encloses (get_or sources (t - start) no_sources) x.low x.high)
    → (is_number kind ≡ true → (at : ℕ) → x.low < at → at ≤ x.high → IsCalm (get_or code.instrs at I.Fail) at x.high)
    → FitsSlot code r kind n x
slot_fits code r sources kind n x start stop are is_start is_stop low high writes encloses calm = record {
  begins = omega (arith, is_start, low);
  writes = writes;
  jumps = λ at t above below leads over under.
      let among : IsAmong (get_or sources (t - start_at code r) no_sources) at =
      are.all at t above below leads (omega (arith, is_start, low, over)) (omega (arith, is_stop, high, under)) in
      let closed : Encloses (get_or sources (t - start_at code r) no_sources) x.low x.high =
      subst (λ s. Encloses (get_or sources (t - s) no_sources) x.low x.high) is_start (encloses t over under) in
      (omega (arith, among.0, closed.0), omega (arith, among.1, closed.1));
  calm = calm;
}

-- an instruction fits
pub instr_fits : (code : PlainCode) (own : List ℕ) (kinds : List SlotKind) (stretches : List Stretch) (r at : ℕ) (i j : Instr) → i ≡ j
    → list_all (λ n. matters_at stretches at n) (reads code i) ≡ true
    → ((w : ℕ) → target_slot code i ≡ Some w → WritesIn stretches at w) → FitsFlow code at i
    → names_own (own_count own) kinds r i ≡ true → begins_own (own_count own) r i ≡ true → StayTogether code stretches i
    → FitsInstr code own kinds stretches r at j
instr_fits code own kinds stretches r at i j e read write flow places begins together =
    subst (λ k. FitsInstr code own kinds stretches r at k) e
    (record { read = read; write = write; flow = flow; places = places; begins = begins; together = together })

-- the slots that Marks write are noted up to one more
pub marks_more : (instrs : List Instr) (start n : ℕ) (old new : List Bool)
    → ((at a : ℕ) → start ≤ at → at < n → mark_of (get_or instrs at I.Fail) ≡ Some a → get_or old a true ≡ true)
    → NotesMark old new (mark_of (get_or instrs n I.Fail))
    → (at a : ℕ) → start ≤ at → at < n + 1 → mark_of (get_or instrs at I.Fail) ≡ Some a → get_or new a true ≡ true
marks_more instrs start n old new before notes at a low high is = elim (cases_eq at n) [
  | inl e ↦ notes.noted a (subst (λ k. mark_of (get_or instrs k I.Fail) ≡ Some a) e is)
  | inr ne ↦ notes.stays a (before at a low (omega (arith, ne)) is)
]

-- no slot in which the routine looks for the height of a FORALL is marked
pub bodies_clear : (code : PlainCode) (r start stop : ℕ) (marks : List Bool) → AreMarks code r marks → start ≡ start_at code r
    → stop ≡ end_at code r
    → ((at : ℕ) → start ≤ at → at < stop → IsClear marks (body_of (get_or code.instrs at I.Fail))) → ClearBodies code r
bodies_clear code r start stop marks are is_start is_stop clear = record {
  apart = λ at at2 a low high low2 high2 mark body.
      both_ways (get_or marks a true) (clear at2 (omega (arith, is_start, low2)) (omega (arith, is_stop, high2)) a body)
      (are.all at a low high mark);
}

-- a stretch more rises
pub rise_more : (stretches : List Stretch) (i : ℕ) (old new : List ℕ) → Rise stretches i old
    → Takes old new (stretch_at stretches i) → Rise stretches (i + 1) new
rise_more stretches i old new rise takes = record {
  ends = λ m below some. elim (cases_eq m i) [
    | inl e ↦ let some' = subst (λ k. begin_of (stretch_at stretches k) < (stretch_at stretches k).high) e some in
        subst (λ k. (stretch_at stretches k).high ≤ get_or new (stretch_at stretches k).slot 0) (sym e) (takes.taken some')
    | inr ne ↦ let a = rise.ends m (omega (arith, ne)) some in
        let b = takes.grows (stretch_at stretches m).slot in
        omega (arith, a, b)
  ];
  order = λ m k less below same some other. elim (cases_eq k i) [
    | inl e ↦
        let other' = subst (λ j. begin_of (stretch_at stretches j) < (stretch_at stretches j).high) e other in
        let same' = subst (λ j. (stretch_at stretches m).slot ≡ (stretch_at stretches j).slot) e same in
        let a = subst (λ s. (stretch_at stretches m).high ≤ get_or old s 0) same' (rise.ends m (omega (arith, e)) some) in
        let b = takes.free other' in
        subst (λ j. (stretch_at stretches m).high ≤ begin_of (stretch_at stretches j)) (sym e) (omega (arith, a, b))
    | inr ne ↦ rise.order m k less (omega (arith, ne)) same some other
  ];
}

-- where the stretches of each new number rise, they are apart
pub rise_apart : (stretches : List Stretch) (n : ℕ) (taken : List ℕ) → length stretches ≤ n → Rise stretches n taken → AreApart stretches
rise_apart stretches n taken all rise = record {
  apart = λ m k at below under same first second.
      elim (cases_order m k) [
        | inl e ↦ e
        | inr rest ↦ elim rest [
          | inl less ↦
              let a = rise.order m k less (omega (arith, under, all)) same (omega (arith, first.0, first.1))
              (omega (arith, second.0, second.1)) in
              absurd (omega (arith, a, first.1, second.0))
          | inr more ↦
              let a = rise.order k m more (omega (arith, below, all)) (sym same) (omega (arith, second.0, second.1))
              (omega (arith, first.0, first.1)) in
              absurd (omega (arith, a, second.1, first.0))
        ]
      ];
}
