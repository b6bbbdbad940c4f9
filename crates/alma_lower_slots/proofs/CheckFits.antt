-- Stretches that the checker lets pass fit the code of the routine.
use Rattle.std.proofs.Common.{◌≡◌, ℕ, suc, ◌<◌, ◌≤◌, List, length, get_or, refl, sym, arith, ap, subst}
use Rattle.std.specs.Prelude.{◌⊎◌, true, false, not, ◌&&◌, ◌||◌, nat_lt, nat_le, Option, Some, None}
use Rattle.std.proofs.lemmas.Bool.{cases_eq, cases_lt, and_parts, and_from, not-true, not_from_false, ltb-true, leb-true, lt-ltb, le-leb}
use Rattle.std.proofs.lemmas.Bool.{eqb-true, or_cases, false_from_ne_true, both_ways}
use Rattle.std.proofs.lemmas.List.{get_or_past}
use mathlib.Core.Logic.{inl, inr}
use Rattle.alma_code.specs.declared.cell.SlotKind.{SlotKind}
use Rattle.alma_code.specs.declared.instr.Instr.{Instr}
use Rattle.alma_code.specs.declared.instr.Instr.TheVariants as I
use Rattle.alma_code.specs.Kinds.{is_number}
use Rattle.alma_code.specs.Plain.{PlainCode, start_at, end_at, kinds_at}
use Rattle.alma_code.specs.Rules.{kind_in}
use Rattle.alma_lower_slots.specs.declared.stretch.Stretch.{Stretch}
use Rattle.alma_lower_slots.specs.Slots.{target_slot, away, lays_over}
use Rattle.alma_lower_slots.specs.Sharing.{params_slots, StaysTogether, SharesAt, SharesIn}
use Rattle.alma_lower_slots.specs.Stretches.{no_end, own_stretch, stretch_at, is_kept, is_live, sharing_in, FitsRoutine}
use Rattle.alma_lower_slots.specs.Inner.Checks.{mark_of, begin_of, Holds, AreApart, FitsSlot, FitSlots}
use Rattle.alma_lower_slots.specs.Inner.Checks.{StayTogether, FitsInstr, FitInstrs, FitBodies, KeepsOwn}

-- ---- of one stretch

-- what is said by that it is live
record IsIn (x : Stretch) (at : ℕ) : Type 0 where
  free : is_kept x ≡ false
  low : x.low < at
  high : at ≤ x.high

-- a live slot is in its stretch, and the other way round
live_in : (x : Stretch) (at : ℕ) → is_live x at ≡ true → IsIn x at
live_in x at live =
    let a = and_parts (not (is_kept x)) (nat_lt x.low at && nat_le at x.high) live in
    let b = and_parts (nat_lt x.low at) (nat_le at x.high) a.1 in
    record { free = not-true (is_kept x) a.0; low = ltb-true x.low at b.0; high = leb-true at x.high b.1 }

in_live : (x : Stretch) (at : ℕ) → is_kept x ≡ false → x.low < at → at ≤ x.high → is_live x at ≡ true
in_live x at free low high =
    and_from (not (is_kept x)) (nat_lt x.low at && nat_le at x.high) (not_from_false (is_kept x) free)
    (and_from (nat_lt x.low at) (nat_le at x.high) (lt-ltb x.low at low) (le-leb at x.high high))

-- where it begins
begin_kept : (x : Stretch) → is_kept x ≡ true → begin_of x ≡ 0
begin_kept x kept = simp kept refl

-- where one begins that is not kept
begin_free : (x : Stretch) → is_kept x ≡ false → begin_of x ≡ x.low
begin_free x free = simp free refl

-- what a slot holds that matters it has its new number for
matters_holds : (x : Stretch) (at : ℕ) → 0 < at → at ≤ no_end → (is_kept x || is_live x at) ≡ true → Holds x at
matters_holds x at some few matter = elim (or_cases (is_kept x) (is_live x at) matter) [
  | inl kept ↦ let a = begin_kept x kept in
      let b : x.high ≡ no_end = eqb-true x.high no_end kept in
      (omega (arith, a, some), omega (arith, b, few))
  | inr live ↦ let i = live_in x at live in
      let a = begin_free x i.free in
      (omega (arith, a, i.low), i.high)
]

-- a slot that is live is there
live_there : (stretches : List Stretch) (n at : ℕ) → is_live (stretch_at stretches n) at ≡ true → n < length stretches
live_there stretches n at live = elim (cases_lt n (length stretches)) [
  | inl lt ↦ lt
  | inr le ↦ absurd (both_ways (is_kept (stretch_at stretches n)) (live_in (stretch_at stretches n) at live).free
      (ap (λ x. is_kept x) (get_or_past stretches n (own_stretch n) le)))
]

-- ---- of one instruction

-- its arguments
together_is : (code : PlainCode) (own : List ℕ) (stretches : List Stretch) (r : ℕ) (i : Instr) → StayTogether code stretches i
    → StaysTogether code (sharing_in own stretches) r i
together_is code own stretches r (I.Call c first to) h = h
together_is code own stretches r _ h = tt

-- a Mark writes its slot
mark_is : (i : Instr) (a : ℕ) → i ≡ I.Mark a → mark_of i ≡ Some a
unfolding mark_of
mark_is i a e = subst (λ j. mark_of j ≡ Some a) (sym e) refl

-- what is none is not some
none_some : (o : Option ℕ) (n : ℕ) → o ≡ None → o ≡ Some n → ⊥
none_some o n a b = cc

-- ---- of a routine

module _ (code : PlainCode) (own : List ℕ) (stretches : List Stretch) (r : ℕ) (slots : FitSlots code r (kinds_at code r) stretches) where
  -- a slot that is live somewhere fits
  fits_live : (n at : ℕ) → is_live (stretch_at stretches n) at ≡ true
      → FitsSlot code r (kind_in code r n) n (stretch_at stretches n)
  fits_live n at live =
      let i = live_in (stretch_at stretches n) at live in
      slots.all n (live_there stretches n at live) (i.free, omega (arith, i.low, i.high))

  -- what is live behind an instruction was live before, or is written by it
  next_live : (at n : ℕ) → is_live (stretch_at stretches n) (suc at) ≡ true
      → (is_live (stretch_at stretches n) at ≡ true) ⊎ (target_slot code (get_or code.instrs at I.Fail) ≡ Some n)
  next_live at n live =
      let i = live_in (stretch_at stretches n) (suc at) live in
      let f = fits_live n (suc at) live in
      elim (cases_eq (stretch_at stretches n).low at) [
        | inl e ↦ inr (subst (λ k. target_slot code (get_or code.instrs k I.Fail) ≡ Some n) e f.writes)
        | inr ne ↦ inl (in_live (stretch_at stretches n) at i.free (omega (arith, ne, i.low)) (omega (arith, i.high)))
      ]

  -- what is live behind a jump is in its stretch before it
  jump_in : (at t n : ℕ) → start_at code r ≤ at → at < end_at code r → away (get_or code.instrs at I.Fail) ≡ Some t
      → is_live (stretch_at stretches n) t ≡ true → IsIn (stretch_at stretches n) at
  jump_in at t n low high leads live =
      let i = live_in (stretch_at stretches n) t live in
      let j = (fits_live n t live).jumps at t low high leads i.low i.high in
      record { free = i.free; low = j.0; high = j.1 }

  -- so it is live before it
  jump_live : (at t n : ℕ) → start_at code r ≤ at → at < end_at code r → away (get_or code.instrs at I.Fail) ≡ Some t
      → is_live (stretch_at stretches n) t ≡ true → is_live (stretch_at stretches n) at ≡ true
  jump_live at t n low high leads live =
      let i = jump_in at t n low high leads live in
      in_live (stretch_at stretches n) at i.free i.low i.high

  -- a number that is live where a carry may have been laid over is written then
  still_next : (at n : ℕ) → lays_over (get_or code.instrs at I.Fail) ≡ true → is_number (kind_in code r n) ≡ true
      → is_live (stretch_at stretches n) (suc at) ≡ true → target_slot code (get_or code.instrs at I.Fail) ≡ Some n
  still_next at n lays number live =
      let i = live_in (stretch_at stretches n) (suc at) live in
      let f = fits_live n (suc at) live in
      elim (cases_eq (stretch_at stretches n).low at) [
        | inl e ↦ subst (λ k. target_slot code (get_or code.instrs k I.Fail) ≡ Some n) e f.writes
        | inr ne ↦ let last = f.calm number at (omega (arith, ne, i.low)) (omega (arith, i.high)) lays in
            absurd (omega (arith, last.0, i.high))
      ]

  -- none is live behind its jump
  still_jump : (at t n : ℕ) → start_at code r ≤ at → at < end_at code r → lays_over (get_or code.instrs at I.Fail) ≡ true
      → away (get_or code.instrs at I.Fail) ≡ Some t → is_number (kind_in code r n) ≡ true
      → is_live (stretch_at stretches n) t ≡ true → ⊥
  still_jump at t n low high lays leads number live =
      let i = jump_in at t n low high leads live in
      let f = fits_live n t live in
      none_some (away (get_or code.instrs at I.Fail)) t (f.calm number at i.low i.high lays).1 leads

  -- an instruction
  shares_at : (at : ℕ) → length stretches ≡ length (kinds_at code r) → AreApart stretches → start_at code r ≤ at → at < end_at code r
      → end_at code r ≤ no_end → FitsInstr code own (kinds_at code r) stretches r at (get_or code.instrs at I.Fail)
      → SharesAt code (sharing_in own stretches) r at (get_or code.instrs at I.Fail)
  shares_at at count apart low high few fits = record {
    read = fits.read;
    next = λ n live. next_live at n live;
    jump = λ t n leads live. jump_live at t n low high leads live;
    apart = λ w n there writes matter same.
        let into = fits.write w writes in
        apart.apart n w (suc at) (omega (arith, count, there)) into.0 same
        (matters_holds (stretch_at stretches n) (suc at) (omega arith) (omega (arith, high, few)) matter) into.1;
    still = λ lays n number live. still_next at n lays number live;
    still_away = λ lays t n leads number. false_from_ne_true (is_live (stretch_at stretches n) t)
        (λ live. still_jump at t n low high lays leads number live);
    ends = fits.flow.ends;
    finishes = fits.flow.finishes;
    places = fits.places;
    begins = fits.begins;
    together = together_is code own stretches r (get_or code.instrs at I.Fail) fits.together;
  }

  -- the routine itself
  shares_in : length stretches ≡ length (kinds_at code r) → 1 ≤ get_or own r 1 → params_slots code r ≤ get_or own r 1
      → KeepsOwn (get_or own r 1) stretches → FitBodies code r → SharesIn code (sharing_in own stretches) r
  shares_in count some params keeps fit = record {
    some = some;
    params = params;
    kept = keeps.kept;
    same = keeps.same;
    above = λ n low there. keeps.above n low (omega (arith, count, there));
    first = λ n. false_from_ne_true (is_live (stretch_at stretches n) (start_at code r)) (λ live.
        let i = live_in (stretch_at stretches n) (start_at code r) live in
        let f = fits_live n (start_at code r) live in
        absurd (omega (arith, i.low, f.begins)));
    begins = fit.begins;
    bodies = λ at at2 a low high low2 high2 mark body.
        fit.bodies.apart at at2 a low high low2 high2 (mark_is (get_or code.instrs at I.Fail) a mark) body;
  }

-- the stretches fit
fits_kinds : (code : PlainCode) (own : List ℕ) (stretches : List Stretch) (r : ℕ) → 1 ≤ get_or own r 1
    → params_slots code r ≤ get_or own r 1 → KeepsOwn (get_or own r 1) stretches → FitBodies code r → AreApart stretches
    → length stretches ≡ length (kinds_at code r) → FitSlots code r (kinds_at code r) stretches
    → FitInstrs code own (kinds_at code r) stretches r → FitsRoutine code own stretches r
fits_kinds code own stretches r some params keeps fit apart count slots instrs = record {
  routine = shares_in code own stretches r slots count some params keeps fit;
  instrs = λ at low high. shares_at code own stretches r slots at count apart low high instrs.few (instrs.all at low high);
}

-- the same where the kinds are those of the routine by an equation
pub fits_routine : (code : PlainCode) (own : List ℕ) (kinds : List SlotKind) (stretches : List Stretch) (r : ℕ) → kinds ≡ kinds_at code r
    → 1 ≤ get_or own r 1 → params_slots code r ≤ get_or own r 1 → KeepsOwn (get_or own r 1) stretches → FitBodies code r
    → AreApart stretches → length stretches ≡ length kinds → FitSlots code r kinds stretches → FitInstrs code own kinds stretches r
    → FitsRoutine code own stretches r
fits_routine code own kinds stretches r e some params keeps fit apart =
    subst (λ ks. length stretches ≡ length ks → FitSlots code r ks stretches → FitInstrs code own ks stretches r
    → FitsRoutine code own stretches r) (sym e) (fits_kinds code own stretches r some params keeps fit apart)
