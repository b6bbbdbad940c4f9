-- Units that are gone through one after another.
use Rattle.std.proofs.Common.{◌≡◌, ℕ, suc, ◌+◌, ◌<◌, ◌≤◌, List, [], ◌∷◌, ◌++◌, length, get_or, take, drop, map, refl, sym, ap, subst, ◌∙◌}
use Rattle.std.proofs.Common.{arith, add-one, Vec, Global, None}
use Rattle.std.proofs.lemmas.List.{take_more, take_all, take-append-drop, length-take, length-map, length-append}
use Rattle.alma_ir.specs.declared.program.Program as whole
use Rattle.alma_ir.specs.Tree.{Program}
use Rattle.alma_ir.specs.View.{program_of}
use Rattle.alma_join.specs.Joined.{Kept, kept_of, kept_in, import_fault, or_next}
use Rattle.alma_join.specs.declared.error.JoinError.{JoinError}
use Rattle.alma_join.specs.Fault.{IsErrorOf}
use Rattle.alma_join.specs.Numbers.{StandsAt, unit_fault, NumbersUnit, NumbersUnits, numbers_in}
use Rattle.alma_join.proofs.Keeping.{each_to, kept_append, kept_split, units_from, units_below}
use Rattle.alma_join.proofs.Numbering.{error_of_next}
use Rattle.alma_join.proofs.Rows.{rest_from, rest_none, element_is}

numbers_append : (all : List Kept) (unit at : ℕ) (ps : List Program) (ts : List (List ℕ)) (p : Program) (t : List ℕ)
    → at ≡ unit + length ps → NumbersUnits all unit ps ts → NumbersUnit all at p t → NumbersUnits all unit (ps ++ p ∷ []) (ts ++ t ∷ [])
numbers_append all unit at [] [] p t e h k = let same : at ≡ unit = omega (arith, e) in (subst (λ n. NumbersUnit all n p t) same k, tt)
numbers_append all unit at [] (s ∷ ts) p t e h k = absurd h
numbers_append all unit at (q ∷ ps) [] p t e h k = absurd h
numbers_append all unit at (q ∷ ps) (s ∷ ts) p t e h k = (h.0, numbers_append all (suc unit) at ps ts p t (omega (arith, e)) h.1 k)

-- the unit at a place of some units
module _ (units : List Program) (i : ℕ) (p : Program) (within : i < length units) (is : p ≡ get_or units i p) where
  abbrev front : List Program
  front = take i units

  abbrev behind : List Program
  behind = drop (i + 1) units

  front_length : length front ≡ i
  front_length = omega (arith, length-take i units, within)

  pub units_are : units ≡ front ++ (p ∷ behind)
  units_are = sym (take-append-drop i units) ∙ ap (λ l. front ++ l) (rest_from units i p within is)

  pub front_more : take (i + 1) units ≡ front ++ p ∷ []
  front_more = take_more units i p within ∙ ap (λ y. front ++ y ∷ []) (sym is)

  pub kept_more : kept_in 1 (take (i + 1) units) ≡ kept_in 1 front ++ kept_of (i + 1) p
  kept_more =
      let number : 1 + length front ≡ i + 1 = omega (arith, front_length) in
      ap (kept_in 1) front_more ∙ kept_append 1 front p ∙ ap (λ n. kept_in 1 front ++ kept_of n p) number

  pub stands_at : (next : ℕ) → next ≡ 1 + length (kept_in 1 front) → StandsAt (kept_in 1 units) (i + 1) p next
  stands_at next count =
      let number : 1 + length front ≡ i + 1 = omega (arith, front_length) in
      record {
        front = kept_in 1 front;
        behind = kept_in (suc (i + 1)) behind;
        split = ap (kept_in 1) units_are ∙ kept_split 1 front (p ∷ behind)
            ∙ ap (λ n. kept_in 1 front ++ (kept_of n p ++ kept_in (suc n) behind)) number;
        others_front = each_to _ _ (kept_in 1 front) (λ k lt. omega (arith, lt, number)) (units_below 1 front);
        others_behind = each_to _ _ (kept_in (suc (i + 1)) behind) (λ k le. omega (arith, le)) (units_from (suc (i + 1)) behind);
        number = count;
      }

-- the units before this one have their numbers, and no fault
pub record UnitsNumbered (units : List Program) (i next : ℕ) (tables : List (List ℕ)) : Type 0 where
  pub next_is : next ≡ 1 + length (kept_in 1 (take i units))
  pub numbers : NumbersUnits (kept_in 1 units) 1 (take i units) tables
  pub sound : import_fault (kept_in 1 units) (i + 1) (drop i units) ≡ import_fault (kept_in 1 units) 1 units

pub numbered_no_unit : (units : List Program) (tables : List (Vec ℕ Global)) → tables ≡ [] → UnitsNumbered units 0 1 (map numbers_in tables)
numbered_no_unit units tables is = record {
  next_is = refl;
  numbers = subst (λ l. NumbersUnits (kept_in 1 units) 1 [] (map numbers_in l))
      (sym is) tt;
  sound = refl;
}

module _ (units : List Program) (i : ℕ) (p : Program) (within : i < length units) (is : p ≡ get_or units i p) (next : ℕ)
    (tables : List (List ℕ)) (h : UnitsNumbered units i next tables) where
  abbrev all : List Kept
  all = kept_in 1 units

  fault_is : import_fault all (i + 1) (drop i units) ≡ or_next (unit_fault all (i + 1) p)
      (λ _. import_fault all (i + 1 + 1) (drop (i + 1) units))
  fault_is = ap (import_fault all (i + 1)) (rest_from units i p within is)
      ∙ (λ j. or_next (unit_fault all (i + 1) p) (λ _. import_fault all (sym (add-one (i + 1)) j) (drop (i + 1) units)))

  pub units_numbered_more : (next' : ℕ) (table : List ℕ) (longer : List (List ℕ)) → longer ≡ tables ++ table ∷ []
      → NumbersUnit all (i + 1) p table → unit_fault all (i + 1) p ≡ None → next' ≡ next + length (kept_of (i + 1) p)
      → UnitsNumbered units (i + 1) next' longer
  units_numbered_more next' table longer more numbers none count = record {
    next_is = omega (
      arith,
      count,
      h.next_is,
      ap length (kept_more units i p within is),
      length-append (kept_in 1 (take i units))
          (kept_of (i + 1) p),
    );
    numbers = subst (NumbersUnits all 1 (take (i + 1) units)) (sym more)
        (subst (λ l. NumbersUnits all 1 l (tables ++ table ∷ [])) (sym (front_more units i p within is))
        (numbers_append all 1 (i + 1) (take i units) tables p table (omega (arith, front_length units i p within is)) h.numbers numbers));
    sound = ap (λ o. or_next o (λ _. import_fault all (i + 1 + 1) (drop (i + 1) units))) (sym none) ∙ sym fault_is ∙ h.sound;
  }

  pub unit_fault_first : (e : JoinError) → IsErrorOf e (unit_fault all (i + 1) p) → IsErrorOf e (import_fault all 1 units)
  unit_fault_first e fault = subst (IsErrorOf e) (sym fault_is ∙ h.sound) (error_of_next e _ _ fault)

pub units_numbers : (units : List Program) (i next : ℕ) (tables : List (List ℕ)) → length units ≤ i → UnitsNumbered units i next tables
    → NumbersUnits (kept_in 1 units) 1 units tables
units_numbers units i next tables past h = subst (λ l. NumbersUnits (kept_in 1 units) 1 l tables) (take_all i units past) h.numbers

pub units_sound : (units : List Program) (i next : ℕ) (tables : List (List ℕ)) → length units ≤ i → UnitsNumbered units i next tables
    → import_fault (kept_in 1 units) 1 units ≡ None
units_sound units i next tables past h = sym h.sound ∙ ap (import_fault (kept_in 1 units) (i + 1)) (rest_none units i past)

-- ---- units in memory

pub program_there : (units : List whole.Program) (i : ℕ) (x : whole.Program) → i < length units → x ≡ get_or units i x
    → program_of x ≡ get_or (map program_of units) i (program_of x)
program_there units i x within is = sym (element_is program_of units i x (program_of x) within is)

pub within_units : (units : List whole.Program) (i : ℕ) → i < length units → i < length (map program_of units)
within_units units i lt = omega (arith, lt, length-map units program_of)

pub past_units : (units : List whole.Program) (i : ℕ) → length units ≤ i → length (map program_of units) ≤ i
past_units units i le = omega (arith, le, length-map units program_of)
