-- The routines of a unit, numbered one after another.
use Rattle.std.proofs.Common.{◌≡◌, ℕ, zero, suc, ◌+◌, ◌<◌, ◌≤◌, inl, inr, Bool, true, false, List, [], ◌∷◌, ◌++◌, length, get_or, drop}
use Rattle.std.proofs.Common.{refl, sym, ap, subst, ◌∙◌, arith, add-one, Option, None, Result, Ok, Err, IfErr}
use Rattle.std.specs.Result.{IsErrAnd}
use Rattle.std.specs.List.{AllByRecursion}
use Rattle.std.proofs.lemmas.Bool.{cases_lt}
use Rattle.std.proofs.lemmas.List.{append_assoc, length-append, get_or_past, get_or_append_left}
use Rattle.std.proofs.Math.Seq.{get_or-append_seam}
use Rattle.alma_base.specs.Choice.{if_true}
use Rattle.alma_copy.specs.Numbers.{number_in}
use Rattle.alma_ir.proofs.Each.{each_of_append}
use Rattle.alma_ir.specs.Tree.{Routine, Program, routine_at, no_routine}
use Rattle.alma_join.specs.Joined.{Kept, JoinFault, is_bare, kept_of, kept_from, matches, first_match, match_fault, fault_from, or_next}
use Rattle.alma_join.specs.Joined.{number_of_kept, new_number}
use Rattle.alma_join.specs.declared.directory.Directory.{Directory}
use Rattle.alma_join.specs.declared.error.JoinError.{JoinError}
use Rattle.alma_join.specs.declared.error.JoinError.TheVariants as error
use Rattle.alma_join.specs.Directory.{Holds}
use Rattle.alma_join.specs.Fault.{IsErrorOf}
use Rattle.alma_join.specs.Numbers.{Resolves, StandsAt, unit_fault, NumbersUnit}
use Rattle.alma_join.proofs.Keeping.{Passed, passed_none, passed_bare, passed_kept, passed_all, here_is, rest_here, each_to, Differs}
use Rattle.alma_join.proofs.Keeping.{differs_by_unit, differs_by_number, number_there, number_none, new_number_if}
use Rattle.alma_join.proofs.Rows.{rest_none}

-- an error of the first of two is one of both
pub error_of_next : (e : JoinError) (f : Option JoinFault) (next : Unit {0} → Option JoinFault) → IsErrorOf e f
    → IsErrorOf e (or_next f next)
error_of_next (error.Missing u r) f next h = ap (λ o. or_next o next) h
error_of_next (error.Twice u r) f next h = ap (λ o. or_next o next) h
error_of_next (error.HeadDiffers u r) f next h = ap (λ o. or_next o next) h
error_of_next (error.TooLarge u) f next h = ap (λ o. or_next o next) h
error_of_next error.Memory f next h = tt

pub error_of_memory : (e : JoinError) (f : Option JoinFault) → e ≡ error.Memory → IsErrorOf e f
error_of_memory e f is = subst (λ x. IsErrorOf x f) (sym is) tt

-- an error that is handed on
pub handed_on : {X : Type 0} (r : Result X JoinError) (e : JoinError) (f : Option JoinFault) → IsErrAnd r (λ x. x ≡ e) → IsErrorOf e f
    → IfErr r (λ x. IsErrorOf x f)
handed_on (Ok v) e f is h = tt
handed_on (Err x) e f is h = subst (λ y. IsErrorOf y f) (sym is) h

module _ (d : Directory) (unit : ℕ) (p : Program) (first : ℕ) where
  -- the routines before this one have their numbers, and no fault
  pub record Numbered (r next : ℕ) (table : List ℕ) : Type 0 where
    pub front : List Kept
    pub passed : Passed unit p r front
    pub counted : next ≡ first + length front
    pub long : length table ≡ r
    pub sound : (all : List Kept) → Holds d all → fault_from all unit p r (drop r p.routines) ≡ unit_fault all unit p
    pub at : (all : List Kept) → Holds d all → StandsAt all unit p first → (j : ℕ) → j < r → get_or table j j ≡ new_number all unit p j

  pub numbered_none : (table : List ℕ) → table ≡ 0 ∷ [] → Numbered 1 first table
  numbered_none table is = record {
    front = [];
    passed = passed_none unit p;
    counted = omega arith;
    long = ap length is;
    sound = λ all h. refl;
    at = λ all h s j lt. first_number all j lt;
  }
    where
      first_number : (all : List Kept) (j : ℕ) → j < 1 → get_or table j j ≡ new_number all unit p j
      first_number all zero lt = ap (λ t. get_or t 0 0) is
      first_number all (suc j) lt = absurd (omega (arith, lt))

  module _ (r next : ℕ) (table longer : List ℕ) (n : ℕ) (within : r < length p.routines) (some : 0 < r) (h : Numbered r next table)
      (is : longer ≡ table ++ n ∷ []) where
    abbrev here : Routine
    here = routine_at p r

    -- the first fault from here
    fault_here : (all : List Kept) (b : Bool) → is_bare p r here ≡ b
        → fault_from all unit p r (drop r p.routines) ≡ or_next
        (if_true b (λ _. match_fault unit r here (matches all 1 unit here.name)) (λ _. None))
        (λ _. fault_from all unit p (r + 1) (drop (r + 1) p.routines))
    fault_here all b e =
        ap (fault_from all unit p r) (rest_here unit p r h.front within h.passed)
        ∙ (λ i. or_next (if_true (e i) (λ _. match_fault unit r here (matches all 1 unit here.name)) (λ _. None))
        (λ _. fault_from all unit p (sym (add-one r) i) (drop (r + 1) p.routines)))

    number_more : (all : List Kept) → ((j : ℕ) → j < r → get_or table j j ≡ new_number all unit p j) → n ≡ new_number all unit p r
        → (j : ℕ) → j < r + 1 → get_or longer j j ≡ new_number all unit p j
    number_more all before this j lt = elim (cases_lt j r) [
      | inl below ↦ ap (λ t. get_or t j j) is ∙ get_or_append_left table (n ∷ []) j j (omega (arith, below, h.long)) ∙ before j below
      | inr past ↦ let same : j ≡ length table = omega (arith, lt, past, h.long) in
          ap (λ t. get_or t j j) is ∙ ap (λ k. get_or (table ++ n ∷ []) k j) same ∙ get_or-append_seam table n [] j ∙ this
          ∙ ap (new_number all unit p) (sym (same ∙ h.long))
    ]

    longer_is : length longer ≡ r + 1
    longer_is = ap length is ∙ omega (arith, length-append table (n ∷ []), h.long)

    pub numbered_bare : is_bare p r here ≡ true → ((all : List Kept) → Holds d all
        → (n ≡ first_match (matches all 1 unit here.name)) × (match_fault unit r here (matches all 1 unit here.name) ≡ None))
        → (next' : ℕ) → next' ≡ next → Numbered (r + 1) next' longer
    numbered_bare e found next' kept = record {
      front = h.front;
      passed = passed_bare unit p r h.front within h.passed e;
      counted = kept ∙ h.counted;
      long = longer_is;
      sound = λ all there. ap (λ o. or_next o (λ _. fault_from all unit p (r + 1) (drop (r + 1) p.routines))) (sym (found all there).1)
          ∙ sym (fault_here all true e) ∙ h.sound all there;
      at = λ all there stands. number_more all (h.at all there stands) ((found all there).0 ∙ sym (new_number_if all unit p r true some e));
    }

    -- the number of the next that stays
    number_next : (all : List Kept) → StandsAt all unit p first → is_bare p r here ≡ false → next ≡ number_of_kept all 1 unit r
    number_next all stands e =
        let k : Kept = record { unit = unit; number = r; routine = here } in
        let rest : List Kept = kept_from unit p (r + 1) (drop (r + 1) p.routines) in
        let split : all ≡ (stands.front ++ h.front) ++ (k ∷ (rest ++ stands.behind)) =
        stands.split ∙ ap (λ l. stands.front ++ (l ++ stands.behind)) (here_is unit p r h.front within h.passed e)
        ∙ ap (λ l. stands.front ++ l) (append_assoc h.front (k ∷ rest) stands.behind)
        ∙ sym (append_assoc stands.front h.front (k ∷ (rest ++ stands.behind))) in
        let differ : AllByRecursion (Differs unit r) (stands.front ++ h.front) =
        each_of_append (Differs unit r) stands.front h.front
        (each_to _ _ stands.front (λ x lt. differs_by_unit unit r x (λ s. omega (arith, lt, s))) stands.others_front)
        (each_to _ _ h.front (λ x below. differs_by_number unit r x (λ s. let lt = below.1 in omega (arith, lt, s))) h.passed.below) in
        let count : next ≡ 1 + length (stands.front ++ h.front) = omega
        (arith, h.counted, stands.number, length-append stands.front h.front) in
        count ∙ sym (number_there (stands.front ++ h.front) (rest ++ stands.behind) k unit r differ refl refl)
        ∙ ap (λ l. number_of_kept l 1 unit r) (sym split)

    pub numbered_kept : is_bare p r here ≡ false → n ≡ next → (next' : ℕ) → next' ≡ next + 1 → Numbered (r + 1) next' longer
    numbered_kept e this next' more = record {
      front = h.front ++ record { unit = unit; number = r; routine = here } ∷ [];
      passed = passed_kept unit p r h.front within h.passed e;
      counted = omega (arith, more, h.counted, length-append h.front (record { unit = unit; number = r; routine = here } ∷ []));
      long = longer_is;
      sound = λ all there. sym (fault_here all false e) ∙ h.sound all there;
      at = λ all there stands. number_more all (h.at all there stands)
          (this ∙ number_next all stands e ∙ sym (new_number_if all unit p r false some e));
    }

    -- whichever it is
    pub numbered_more : (bare : Bool) (routine : Routine) (next' : ℕ) → is_bare p r here ≡ bare → here ≡ routine
        → (bare ≡ true → (all : List Kept) → Holds d all → Resolves unit r routine (matches all 1 unit routine.name) (Ok n))
        → (bare ≡ true → next' ≡ next)
        → (bare ≡ false → (n ≡ next) × (next' ≡ next + 1)) → Numbered (r + 1) next' longer
    numbered_more true routine next' e there found same kept =
        numbered_bare e (λ all holds. subst (λ x. (n ≡ first_match (matches all 1 unit x.name)) ×
        (match_fault unit r x (matches all 1 unit x.name) ≡ None)) (sym there) (found refl all holds).number) next' (same refl)
    numbered_more false routine next' e there found same kept = numbered_kept e (kept refl).0 next' (kept refl).1

    -- a fault here is the first of the unit
    pub fault_first : is_bare p r here ≡ true → (e : JoinError) → (all : List Kept) → Holds d all
        → IsErrorOf e (match_fault unit r here (matches all 1 unit here.name)) → IsErrorOf e (unit_fault all unit p)
    fault_first bare e all there fault = subst (IsErrorOf e) (sym (fault_here all true bare) ∙ h.sound all there)
        (error_of_next e _ _ fault)

    pub fault_more : (bare : Bool) (routine : Routine) (x : JoinError) (all : List Kept) → is_bare p r here ≡ bare → here ≡ routine
        → Holds d all
        → (bare ≡ true → (all : List Kept) → Holds d all → Resolves unit r routine (matches all 1 unit routine.name) (Err x))
        → (bare ≡ false → x ≡ error.Memory) → IsErrorOf x (unit_fault all unit p)
    fault_more true routine x all e there holds found memory =
        fault_first e x all holds (subst (λ y. IsErrorOf x (match_fault unit r y (matches all 1 unit y.name))) (sym there)
        (found refl all holds).fault)
    fault_more false routine x all e there holds found memory = error_of_memory x _ (memory refl)

  module _ (r next : ℕ) (table : List ℕ) (past : length p.routines ≤ r) (some : 0 < r) (h : Numbered r next table) where
    front_is : h.front ≡ kept_of unit p
    front_is = passed_all unit p r h.front past h.passed

    pub next_all : next ≡ first + length (kept_of unit p)
    next_all = h.counted ∙ ap (λ l. first + length l) front_is

    pub sound_all : (all : List Kept) → Holds d all → unit_fault all unit p ≡ None
    sound_all all there = sym (h.sound all there) ∙ ap (fault_from all unit p r) (rest_none p.routines r past)

    number_past : (all : List Kept) → StandsAt all unit p first → (j : ℕ) → r ≤ j → new_number all unit p j ≡ j
    number_past all stands j le =
        let bare : is_bare p j (routine_at p j) ≡ false = ap (is_bare p j)
        (get_or_past p.routines j no_routine (omega (arith, le, past))) in
        let of_unit : AllByRecursion (Differs unit j) (kept_of unit p) =
        subst (AllByRecursion (Differs unit j)) front_is (each_to _ _ h.front
        (λ x below. differs_by_number unit j x (λ s. let lt = below.1 in omega (arith, lt, s, le))) h.passed.below) in
        let differ : AllByRecursion (Differs unit j) (stands.front ++ (kept_of unit p ++ stands.behind)) =
        each_of_append (Differs unit j) stands.front (kept_of unit p ++ stands.behind)
        (each_to _ _ stands.front (λ x lt. differs_by_unit unit j x (λ s. omega (arith, lt, s))) stands.others_front)
        (each_of_append (Differs unit j) (kept_of unit p) stands.behind of_unit
        (each_to _ _ stands.behind (λ x lt. differs_by_unit unit j x (λ s. omega (arith, lt, s))) stands.others_behind)) in
        new_number_if all unit p j false (omega (arith, le, some)) bare ∙ ap (λ l. number_of_kept l 1 unit j) stands.split
        ∙ number_none _ 1 unit j differ

    pub numbers_all : (all : List Kept) → Holds d all → StandsAt all unit p first → NumbersUnit all unit p table
    numbers_all all there stands = record { at = by }
      where
        by : (j : ℕ) → number_in table j ≡ new_number all unit p j
        by j = elim (cases_lt j r) [
          | inl below ↦ h.at all there stands j below
          | inr le ↦ get_or_past table j j (omega (arith, le, h.long)) ∙ sym (number_past all stands j le)
        ]
