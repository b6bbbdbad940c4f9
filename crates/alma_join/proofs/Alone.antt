-- A program with no import is itself where it is joined alone.
use Rattle.std.proofs.Common.{◌≡◌, inl, inr, ℕ, zero, suc, ◌+◌, ◌<◌, List, [], ◌∷◌, ◌++◌, length, get_or, refl, ap, ◌∙◌, subst, arith}
use Rattle.std.specs.Prelude.{false, nat_eq, map, sum_by}
use Rattle.std.proofs.lemmas.Bool.{eq-eqb, cases_lt, cases_eq}
use Rattle.std.proofs.lemmas.Bool.Decides.{nat_tests}
use Rattle.std.proofs.lemmas.List.{append-nil, get_or_past}
use Rattle.std.proofs.lemmas.List.Sums.{sum_by-cons}
use Rattle.alma_base.specs.Choice.{if_true}
use Rattle.alma_ir.specs.Tree.{Stmts, Program, Routine, Global, routine_at, no_routine, no_stmts, more_stmts}
use Rattle.alma_ir.specs.Checked.{IsChecked}
use Rattle.alma_copy.specs.Moved.{Moves, moved_stmts, moved_routine}
use Rattle.alma_copy.specs.Numbers.{slot_behind}
use Rattle.alma_join.specs.Joined.{is_bare, Kept, kept_from, kept_in, matches, first_match, number_of_kept, new_number}
use Rattle.alma_join.specs.Joined.{own_slots, body_moves, procedure_moves, global_behind, joined_program, HasNoImport}
use Rattle.alma_join.specs.Joined.{AloneIsItself}
use Rattle.alma_rules.specs.Parts.{append_stmts}
use Rattle.alma_copy.proofs.Stays.{stmts_stay}

pub slot_stays : (n : ℕ) → slot_behind 0 n ≡ n
slot_stays zero = refl
slot_stays (suc n) = omega arith

pub append_none : (x : Stmts) → append_stmts x no_stmts ≡ x
append_none no_stmts = refl
append_none (more_stmts line x rest) = ap (more_stmts line x) (append_none rest)

globals_stay : (gs : List Global) → map (global_behind 0) gs ≡ gs
globals_stay [] = refl
globals_stay (g ∷ gs) = λ i. record g { slot = slot_stays g.slot i } ∷ globals_stay gs i

-- none of the routines from this number on is bare
abbrev NoneBare : Program → ℕ → List Routine → Type 0
NoneBare p k [] = Unit {0}
NoneBare p k (x ∷ xs) = (is_bare p k x ≡ false) × NoneBare p (suc k) xs

number_stays : (p : Program) (xs : List Routine) (k r : ℕ) → NoneBare p k xs → number_of_kept (kept_from 1 p k xs) k 1 r ≡ r
number_stays p [] k r h = refl
number_stays p (x ∷ xs) k r h =
    ap (λ b. number_of_kept (if_true b (λ _. kept_from 1 p (suc k) xs)
    (λ _. record { unit = 1; number = k; routine = x } ∷ kept_from 1 p (suc k) xs)) k 1 r) h.0
    ∙ elim (cases_eq k r) [
      | inl e ↦ ap (λ b. if_true b (λ _. k) (λ _. number_of_kept (kept_from 1 p (suc k) xs) (suc k) 1 r)) (eq-eqb k r e) ∙ e
      | inr ne ↦ let differ : nat_eq k r ≡ false = grind (arith, nat_tests, ne) in
          ap (λ b. if_true b (λ _. k) (λ _. number_of_kept (kept_from 1 p (suc k) xs) (suc k) 1 r)) differ ∙ number_stays p xs (suc k) r h.1
    ]

none_from : (p : Program) (xs : List Routine) (k : ℕ) → ((j : ℕ) → j < length xs → is_bare p (k + j) (get_or xs j no_routine) ≡ false)
    → NoneBare p k xs
none_from p [] k h = tt
none_from p (x ∷ xs) k h =
    let first : k + 0 ≡ k = omega arith in (
      subst (λ n. is_bare p n x ≡ false) first (h 0 (omega arith)),
      none_from p xs (suc k) (λ j lt. let later : k + suc j
          ≡ suc k + j = omega arith in subst (λ n. is_bare p n (get_or xs j no_routine) ≡ false) later (h (suc j) (omega (arith, lt)))),
    )

procedures_stay : (p : Program) (m : Moves) → ((x : Stmts) → moved_stmts m x ≡ x) → ((n : ℕ) → m.routine n ≡ n)
    → (xs : List Routine) (k : ℕ) → NoneBare p k xs → map (λ y. moved_routine m y.routine) (kept_from 1 p k xs) ≡ xs
procedures_stay p m body outer [] k h = refl
procedures_stay p m body outer (x ∷ xs) k h =
    ap (λ b. map (λ y. moved_routine m y.routine) (if_true b (λ _. kept_from 1 p (suc k) xs)
    (λ _. record { unit = 1; number = k; routine = x } ∷ kept_from 1 p (suc k) xs))) h.0
    ∙ (λ i. record x { body = body x.body i; outer = outer x.outer i } ∷ procedures_stay p m body outer xs (suc k) h.1 i)

module _ (name : List ℕ) (gs : List Global) (body : Routine) (rest : List Routine) where
  abbrev p : Program
  p = record { name = name; globals = gs; routines = body ∷ rest }

  module _ (none : NoneBare p 1 rest) (has_slots : 0 < body.slots) (imports : HasNoImport p) where
    abbrev all : List Kept
    all = kept_in 1 (p ∷ [])

    all_is : all ≡ kept_from 1 p 1 rest
    all_is = append-nil (kept_from 1 p 1 rest)

    numbers_stay : (n : ℕ) → new_number all 1 p n ≡ n
    numbers_stay zero = refl
    numbers_stay (suc r) =
        ap (λ b. if_true b (λ _. first_match (matches all 1 1 (routine_at p (suc r)).name)) (λ _. number_of_kept all 1 1 (suc r)))
        (not_bare r)
        ∙ ap (λ ks. number_of_kept ks 1 1 (suc r)) all_is ∙ number_stays p rest 1 (suc r) none
      where
        not_bare : (j : ℕ) → is_bare p (suc j) (routine_at p (suc j)) ≡ false
        not_bare j = elim (cases_lt j (length rest)) [
          | inl lt ↦ imports (suc j) (omega arith) (omega (arith, lt))
          | inr ge ↦ ap (is_bare p (suc j)) (get_or_past rest j no_routine ge)
        ]

    itself : joined_program (p ∷ []) ≡ p
    itself =
        let in_body : (x : Stmts) → moved_stmts (body_moves all 1 p 0) x
        ≡ x = λ x. stmts_stay (body_moves all 1 p 0) slot_stays slot_stays numbers_stay x in
        let in_procedure : (x : Stmts) → moved_stmts (procedure_moves all 1 p 0) x
        ≡ x = λ x. stmts_stay (procedure_moves all 1 p 0) (λ n. refl) slot_stays numbers_stay x in
        let globals : map (global_behind 0) gs ++ [] ≡ gs = append-nil (map (global_behind 0) gs) ∙ globals_stay gs in
        let stmts : append_stmts (moved_stmts (body_moves all 1 p 0) body.body) no_stmts ≡ body.body = append_none _ ∙ in_body body.body in
        let lines : body.lines ++ [] ≡ body.lines = append-nil body.lines in
        let declared : sum_by (λ u. (routine_at u 0).declared) (p ∷ [])
        ≡ body.declared = sum_by-cons (λ u. (routine_at u 0).declared) p [] ∙ omega arith in
        let slots : 1 + sum_by own_slots (p ∷ []) ≡ body.slots = omega (arith, sum_by-cons own_slots p [], has_slots) in
        let procedures : map (λ y. moved_routine (procedure_moves all 1 p 0) y.routine) (kept_from 1 p 1 rest) ++ [] ≡ rest =
        append-nil _ ∙ procedures_stay p (procedure_moves all 1 p 0) in_procedure numbers_stay rest 1 none in
        λ i. record {
          name = name;
          globals = globals i;
          routines = record body
              { declared = declared i; slots = slots i; body = stmts i; lines = lines i } ∷ procedures i;
        }

by_routines : (name : List ℕ) (gs : List Global) (rs : List Routine) → IsChecked (record { name = name; globals = gs; routines = rs })
    → HasNoImport (record { name = name; globals = gs; routines = rs })
    → joined_program (record { name = name; globals = gs; routines = rs } ∷ []) ≡ record { name = name; globals = gs; routines = rs }
by_routines name gs [] h none = absurd (omega (arith, h.body.0))
by_routines name gs (body ∷ rest) h none =
    let q : Program = record { name = name; globals = gs; routines = body ∷ rest } in
    let behind : (j : ℕ) → j < length rest → is_bare q (1 + j) (get_or rest j no_routine) ≡ false =
    λ j lt. let next : suc j ≡ 1 + j = omega arith in subst (λ n. is_bare q n (get_or rest j no_routine) ≡ false) next
    (none (suc j) (omega arith) (omega (arith, lt))) in
    itself name gs body rest (none_from q rest 1 behind) h.body.1 none

pub alone_is_itself : AloneIsItself
alone_is_itself p h none = by_routines p.name p.globals p.routines h none
