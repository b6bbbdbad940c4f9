-- What holds of the parts of a code in memory holds of the lists of the code.
use Rattle.std.proofs.Common.{◌≡◌, ◌<◌, ◌≤◌, ◌+◌, ◌^◌, ℕ, List, [], ◌∷◌, length, get_or, take, sym, subst}
use Rattle.std.specs.Prelude.{All, map}
use Rattle.std.specs.List.{flat_map}
use Rattle.std.proofs.lemmas.List.Elements.{All-nil, All-head, All-tail, All-append, All-map, All-more, All-weaker}
use Rattle.std.proofs.lemmas.List.{take_all}
use Rattle.std.proofs.lemmas.List.Folds.{flat_map-map}
use Rattle.alma_code.specs.declared.code.RoutineHead.{RoutineHead}
use Rattle.alma_code.specs.declared.head.CodeParam.{CodeParam}
use Rattle.alma_code.specs.Plain.{PlainRoutine, routine_of}
use Rattle.alma_object.specs.Fields.{FitsRoutine, FitsRun}
use Rattle.alma_verify.specs.Heads.{FitsHead}

-- what holds of the parts of each item holds of all parts
pub all_parts : {X A : Type 0} (P : A → Type 0) (parts : X → List A) (xs : List X) → All (λ x. All P (parts x)) xs
    → All P (flat_map parts xs)
all_parts P parts [] h = All-nil P
all_parts {X = X} P parts (x ∷ xs) h =
    let Q : X → Type 0 = λ x. All P (parts x) in
    All-append P (parts x) (flat_map parts xs) (All-head Q x xs h) (all_parts P parts xs (All-tail Q x xs h))

-- so many items and one more
pub all_more : {X : Type 0} (P : X → Type 0) (xs : List X) (i : ℕ) (d : X) → i < length xs → All P (take i xs) → P (get_or xs i d)
    → All P (take (i + 1) xs)
all_more P xs i d lt h p = All-more P xs i d lt h p

-- and one more that was taken out
pub all_more_taken : {X : Type 0} (P : X → Type 0) (xs : List X) (i : ℕ) (x : X) → i < length xs → x ≡ get_or xs i x → All P (take i xs)
    → P x → All P (take (i + 1) xs)
all_more_taken P xs i x lt is h p = All-more P xs i x lt h (subst P is p)

-- all items
pub all_done : {X : Type 0} (P : X → Type 0) (xs : List X) (i : ℕ) → length xs ≤ i → All P (take i xs) → All P xs
all_done P xs i le h = subst (All P) (take_all i xs le) h

-- the heads of the routines of the code
pub routines_fit : (rows : List RoutineHead) → All FitsHead rows → All FitsRoutine (map routine_of rows)
routines_fit rows h = All-map FitsRoutine routine_of rows
    (All-weaker FitsHead (λ r. FitsRoutine (routine_of r)) (λ r f. record { slots = f.slots; declared = f.declared }) rows h)

-- their parameters
pub params_fit : (rows : List RoutineHead) → All FitsHead rows
    → All (λ (p : CodeParam). p.cells < 2 ^ 32) (flat_map (λ r. r.head.params) (map routine_of rows))
params_fit rows h =
    let P : CodeParam → Type 0 = λ p. p.cells < 2 ^ 32 in
    subst (All P) (sym (flat_map-map (λ (r : PlainRoutine). r.head.params) routine_of rows))
    (all_parts P (λ (r : RoutineHead). r.params.items) rows (All-weaker FitsHead (λ r. All P r.params.items) (λ r f. f.params) rows h))

-- their runs
pub runs_fit : (rows : List RoutineHead) → All FitsHead rows → All FitsRun (flat_map (λ r. r.head.runs) (map routine_of rows))
runs_fit rows h =
    subst (All FitsRun) (sym (flat_map-map (λ (r : PlainRoutine). r.head.runs) routine_of rows))
    (all_parts FitsRun (λ (r : RoutineHead). r.kinds.items) rows
    (All-weaker FitsHead (λ r. All FitsRun r.kinds.items) (λ r f. f.runs) rows h))
