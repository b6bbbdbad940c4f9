-- The directory as its modules are gone through.
use Rattle.std.proofs.Common.{◌≡◌, ℕ, ◌+◌, ◌<◌, ◌≤◌, Bool, true, false, List, [], ◌∷◌, ◌++◌, length, get_or, take, map, refl, sym, ap}
use Rattle.std.proofs.Common.{subst, ◌∙◌, arith, Vec, Global}
use Rattle.std.specs.Prelude.{nat_eq}
use Rattle.std.proofs.lemmas.Bool.Decides.{nat_tests}
use Rattle.std.proofs.lemmas.List.{take_more, take_all, map-append, append-nil, length-map, length-take}
use Rattle.std.proofs.lemmas.Bool.{eq-eqb}
use Rattle.std.specs.Map.{lookup}
use Rattle.indexmap.specs.IndexMap.{get}
use Rattle.alma_base.specs.Choice.{if_true}
use Rattle.alma_ir.specs.declared.program.Program as whole
use Rattle.alma_ir.specs.Tree.{Routine, Program, routine_at}
use Rattle.alma_ir.specs.View.{program_of}
use Rattle.alma_join.specs.Joined.{Kept, is_bare, kept_of, kept_in, matches}
use Rattle.alma_join.specs.declared.directory.Export.{Export}
use Rattle.alma_join.specs.declared.directory.Directory.{Directory}
use Rattle.alma_join.specs.declared.directory.Matches.{Matches}
use Rattle.alma_join.specs.Directory.{PlainExport, plain_export, entries_in, alike, others, Holds, Enters, EntersOne, IsAnswer}
use Rattle.alma_join.proofs.Keeping.{Passed, passed_none, passed_bare, passed_kept, passed_all, kept_append}
use Rattle.alma_join.proofs.Sharing.{enters_none, enters_both, matches_others}

-- the routines before this one were gone through
pub record UnitGoes (a b : Directory) (unit : ℕ) (p : Program) (r : ℕ) : Type 0 where
  pub front : List Kept
  pub passed : Passed unit p r front
  pub enters : Enters a b front

pub goes_none : (a : Directory) (unit : ℕ) (p : Program) → UnitGoes a a unit p 1
goes_none a unit p = record { front = []; passed = passed_none unit p; enters = enters_none a }

pub goes_bare : (a b : Directory) (unit : ℕ) (p : Program) (r : ℕ) → r < length p.routines → is_bare p r (routine_at p r) ≡ true
    → UnitGoes a b unit p r → UnitGoes a b unit p (r + 1)
goes_bare a b unit p r within bare h = record {
  front = h.front;
  passed = passed_bare unit p r h.front within h.passed bare;
  enters = h.enters;
}

pub goes_kept : (a b c : Directory) (unit : ℕ) (p : Program) (r : ℕ) (x : Routine) → r < length p.routines
    → is_bare p r (routine_at p r) ≡ false → routine_at p r ≡ x
    → UnitGoes a b unit p r → EntersOne b c unit x → UnitGoes a c unit p (r + 1)
goes_kept a b c unit p r x within bare is h one = record {
  front = h.front ++ record { unit = unit; number = r; routine = routine_at p r } ∷ [];
  passed = passed_kept unit p r h.front within h.passed bare;
  enters = enters_both a b c h.front _ h.enters (subst (λ y. Enters b c (record { unit = unit; number = r; routine = y } ∷ [])) (sym is)
      (one.enters r));
}

pub goes_all : (a b : Directory) (unit : ℕ) (p : Program) (r : ℕ) → length p.routines ≤ r → UnitGoes a b unit p r
    → Enters a b (kept_of unit p)
goes_all a b unit p r past h = subst (Enters a b) (passed_all unit p r h.front past h.passed) h.enters

-- ---- modules

pub unit_more : (a b : Directory) (units : List whole.Program) (i unit : ℕ) (x : whole.Program) → i < length units → x ≡ get_or units i x
    → unit ≡ i + 1 → Holds a (kept_in 1 (map program_of (take i units)))
    → Enters a b (kept_of unit (program_of x)) → Holds b (kept_in 1 (map program_of (take (i + 1) units)))
unit_more a b units i unit x within is number h enters =
    let front : List Program = map program_of (take i units) in
    let len : 1 + length front ≡ unit = omega (arith, number, length-map (take i units) program_of, length-take i units, within) in
    let all : map program_of (take (i + 1) units) ≡ front ++ program_of x ∷ [] =
    ap (map program_of) (take_more units i x within ∙ ap (λ y. take i units ++ y ∷ []) (sym is))
    ∙ map-append program_of (take i units) (x ∷ []) in
    let same : kept_in 1 (map program_of (take (i + 1) units)) ≡ kept_in 1 front ++ kept_of unit (program_of x) =
    ap (kept_in 1) all ∙ kept_append 1 front (program_of x) ∙ ap (λ n. kept_in 1 front ++ kept_of n (program_of x)) len in
    subst (Holds b) (sym same) (enters.holds (kept_in 1 front) h)

pub holds_none : (d : Directory) → d.next ≡ 1 → d.entries.entries ≡ [] → Holds d []
holds_none d next empty = record { next = next; lists = record { named = λ q. ap (λ es. entries_in (lookup (λ k. alike q k) es)) empty } }

pub holds_all : (d : Directory) (units : List whole.Program) (i : ℕ) → length units ≤ i
    → Holds d (kept_in 1 (map program_of (take i units))) → Holds d (kept_in 1 (map program_of units))
holds_all d units i past h = subst (λ l. Holds d (kept_in 1 (map program_of l))) (take_all i units past) h

-- ---- matches

abbrev pub plain_front : List Export → ℕ → List PlainExport
plain_front xs i = map plain_export (take i xs)

others_append : (unit : ℕ) (xs ys : List PlainExport) → others unit (xs ++ ys) ≡ others unit xs ++ others unit ys
others_append unit [] ys = refl
others_append unit (e ∷ xs) ys = by (nat_eq e.unit unit) (others_append unit xs ys)
  where
    by : (b : Bool) → others unit (xs ++ ys) ≡ others unit xs ++ others unit ys
        → if_true b (λ _. others unit (xs ++ ys)) (λ _. (e.number, e.routine) ∷ others unit (xs ++ ys))
        ≡ if_true b (λ _. others unit xs) (λ _. (e.number, e.routine) ∷ others unit xs) ++ others unit ys
    by true h = h
    by false h = ap (λ l. (e.number, e.routine) ∷ l) h

others_more : (unit : ℕ) (xs : List Export) (i : ℕ) (x : Export) (b : Bool) → i < length xs → x ≡ get_or xs i x → nat_eq x.unit unit ≡ b
    → others unit (plain_front xs (i + 1)) ≡ others unit (plain_front xs i) ++ if_true b (λ _. [])
    (λ _. (x.number, (plain_export x).routine) ∷ [])
others_more unit xs i x b within is e =
    ap (λ l. others unit (map plain_export l)) (take_more xs i x within ∙ ap (λ y. take i xs ++ y ∷ []) (sym is))
    ∙ ap (others unit) (map-append plain_export (take i xs) (x ∷ [])) ∙ others_append unit (plain_front xs i) (plain_export x ∷ [])
    ∙ ap (λ t. others unit (plain_front xs i) ++ if_true t (λ _. []) (λ _. (x.number, (plain_export x).routine) ∷ [])) e

pub answer_same : (m : Matches) (unit : ℕ) (xs : List Export) (i : ℕ) (x : Export) → i < length xs → x ≡ get_or xs i x → x.unit ≡ unit
    → IsAnswer m (others unit (plain_front xs i)) → IsAnswer m (others unit (plain_front xs (i + 1)))
answer_same m unit xs i x within is e h = subst (IsAnswer m)
    (sym (others_more unit xs i x true within is (eq-eqb x.unit unit e) ∙ append-nil _)) h

pub answer_more : (m : Matches) (unit : ℕ) (xs : List Export) (i : ℕ) (x : Export) → i < length xs → x ≡ get_or xs i x
    → (x.unit ≡ unit → ⊥) → IsAnswer m (others unit (plain_front xs i) ++ (x.number, (plain_export x).routine) ∷ [])
    → IsAnswer m (others unit (plain_front xs (i + 1)))
answer_more m unit xs i x within is ne h =
    let other : nat_eq x.unit unit ≡ false = grind (arith, nat_tests, ne) in
    subst (IsAnswer m) (sym (others_more unit xs i x false within is other)) h

pub answer_all : (m : Matches) (unit : ℕ) (xs : List Export) (i : ℕ) → length xs ≤ i → IsAnswer m (others unit (plain_front xs i))
    → IsAnswer m (others unit (map plain_export xs))
answer_all m unit xs i past h = subst (λ l. IsAnswer m (others unit (map plain_export l))) (take_all i xs past) h

-- the entries of a name give its matches
pub matches_listed : (d : Directory) (all : List Kept) (unit : ℕ) (name : Vec ℕ Global) (m : Matches) (found : List PlainExport)
    → Holds d all → entries_in (get alike d.entries name) ≡ found → IsAnswer m (others unit found)
    → IsAnswer m (matches all 1 unit name.items)
matches_listed d all unit name m found h e a = subst (IsAnswer m)
    (ap (others unit) (sym e ∙ h.lists.named name) ∙ sym (matches_others all 1 unit name.items)) a
