-- Imports without a fault: each has one match, whose head serves the import's calls.
use Rattle.std.proofs.Common.{◌≡◌, inl, inr, ℕ, zero, suc, ◌+◌, ◌<◌, true, List, [], ◌∷◌, length, get_or, drop, refl, sym, ap, ◌∙◌, subst}
use Rattle.std.proofs.Common.{arith, eq-zero-or-pos}
use Rattle.std.specs.Prelude.{nat_eq, ◌&&◌, not, sum_by, Option, Some, None, is_some}
use Rattle.std.specs.List.{AllByRecursion, list_any}
use Rattle.std.proofs.lemmas.Bool.{true≢false, eqb-true, and_parts, cases_Bool}
use Rattle.alma_base.specs.Choice.{if_true}
use Rattle.alma_base.specs.declared.number.Range.{Range}
use Rattle.alma_ir.specs.declared.program.ArgKind.{ArgKind}
use Rattle.alma_ir.specs.declared.program.ArgKind.TheVariants as kind
use Rattle.alma_ir.specs.declared.program.Param.{Param}
use Rattle.alma_ir.specs.Tree.{Program, Routine, routine_at, no_routine}
use Rattle.alma_ir.specs.Checked.{IsChecked, param_slots}
use Rattle.alma_ir.proofs.Each.{each_follows}
use Rattle.alma_join.specs.Joined.{Kept, is_empty, is_bare, kept_in, same_name, same_kind, same_range, same_params, same_result}
use Rattle.alma_join.specs.Joined.{same_head, matches, first_match, number_of_kept, JoinFault, Missing, Twice, HeadDiffers, match_fault}
use Rattle.alma_join.specs.Joined.{or_next, fault_from, import_fault, size_fault, no_totals, join_fault, joined_program, AreUnits}
use Rattle.alma_join.proofs.KeptLists.{by_test, no_kept, unit_at, behind_first, fewer_behind}
use Rattle.alma_join.proofs.Places.{number, Stands, joined_routine, Home, home, count_is, number_low, number_high, SameHead}
use Rattle.alma_join.proofs.Places.{checked, head}

-- ---- no fault

some_none : {A : Type 0} (x : A) → Some x ≡ None → ⊥
some_none x e = true≢false (ap is_some e)

-- neither is one
none_next : (a : Option JoinFault) (next : Unit {0} → Option JoinFault) → or_next a next ≡ None → (a ≡ None) × (next tt ≡ None)
none_next None next e = (refl, e)
none_next (Some f) next e = absurd (some_none f e)

-- the imports have none, and the sizes have none
pub no_faults : (units : List Program) → join_fault units ≡ None
    → (import_fault (kept_in 1 units) 1 units ≡ None) × (size_fault no_totals 1 units ≡ None)
no_faults units e = none_next (import_fault (kept_in 1 units) 1 units) (λ _. size_fault no_totals 1 units) e

faults_of_unit : (all : List Kept) (ps : List Program) (unit i v : ℕ) → import_fault all unit ps ≡ None → v ≡ unit + i → i < length ps
    → fault_from all v (unit_at ps i) 1 (drop 1 (unit_at ps i).routines) ≡ None
faults_of_unit all [] unit i v e at lt = absurd (omega (arith, lt))
faults_of_unit all (p ∷ ps) unit zero v e at lt =
    let same : unit ≡ v = omega (arith, at) in
    subst (λ n. fault_from all n p 1 (drop 1 p.routines) ≡ None) same
    (none_next (fault_from all unit p 1 (drop 1 p.routines)) (λ _. import_fault all (suc unit) ps) e).0
faults_of_unit all (p ∷ ps) unit (suc i) v e at lt =
    faults_of_unit all ps (suc unit) i v (none_next (fault_from all unit p 1 (drop 1 p.routines)) (λ _. import_fault all (suc unit) ps) e).1
    (omega (arith, at)) (omega (arith, lt))

fault_of_one : (all : List Kept) (unit : ℕ) (p : Program) (r : ℕ) (xs : List Routine) (j n : ℕ) → fault_from all unit p r xs ≡ None
    → n ≡ r + j → j < length xs → is_bare p n (get_or xs j no_routine) ≡ true
    → match_fault unit n (get_or xs j no_routine) (matches all 1 unit (get_or xs j no_routine).name) ≡ None
fault_of_one all unit p r [] j n e at lt bare = absurd (omega (arith, lt))
fault_of_one all unit p r (x ∷ xs) zero n e at lt bare =
    let same : n ≡ r = omega (arith, at) in
    let first = (none_next (if_true (is_bare p r x) (λ _. match_fault unit r x (matches all 1 unit x.name)) (λ _. None))
    (λ _. fault_from all unit p (suc r) xs) e).0 in
    let here : is_bare p r x ≡ true = subst (λ k. is_bare p k x ≡ true) same bare in
    subst (λ k. match_fault unit k x (matches all 1 unit x.name) ≡ None) (sym same)
    (subst (λ b. if_true b (λ _. match_fault unit r x (matches all 1 unit x.name)) (λ _. None) ≡ None) here first)
fault_of_one all unit p r (x ∷ xs) (suc j) n e at lt bare =
    fault_of_one all unit p (suc r) xs j n
    (none_next (if_true (is_bare p r x) (λ _. match_fault unit r x (matches all 1 unit x.name)) (λ _. None))
    (λ _. fault_from all unit p (suc r) xs) e).1 (omega (arith, at)) (omega (arith, lt)) bare

fault_of_import : (units : List Program) → import_fault (kept_in 1 units) 1 units ≡ None → (i c : ℕ) → i < length units → 0 < c
    → c < length (unit_at units i).routines
    → is_bare (unit_at units i) c (routine_at (unit_at units i) c) ≡ true
    → match_fault (suc i) c (routine_at (unit_at units i) c)
    (matches (kept_in 1 units) 1 (suc i) (routine_at (unit_at units i) c).name) ≡ None
fault_of_import units e i zero lt low high bare = absurd (omega (arith, low))
fault_of_import units e i (suc j) lt low high bare =
    let p : Program = unit_at units i in
    let of_unit : fault_from (kept_in 1 units) (suc i) p 1 (drop 1 p.routines) ≡ None = faults_of_unit (kept_in 1 units) units 1 i (suc i) e
    (omega arith) lt in
    subst (λ x. match_fault (suc i) (suc j) x (matches (kept_in 1 units) 1 (suc i) x.name) ≡ None) (behind_first p.routines j)
    (fault_of_one (kept_in 1 units) (suc i) p 1 (drop 1 p.routines) j (suc j) of_unit (omega arith) (fewer_behind p.routines j high)
    (subst (λ x. is_bare p (suc j) x ≡ true) (sym (behind_first p.routines j)) bare))

-- ---- matches

-- one match alone, with the same head
record OneMatch (routine : Routine) (ms : List (ℕ × Routine)) : Type 0 where
  one : ℕ × Routine
  only : ms ≡ one ∷ []
  same : same_head one.1 routine ≡ true

one_match : (unit r : ℕ) (routine : Routine) (ms : List (ℕ × Routine)) → match_fault unit r routine ms ≡ None → OneMatch routine ms
one_match unit r routine [] e = absurd (some_none (Missing unit r) e)
one_match unit r routine (m ∷ []) e = elim (cases_Bool (same_head m.1 routine)) [
  | inl same ↦ record { one = m; only = refl; same = same }
  | inr differ ↦ absurd (some_none (HeadDiffers unit r)
      (subst (λ b. if_true b (λ _. None) (λ _. Some (HeadDiffers unit r)) ≡ None) differ e))
]
one_match unit r routine (m ∷ (m2 ∷ rest)) e = absurd (some_none (Twice unit r) e)

-- what a match is among the routines that stay
record IsMatch (ks : List Kept) (at : ℕ) (m : ℕ × Routine) : Type 0 where
  place : ℕ
  few : place < length ks
  is_number : m.0 ≡ at + place
  is_routine : m.1 ≡ (get_or ks place no_kept).routine
  level : (get_or ks place no_kept).routine.level ≡ 1

each_match : (ks : List Kept) (at unit : ℕ) (name : List ℕ) → AllByRecursion (IsMatch ks at) (matches ks at unit name)
each_match [] at unit name = tt
each_match (k ∷ ks) at unit name =
    let rest : AllByRecursion (IsMatch (k ∷ ks) at) (matches ks (suc at) unit name) =
    each_follows (IsMatch ks (suc at)) (IsMatch (k ∷ ks) at)
    (λ m h. record {
      place = suc h.place;
      few = omega (arith, h.few);
      is_number = omega (arith, h.is_number);
      is_routine = h.is_routine;
      level = h.level;
    }) (matches ks (suc at) unit name)
    (each_match ks (suc at) unit name) in
    by_test (AllByRecursion (IsMatch (k ∷ ks) at)) (nat_eq k.routine.level 1 && (not (nat_eq k.unit unit) && same_name k.routine.name name))
    (λ _. (at, k.routine) ∷ matches ks (suc at) unit name) (λ _. matches ks (suc at) unit name)
    (λ t. (
      record {
        place = 0;
        few = omega arith;
        is_number = omega arith;
        is_routine = refl;
        level = eqb-true k.routine.level 1 (and_parts _ _ t).0;
      },
      rest,
    )) (λ t. rest)

-- ---- heads

-- parameters of equal kinds and cells
abbrev pub Alike : List Param → List Param → Type 0
Alike [] [] = Unit {0}
Alike [] (b ∷ y) = ⊥
Alike (a ∷ x) [] = ⊥
Alike (a ∷ x) (b ∷ y) = ((a.kind ≡ b.kind) × (a.cells ≡ b.cells)) × Alike x y

pub alike_itself : (x : List Param) → Alike x x
alike_itself [] = tt
alike_itself (a ∷ x) = ((refl, refl), alike_itself x)

kinds_same : (a b : ArgKind) → same_kind a b ≡ true → b ≡ a
kinds_same kind.Value kind.Value e = refl
kinds_same kind.Value kind.Place e = absurd (true≢false (sym e))
kinds_same kind.Value kind.Mix e = absurd (true≢false (sym e))
kinds_same kind.Value kind.Cells e = absurd (true≢false (sym e))
kinds_same kind.Place kind.Value e = absurd (true≢false (sym e))
kinds_same kind.Place kind.Place e = refl
kinds_same kind.Place kind.Mix e = absurd (true≢false (sym e))
kinds_same kind.Place kind.Cells e = absurd (true≢false (sym e))
kinds_same kind.Mix kind.Value e = absurd (true≢false (sym e))
kinds_same kind.Mix kind.Place e = absurd (true≢false (sym e))
kinds_same kind.Mix kind.Mix e = refl
kinds_same kind.Mix kind.Cells e = absurd (true≢false (sym e))
kinds_same kind.Cells kind.Value e = absurd (true≢false (sym e))
kinds_same kind.Cells kind.Place e = absurd (true≢false (sym e))
kinds_same kind.Cells kind.Mix e = absurd (true≢false (sym e))
kinds_same kind.Cells kind.Cells e = refl

params_same : (x y : List Param) → same_params x y ≡ true → Alike y x
params_same [] [] e = tt
params_same [] (b ∷ y) e = absurd (true≢false (sym e))
params_same (a ∷ x) [] e = absurd (true≢false (sym e))
params_same (a ∷ x) (b ∷ y) e =
    let first = and_parts (same_kind a.kind b.kind && (nat_eq a.cells b.cells && same_range a.range b.range)) (same_params x y) e in
    let of_kind = and_parts (same_kind a.kind b.kind) (nat_eq a.cells b.cells && same_range a.range b.range) first.0 in
    let of_cells = and_parts (nat_eq a.cells b.cells) (same_range a.range b.range) of_kind.1 in
    ((kinds_same a.kind b.kind of_kind.0, sym (eqb-true a.cells b.cells of_cells.0)), params_same x y first.1)

results_same : (a b : Option Range) → same_result a b ≡ true → is_some a ≡ is_some b
results_same None None e = refl
results_same None (Some y) e = absurd (true≢false (sym e))
results_same (Some x) None e = absurd (true≢false (sym e))
results_same (Some x) (Some y) e = refl

-- a procedure of level 1 stands in the body
level_one : (p : Program) → IsChecked p → (r : ℕ) → 0 < r → r < length p.routines → (routine_at p r).level ≡ 1 → (routine_at p r).outer ≡ 0
level_one p c r low high one =
    let n = c.nested r high in elim (eq-zero-or-pos (routine_at p r).outer) [
      | inl e ↦ e
      | inr some ↦ absurd (omega (arith, one, n.above low, (c.nested (routine_at p r).outer n.exists).above some))
    ]

-- ---- what is called

-- the head of a called routine, or of its match, in the joined program
pub record Called (units : List Program) (i c : ℕ) : Type 0 where
  pub low : 0 < number units i c
  pub high : number units i c < length (joined_program units).routines
  pub result : is_some (routine_at (joined_program units) (number units i c)).result ≡ is_some (routine_at (unit_at units i) c).result
  pub level : (routine_at (joined_program units) (number units i c)).level ≡ (routine_at (unit_at units i) c).level
  pub outer : (routine_at (joined_program units) (number units i c)).outer ≡ number units i (routine_at (unit_at units i) c).outer
  pub params : Alike (routine_at (unit_at units i) c).params (routine_at (joined_program units) (number units i c)).params

module _ (units : List Program) (are : AreUnits units) (fine : import_fault (kept_in 1 units) 1 units ≡ None) where
  -- a routine that stays
  called_here : (i c : ℕ) → Stands units i c → 0 < c → Called units i c
  called_here i c s low =
      let h : SameHead units i c = head units are i c s in record {
        low = number_low units i c s low;
        high = number_high units i c s;
        result = ap is_some h.result;
        level = h.level;
        outer = h.outer;
        params = subst (Alike (routine_at (unit_at units i) c).params) (sym h.params)
            (alike_itself (routine_at (unit_at units i) c).params);
      }

  -- the number of an import is that of its match
  number_of_import : (i c : ℕ) (one : ℕ × Routine) → 0 < c → is_bare (unit_at units i) c (routine_at (unit_at units i) c) ≡ true
      → matches (kept_in 1 units) 1 (suc i) (routine_at (unit_at units i) c).name ≡ one ∷ [] → number units i c ≡ one.0
  number_of_import i zero one low bare only = absurd (omega (arith, low))
  number_of_import i (suc c) one low bare only =
      ap (λ b. if_true b (λ _. first_match (matches (kept_in 1 units) 1 (suc i) (routine_at (unit_at units i) (suc c)).name))
      (λ _. number_of_kept (kept_in 1 units) 1 (suc i) (suc c))) bare ∙ ap first_match only

  called_import : (i c : ℕ) → i < length units → 0 < c → c < length (unit_at units i).routines
      → is_bare (unit_at units i) c (routine_at (unit_at units i) c) ≡ true → Called units i c
  called_import i c lt low high bare =
      let x : Routine = routine_at (unit_at units i) c in
      let all : List Kept = kept_in 1 units in
      let m : OneMatch x (matches all 1 (suc i) x.name) = one_match (suc i) c x (matches all 1 (suc i) x.name)
      (fault_of_import units fine i c lt low high bare) in
      let is : IsMatch all 1 m.one = (subst (AllByRecursion (IsMatch all 1)) m.only (each_match all 1 (suc i) x.name)).0 in
      let at : number units i c ≡ suc is.place = number_of_import i c m.one low bare m.only ∙ is.is_number ∙ omega arith in
      let h : Home units is.place = home units is.place is.few in
      let standing : routine_at (joined_program units) (number units i c) ≡ joined_routine units h.unit h.own =
      ap (routine_at (joined_program units)) at
      ∙ h.is_routine in
      let y : Routine = routine_at (unit_at units h.unit) h.own in
      let matched : m.one.1 ≡ y = is.is_routine ∙ h.kept in
      let same : same_head y x ≡ true = subst (λ z. same_head z x ≡ true) matched m.same in
      let parts = and_parts (same_params y.params x.params) (same_result y.result x.result) same in
      let one : y.level ≡ 1 = ap (λ z. z.level) (sym h.kept) ∙ is.level in
      let bare_one : x.level ≡ 1 = eqb-true x.level 1
      (and_parts (nat_eq x.level 1)
      (is_empty x.body && (nat_eq x.slots (sum_by param_slots x.params) && not
      (list_any (λ z. nat_eq z.outer c) (unit_at units i).routines))) bare).0 in
      let outer : y.outer ≡ 0 = level_one (unit_at units h.unit) (checked units are h.unit h.stands.exists) h.own h.low h.stands.high one in
      let bare_outer : x.outer ≡ 0 = level_one (unit_at units i) (checked units are i lt) c low high bare_one in
      record {
        low = omega (arith, at);
        high = omega (arith, at, is.few, count_is units);
        result = ap (λ z. is_some z.result) standing ∙ results_same y.result x.result parts.1;
        level = ap (λ z. z.level) standing ∙ one ∙ sym bare_one;
        outer = ap (λ z. z.outer) standing ∙ ap (number units h.unit) outer ∙ sym (ap (number units i) bare_outer);
        params = subst (λ z. Alike x.params z.params) (sym standing) (params_same y.params x.params parts.0);
      }

  pub called : (i c : ℕ) → i < length units → 0 < c → c < length (unit_at units i).routines → Called units i c
  called i c lt low high = elim (cases_Bool (is_bare (unit_at units i) c (routine_at (unit_at units i) c))) [
    | inl bare ↦ called_import i c lt low high bare
    | inr stays ↦ called_here i c (record { exists = lt; high = high; stays = λ _. stays }) low
  ]
