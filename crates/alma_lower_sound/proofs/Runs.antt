-- How many runs name the slots of a routine where each is as long as it can be, and that they differ as records are to.
use Rattle.std.proofs.Common.{◌≡◌, ℕ, zero, suc, ◌+◌, ◌-◌, ◌*◌, ◌<◌, ◌≤◌, Bool, true, false, List, [], ◌∷◌, ◌++◌, length, replicate, refl}
use Rattle.std.proofs.Common.{ap, subst, arith}
use Rattle.std.specs.Prelude.{not}
use Rattle.std.proofs.lemmas.Bool.{and_from, eq-eqb, eqb-true}
use Rattle.alma_base.specs.Choice.{if_true}
use Rattle.alma_code.specs.declared.cell.SlotKind.{SlotKind}
use Rattle.alma_code.specs.declared.cell.SlotKind.TheVariants as slot
use Rattle.alma_code.specs.declared.head.Run.{Run}
use Rattle.alma_code.specs.Layout.{RunsRise, kinds_of}
use Rattle.alma_code.specs.Records.{same_kind, runs_differ}
use Rattle.alma_ir.specs.declared.program.ArgKind.{ArgKind}
use Rattle.alma_ir.specs.declared.program.ArgKind.TheVariants as kind
use Rattle.alma_ir.specs.declared.program.Param.{Param}
use Rattle.alma_ir.specs.Tree.{Program, Routine, routine_at}
use Rattle.alma_ir.specs.Lines.{body_with_lines}
use Rattle.alma_lower_templates.specs.Runs.{NamesKinds, RunsDiffer}
use Rattle.alma_lower_templates.specs.Slots.{link_kinds, param_kinds, params_kinds, routine_kinds, stmts_slots}

-- ---- kinds

pub kind_is : (a b : SlotKind) → same_kind a b ≡ true → a ≡ b
kind_is slot.Number slot.Number e = refl
kind_is (slot.Place m) (slot.Place n) e = ap slot.Place (eqb-true m n e)
kind_is slot.Mark slot.Mark e = refl
kind_is (slot.Link m) (slot.Link n) e = ap slot.Link (eqb-true m n e)
kind_is a b e = absurd (let bad : false ≡ true = e in cc)

pub kind_itself : (k : SlotKind) → same_kind k k ≡ true
kind_itself slot.Number = refl
kind_itself (slot.Place n) = eq-eqb n n refl
kind_itself slot.Mark = refl
kind_itself (slot.Link q) = eq-eqb q q refl

kinds_differ : (a b : SlotKind) → (a ≡ b → ⊥) → same_kind a b ≡ false
kinds_differ a b h = by (same_kind a b) refl
  where
    by : (t : Bool) → same_kind a b ≡ t → t ≡ false
    by false e = refl
    by true e = absurd (h (kind_is a b e))

pub differ_is : (runs : List Run) → RunsDiffer runs → runs_differ runs ≡ true
differ_is [] h = refl
differ_is (a ∷ []) h = refl
differ_is (a ∷ (b ∷ rest)) h = and_from (not (same_kind a.kind b.kind)) (runs_differ (b ∷ rest)) (ap not (kinds_differ a.kind b.kind h.0))
    (differ_is (b ∷ rest) h.1)

-- ---- stretches of slots of one kind

unfoldable step : (a b : SlotKind) → ℕ
step a b = if_true (same_kind a b) (λ _. 0) (λ _. 1)

step_few : (a b : SlotKind) → step a b ≤ 1
unfolding step
step_few a b = by (same_kind a b)
  where
    by : (t : Bool) → if_true t (λ _. 0) (λ _. 1) ≤ 1
    by true = omega arith
    by false = omega arith

step_none : (a : SlotKind) → step a a ≡ 0
unfolding step
step_none a = ap (λ t. if_true t (λ _. 0) (λ _. 1)) (kind_itself a)

step_one : (a b : SlotKind) → (a ≡ b → ⊥) → step a b ≡ 1
unfolding step
step_one a b h = ap (λ t. if_true t (λ _. 0) (λ _. 1)) (kinds_differ a b h)

abbrev stretches : List SlotKind → ℕ
stretches [] = 0
stretches (a ∷ []) = 1
stretches (a ∷ (b ∷ rest)) = step a b + stretches (b ∷ rest)

-- no more than there are slots
few_stretches : (ks : List SlotKind) → stretches ks ≤ length ks
few_stretches [] = omega arith
few_stretches (a ∷ []) = omega arith
few_stretches (a ∷ (b ∷ rest)) = omega (arith, step_few a b, few_stretches (b ∷ rest))

stretches_two : (a b : List SlotKind) → stretches (a ++ b) ≤ stretches a + stretches b
stretches_two [] b = omega arith
stretches_two (x ∷ []) [] = omega arith
stretches_two (x ∷ []) (y ∷ b) = omega (arith, step_few x y)
stretches_two (x ∷ (y ∷ a)) b = omega (arith, stretches_two (y ∷ a) b)

same_stretch : (n : ℕ) (k : SlotKind) → stretches (replicate n k) ≤ 1
same_stretch zero k = omega arith
same_stretch (suc zero) k = omega arith
same_stretch (suc (suc n)) k = omega (arith, step_none k, same_stretch (suc n) k)

-- slots of one kind, and behind them one of another
new_stretch : (n : ℕ) (k other : SlotKind) (rest : List SlotKind) → 0 < n → (k ≡ other → ⊥)
    → 1 + stretches (other ∷ rest) ≤ stretches (replicate n k ++ (other ∷ rest))
new_stretch zero k other rest lt h = absurd (omega (arith, lt))
new_stretch (suc zero) k other rest lt h = omega (arith, step_one k other h)
new_stretch (suc (suc n)) k other rest lt h = omega (arith, step_none k, new_stretch (suc n) k other rest (omega arith) h)

some_stretch : (n : ℕ) (k : SlotKind) (rest : List SlotKind) → 0 < n → 1 ≤ stretches (replicate n k ++ rest)
some_stretch zero k rest lt = absurd (omega (arith, lt))
some_stretch (suc zero) k [] lt = omega arith
some_stretch (suc zero) k (x ∷ rest) lt = at_least k x rest
  where
    at_least : (a b : SlotKind) (xs : List SlotKind) → 1 ≤ stretches (a ∷ (b ∷ xs))
    at_least a b [] = omega arith
    at_least a b (c ∷ xs) = omega (arith, at_least b c xs)
some_stretch (suc (suc n)) k rest lt = omega (arith, some_stretch (suc n) k rest (omega arith))

-- each run is a stretch
runs_few : (low top : ℕ) (runs : List Run) → RunsRise low runs top → RunsDiffer runs → length runs ≤ stretches (kinds_of low runs)
runs_few low top [] rise differ = omega arith
runs_few low top (a ∷ []) rise differ = some_stretch (a.end - low) a.kind [] (omega (arith, rise.0))
runs_few low top (a ∷ (b ∷ rest)) rise differ =
    let later = runs_few a.end top (b ∷ rest) rise.1 differ.1 in
    by (b.end - a.end) (kinds_of b.end rest) (omega (arith, rise.1.0)) later
  where
    by : (n : ℕ) (more : List SlotKind) → 0 < n → length (b ∷ rest) ≤ stretches (replicate n b.kind ++ more)
        → length (a ∷ (b ∷ rest)) ≤ stretches (replicate (a.end - low) a.kind ++ (replicate n b.kind ++ more))
    by zero more lt le = absurd (omega (arith, lt))
    by (suc n) more lt le = omega (
      arith,
      le,
      new_stretch (a.end - low) a.kind b.kind (replicate n b.kind ++ more) (omega (arith, rise.0)) differ.0,
    )

-- ---- the slots of a routine

link_stretches : (level outer : ℕ) → stretches (link_kinds level outer) ≤ 1
link_stretches zero outer = omega arith
link_stretches (suc zero) outer = omega arith
link_stretches (suc (suc above)) outer = omega arith

param_stretches : (k : ArgKind) (n : ℕ) → stretches (param_kinds k n) ≤ 2
param_stretches kind.Value n = omega arith
param_stretches kind.Place n = omega arith
param_stretches kind.Mix n = omega (arith, step_few (slot.Place 1) slot.Number)
param_stretches kind.Cells n = omega (arith, same_stretch n slot.Number)

params_stretches : (qs : List Param) → stretches (params_kinds qs) ≤ 2 * length qs
params_stretches [] = omega arith
params_stretches (q ∷ qs) = omega (
  arith,
  stretches_two (param_kinds q.kind q.cells) (params_kinds qs),
  param_stretches q.kind q.cells,
  params_stretches qs,
)

pub routine_runs : (p : Program) (r : ℕ) (runs : List Run) → NamesKinds runs (routine_kinds p r)
    → length runs ≤ 2 + 2 * length (routine_at p r).params + length (stmts_slots p r (body_with_lines (routine_at p r)))
routine_runs p r runs h =
    let own : Routine = routine_at p r in
    let link = link_kinds own.level own.outer in
    let params = params_kinds own.params in
    let others = replicate (own.slots - length params) slot.Number in
    let rest = stmts_slots p r (body_with_lines own) in
    let all : length runs ≤ stretches (routine_kinds p r) =
    subst (λ ks. length runs ≤ stretches ks) h.names (runs_few 0 (length (routine_kinds p r)) runs h.ends h.longest) in
    omega (
      arith,
      all,
      stretches_two (link ++ (params ++ others)) rest,
      stretches_two link (params ++ others),
      stretches_two params others,
      link_stretches own.level own.outer,
      params_stretches own.params,
      same_stretch (own.slots - length params) slot.Number,
      few_stretches rest,
    )
