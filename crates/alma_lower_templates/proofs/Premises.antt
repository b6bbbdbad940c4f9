-- What the kinds of a routine's slots say of its variables and parameters.
use Rattle.std.proofs.Common.{◌≡◌, ◌⊎◌, inl, inr, ℕ, zero, suc, ◌+◌, ◌-◌, ◌<◌, ◌≤◌, List, [], ◌∷◌, ◌++◌, length, get_or, replicate, Some}
use Rattle.std.proofs.Common.{refl, sym, ap, ◌∙◌, subst, arith}
use Rattle.std.specs.Prelude.{slice_get, sum_by}
use Rattle.std.specs.List.{AllByRecursion}
use Rattle.std.proofs.lemmas.Bool.{cases_lt}
use Rattle.std.proofs.lemmas.List.{length-append, length-replicate}
use Rattle.std.proofs.lemmas.List.Sums.{sum_by-cons}
use Rattle.alma_code.specs.declared.cell.SlotKind.{SlotKind}
use Rattle.alma_code.specs.declared.cell.SlotKind.TheVariants as slot
use Rattle.alma_code.specs.declared.head.Run.{Run}
use Rattle.alma_code.specs.Layout.{kinds_of}
use Rattle.alma_code.specs.Plain.{PlainCode, kinds_at}
use Rattle.alma_ir.specs.declared.program.ArgKind.{ArgKind}
use Rattle.alma_ir.specs.declared.program.ArgKind.TheVariants as kind
use Rattle.alma_ir.specs.declared.program.Param.{Param}
use Rattle.alma_ir.specs.Tree.{Program, Routine, routine_at}
use Rattle.alma_ir.specs.Lines.{body_with_lines}
use Rattle.alma_ir.specs.Checked.{IsChecked, AreLaidOut, HasOneCellAs, HoldsPlace, HoldPlace, AreNumbers, IsOutside, LeavesPosition}
use Rattle.alma_ir.specs.Checked.{slots_of_kind, param_slots, link_slots}
use Rattle.alma_lower_implements.proofs.Frames.{shift, HasSlots}
use Rattle.alma_lower_implements.proofs.ExprRows.{AreVariables}
use Rattle.alma_lower_templates.specs.Tables.{Tables}
use Rattle.alma_lower_templates.specs.Slots.{routine_kinds, own_kinds, link_kinds, param_kinds, params_kinds, stmts_slots}
use Rattle.alma_lower_templates.specs.Compiled.{program_code}
use Rattle.alma_lower_templates.proofs.Returning.{own_long}
use Rattle.alma_lower_templates.proofs.RootForms.{IsParam}
use Rattle.alma_lower_templates.proofs.Whole.{routine_compiled}

-- ---- look-ups in lists one behind another

get_behind : {X : Type 0} (xs ys : List X) (n j : ℕ) → length xs ≡ n → slice_get (xs ++ ys) (n + j) ≡ slice_get ys j
get_behind [] ys n j e = let same : n + j ≡ j = omega (arith, e) in ap (slice_get ys) same
get_behind (x ∷ xs) ys n j e =
    let same : n + j ≡ suc (length xs + j) = omega (arith, e) in
    ap (slice_get (x ∷ (xs ++ ys))) same ∙ get_behind xs ys (length xs) j refl

get_front : {X : Type 0} (xs ys : List X) (j : ℕ) → j < length xs → slice_get (xs ++ ys) j ≡ slice_get xs j
get_front [] ys j lt = absurd (omega (arith, lt))
get_front (x ∷ xs) ys zero lt = refl
get_front (x ∷ xs) ys (suc j) lt = get_front xs ys j (omega (arith, lt))

get_same : {X : Type 0} (x : X) (n j : ℕ) → j < n → slice_get (replicate n x) j ≡ Some x
get_same x zero j lt = absurd (omega (arith, lt))
get_same x (suc n) zero lt = refl
get_same x (suc n) (suc j) lt = get_same x n j (omega (arith, lt))

-- ---- the slots of parameters

param_long : (k : ArgKind) (n : ℕ) → length (param_kinds k n) ≡ slots_of_kind k n
param_long kind.Value n = refl
param_long kind.Place n = refl
param_long kind.Mix n = refl
param_long kind.Cells n = length-replicate n slot.Number

params_long : (qs : List Param) → length (params_kinds qs) ≡ sum_by param_slots qs
params_long [] = refl
params_long (q ∷ qs) = omega (
  arith,
  length-append (param_kinds q.kind q.cells) (params_kinds qs),
  param_long q.kind q.cells,
  params_long qs,
  sum_by-cons param_slots q qs,
)

-- slot j, the i-th of those of a parameter that begins at s, is for a number where it is not one for a place
one_number : (k : ArgKind) (n s i j from count : ℕ) → (HoldsPlace k → IsOutside from count s) → j ≡ s + i → from ≤ j → j < from + count
    → i < slots_of_kind k n → slice_get (param_kinds k n) i ≡ Some slot.Number
one_number kind.Value n s zero j from count out e low high lt = refl
one_number kind.Value n s (suc i) j from count out e low high lt = absurd (omega (arith, lt))
one_number kind.Place n s zero j from count out e low high lt = absurd (elim (out tt) [
  | inl early ↦ omega (arith, early, e, low)
  | inr late ↦ omega (arith, late, e, high)
])
one_number kind.Place n s (suc i) j from count out e low high lt = absurd (omega (arith, lt))
one_number kind.Mix n s zero j from count out e low high lt = absurd (elim (out tt) [
  | inl early ↦ omega (arith, early, e, low)
  | inr late ↦ omega (arith, late, e, high)
])
one_number kind.Mix n s (suc zero) j from count out e low high lt = refl
one_number kind.Mix n s (suc (suc i)) j from count out e low high lt = absurd (omega (arith, lt))
one_number kind.Cells n s i j from count out e low high lt = get_same slot.Number n i lt

number_in : (qs : List Param) (s i j from count : ℕ) → AreLaidOut s qs
    → AllByRecursion (λ q. HoldsPlace q.kind → IsOutside from count q.slot) qs → j ≡ s + i → from ≤ j → j < from + count
    → i < length (params_kinds qs) → slice_get (params_kinds qs) i ≡ Some slot.Number
number_in [] s i j from count laid out e low high lt = absurd (omega (arith, lt))
number_in (q ∷ qs) s i j from count laid out e low high lt = elim (cases_lt i (slots_of_kind q.kind q.cells)) [
  | inl inside ↦
      get_front (param_kinds q.kind q.cells) (params_kinds qs) i (omega (arith, inside, param_long q.kind q.cells))
      ∙ one_number q.kind q.cells s i j from count (λ holds. subst (IsOutside from count) laid.0 (out.0 holds)) e low high inside
  | inr past ↦
      let n : ℕ = slots_of_kind q.kind q.cells in
      let back : n + (i - n) ≡ i = omega (arith, past) in
      let long : length (params_kinds (q ∷ qs)) ≡ length (param_kinds q.kind q.cells) + length (params_kinds qs) =
      length-append (param_kinds q.kind q.cells) (params_kinds qs) in
      ap (slice_get (param_kinds q.kind q.cells ++ params_kinds qs)) (sym back)
      ∙ get_behind (param_kinds q.kind q.cells) (params_kinds qs) n (i - n) (param_long q.kind q.cells)
      ∙ number_in qs (s + n) (i - n) j from count laid.1 out.1 (omega (arith, e, past)) low high
      (omega (arith, lt, long, past, param_long q.kind q.cells))
]

-- a parameter's slot for a place
one_place : (k : ArgKind) (n cells : ℕ) → HoldsPlace k → HasOneCellAs k n → n ≡ cells
    → slice_get (param_kinds k n) 0 ≡ Some (slot.Place cells)
one_place kind.Place n cells holds one e = ap (λ m. Some (slot.Place m)) e
one_place kind.Mix n cells holds one e = ap (λ m. Some (slot.Place m)) (sym one ∙ e)
one_place kind.Value n cells holds one e = absurd holds
one_place kind.Cells n cells holds one e = absurd holds

some_slot : (k : ArgKind) (n : ℕ) → HoldsPlace k → 0 < slots_of_kind k n
some_slot kind.Place n h = omega arith
some_slot kind.Mix n h = omega arith
some_slot kind.Value n h = absurd h
some_slot kind.Cells n h = absurd h

place_in : (qs : List Param) (s place cells : ℕ) → AreLaidOut s qs → AllByRecursion (λ q. HasOneCellAs q.kind q.cells) qs
    → HoldPlace qs place cells
    → (i : ℕ) × (place ≡ s + i) × (i < length (params_kinds qs)) × (slice_get (params_kinds qs) i ≡ Some (slot.Place cells))
place_in [] s place cells laid one h = absurd h
place_in (q ∷ qs) s place cells laid one (inl here) =
    let some = some_slot q.kind q.cells here.0 in
    let long : length (params_kinds (q ∷ qs)) ≡ length (param_kinds q.kind q.cells) + length (params_kinds qs) =
    length-append (param_kinds q.kind q.cells) (params_kinds qs) in (
      0,
      omega (arith, laid.0, here.1),
      omega (arith, long, some, param_long q.kind q.cells),
      get_front (param_kinds q.kind q.cells) (params_kinds qs) 0 (omega (arith, some, param_long q.kind q.cells))
          ∙ one_place q.kind q.cells cells here.0 one.0 here.2,
    )
place_in (q ∷ qs) s place cells laid one (inr rest) =
    let n : ℕ = slots_of_kind q.kind q.cells in
    let z = place_in qs (s + n) place cells laid.1 one.1 rest in
    let long : length (params_kinds (q ∷ qs)) ≡ length (param_kinds q.kind q.cells) + length (params_kinds qs) =
    length-append (param_kinds q.kind q.cells) (params_kinds qs) in (
      n + z.0,
      omega (arith, z.1),
      omega (arith, z.2, long, param_long q.kind q.cells),
      get_behind (param_kinds q.kind q.cells) (params_kinds qs) n z.0 (param_long q.kind q.cells) ∙ z.3,
    )

link_long : (level outer : ℕ) → length (link_kinds level outer) ≡ link_slots level
link_long zero outer = refl
link_long (suc zero) outer = refl
link_long (suc (suc above)) outer = refl

module _ (p : Program) (tables : Tables) (code : PlainCode) (all : List (List Run)) (is : code ≡ program_code p tables all)
    (count : length all ≡ length p.routines) (names : (r : ℕ) → r < length p.routines → kinds_of 0 (get_or all r []) ≡ routine_kinds p r)
    (checked : IsChecked p) (input : List ℕ) where
  pub kinds_are : (r : ℕ) → r < length p.routines → kinds_at code r ≡ routine_kinds p r
  kinds_are r lt = (routine_compiled p tables code all is count names r lt).kinds

  abbrev own : ℕ → Routine
  own r = routine_at p r

  -- a slot of the routine, behind its link
  slot_is : (r j : ℕ) → r < length p.routines → j < (own r).slots
      → slice_get (kinds_at code r) (shift p r + j) ≡ slice_get
      (params_kinds (own r).params ++ replicate ((own r).slots - length (params_kinds (own r).params)) slot.Number) j
  slot_is r j lt small =
      let rest : List SlotKind = params_kinds (own r).params
      ++ replicate ((own r).slots - length (params_kinds (own r).params)) slot.Number in
      ap (λ ks. slice_get ks (shift p r + j)) (kinds_are r lt)
      ∙ get_front (own_kinds (own r)) (stmts_slots p r (body_with_lines (own r))) (shift p r + j)
      (omega (arith, small, own_long p tables code input r (checked.params r lt)))
      ∙ get_behind (link_kinds (own r).level (own r).outer) rest (shift p r) j (link_long (own r).level (own r).outer)

  pub variables_are : (r from cells : ℕ) → r < length p.routines → AreNumbers (own r) from cells → LeavesPosition r from
      → AreVariables p code input r from cells
  variables_are r from cells lt h free = record {
    exist = h.exist;
    numbers = λ k small. slot_is r (from + k) lt (omega (arith, h.exist, small))
        ∙ by k small (cases_lt (from + k) (length (params_kinds (own r).params)));
    free = free;
  }
    where
      by : (k : ℕ) → k < cells → ((from + k) < length (params_kinds (own r).params)) ⊎ (length (params_kinds (own r).params) ≤ (from + k))
          → slice_get (params_kinds (own r).params ++ replicate ((own r).slots - length (params_kinds (own r).params)) slot.Number)
          (from + k) ≡ Some slot.Number
      by k small (inl inside) =
          get_front (params_kinds (own r).params) (replicate ((own r).slots - length (params_kinds (own r).params)) slot.Number) (from + k)
          inside
          ∙ number_in (own r).params 0 (from + k) (from + k) from cells (checked.params r lt).laid_out h.kinds (omega arith) (omega arith)
          (omega (arith, small)) inside
      by k small (inr past) =
          let n : ℕ = length (params_kinds (own r).params) in
          let back : n + (from + k - n) ≡ from + k = omega (arith, past) in
          ap (slice_get (params_kinds (own r).params ++ replicate ((own r).slots - n) slot.Number)) (sym back)
          ∙ get_behind (params_kinds (own r).params) (replicate ((own r).slots - n) slot.Number) n (from + k - n) refl
          ∙ get_same slot.Number ((own r).slots - n) (from + k - n) (omega (arith, h.exist, small, past))

  pub params_are : (r from cells : ℕ) → r < length p.routines → HoldPlace (own r).params from cells → IsParam p code input r from cells
  params_are r from cells lt h =
      let first = checked.params r lt in
      let z = place_in (own r).params 0 from cells first.laid_out first.cells h in
      let small : from < (own r).slots = omega (arith, z.1, z.2, params_long (own r).params, first.fit) in
      let same : from ≡ z.0 = omega (arith, z.1) in
      record {
        exists = small;
        kind = slot_is r from lt small ∙ get_front (params_kinds (own r).params)
            (replicate ((own r).slots - length (params_kinds (own r).params)) slot.Number) from (omega (arith, same, z.2))
            ∙ ap (slice_get (params_kinds (own r).params)) same ∙ z.3;
      }

  -- the slots of the phrases of a routine stand behind its own
  pub body_slots : (r : ℕ) → r < length p.routines
      → HasSlots p code r (length (own_kinds (own r))) (stmts_slots p r (body_with_lines (own r)))
  body_slots r lt = record {
    each = λ i small. ap (λ ks. slice_get ks (length (own_kinds (own r)) + i)) (kinds_are r lt)
        ∙ get_behind (own_kinds (own r)) (stmts_slots p r (body_with_lines (own r))) (length (own_kinds (own r))) i refl;
    behind = omega (arith, own_long p tables code input r (checked.params r lt));
  }

  -- the body of the module has no link, and its first slot is for a number
  pub flat_body : shift p 0 ≡ 0
  flat_body = ap link_slots ((checked.nested 0 checked.body.0).body refl).0

  pub position_kind : slice_get (kinds_at code 0) 0 ≡ Some slot.Number
  position_kind =
      let zero_on : shift p 0 + 0 ≡ 0 = omega (arith, flat_body) in
      ap (slice_get (kinds_at code 0)) (sym zero_on) ∙ slot_is 0 0 checked.body.0 checked.body.1
      ∙ subst (λ qs. slice_get (params_kinds qs ++ replicate ((own 0).slots - length (params_kinds qs)) slot.Number) 0 ≡ Some slot.Number)
      (sym checked.body_takes_nothing.0) (get_same slot.Number ((own 0).slots - 0) 0 (omega (arith, checked.body.1)))
